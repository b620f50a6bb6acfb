-- What is said of the values that reading, listing and asking return is what is said of the texts. Assumes nothing.
use mathlib.Core.Path.{◌≡◌, refl, sym, ap, ap₂, ◌∙◌}
use mathlib.Core.Bool.{Bool, cond}
use mathlib.Core.List.{List, [], ◌∷◌}
use Prim.Native.Nat.{ℕ}
use lib.ListN.{length}
use Rattle.text_grammar.specs.Told.{Told, by_room}
use Rattle.text_grammar.specs.Read.{OutcomeOf, refused, accepted}
use Rattle.text_grammar.specs.rules.Read.{OurRule, read_rule}
use Rattle.text_read.specs.declared.RuleRead.{RuleRead}
use Rattle.text_refusals.specs.verdicts.Verdicts.{Verdict}
use Rattle.text_refusals.specs.verdicts.Verdicts.{verdict_of}
use Rattle.text_read.specs.Answers.{rule_read, left_said}
use Rattle.text_refusals.proofs.verdicts.Verdicts.{number_is}
use Rattle.overlap_spec.specs.Overlaps.{lines_of, overlap_text}
use Rattle.std.specs.Prelude.{Ok, Err}
use Rattle.overlap_list.specs.declared.TextsListed.{TextsListed}
use Rattle.overlap_list.specs.Answers.{Listed, told, TextsList}
use Rattle.overlap_list.specs.declared.shared.TextsOverlap.{TextsOverlap}
use Rattle.overlap_list.specs.shared.Answers.{TextsMeet}
use Rattle.yopobrush.specs.declared.Reading.{Reading}
use Rattle.yopobrush.specs.declared.Listing.{Listing}
use Rattle.yopobrush.specs.declared.Overlapping.{Overlapping}
use Rattle.yopobrush.specs.Answers.{reading_of, listing_of, LibraryOverlaps}
use Rattle.yopobrush.specs.Values.{reading_by, whole, listing_by, overlapping_by}

pub verdict_said : {X : Type 0} (o : OutcomeOf X) → reading_by (verdict_of o) ≡ reading_of o
verdict_said (refused r p) = ap (λ (n : ℕ). record { refusal = n; place = p }) (number_is r)
verdict_said (accepted x) = refl

reading_said : (o : OutcomeOf OurRule) → reading_by (rule_read o).verdict ≡ reading_of o
reading_said (refused r p) = verdict_said {X = OurRule} (refused r p)
reading_said (accepted x) = refl

pub text_said_lem : (t : List ℕ) (l : RuleRead) (a : Reading) → l ≡ rule_read (read_rule t) → a ≡ reading_by l.verdict → a ≡ reading_of (read_rule t)
text_said_lem t l a is-l is-a = is-a ∙ ap (λ (v : RuleRead). reading_by v.verdict) is-l ∙ reading_said (read_rule t)

-- how a text is read, from the verdict alone
pub read_said : (t : List ℕ) {v : Verdict} {a : Reading} → v ≡ verdict_of (read_rule t) → a ≡ reading_by v → a ≡ reading_of (read_rule t)
read_said t is is-a = is-a ∙ ap reading_by is ∙ verdict_said (read_rule t)

-- the answer that tells so many bytes needed, of so many lent, with the two counts
module _ (l r : Reading) (needed lent n b : ℕ) where
  abbrev counted : Told
  counted = by_room needed lent (n ∷ b ∷ [])

  told_whole : (x : Listed) (m c : ℕ) → told x ≡ counted → (told x).values ≡ m ∷ c ∷ [] → whole l r (told x) m c ≡ whole l r counted n b
  told_whole x m c h k =
      let values : m ∷ c ∷ [] ≡ n ∷ b ∷ [] = sym k ∙ ap (λ (a : Told). a.values) h in
      let is_n : m ≡ n = cc in
      let is_b : c ≡ b = cc in
      ap₂ (whole l r (told x)) is_n is_b ∙ ap (λ (a : Told). whole l r a n b) h

  listed_said : (x : Listed) → told x ≡ counted → listing_by l r x ≡ whole l r counted n b
  listed_said (Ok c) h = told_whole (Ok c) c.entries c.bytes h refl
  listed_said (Err s) h = told_whole (Err s) s.counts.entries s.counts.bytes h refl

-- how each text is read, and the list of what they say
pub texts_said : (t u : List ℕ) {old : List ℕ} {said : TextsListed} {new : List ℕ} (a b : Reading) (answer : Listing)
    → TextsList t u old said new
    → a ≡ reading_by said.left
    → b ≡ reading_by said.right
    → answer ≡ listing_by a b said.listed
    → answer ≡ listing_of (read_rule t) (read_rule u) (length old)
texts_said t u {old} {said} a b answer is is-a is_b is_answer =
    let l = read_said t is.left is-a in
    let r = read_said u is.right is_b in
    let x = left_said (read_rule t) in
    let y = left_said (read_rule u) in
    let n = length (overlap_text x y) in
    is_answer
    ∙ ap₂ (λ (x y : Reading). listing_by x y said.listed) l r
    ∙ listed_said (reading_of (read_rule t)) (reading_of (read_rule u)) n (length old) (length (lines_of x y)) n said.listed is.listed.answer

-- how each text is read, and whether what they say overlaps
pub texts_meet : (t u : List ℕ) {said : TextsOverlap} (a b : Reading) (answer : Overlapping)
    → TextsMeet t u said
    → a ≡ reading_by said.left
    → b ≡ reading_by said.right
    → answer ≡ overlapping_by a b said.overlap
    → LibraryOverlaps t u answer
texts_meet t u a b answer is is-a is_b is_answer =
    record {
      left = ap (λ (r : Overlapping). r.left) is_answer ∙ read_said t is.left is-a;
      right = ap (λ (r : Overlapping). r.right) is_answer ∙ read_said u is.right is_b;
      overlap = ap (λ (r : Overlapping). r.overlap) is_answer ∙ ap (λ (o : Bool). cond o 1 0) is.overlap;
    }
