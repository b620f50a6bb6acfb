-- What the texts of two rules say, in the tables of a pair; and two rule values by their plain texts. Assumes nothing.
use Rattle.std.specs.Prelude.{Result, Ok}
use mathlib.Core.Path.{◌≡◌, refl, sym, ap, ap₂, ◌∙◌, subst, subst₂}
use mathlib.Core.Logic.{◌≢◌, ◌⊎◌, inl, inr}
use mathlib.Core.Bool.{Bool, true, false, cond}
use mathlib.Core.List.{List, [], map}
use Prim.Native.Nat.{ℕ, zero, suc, ◌≤◌}
use native.Mathlib.Omega.{arith}
use native.Mathlib.Decide.{dec_lt, ℕ_discrete}
use lib.ListN.{length, take, replicate}
use borrow.Author.Tests.{le-leb}
use Rattle.base_limits.specs.Limits.{longest_side}
use Rattle.base_lists.specs.Seqs.{is_cons, cons_is, cons_mapped}
use Rattle.text_grammar.specs.Terms.{OurFields}
use Rattle.text_grammar.specs.Plain.{plain}
use Rattle.text_grammar.specs.Read.{read_side, accepted}
use Rattle.text_grammar.proofs.Accepted.{rule_plain, rule_read_lem}
use Rattle.text_grammar.specs.rules.Read.{read_rule}
use Rattle.text_grammar.proofs.rules.Before.{one_sided}
use Rattle.overlap_spec.specs.Lines.{line_text}
use Rattle.overlap_spec.specs.Overlaps.{lines_of}
use Rattle.overlap_spec.proofs.Exact.{no_right}
use Rattle.text_values.specs.Values.{RuleSide}
use Rattle.text_values.specs.declared.Rule.{Rule}
use Rattle.text_values.specs.Values.{view_side}
use Rattle.text_accepted.specs.Accepted.{accepted_left, counted_left}
use Rattle.text_accepted.proofs.Accepted.{accepted_rule_lem}
use Rattle.text_accepted.specs.rules.Rules.{counted_rule, left_value}
use Rattle.text_accepted.proofs.rules.Rules.{left_counted}
use Rattle.std.specs.Prelude.{Ok, Err}
use Rattle.text_refusals.specs.verdicts.Verdicts.{Verdict, Accepted, Refused}
use Rattle.pair_table.specs.Notes.{blank_rows}
use Rattle.text_passes.specs.Fields.{field_count}
use Rattle.text_passes.specs.Notes.{noted_in}
use Rattle.text_passes.proofs.Fields.{side_fields_lem}
use Rattle.text_read.specs.declared.LeftJudged.{LeftJudged}
use Rattle.text_read.specs.Answers.{left_said, left_end, JudgesLeft}
use Rattle.text_read.proofs.Judged.{judged_accepted, judged_refused}
use Rattle.text_write.specs.Answers.{after, Writes}
use Rattle.text_write.proofs.pieces.Pieces.{written_long, written_count, written_front}
use Rattle.text_plain.proofs.Lengths.{plain_short}
use Rattle.overlap_counts.specs.declared.Counts.{Counts}
use Rattle.std.specs.Prelude.{Some, None, Ok}
use Rattle.overlap_counts.specs.Answers.{Committed}
use Rattle.overlap_list.specs.declared.TextsListed.{TextsListed}
use Rattle.overlap_list.specs.declared.TextsNoted.{TextsNoted}
use Rattle.overlap_list.specs.declared.asking.TextsAsked.{TextsAsked}
use Rattle.overlap_list.specs.declared.asking.TextsCommitted.{TextsCommitted}
use Rattle.overlap_counts.specs.Answers.{no_counts}
use Rattle.overlap_list.specs.Listing.{Pairing, pairing_of, pair_lines, tallied, Listable}
use Rattle.overlap_list.specs.Answers.{Listed, Lists, ListsLines, NotesTexts, TextsList, left_plain}
use Rattle.overlap_list.specs.shared.Choices.{any_of}
use Rattle.overlap_list.specs.shared.Answers.{TextsMeet}
use Rattle.overlap_list.specs.asking.Answers.{counts_of, Commits, TextsAsk, TextsCommit, CommitsLines}
use Rattle.overlap_list.proofs.Lists.{lines_none}
use Rattle.overlap_list.proofs.Rules.{lines_list, lines_counted, lines_commit, pairing_none, pairing_other, pairing_same, same_noted}
use Rattle.overlap_list.proofs.shared.Choices.{any_pair}

-- ---- the tables of what two texts say

-- the text of a left side is accepted as what the whole text says; or there is none of it, and the whole text says the rule with no fields
abbrev Side : List ℕ → LeftJudged → Type 0
Side t l =
    ((x : OurFields) × (read_side (take l.end t) ≡ accepted x) × (left_said (read_rule t) ≡ x))
    ⊎ ((field_count (take l.end t) ≡ 0) × (left_said (read_rule t) ≡ []))

side_of_lem : (t : List ℕ) (l : LeftJudged) → JudgesLeft t l → Side t l
side_of_lem t l is = go l.verdict refl
  where
    go : (v : Verdict) → l.verdict ≡ v → Side t l
    go (Ok u) e = let a = judged_accepted t l is e in inl (a.0.0, a.2, ap left_said a.1)
    go (Err x) e =
        let z : l.end ≡ 0 = is.ends ∙ ap (λ (v : Verdict). left_end v t) e in
        inr (ap (λ (k : ℕ). field_count (take k t)) z, ap left_said (judged_refused t l is x.reason x.place e).1)

-- no rule has an entry with one that has no fields
none_right : (n : ℕ) → pairing_of n 0 ≡ None
none_right zero = refl
none_right (suc n) = pairing_other (suc n) 0 (λ e. absurd (omega (arith, e)))

module _ (t u : List ℕ) (l r : LeftJudged) (is-l : JudgesLeft t l) (is-r : JudgesLeft u r) (n m : ℕ)
    (is_n : n ≡ field_count (take l.end t)) (is_m : m ≡ field_count (take r.end u))
    {row₀ texts₀ row₁ texts₁ row₂ texts₂ : List ℕ} (is-row₀ : row₀ ≡ blank_rows.0) (is-texts₀ : texts₀ ≡ blank_rows.1)
    (is-row₁ : row₁ ≡ (noted_in false (take l.end t) row₀ texts₀).0) (is-texts₁ : texts₁ ≡ (noted_in false (take l.end t) row₀ texts₀).1)
    (is-row₂ : row₂ ≡ (noted_in true (take r.end u) row₁ texts₁).0) (is-texts₂ : texts₂ ≡ (noted_in true (take r.end u) row₁ texts₁).1)
    (p : Pairing) (is_p : p ≡ pairing_of n m) where
  abbrev X : OurFields
  X = left_said (read_rule t)

  abbrev Y : OurFields
  Y = left_said (read_rule u)

  abbrev Noted : Type 0
  Noted = NotesTexts t u (record { left = l.verdict; right = r.verdict; pair = p }) row₂ texts₂

  noted : (q : Pairing) → pairing_of n m ≡ q → Listable q row₂ texts₂ → pair_lines q row₂ texts₂ ≡ map line_text (lines_of X Y) → Noted
  noted q e can are =
      record {
        left = is-l.verdict;
        right = is-r.verdict;
        listable = subst (λ (z : Pairing). Listable z row₂ texts₂) (sym (is_p ∙ e)) can;
        lines = ap (λ (z : Pairing). pair_lines z row₂ texts₂) (is_p ∙ e) ∙ are;
      }

  apart : pairing_of n m ≡ None → lines_of X Y ≡ [] → Noted
  apart e none = noted None e (record { few = tt; can = (omega arith, omega arith); short = omega arith }) (sym (ap (map line_text) none))

  both : (x y : OurFields) → read_side (take l.end t) ≡ accepted x → X ≡ x → read_side (take r.end u) ≡ accepted y → Y ≡ y → Noted
  both x y reads-x e reads_y f = go (ℕ_discrete n m)
    where
      left_count : n ≡ length x
      left_count = is_n ∙ (side_fields_lem (take l.end t) x reads-x).0

      right_count : m ≡ length y
      right_count = is_m ∙ (side_fields_lem (take r.end u) y reads_y).0

      some : n ≢ 0
      some q = let h = (cons_is x).1 (rule_read_lem (take l.end t) x reads-x).0.0 in absurd (omega (arith, left_count, q))

      go : Dec (n ≡ m) → Noted
      go (yes q) =
          let s = same_noted (take l.end t) (take r.end u) row₀ texts₀ row₁ texts₁ row₂ texts₂ is-row₀ is-texts₀ is-row₁ is-texts₁
          is-row₂ is-texts₂ x y reads-x reads_y n left_count (q ∙ right_count) in
          noted (Some n) (pairing_same n m some q) s.0 (s.1 ∙ ap (map line_text) (sym (ap₂ lines_of e f)))
      go (no d) = apart (pairing_other n m d) (ap₂ lines_of e f ∙ lines_none x y (λ q. d (left_count ∙ q ∙ sym right_count)))

  pub texts_noted : Noted
  texts_noted = go (side_of_lem t l is-l) (side_of_lem u r is-r)
    where
      go : Side t l → Side u r → Noted
      go (inl a) (inl b) = both a.0 b.0 a.1 a.2 b.1 b.2
      go (inl a) (inr b) = apart (ap (pairing_of n) (is_m ∙ b.0) ∙ none_right n) (ap (lines_of X) b.1 ∙ no_right X)
      go (inr a) s = apart (pairing_none n m (is_n ∙ a.0)) (ap (λ (z : OurFields). lines_of z Y) a.1)

-- ---- what is answered on these tables

module _ {t u : List ℕ} {N : TextsNoted} {row texts : List ℕ} (is : NotesTexts t u N row texts) where
  abbrev x₀ : OurFields
  x₀ = left_said (read_rule t)

  abbrev y₀ : OurFields
  y₀ = left_said (read_rule u)

  pub texts_listed : {old : List ℕ} {r : Listed} {new : List ℕ} → ListsLines (pair_lines N.pair row texts) old r new
      → TextsList t u old (record { left = N.left; right = N.right; listed = r }) new
  texts_listed h = record { left = is.left; right = is.right; listed = lines_list x₀ y₀ is.lines h }

  pub texts_meet : {b : Bool} → b ≡ any_of N.pair row → TextsMeet t u (record { left = N.left; right = N.right; overlap = b })
  texts_meet e =
      record {
        left = is.left;
        right = is.right;
        overlap = e ∙ any_pair N.pair row texts ∙ ap is_cons is.lines ∙ cons_mapped line_text (lines_of x₀ y₀);
      }

  pub texts_asked : {c : Counts} → c ≡ tallied no_counts (pair_lines N.pair row texts)
      → TextsAsk t u (record { left = N.left; right = N.right; counts = c })
  texts_asked {c} e = record { left = is.left; right = is.right; counts = lines_counted x₀ y₀ is.lines c e }

  pub texts_commit : {asked : Counts} {old : List ℕ} {r : Committed} {new : List ℕ} → CommitsLines asked (pair_lines N.pair row texts) old r new
      → TextsCommit asked t u old (record { left = N.left; right = N.right; committed = r }) new
  texts_commit h = record { left = is.left; right = is.right; committed = lines_commit x₀ y₀ is.lines h }

-- ---- values of left sides, by their plain texts

-- the plain text of a value says what the value counts as, as a rule without right side
said_again : (v : RuleSide) → left_said (read_rule (plain (counted_left v))) ≡ counted_left v
unfolding dec_lt
said_again v = go (accepted_left v) refl
  where
    go : (b : Bool) → accepted_left v ≡ b → left_said (read_rule (plain (counted_left v))) ≡ counted_left v
    go true e =
        let c : counted_left v ≡ view_side v = ap (λ (b : Bool). cond b (view_side v) []) e in
        let read = (one_sided (plain (view_side v)) (view_side v)).1 (rule_plain (view_side v) (accepted_rule_lem v e).0) in
        ap (λ (x : OurFields). left_said (read_rule (plain x))) c ∙ ap left_said read ∙ sym c
    go false e =
        let c : counted_left v ≡ [] = ap (λ (b : Bool). cond b (view_side v) []) e in
        ap (λ (x : OurFields). left_said (read_rule (plain x))) c ∙ sym c

-- ---- values of rules, by the plain texts of their left sides

pub rule_again : (v : Rule) → left_said (read_rule (left_plain v)) ≡ (counted_rule v).0
rule_again v =
    ap (λ (x : OurFields). left_said (read_rule (plain x))) (sym (left_counted v)) ∙ said_again (left_value v) ∙ left_counted v

-- which are put into bytes that have room for them
module _ (v : Rule) where
  pub plain_is : {x : RuleSide} → x ≡ left_value v → plain (counted_left x) ≡ left_plain v
  plain_is is_x = ap (λ (y : RuleSide). plain (counted_left y)) is_x ∙ ap plain (left_counted v)

  pub left_short : length (left_plain v) ≤ longest_side
  left_short = subst (λ (x : OurFields). length (plain x) ≤ longest_side) (left_counted v) (plain_short (left_value v))

  module _ {n : ℕ} {new : List ℕ} (put : (n ≡ length (left_plain v)) × (new ≡ after (left_plain v) (replicate longest_side 0))) where
    as_written : Writes (left_plain v) (replicate longest_side 0) (Ok (length (left_plain v))) new
    as_written = record { answer = rw (le-leb (length (left_plain v)) longest_side left_short); bytes = put.1 }

    pub left_long : n ≤ length new
    left_long = written_long (left_plain v) (replicate longest_side 0) left_short put.0 as_written

    pub left_count : n ≡ length (take n new)
    left_count = written_count (left_plain v) (replicate longest_side 0) left_short put.0 as_written

    pub left_front : take n new ≡ left_plain v
    left_front = written_front (left_plain v) (replicate longest_side 0) left_short put.0 as_written

-- two texts that are the plain texts of values: what is answered to them is answered to the values
module _ (v w : Rule) {t u : List ℕ} (is-t : t ≡ left_plain v) (is_u : u ≡ left_plain w) where
  left_again : left_said (read_rule t) ≡ (counted_rule v).0
  left_again = ap (λ (z : List ℕ). left_said (read_rule z)) is-t ∙ rule_again v

  right_again : left_said (read_rule u) ≡ (counted_rule w).0
  right_again = ap (λ (z : List ℕ). left_said (read_rule z)) is_u ∙ rule_again w

  pub values_listed : {old : List ℕ} {r : TextsListed} {new : List ℕ} → TextsList t u old r new
      → Lists (counted_rule v).0 (counted_rule w).0 old r.listed new
  values_listed {old} {r} {new} h = subst₂ (λ (x y : OurFields). Lists x y old r.listed new) left_again right_again h.listed

  pub values_asked : {r : TextsAsked} → TextsAsk t u r → r.counts ≡ counts_of (counted_rule v).0 (counted_rule w).0
  values_asked h = h.counts ∙ ap₂ counts_of left_again right_again

  pub values_commit : {asked : Counts} {old : List ℕ} {r : TextsCommitted} {new : List ℕ} → TextsCommit asked t u old r new
      → Commits asked (counted_rule v).0 (counted_rule w).0 old r.committed new
  values_commit {asked} {old} {r} {new} h =
      subst₂ (λ (x y : OurFields). Commits asked x y old r.committed new) left_again right_again h.committed
