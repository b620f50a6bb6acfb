-- What is said of the values that reading, carrying out and writing return is what is said of the texts. Assumes nothing.
use Rattle.std.specs.Prelude.{Result, Ok, Err}
use mathlib.Core.Path.{◌≡◌, refl, sym, ap, ap₂, ◌∙◌, subst}
use mathlib.Core.List.{List, [], ◌∷◌, map}
use Prim.Native.Nat.{ℕ}
use lib.ListN.{length}
use Rattle.math_terms.specs.Terms.{con}
use Rattle.text_grammar.specs.Told.{Told, by_room}
use Rattle.text_grammar.specs.Plain.{plain}
use Rattle.text_grammar.specs.Limits.{IsSlip}
use Rattle.text_grammar.specs.Terms.{OurFields, SlipFields}
use Rattle.text_grammar.specs.Read.{OutcomeOf, Outcome, refused, accepted, read_slip}
use Rattle.text_grammar.proofs.Accepted.{slip_read_lem}
use Rattle.text_grammar.specs.rules.Read.{OurRule, read_rule}
use Rattle.text_grammar.proofs.rules.Accepted.{rule_read_lem}
use Rattle.text_grammar.specs.constants.Matching.{constants}
use Rattle.apply_spec.specs.Carrying.{Carried, result, unmatched, too_long}
use Rattle.apply_spec.specs.Rules.{carried}
use Rattle.apply_spec.proofs.Carrying.{unmatched≢result}
use Rattle.apply_spec.proofs.Rules.{no_slip}
use Rattle.text_values.specs.Values.{Slip}
use Rattle.text_accepted.specs.rules.Rules.{counted_rule}
use Rattle.text_accepted.proofs.rules.Rules.{counted_encode}
use Rattle.text_accepted.specs.slips.Slips.{counted_slip}
use Rattle.text_accepted.proofs.slips.Slips.{counted_slip_lem}
use Rattle.apply_rules.specs.declared.Carried.{Carried as CarriedValue}
use Rattle.apply_rules.specs.Answers.{answer_of, carried_of}
use Rattle.apply_rules.proofs.Carries.{result_slip}
use Rattle.text_read.specs.declared.RuleRead.{RuleRead}
use Rattle.text_read.specs.declared.SlipRead.{SlipRead}
use Rattle.text_read.specs.Answers.{rule_read, slip_read, side_said}
use Rattle.text_read.proofs.Values.{rule_verdict}
use Rattle.text_refusals.specs.verdicts.Verdicts.{verdict_of}
use Rattle.text_write.specs.declared.TooSmall.{TooSmall}
use Rattle.text_write.specs.Answers.{told, Writes}
use Rattle.yopobrush.specs.declared.Reading.{Reading}
use Rattle.yopobrush.specs.declared.Carrying.{Carrying}
use Rattle.yopobrush.specs.Answers.{reading_of}
use Rattle.yopobrush.specs.Values.{reading_by}
use Rattle.yopobrush.specs.Carries.{rule_said, carried_said, given, text_said, number_for, LibraryCarries}
use Rattle.yopobrush.specs.CarryValues.{number_by, roomed, carrying_by}
use Rattle.yopobrush.proofs.Said.{verdict_said}

-- ---- what was read

slip_verdict : (o : Outcome) → (slip_read o).verdict ≡ verdict_of o
slip_verdict (refused r p) = refl
slip_verdict (accepted x) = refl

-- a rule as it was read counts as what the text says
rule_counted : (t : List ℕ) → counted_rule (rule_read (read_rule t)).rule ≡ rule_said (read_rule t)
rule_counted t = go (read_rule t) refl
  where
    go : (o : OutcomeOf OurRule) → read_rule t ≡ o → counted_rule (rule_read o).rule ≡ rule_said o
    go (refused r p) e = refl
    go (accepted w) e = counted_encode w (rule_read_lem t w e)

slip_counted : (u : List ℕ) → counted_slip (slip_read (read_slip u)).slip ≡ side_said (read_slip u)
slip_counted u = go (read_slip u) refl
  where
    go : (o : Outcome) → read_slip u ≡ o → counted_slip (slip_read o).slip ≡ side_said o
    go (refused r p) e = refl
    go (accepted y) e = counted_slip_lem y (slip_read_lem u y e)

-- ---- what is carried out

-- a result of what the texts say is a slip that reading returns
said_slip_lem : (t u : List ℕ) (w : SlipFields) → carried_said (read_rule t) (read_slip u) ≡ result w → IsSlip (map (map con) w)
said_slip_lem t u w = go (read_rule t) (read_slip u) refl refl
  where
    go : (o : OutcomeOf OurRule) (p : Outcome) → read_rule t ≡ o → read_slip u ≡ p → carried_said o p ≡ result w → IsSlip (map (map con) w)
    go (refused r i) p e f h = absurd (unmatched≢result h)
    go (accepted x) (refused r i) e f h = absurd (unmatched≢result (sym (no_slip x (rule_read_lem t x e)) ∙ h))
    go (accepted x) (accepted y) e f h = result_slip x y (rule_read_lem t x e) (slip_read_lem u y f) w h

number_said : (s : Slip) (a : Carried SlipFields) → number_by (answer_of s a).answer ≡ number_for a
number_said s (result w) = refl
number_said s unmatched = refl
number_said s too_long = refl

module _ (t u : List ℕ) where
  abbrev o : OutcomeOf OurRule
  o = read_rule t

  abbrev p : Outcome
  p = read_slip u

  abbrev s : Slip
  s = (slip_read p).slip

  carried_is : carried_of (rule_read o).rule s ≡ answer_of s (carried_said o p)
  carried_is =
      ap₂ (λ (r : OurRule) (x : OurFields). answer_of s (carried r (map constants x))) (rule_counted t) (slip_counted u)

  given_said : counted_slip (answer_of s (carried_said o p)).slip ≡ given (side_said p) (carried_said o p)
  given_said = go (carried_said o p) refl
    where
      go : (a : Carried SlipFields) → carried_said o p ≡ a → counted_slip (answer_of s a).slip ≡ given (side_said p) a
      go (result w) e = counted_slip_lem (map (map con) w) (said_slip_lem t u w e)
      go unmatched e = slip_counted u
      go too_long e = slip_counted u

-- ---- what is written

-- the answer that tells so many bytes needed, of so many lent
module _ (a b : Reading) (n needed lent : ℕ) where
  abbrev counted : Told
  counted = by_room needed lent (needed ∷ [])

  told_roomed : (w : Result ℕ TooSmall) (m : ℕ) → told w ≡ counted → (told w).values ≡ m ∷ [] → roomed a b n (told w) m ≡ roomed a b n counted needed
  told_roomed w m h k =
      let values : m ∷ [] ≡ needed ∷ [] = sym k ∙ ap (λ (v : Told). v.values) h in
      let is : m ≡ needed = cc in
      ap (roomed a b n (told w)) is ∙ ap (λ (v : Told). roomed a b n v needed) h

  written_said : (w : Result ℕ TooSmall) → told w ≡ counted → carrying_by a b n w ≡ roomed a b n counted needed
  written_said (Ok m) h = told_roomed (Ok m) m h refl
  written_said (Err e) h = told_roomed (Err e) e.needed h refl

-- ---- all of it

module _ (t u : List ℕ) (r : RuleRead) (s : SlipRead) (c : CarriedValue) (is-r : r ≡ rule_read (read_rule t)) (is-s : s ≡ slip_read (read_slip u))
    (is_c : c ≡ carried_of r.rule s.slip) where
  abbrev a : Carried SlipFields
  a = carried_said (read_rule t) (read_slip u)

  answer_is : c ≡ answer_of (slip_read (read_slip u)).slip a
  answer_is = is_c ∙ ap₂ (λ (x : RuleRead) (y : SlipRead). carried_of x.rule y.slip) is-r is-s ∙ carried_is t u

  text_is : plain (counted_slip c.slip) ≡ text_said (read_rule t) (read_slip u)
  text_is = ap (λ (x : CarriedValue). plain (counted_slip x.slip)) answer_is ∙ ap plain (given_said t u)

  number_is : number_by c.answer ≡ number_for a
  number_is = ap (λ (x : CarriedValue). number_by x.answer) answer_is ∙ number_said (slip_read (read_slip u)).slip a

  rule_is : reading_by r.verdict ≡ reading_of (read_rule t)
  rule_is = ap (λ (x : RuleRead). reading_by x.verdict) is-r ∙ ap reading_by (rule_verdict (read_rule t)) ∙ verdict_said (read_rule t)

  slip_is : reading_by s.verdict ≡ reading_of (read_slip u)
  slip_is = ap (λ (x : SlipRead). reading_by x.verdict) is-s ∙ ap reading_by (slip_verdict (read_slip u)) ∙ verdict_said (read_slip u)

  pub texts_carried : (old : List ℕ) {w : Result ℕ TooSmall} {new : List ℕ} (x y : Reading) (n : ℕ) (answer : Carrying)
      → Writes (plain (counted_slip c.slip)) old w new
      → x ≡ reading_by r.verdict
      → y ≡ reading_by s.verdict
      → n ≡ number_by c.answer
      → answer ≡ carrying_by x y n w
      → LibraryCarries t u old answer new
  texts_carried old {w} {new} x y n answer put is_x is_y is_n is =
      let o = reading_of (read_rule t) in
      let p = reading_of (read_slip u) in
      let text = text_said (read_rule t) (read_slip u) in
      let wrote = subst (λ (l : List ℕ). Writes l old w new) text_is put in
      record {
        answer = is
            ∙ ap₂ (λ (v z : Reading). carrying_by v z n w) (is_x ∙ rule_is) (is_y ∙ slip_is)
            ∙ ap (λ (m : ℕ). carrying_by o p m w) (is_n ∙ number_is)
            ∙ written_said o p (number_for a) (length text) (length old) w wrote.answer;
        bytes = wrote.bytes;
      }
