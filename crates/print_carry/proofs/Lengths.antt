-- How long an answer is, and that only the first bytes of a line matter. Assumes nothing.
use mathlib.Core.Path.{◌≡◌, refl, sym, ap, ◌∙◌}
use mathlib.Core.Bool.{Bool, true, false, cond}
use mathlib.Core.List.{List, ◌++◌, map}
use Prim.Native.Nat.{ℕ, ◌+◌, ◌≤◌, ◌<◌}
use native.Mathlib.Omega.{arith}
use native.Mathlib.Decide.{dec_lt}
use borrow.Author.Tests.{lt-ltb}
use lib.Dec.{ltb}
use lib.ListN.{length, take, length-append}
use lib.Seq.{length-take-le, take_all}
use Rattle.base_limits.specs.Limits.{slip_line}
use Rattle.math_terms.specs.Terms.{con}
use Rattle.text_grammar.specs.Ascii.{ascii, newline}
use Rattle.text_grammar.specs.Numbers.{digits_of}
use Rattle.text_grammar.specs.Plain.{plain}
use Rattle.text_grammar.specs.Limits.{IsSlip}
use Rattle.text_grammar.specs.Terms.{OurFields, SlipFields}
use Rattle.text_grammar.specs.Read.{OutcomeOf, Outcome, refused, accepted, read_slip}
use Rattle.text_grammar.proofs.Accepted.{slip_length, slip_read_lem}
use Rattle.text_grammar.proofs.Refused.{slip_place}
use Rattle.text_grammar.specs.rules.Read.{OurRule, read_rule}
use Rattle.text_grammar.specs.rules.Limits.{IsRule}
use Rattle.text_grammar.proofs.rules.Accepted.{rule_read_lem}
use Rattle.text_grammar.proofs.rules.Sharp.{rule_place}
use Rattle.text_grammar.specs.constants.Matching.{constants}
use Rattle.apply_spec.specs.Carrying.{Carried, result, unmatched, too_long}
use Rattle.apply_spec.specs.Rules.{carried}
use Rattle.text_write.proofs.Digits.{digits_64}
use Rattle.text_write.proofs.pieces.Refusals.{number_at_length}
use Rattle.print_carry.specs.Carry.{rule_part, slip_part, carried_text, carry_text, line_text, title_text, carry_answer, longest_answer, longest_said}
use Rattle.apply_rules.proofs.Carries.{result_slip}

-- ---- answers

-- the words before a slip, of at most 11 bytes, and the slip
words_short : (words : List ℕ) (s : OurFields) → length words ≤ 8 + 2 + 1 → IsSlip s → length (words ++ plain s) ≤ longest_said
words_short words s h is = omega (arith, length-append words (plain s), slip_length s is.0)

carried_short : (x : OurRule) (y : OurFields) → IsRule x → IsSlip y → length (carried_text y (carried x (map constants y))) ≤ longest_said
unfolding dec_lt
carried_short x y h k = go (carried x (map constants y)) refl
  where
    go : (a : Carried SlipFields) → carried x (map constants y) ≡ a → length (carried_text y a) ≤ longest_said
    go (result u) e = words_short (ascii "yes ") (map (map con) u) (omega arith) (result_slip x y h k u e)
    go unmatched e = words_short (ascii "no ") y (omega arith) k
    go too_long e = words_short (ascii "refusal 11 ") y (omega arith) k

read_short : (t u : List ℕ) → length (carry_text (read_rule t) (read_slip u)) ≤ longest_said
read_short t u = go (read_rule t) (read_slip u) refl refl
  where
    go : (o : OutcomeOf OurRule) (p : Outcome) → read_rule t ≡ o → read_slip u ≡ p → length (carry_text o p) ≤ longest_said
    go (refused r i) p e f = omega (arith, number_at_length r i (omega (arith, (rule_place t r i e).1)))
    go (accepted x) (refused r i) e f = omega (arith, number_at_length r i (omega (arith, slip_place u r i f)))
    go (accepted x) (accepted y) e f = carried_short x y (rule_read_lem t x e) (slip_read_lem u y f)

line_short : (t : List ℕ) → length (line_text t) ≤ longest_said
unfolding line_text
line_short t = go (ltb slip_line (length t))
  where
    go : (b : Bool) → length (cond b (ascii "line too long") (carry_text (read_rule (rule_part t)) (read_slip (slip_part t)))) ≤ longest_said
    go true = omega arith
    go false = read_short (rule_part t) (slip_part t)

pub answer_short : (k : ℕ) (t : List ℕ) → k < 18446744073709551616 → length (carry_answer k t) ≤ longest_answer
unfolding carry_answer
answer_short k t h =
    let a = length-append (title_text k ++ line_text t) newline in
    let b = length-append (title_text k) (line_text t) in
    let c = length-append (ascii "carry " ++ digits_of k) newline in
    omega (arith, a, b, c, line_short t, digits_64 k h)

-- ---- ONLY THE FIRST 12,290 BYTES of a line matter: a longer one is too long whatever it holds

pub line_long : (t : List ℕ) → slip_line < length t → line_text t ≡ ascii "line too long"
unfolding line_text
line_long t h = rw (lt-ltb slip_line (length t) h)

pub cut_same : (n k : ℕ) (t : List ℕ) → slip_line < n → carry_answer k (take n t) ≡ carry_answer k t
unfolding carry_answer
cut_same n k t h = go (dec_lt n (length t))
  where
    go : Dec (n < length t) → carry_answer k (take n t) ≡ carry_answer k t
    go (yes l) =
        ap (λ (s : List ℕ). title_text k ++ s ++ newline)
        (line_long (take n t) (omega (arith, length-take-le n t (omega arith))) ∙ sym (line_long t (omega arith)))
    go (no l) = ap (carry_answer k) (take_all n t (omega arith))
