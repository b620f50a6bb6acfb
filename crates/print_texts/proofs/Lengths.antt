-- How long an answer is, and that only the first bytes of a line matter. Assumes nothing.
use mathlib.Core.Path.{◌≡◌, refl, ap}
use mathlib.Core.Logic.{inl}
use mathlib.Core.List.{List}
use Prim.Native.Nat.{ℕ, ◌+◌, ◌≤◌, ◌<◌}
use native.Mathlib.Omega.{arith}
use native.Mathlib.Decide.{dec_lt}
use lib.ListN.{length, take, length-append}
use lib.Seq.{length-take-le, take_all}
use Rattle.base_limits.specs.Limits.{longest_rule}
use Rattle.text_grammar.specs.Ascii.{newline}
use Rattle.text_grammar.specs.Read.{Reason, long, slip, OutcomeOf, Outcome, refused, accepted, read_slip}
use Rattle.text_grammar.proofs.Read.{read_refused}
use Rattle.text_grammar.proofs.Refused.{slip_place}
use Rattle.text_grammar.specs.rules.Read.{OurRule, read_rule}
use Rattle.text_grammar.proofs.rules.Read.{long_rule}
use Rattle.text_grammar.proofs.rules.Sharp.{rule_place}
use Rattle.text_grammar.proofs.rules.Accepted.{rule_read_lem, rule_length}
use Rattle.text_write.proofs.pieces.Refusals.{number_at_length}
use Rattle.print_texts.specs.Texts.{refusal_text, rule_text, slip_text, rule_answer, slip_answer, texts_answer, longest_refusal, longest_answer}

-- ---- answers

refusal_length : (r : Reason) (p : ℕ) → p < 10000 → length (refusal_text r p) ≤ longest_refusal
refusal_length r p h = omega (arith, number_at_length r p h)

rule_answer_length : (t : List ℕ) → length (rule_answer t) ≤ 5 + longest_rule + 1
unfolding rule_answer
rule_answer_length t = omega (arith, length-append (rule_text (read_rule t)) newline, go (read_rule t) refl)
  where
    go : (o : OutcomeOf OurRule) → read_rule t ≡ o → length (rule_text o) ≤ longest_rule
    go (refused r p) e = omega (arith, refusal_length r p (omega (arith, (rule_place t r p e).1)))
    go (accepted w) e = let h = rule_read_lem t w e in rule_length w.0 w.1 h.0 h.1

slip_answer_length : (t : List ℕ) → length (slip_answer t) ≤ 5 + longest_refusal + 1
unfolding slip_answer
slip_answer_length t = omega (arith, length-append (slip_text (read_slip t)) newline, go (read_slip t) refl)
  where
    go : (o : Outcome) → read_slip t ≡ o → length (slip_text o) ≤ longest_refusal
    go (refused r p) e = refusal_length r p (omega (arith, slip_place t r p e))
    go (accepted x) e = omega arith

pub texts_short : (t : List ℕ) → length (texts_answer t) ≤ longest_answer
unfolding texts_answer
texts_short t = omega (arith, length-append (rule_answer t) (slip_answer t), rule_answer_length t, slip_answer_length t)

-- ---- ONLY THE FIRST 8,193 BYTES of a line matter: a longer text is refused by 1 whatever it holds

long_slip : (t : List ℕ) → slip.bytes < length t → read_slip t ≡ refused long slip.bytes
long_slip t h = (read_refused slip t long slip.bytes).1 (inl (refl, (h, refl)))

pub cut_same : (n : ℕ) (t : List ℕ) → slip.bytes < n → texts_answer (take n t) ≡ texts_answer t
unfolding texts_answer rule_answer slip_answer
cut_same n t h = go (dec_lt n (length t))
  where
    go : Dec (n < length t) → texts_answer (take n t) ≡ texts_answer t
    go (yes l) =
        let k : length (take n t) ≡ n = length-take-le n t (omega arith) in
        rw (long_rule (take n t) (omega arith), long_slip (take n t) (omega arith), long_rule t (omega arith), long_slip t (omega arith))
    go (no l) = ap texts_answer (take_all n t (omega arith))
