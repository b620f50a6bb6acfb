-- No accepted text is longer than the longest plain text, and so none is near refusal 1.
use mathlib.Core.Path.{◌≡◌, sym, ap, subst}
use mathlib.Core.Logic.{inl}
use mathlib.Core.List.{List, [], ◌∷◌}
use Prim.Native.Nat.{ℕ, suc, ◌+◌, ◌*◌, ◌≤◌, ◌<◌}
use native.Mathlib.Omega.{arith}
use lib.ListN.{length, length-append}
use Rattle.base_limits.specs.Limits.{longest_term, longest_field, longest_side, longest_slip_field, longest_slip}
use Rattle.base_lists.specs.Seqs.{All}
use Rattle.text_grammar.specs.Grammar.{Raw, raw_var, raw_empty, Proper, FieldOk, TextOk, spell, spell_f, colons, bars, spell_t, raw_con}
use Rattle.text_grammar.specs.Numbers.{value}
use Rattle.text_grammar.specs.Leftmost.{NoneOf}
use Rattle.text_grammar.specs.Tokens.{tokens, FifthField, TooMany, Over, TokenOver}
use Rattle.text_grammar.specs.Terms.{OurFields}
use Rattle.text_grammar.specs.Read.{fields, terms, limits, Sort, rule, slip, Bad, accepted, read_side, read_slip}
use Rattle.text_grammar.proofs.Numbers.{digits_ten, digits_one}
use Rattle.text_grammar.proofs.Leftmost.{none_all}
use Rattle.text_grammar.proofs.Read.{read_accepted}
use Rattle.text_grammar.proofs.Fields.{few_to, width_to, each}
use Rattle.text_grammar.proofs.Accepted.{Base, in_grammar, clean_to}
use Rattle.text_grammar.proofs.constants.Constants.{raw_con_short}

-- no accepted text is longer than the longest plain text
raw_short : (r : Raw) → Proper r → (Over r → ⊥) → length (spell r) ≤ longest_term
raw_short (raw_con r) p n = raw_con_short r n
raw_short (raw_var k ds) p n = omega (arith, digits_ten (value ds) (omega arith), ap (λ (l : List ℕ). length l) (digits_one ds p))
raw_short raw_empty p n = omega arith

raws_short : (rs : List Raw) → All Proper rs → All (λ r. Over r → ⊥) rs → length (colons rs) ≤ suc longest_term * length rs
raws_short [] p n = omega arith
raws_short (r ∷ rs) p n = omega (arith, length-append (spell r) (colons rs), raw_short r p.0 n.0, raws_short rs p.1 n.1)

raw_field_lem : (w : ℕ) (f : List Raw) → length f ≤ w → FieldOk f → All (λ r. Over r → ⊥) f → suc (length (spell_f f)) ≤ suc longest_term * w
raw_field_lem w [] l p n = absurd p.0
raw_field_lem w (r ∷ rs) l p n = omega (arith, length-append (spell r) (colons rs), raw_short r p.1.0 n.0, raws_short rs p.1.1 n.1)

raw_bars : (w : ℕ) (fs : List (List Raw)) → All (λ f. length f ≤ w) fs → All FieldOk fs
    → All (All (λ r. Over r → ⊥)) fs → length (bars fs) ≤ length fs * (suc longest_term * w)
raw_bars w [] l p n = omega arith
raw_bars w (f ∷ fs) l p n = omega (arith, length-append (spell_f f) (bars fs), raw_field_lem w f l.0 p.0 n.0, raw_bars w fs l.1 p.1 n.1)

pub raw_text : (w : ℕ) (x : List (List Raw)) → TextOk x → NoneOf (Bad w fields) [] (tokens x) → NoneOf (Bad w terms) [] (tokens x)
    → NoneOf (Bad w limits) [] (tokens x) → (n : ℕ) × (n ≤ 3) × (suc (length (spell_t x)) ≤ suc longest_term * w + n * (suc longest_term * w))
raw_text w [] ok a b c = absurd ok.0
raw_text w (f ∷ fs) ok a b c =
    let x = f ∷ fs in
    let l = width_to w x 0 1 (none_all (TooMany w) (tokens x) [] b) in
    let o = (each (λ r. Over r → ⊥) x 0 1).0 (none_all TokenOver (tokens x) [] c) in (
      length fs,
      omega (arith, few_to x 0 1 ok.1 (omega arith) (none_all FifthField (tokens x) [] a)),
      omega (arith, length-append (spell_f f) (bars fs), raw_field_lem w f l.0 ok.1.0 o.0, raw_bars w fs l.1 ok.1.1 o.1),
    )

base_length : (S : Sort) (t : List ℕ) → Base S t → (n : ℕ) × (n ≤ 3) × (suc (length t) ≤ suc longest_term * S.width + n * (suc longest_term * S.width))
base_length S t h =
    let g = in_grammar t h.1 in
    let r = raw_text S.width g.0 g.1.0 (clean_to S.width fields t g.0 g.1 h.2) (clean_to S.width terms t g.0 g.1 h.3)
    (clean_to S.width limits t g.0 g.1 h.4) in
    (r.0, r.1, subst (λ (l : List ℕ). suc (length l) ≤ suc longest_term * S.width + r.0 * (suc longest_term * S.width)) (sym g.1.1) r.2)

pub rule_bytes : (t : List ℕ) (r : OurFields) → read_side t ≡ accepted r → length t ≤ longest_side
rule_bytes t r e =
    let n = ((read_accepted rule t r).0 e).0 in
    let b = base_length rule t (n.0, n.1.0, n.1.1.0, n.1.1.1.0, n.1.1.1.1.0) in
    let k = b.0 in
    let small : k ≤ 3 = b.1 in
    let bound : suc (length t) ≤ suc longest_field + k * suc longest_field = b.2 in
    omega arith

pub slip_bytes : (t : List ℕ) (r : OurFields) → read_slip t ≡ accepted r → length t ≤ longest_slip
slip_bytes t r e =
    let n = ((read_accepted slip t r).0 e).0 in
    let b = base_length slip t (n.0, n.1.0, n.1.1.0, n.1.1.1.0, n.1.1.1.1.0) in
    let k = b.0 in
    let small : k ≤ 3 = b.1 in
    let bound : suc (length t) ≤ suc longest_slip_field + k * suc longest_slip_field = b.2 in
    omega arith
