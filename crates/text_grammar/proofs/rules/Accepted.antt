-- Reading returns exactly the rules within the limits, each from its plain text; no accepted text is longer than 2,304 bytes.
use mathlib.Core.Path.{◌≡◌, refl, sym, ap, ap₂, subst}
use mathlib.Core.Logic.{◌↔◌}
use mathlib.Core.List.{List, [], ◌∷◌, map}
use Prim.Native.Nat.{ℕ, suc, ◌+◌, ◌*◌, ◌≤◌}
use native.Mathlib.Omega.{arith}
use lib.ListN.{length, length-append}
use Rattle.base_limits.specs.Limits.{most_terms, most_rule_bytes, longest_field, longest_side, longest_rule}
use Rattle.base_lists.specs.Seqs.{All}
use Rattle.text_grammar.specs.Grammar.{Raw, spell_t, TextOk}
use Rattle.text_grammar.specs.Leftmost.{NoneOf}
use Rattle.text_grammar.specs.Tokens.{tokens, NotLinear}
use Rattle.text_grammar.specs.Terms.{OurTerm, OurFields, fields_of}
use Rattle.text_grammar.specs.Read.{fields, terms, limits, linear, unknown, NoReason, accepted}
use Rattle.text_grammar.specs.Plain.{raw_field, plain, TermOk}
use Rattle.text_grammar.specs.Limits.{Within, Linear, IsLeft}
use Rattle.text_grammar.proofs.Plain.{plain_says, back}
use Rattle.text_grammar.proofs.Fields.{linear_tokens}
use Rattle.text_grammar.proofs.Accepted.{within_to, rule_ok}
use Rattle.text_grammar.proofs.Accepted as text
use Rattle.text_grammar.proofs.Lengths.{raw_text}
use Rattle.text_grammar.specs.rules.Sides.{Sides, one, two, SaysRule, RuleGrammar}
use Rattle.text_grammar.specs.rules.Tokens.{left_side, right_tokens, Unknown}
use Rattle.text_grammar.specs.rules.Read.{order, RefusesRule, OurRule, both_fields, read_rule}
use Rattle.text_grammar.specs.rules.Plain.{plain_sides, plain_both, raw_sides}
use Rattle.text_grammar.specs.rules.Limits.{IsRight, VarsIn, IsRule}
use Rattle.text_grammar.proofs.rules.Stops.{stops_never}
use Rattle.text_grammar.proofs.rules.Read.{rule_accepted}
use Rattle.text_grammar.proofs.rules.Clean.{clean_to, clean_from, Clean, CleanRight, clean_sides, clean_plain, unknown_tokens}

-- ---- what the refusals leave

abbrev Known : Sides → Type 0
Known s = NoneOf (λ b m. Unknown s m) [] (right_tokens s)

abbrev Left : Sides → Type 0
Left s = NoneOf NotLinear [] (tokens (left_side s))

pub reasons_leave : (t : List ℕ) (s : Sides) → SaysRule t s → NoReason (RefusesRule t) order → Clean (left_side s) × CleanRight s × Left s × Known s
reasons_leave t s h n =
    let c = (clean_sides s).0 (
      clean_to fields t s h n.1.1.0,
      clean_to terms t s h n.1.1.1.0,
      clean_to limits t s h n.1.1.1.1.0,
    ) in
    (c.0, c.1, clean_to linear t s h n.1.1.1.1.1.0, clean_to unknown t s h n.1.1.1.1.1.1.0)

pub reasons_none : (t : List ℕ) (s : Sides) → SaysRule t s → length t ≤ most_rule_bytes → Clean (left_side s) → CleanRight s → Left s → Known s
    → NoReason (RefusesRule t) order
reasons_none t s h l c d e k =
    let a = (clean_sides s).1 (c, d) in (
      λ p j. omega (arith, j.0),
      (
        stops_never RuleGrammar t (s, h),
        (
          clean_from fields t s h a.0,
          (
            clean_from terms t s h a.1,
            (
              clean_from limits t s h a.2,
              (
                clean_from linear t s h e,
                (clean_from unknown t s h k, tt),
              ),
            ),
          ),
        ),
      ),
    )

-- ---- FROM THE TEXT TO THE LIMITS

side_in_lem : (x : List (List Raw)) → TextOk x → Clean x → Within most_terms (fields_of x)
side_in_lem x ok c = within_to 16 x ok c.0 c.1 c.2

sides_in : (s : Sides) (t : List ℕ) → SaysRule t s → Clean (left_side s) × CleanRight s × Left s × Known s → IsRule (both_fields s)
sides_in (one x) t h c = ((side_in_lem x h.0 c.0, (linear_tokens x).0 c.2), (omega arith, tt, tt), λ k n o. absurd o)
sides_in (two x y) t h c =
    let w = side_in_lem y h.0.1 c.1 in
    ((side_in_lem x h.0.0 c.0, (linear_tokens x).0 c.2), (w.1, w.2, w.3), (unknown_tokens x y).0 c.3)

-- a rule that is read is within the limits
pub rule_read_lem : (t : List ℕ) (w : OurRule) → read_rule t ≡ accepted w → IsRule w
rule_read_lem t w e =
    let a = (rule_accepted t w).0 e in
    let s = a.1.0 in
    subst IsRule a.1.2 (sides_in s t a.1.1 (reasons_leave t s a.1.1 a.0))

-- ---- FROM THE LIMITS TO THE PLAIN TEXT

right_within : (f : List OurTerm) (y : OurFields) → IsRight (f ∷ y) → Within most_terms (f ∷ y)
right_within f y h = (tt, h.0, h.1, h.2)

-- a side within the limits can be written
pub left_ok : (x : OurFields) → IsLeft x → All (All TermOk) x
left_ok x h = (rule_ok most_terms x h.0).1

pub right_ok : (y : OurFields) → IsRight y → All (All TermOk) y
right_ok [] h = tt
right_ok (f ∷ y) h = (rule_ok most_terms (f ∷ y) (right_within f y h)).1

module _ (x : OurFields) (h : IsLeft x) where
  left_clean : Clean (map raw_field x)
  left_clean = clean_plain x h.0.1 h.0.2 h.0.3

  left_linear : NoneOf NotLinear [] (tokens (map raw_field x))
  left_linear = (linear_tokens (map raw_field x)).1 (subst Linear (sym (back x (left_ok x h))) h.1)

pub sides_says : (x y : OurFields) → IsLeft x → IsRight y → SaysRule (plain_sides x y) (raw_sides x y)
sides_says x [] h r = plain_says x (rule_ok most_terms x h.0)
sides_says x (f ∷ y) h r =
    (((plain_says x (rule_ok most_terms x h.0)).0, (plain_says (f ∷ y) (rule_ok most_terms (f ∷ y) (right_within f y r))).0), refl)

pub sides_back : (x y : OurFields) → IsLeft x → IsRight y → both_fields (raw_sides x y) ≡ (x, y)
sides_back x [] h r = ap (λ (l : OurFields). (l, [])) (back x (left_ok x h))
sides_back x (f ∷ y) h r = ap₂ (λ (l r : OurFields). (l, r)) (back x (left_ok x h)) (back (f ∷ y) (right_ok (f ∷ y) r))

-- the longest plain text has 2,304 bytes at most
pub rule_length : (x y : OurFields) → IsLeft x → IsRight y → length (plain_sides x y) ≤ longest_rule
rule_length x [] h r = omega (arith, text.rule_length x h.0)
rule_length x (f ∷ y) h r =
    let a = text.rule_length x h.0 in
    let b = text.rule_length (f ∷ y) (right_within f y r) in
    omega (arith, length-append (plain x) (61 ∷ (62 ∷ plain (f ∷ y))))

sides_leave : (x y : OurFields) → IsRule (x, y)
    → Clean (left_side (raw_sides x y)) × CleanRight (raw_sides x y) × Left (raw_sides x y) × Known (raw_sides x y)
sides_leave x [] h = (left_clean x h.0, tt, left_linear x h.0, tt)
sides_leave x (f ∷ y) h = (
  left_clean x h.0,
  clean_plain (f ∷ y) h.1.0 h.1.1 h.1.2,
  left_linear x h.0,
  (unknown_tokens (map raw_field x) (map raw_field (f ∷ y))).1
      (subst (λ (l : OurFields). VarsIn l (fields_of (map raw_field x))) (sym (back (f ∷ y) (right_ok (f ∷ y) h.1)))
      (subst (VarsIn (f ∷ y)) (sym (back x (left_ok x h.0))) h.2)),
)

-- ROUND TRIP: a rule within the limits is read from its plain text
pub rule_plain : (w : OurRule) → IsRule w → read_rule (plain_both w) ≡ accepted w
rule_plain w h =
    let x = w.0 in
    let y = w.1 in
    let s = sides_says x y h.0 h.1 in
    let l = sides_leave x y h in
    let n = rule_length x y h.0 h.1 in
    (rule_accepted (plain_both w) w).1
    (reasons_none (plain_sides x y) (raw_sides x y) s (omega arith) l.0 l.1 l.2 l.3, (raw_sides x y, s, sides_back x y h.0 h.1))

-- WHICH rules reading returns
pub rule_iff : (w : OurRule) → ((t : List ℕ) × (read_rule t ≡ accepted w)) ↔ IsRule w
rule_iff w = (λ h. rule_read_lem h.0 w h.1, λ h. (plain_both w, rule_plain w h))

-- ---- NO ACCEPTED TEXT is longer than 2,304 bytes

pub side_short : (x : List (List Raw)) → TextOk x → Clean x → length (spell_t x) ≤ longest_side
side_short x ok c =
    let b = raw_text 16 x ok c.0 c.1 c.2 in
    let k = b.0 in
    let small : k ≤ 3 = b.1 in
    let bound : suc (length (spell_t x)) ≤ suc longest_field + k * suc longest_field = b.2 in
    omega arith

sides_short : (s : Sides) (t : List ℕ) → SaysRule t s → Clean (left_side s) → CleanRight s → length t ≤ longest_rule
sides_short (one x) t h c d = omega (arith, side_short x h.0 c, ap (λ (l : List ℕ). length l) h.1)
sides_short (two x y) t h c d =
    let a = side_short x h.0.0 c in
    let b = side_short y h.0.1 d in
    omega (arith, ap (λ (l : List ℕ). length l) h.1, length-append (spell_t x) (61 ∷ (62 ∷ spell_t y)))

pub rule_bytes : (t : List ℕ) (w : OurRule) → read_rule t ≡ accepted w → length t ≤ longest_rule
rule_bytes t w e =
    let a = (rule_accepted t w).0 e in
    let s = a.1.0 in
    let l = reasons_leave t s a.1.1 a.0 in
    sides_short s t a.1.1 l.0 l.1
