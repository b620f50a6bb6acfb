-- The plain text of a rule: the only lean text of it, and it determines the rule.
use mathlib.Core.Path.{◌≡◌, refl, sym, ◌∙◌, ap, ap₂}
use mathlib.Core.List.{List, [], ◌∷◌}
use Prim.Native.Nat.{ℕ}
use Rattle.base_lists.specs.Seqs.{All}
use Rattle.text_grammar.specs.Grammar.{spell_t}
use Rattle.text_grammar.specs.Limits.{IsLeft}
use Rattle.text_grammar.specs.Terms.{OurFields}
use Rattle.text_grammar.specs.Read.{OutcomeOf, accepted}
use Rattle.text_grammar.proofs.Plain.{LeanField, lean_is_plain, plain_lean}
use Rattle.text_grammar.specs.rules.Sides.{Sides, one, two, joined, SaysRule}
use Rattle.text_grammar.specs.rules.Read.{OurRule, both_fields, read_rule}
use Rattle.text_grammar.specs.rules.Plain.{plain_both, raw_sides}
use Rattle.text_grammar.specs.rules.Limits.{IsRight, IsRule}
use Rattle.text_grammar.proofs.rules.Read.{rule_accepted}
use Rattle.text_grammar.proofs.rules.Accepted.{left_ok, right_ok, rule_read_lem, rule_plain}

-- no byte that the plain text would not have: no `empty` beside other terms, no leading zeros
abbrev pub LeanSides : Sides → Type 0
LeanSides (one x) = All LeanField x
LeanSides (two x y) = All LeanField x × All LeanField y

lean_sides : (t : List ℕ) (s : Sides) → SaysRule t s → LeanSides s → t ≡ plain_both (both_fields s)
lean_sides t (one x) h l = lean_is_plain t x h l
lean_sides t (two x []) h l = absurd h.0.1.0
lean_sides t (two x (f ∷ y)) h l =
    h.1 ∙ ap₂ joined (lean_is_plain (spell_t x) x (h.0.0, refl) l.0) (lean_is_plain (spell_t (f ∷ y)) (f ∷ y) (h.0.1, refl) l.1)

-- THE ONE PLAIN TEXT: of all texts that are read as w, the plain text is the only lean one
pub one_plain : (t : List ℕ) (w : OurRule) → read_rule t ≡ accepted w → ((s : Sides) → SaysRule t s → LeanSides s) → t ≡ plain_both w
one_plain t w e l =
    let a = ((rule_accepted t w).0 e).1 in
    lean_sides t a.0 a.1 (l a.0 a.1) ∙ ap plain_both a.2

-- and it is lean
pub raw_lean : (x y : OurFields) → IsLeft x → IsRight y → LeanSides (raw_sides x y)
raw_lean x [] h r = plain_lean x (left_ok x h)
raw_lean x (f ∷ y) h r = (plain_lean x (left_ok x h), plain_lean (f ∷ y) (right_ok (f ∷ y) r))

-- READING THE PLAIN TEXT of what was read returns it
pub read_again : (t : List ℕ) (w : OurRule) → read_rule t ≡ accepted w → read_rule (plain_both w) ≡ accepted w
read_again t w e = rule_plain w (rule_read_lem t w e)

-- PLAIN TEXT IS INJECTIVE on accepted rules
pub plain_injective : (w z : OurRule) → IsRule w → IsRule z → plain_both w ≡ plain_both z → w ≡ z
plain_injective w z h k e = same (sym (rule_plain w h) ∙ ap read_rule e ∙ rule_plain z k)
  where
    same : ◌≡◌ {A = OutcomeOf OurRule} (accepted w) (accepted z) → w ≡ z
    same e = cc
