-- The field of a rule text, from the value that reading answers. Assumes nothing.
use mathlib.Core.Path.{◌≡◌, refl, sym, ap, ◌∙◌}
use mathlib.Core.List.{List, [], ◌∷◌}
use Prim.Native.Nat.{ℕ}
use native.Mathlib.Omega.{arith}
use lib.ListN.{get_or}
use Rattle.text_grammar.specs.Terms.{OurFields}
use Rattle.text_grammar.specs.Read.{OutcomeOf, refused, accepted}
use Rattle.text_grammar.specs.Limits.{IsLeft}
use Rattle.text_grammar.specs.rules.Read.{OurRule, read_rule}
use Rattle.text_grammar.proofs.rules.Accepted.{rule_read_lem}
use Rattle.text_values.specs.Values.{Field}
use Rattle.text_values.specs.Values.{encode_side}
use Rattle.text_accepted.specs.Accepted.{counted_left, counted_field}
use Rattle.text_accepted.proofs.Accepted.{view_encode_rule, encode_accepted_rule}
use Rattle.text_read.specs.declared.RuleRead.{RuleRead}
use Rattle.text_read.specs.Answers.{rule_read}
use Rattle.print_solve.specs.Solve.{one_field, field_in}

counted_side : (x : OurFields) → IsLeft x → counted_left (encode_side x) ≡ x
counted_side x h = rw (encode_accepted_rule x h, view_encode_rule x h)

-- ---- by the counts of both sides

one_field_of : (x y : OurFields) (d : Field) → IsLeft x → (encode_side y).n ≡ 0 → (encode_side x).n ≡ 1
    → counted_field (get_or (encode_side x).fields 0 d) ≡ one_field x y
one_field_of [] y d h r l = absurd (omega arith)
one_field_of (f ∷ []) [] d h r l = counted_side (f ∷ []) h
one_field_of (f ∷ []) (g ∷ y) d h r l = absurd (omega arith)
one_field_of (f ∷ (g ∷ x)) y d h r l = absurd (omega arith)

no_right_of : (x y : OurFields) → ((encode_side y).n ≡ 0 → ⊥) → one_field x y ≡ []
no_right_of [] y r = refl
no_right_of (f ∷ []) [] r = absurd (r refl)
no_right_of (f ∷ []) (g ∷ y) r = refl
no_right_of (f ∷ (g ∷ x)) y r = refl

no_one_of : (x y : OurFields) → ((encode_side x).n ≡ 1 → ⊥) → one_field x y ≡ []
no_one_of [] y l = refl
no_one_of (f ∷ []) y l = absurd (l refl)
no_one_of (f ∷ (g ∷ x)) y l = refl

-- ---- of what reading returns

module _ (t : List ℕ) (v : RuleRead) (is-v : v ≡ rule_read (read_rule t)) where
  right_n : v.rule.right.n ≡ (rule_read (read_rule t)).rule.right.n
  right_n = ap (λ (w : RuleRead). w.rule.right.n) is-v

  left_n : v.rule.left.n ≡ (rule_read (read_rule t)).rule.left.n
  left_n = ap (λ (w : RuleRead). w.rule.left.n) is-v

  pub one_field_lem : (d : Field) → v.rule.right.n ≡ 0 → v.rule.left.n ≡ 1 → counted_field (get_or v.rule.left.fields 0 d) ≡ field_in (read_rule t)
  one_field_lem d r l =
      ap (λ (w : RuleRead). counted_field (get_or w.rule.left.fields 0 d)) is-v ∙ go (read_rule t) refl (sym right_n ∙ r) (sym left_n ∙ l)
    where
      go : (o : OutcomeOf OurRule) → read_rule t ≡ o → (rule_read o).rule.right.n ≡ 0 → (rule_read o).rule.left.n ≡ 1
          → counted_field (get_or (rule_read o).rule.left.fields 0 d) ≡ field_in o
      go (refused q p) e r l = absurd (omega arith)
      go (accepted w) e r l = one_field_of w.0 w.1 d (rule_read_lem t w e).0 r l

  pub with_right : (v.rule.right.n ≡ 0 → ⊥) → field_in (read_rule t) ≡ []
  with_right h = go (read_rule t) (λ k. h (right_n ∙ k))
    where
      go : (o : OutcomeOf OurRule) → ((rule_read o).rule.right.n ≡ 0 → ⊥) → field_in o ≡ []
      go (refused r p) k = refl
      go (accepted w) k = no_right_of w.0 w.1 k

  pub no_one_field : (v.rule.left.n ≡ 1 → ⊥) → field_in (read_rule t) ≡ []
  no_one_field h = go (read_rule t) (λ k. h (left_n ∙ k))
    where
      go : (o : OutcomeOf OurRule) → ((rule_read o).rule.left.n ≡ 1 → ⊥) → field_in o ≡ []
      go (refused r p) k = refl
      go (accepted w) k = no_one_of w.0 w.1 k
