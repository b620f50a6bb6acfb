-- What a variable becomes, by its kind. Assumes nothing.
use mathlib.Core.Path.{◌≡◌, refl, sym, ap, ◌∙◌}
use mathlib.Core.Bool.{Bool, true, false, false≢true, true≢false}
use mathlib.Core.List.{[], ◌∷◌}
use Prim.Native.Nat.{ℕ}
use Rattle.math_types.specs.Order.{basic, list}
use Rattle.math_types.specs.Types.{Kind, is_list}
use Rattle.math_types.specs.Values.{kind_of}
use Rattle.math_types.specs.declared.Kind.{Kind as KindValue}
use Rattle.text_values.specs.declared.Form.TheVariants.{Var}
use Rattle.text_values.specs.declared.Term.{Term}
use Rattle.text_values.specs.Values.{Slip}
use Rattle.match_fields.specs.declared.bindings.Filling.{Filling}
use Rattle.match_fields.specs.bindings.Values.{atom_of, run_of}
use Rattle.apply_rules.specs.filling.Filled.{run_items, value_items, filled_form, filled_term}

module _ (x : Filling) (s : Slip) (n : ℕ) where
  run_of_kind : (k : Kind) → is_list k ≡ true → run_items s (run_of x n) ≡ value_items x s k n
  run_of_kind (basic k) e = absurd (false≢true e)
  run_of_kind list e = refl

  atom_of_kind : (k : Kind) → is_list k ≡ false → atom_of x.values k n ∷ [] ≡ value_items x s k n
  atom_of_kind (basic k) e = refl
  atom_of_kind list e = absurd (true≢false e)

module _ (x : Filling) (s : Slip) (t : Term) (k : KindValue) (n : ℕ) (is : t.form ≡ Var k n) (b : Bool) (is_b : b ≡ is_list (kind_of k)) where
  pub run_filled : b ≡ true → run_items s (run_of x n) ≡ filled_term x s t
  run_filled e = run_of_kind x s n (kind_of k) (sym is_b ∙ e) ∙ sym (ap (filled_form x s t) is)

  pub atom_filled : b ≡ false → atom_of x.values (kind_of k) n ∷ [] ≡ filled_term x s t
  atom_filled e = atom_of_kind x s n (kind_of k) (sym is_b ∙ e) ∙ sym (ap (filled_form x s t) is)
