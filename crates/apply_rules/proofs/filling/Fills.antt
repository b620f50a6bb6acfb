-- Filling in on values is filling in: where the value x gives each variable of a side the items of the filling θ, the filled side is
-- that of θ. Assumes nothing.
use mathlib.Core.Path.{◌≡◌, refl, sym, ap, ap₂, ◌∙◌}
use mathlib.Core.Logic.{inl, inr}
use mathlib.Core.Bool.{Bool, ◌&&◌, cond}
use mathlib.Core.List.{List, [], ◌∷◌, ◌++◌, map, map-map, map-append}
use Prim.Native.Nat.{ℕ}
use lib.Dec.{leb}
use Rattle.std.specs.Prelude.{Option, Some, None}
use lib.ListN.{length-map}
use Rattle.base_limits.specs.Limits.{most_fields, most_terms, most_items}
use Rattle.base_lists.specs.Seqs.{Any}
use Rattle.math_types.specs.Types.{Kind}
use Rattle.math_types.specs.Values.{kind_of_from}
use Rattle.math_terms.specs.Terms.{con, var}
use Rattle.math_terms.specs.Seqs.{concat_map}
use Rattle.math_terms.specs.Fillings.{Filling, fill, Occurs}
use Rattle.text_grammar.specs.Terms.{OurTerm, OurFields, SlipFields}
use Rattle.text_grammar.specs.constants.Constants.{Con}
use Rattle.text_values.specs.declared.Term.{Term}
use Rattle.text_values.specs.Values.{Field, SlipField, Slip}
use Rattle.text_values.specs.canonical.Filled.{pad}
use Rattle.text_values.specs.Values.{blank_term, blank_field, blank_slip_field, encode_term, encode_field, encode_side, encode_slip_field, encode_slip}
use Rattle.text_values.proofs.Pads.{unpadded}
use Rattle.match_fields.specs.declared.bindings.Filling.{Filling as FillingValue}
use Rattle.apply_rules.specs.filling.Filled.{value_items, filled_term, filled_field, all_short, slip_field, slip_of, filled_as, filled_side}

-- the value of a constant
abbrev pub enc : Con → Term
enc c = encode_term (con c)

-- ---- the slip of constants

slip_field_of : (v : List Con) → slip_field (map enc v) ≡ encode_slip_field (map con v)
slip_field_of v =
    ap₂ (λ (n : ℕ) (l : List Term). record { n = n; terms = pad most_items blank_term l }) (length-map v enc ∙ sym (length-map v con))
    (sym (map-map encode_term con v))

slip_fields_of : (w : SlipFields) → map slip_field (map (map enc) w) ≡ map encode_slip_field (map (map con) w)
slip_fields_of [] = refl
slip_fields_of (v ∷ w) = ap₂ (λ (f : SlipField) (l : List SlipField). f ∷ l) (slip_field_of v) (slip_fields_of w)

pub slip_of_lem : (w : SlipFields) → slip_of (map (map enc) w) ≡ encode_slip (map (map con) w)
slip_of_lem w =
    ap₂ (λ (n : ℕ) (l : List SlipField). record { n = n; fields = pad most_fields blank_slip_field l }) (length-map w (map enc) ∙ sym (length-map w (map con)))
    (slip_fields_of w)

short_of : {A B : Type 0} (g : A → B) (w : List (List A)) → all_short (map (map g) w) ≡ all_short w
short_of g [] = refl
short_of g (v ∷ w) = ap₂ (λ (n : ℕ) (b : Bool). leb n most_items && b) (length-map v g) (short_of g w)

-- the answer of so many constants
abbrev pub filled_with : SlipFields → Option Slip
filled_with w = cond (all_short w) (Some (encode_slip (map (map con) w))) None

filled_of : (w : SlipFields) → filled_as (map (map enc) w) ≡ filled_with w
filled_of w =
    ap₂ (λ (b : Bool) (s : Slip). cond {A = Option Slip} b (Some s) None) (short_of enc w) (slip_of_lem w)

-- ---- a side

module _ (x : FillingValue) (s : Slip) (θ : Filling Con Kind ℕ) where
  -- the value x gives the variable of kind k and number n the items that θ gives it
  abbrev pub Gives : Kind → ℕ → Type 0
  Gives k n = value_items x s k n ≡ map enc (θ k n)

  field_filled : (f : List OurTerm) → ((k : Kind) (n : ℕ) → Occurs k n f → Gives k n) → concat_map (filled_term x s) (map encode_term f) ≡ map enc (fill θ f)
  field_filled [] g = refl
  field_filled (con c ∷ f) g = ap (λ (l : List Term). enc c ∷ l) (field_filled f g)
  field_filled (var k n ∷ f) g =
      ap₂ (λ (a b : List Term). a ++ b) (ap (λ (j : Kind). value_items x s j n) (kind_of_from k) ∙ g k n (inl (refl, refl)))
      (field_filled f (λ j m o. g j m (inr o)))
      ∙ sym (map-append enc (θ k n) (fill θ f))

  fields_filled : (y : OurFields) → ((k : Kind) (n : ℕ) → Any (Occurs k n) y → Gives k n)
      → map (filled_field x s) (map encode_field y) ≡ map (map enc) (map (fill θ) y)
  fields_filled [] g = refl
  fields_filled (f ∷ y) g =
      ap₂ (λ (a : List Term) (l : List (List Term)). a ∷ l)
      (ap (concat_map (filled_term x s)) (unpadded most_terms blank_term encode_term f) ∙ field_filled f (λ k n o. g k n (inl o)))
      (fields_filled y (λ k n o. g k n (inr o)))

  -- FILLING IN a side of which x gives every variable θ's items: the slip of them, exactly where no field has more than 64 items
  pub fills : (y : OurFields) → ((k : Kind) (n : ℕ) → Any (Occurs k n) y → Gives k n) → filled_side (encode_side y) x s ≡ filled_with (map (fill θ) y)
  fills y g =
      ap (λ (l : List Field). filled_as (map (filled_field x s) l)) (unpadded most_fields blank_field encode_field y)
      ∙ ap filled_as (fields_filled y g)
      ∙ filled_of (map (fill θ) y)
