-- The terms that a run names in a slip's value are the values of the constants that it names in the slip. Assumes nothing.
use mathlib.Core.Path.{◌≡◌, refl, sym, ap, ◌∙◌}
use mathlib.Core.List.{List, [], ◌∷◌, ◌++◌, map, map-map, append-nil}
use Prim.Native.Nat.{ℕ, zero, suc, ◌-◌}
use lib.ListN.{length, get_or, take, drop, replicate}
use Rattle.base_limits.specs.Limits.{most_items}
use Rattle.base_lists.specs.Seqs.{All}
use Rattle.base_lists.specs.Arrays.{map_take, map_drop, get_d_blank}
use Rattle.math_terms.specs.Terms.{con}
use Rattle.text_grammar.specs.Terms.{OurFields}
use Rattle.text_grammar.specs.Limits.{IsCon}
use Rattle.text_grammar.specs.constants.Matching.{constants}
use Rattle.text_grammar.proofs.constants.Matching.{constants_are}
use Rattle.text_values.specs.declared.Term.{Term}
use Rattle.text_values.specs.Values.{SlipField}
use Rattle.text_values.specs.Values.{blank_term, blank_slip_field, encode_term, encode_slip_field, encode_slip}
use Rattle.text_values.proofs.Pads.{unpadded}
use Rattle.match_fields.specs.declared.bindings.Run.{Run}
use Rattle.match_fields.specs.Fields.{items_of}
use Rattle.match_rules.specs.Answers.{items_at}
use Rattle.match_rules.proofs.Agree.{enc}

-- ---- lists

-- a member of a padded array
padded_at : {A B : Type 0} (g : A → B) (d : A) (n : ℕ) (l : List A) (i : ℕ) → get_or (map g l ++ replicate n (g d)) i (g d) ≡ g (get_or l i d)
padded_at g d n [] i = get_d_blank n i (g d)
padded_at g d n (x ∷ l) zero = refl
padded_at g d n (x ∷ l) (suc i) = padded_at g d n l i

all_at : {A : Type 0} (P : A → Type 0) (d : A) (l : List A) (i : ℕ) → P d → All P l → P (get_or l i d)
all_at P d [] i p h = p
all_at P d (x ∷ l) zero p h = h.0
all_at P d (x ∷ l) (suc i) p h = all_at P d l i p h.1

constants_at : (l : OurFields) (i : ℕ) → get_or (map constants l) i [] ≡ constants (get_or l i [])
constants_at [] i = refl
constants_at (f ∷ l) zero = refl
constants_at (f ∷ l) (suc i) = constants_at l i

-- ---- the items of a slip's value

module _ (y : OurFields) (all_con : All (All IsCon) y) where
  -- with any number of blank fields behind them
  padded_items : (n j : ℕ) → items_of (get_or (map encode_slip_field y ++ replicate n blank_slip_field) j blank_slip_field) ≡ map enc (get_or (map constants y) j [])
  padded_items n j =
      ap items_of (padded_at encode_slip_field [] n y j)
      ∙ unpadded most_items blank_term encode_term (get_or y j [])
      ∙ ap (map encode_term) (sym (constants_are (get_or y j []) (all_at (All IsCon) [] y j tt all_con)))
      ∙ map-map encode_term con (constants (get_or y j []))
      ∙ ap (map enc) (sym (constants_at y j))

  pub field_items_lem : (j : ℕ) → items_of (get_or (map encode_slip_field y) j blank_slip_field) ≡ map enc (get_or (map constants y) j [])
  field_items_lem j = ap (λ (l : List SlipField). items_of (get_or l j blank_slip_field)) (sym (append-nil (map encode_slip_field y))) ∙ padded_items 0 j

  -- the items that a run names, of the slip's value and of its fields' values
  module _ (r : Run) where
    named : (l : List Term) → l ≡ map enc (get_or (map constants y) r.field []) → take r.count (drop r.start l) ≡ map enc (items_at (map constants y) r)
    named l e =
        let w = get_or (map constants y) r.field [] in
        ap (λ (l : List Term). take r.count (drop r.start l)) e
        ∙ sym (map_take enc r.count (drop r.start w) ∙ ap (take r.count) (map_drop enc r.start w))

    pub run_terms : take r.count (drop r.start (items_of (get_or (encode_slip y).fields r.field blank_slip_field))) ≡ map enc
        (items_at (map constants y) r)
    run_terms = named (items_of (get_or (encode_slip y).fields r.field blank_slip_field)) (padded_items (4 - length (map encode_slip_field y)) r.field)

    pub run_items_of : take r.count (drop r.start (items_of (get_or (map encode_slip_field y) r.field blank_slip_field))) ≡ map enc
        (items_at (map constants y) r)
    run_items_of = named (items_of (get_or (map encode_slip_field y) r.field blank_slip_field)) (field_items_lem r.field)
