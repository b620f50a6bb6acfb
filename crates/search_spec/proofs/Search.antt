-- THE THEOREMS OF THE SEARCH for two of document 01's fields.
--     found-ends                        every search ends, so that `nine` is refusal 9 alone
--     answers-solve                     demand 2: "The search's answers all solve the equation"
--     answers-complete                  "When it isn't refused, every solution by constants is an instance of one of them"
--     answers-none                      "and no answer means no solution"
--     same-slips                        a slip is an instance of an answer exactly when it fits an entry of the overlap list
use mathlib.Core.Path.{◌≡◌}
use mathlib.Core.Logic.{◌↔◌}
use mathlib.Core.List.{List, [], ◌∷◌, Memᴰ}
use Prim.Native.Nat.{ℕ}
use native.Mathlib.Decide.{ℕ_discrete}
use Rattle.base_limits.specs.Limits.{numbers_of_side}
use Rattle.base_lists.specs.Seqs.{All}
use Rattle.math_types.specs.Types.{Basic, basics}
use Rattle.math_terms.specs.Seqs.{concat_map}
use Rattle.math_terms.specs.Linear.{LeftLinear}
use Rattle.text_grammar.specs.Terms.{OurTerm}
use Rattle.text_grammar.specs.constants.Constants.{Con, consts}
use Rattle.text_grammar.specs.Limits.{IsLeft}
use Rattle.text_grammar.specs.constants.Matching.{Matches}
use Rattle.text_grammar.proofs.constants.Linear.{left_linear}
use Rattle.text_grammar.proofs.Limited.{lists_small}
use Rattle.math_overlaps.specs.Shapes.{left, right, Variable}
use Rattle.overlap_spec.specs.Overlaps.{OurEntry, entries_of}
use Rattle.math_search.specs.Problems.{Bindings}
use Rattle.math_search.specs.Fresh.{numbers}
use Rattle.math_search.specs.Pairs.{sixteen_above}
use Rattle.math_search.specs.Queue.{answers, unfinished}
use Rattle.math_search.specs.Answers.{StandsIn, Linear, Solves, ground, WellTyped, Covers}
use Rattle.math_search.proofs.Searching.{searching_ends, searching_sound, searching_complete, searching_none}
use Rattle.math_search.proofs.Slips.{Apart, InstanceOf, fields_linear, sixteen_apart}
use Rattle.math_search.proofs.Slips as slips
use Rattle.search_spec.specs.Answers.{setting, field_on, found}

pub found_ends : (room : ℕ) (f g : List OurTerm) → found room f g ≡ unfinished → ⊥
found_ends room f g e = searching_ends setting room (field_on left f) (field_on right g) e

-- a slip's field is an instance of an answer, by values of their types
abbrev pub Instance : List OurTerm → Bindings setting → List Con → Type 0
Instance f σ w = InstanceOf basics consts ℕ_discrete numbers sixteen_above f σ w

-- two fields that stand on the left sides of accepted rules
module _ (f g : List OurTerm) (is_f : IsLeft (f ∷ [])) (is-g : IsLeft (g ∷ [])) where
  linear_f : LeftLinear (f ∷ [])
  linear_f = left_linear (f ∷ []) is_f.1

  linear_g : LeftLinear (g ∷ [])
  linear_g = left_linear (g ∷ []) is-g.1

  sides_apart : Apart basics consts ℕ_discrete numbers sixteen_above f g
  sides_apart = sixteen_apart basics consts f g (lists_small f is_f.0.3.0)

  pub equation_linear : Linear setting (field_on left f) (field_on right g)
  equation_linear = fields_linear basics consts ℕ_discrete numbers sixteen_above f g linear_f.1.0 linear_g.1.0 sides_apart

  module _ (room : ℕ) (xs : List (Bindings setting)) (is : found room f g ≡ answers xs) where
    pub answers_solve : All (Solves setting (field_on left f) (field_on right g)) xs
    answers_solve = searching_sound setting room (field_on left f) (field_on right g) xs equation_linear is

    pub answers_complete : (ρ : Variable Basic ℕ → Con) (m : ℕ → List Con) → WellTyped setting ρ
        → concat_map (ground setting ρ m) (field_on left f) ≡ concat_map (ground setting ρ m) (field_on right g)
        → (σ : Bindings setting) × Memᴰ σ xs × Covers setting (StandsIn setting (field_on left f) (field_on right g)) ρ m σ
    answers_complete = searching_complete setting room (field_on left f) (field_on right g) xs equation_linear is

    pub same_slips : (w : List Con)
        → ((σ : Bindings setting) × Memᴰ σ xs × Instance f σ w)
        ↔ ((e : OurEntry) × Memᴰ e (entries_of (f ∷ []) (g ∷ [])) × Matches e.fields (w ∷ []))
    same_slips = slips.same_slips basics consts ℕ_discrete numbers sixteen_above f g linear_f linear_g sides_apart room xs is

  pub answers_none : (room : ℕ) → found room f g ≡ answers [] → (ρ : Variable Basic ℕ → Con) (m : ℕ → List Con) → WellTyped setting ρ
      → concat_map (ground setting ρ m) (field_on left f) ≡ concat_map (ground setting ρ m) (field_on right g) → ⊥
  answers_none room is = searching_none setting room (field_on left f) (field_on right g) equation_linear is
