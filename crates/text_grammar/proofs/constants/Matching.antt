-- Demand 2's matching for the rules that reading returns, and for slips of any length.
use mathlib.Core.Path.{◌≡◌, refl, sym, ◌∙◌, ap}
use mathlib.Core.Logic.{◌↔◌}
use mathlib.Core.Option.{some, IsSome}
use mathlib.Core.List.{List, [], ◌∷◌, map}
use Prim.Native.Nat.{ℕ}
use native.Mathlib.Decide.{ℕ_discrete}
use Rattle.base_lists.specs.Seqs.{All, Any}
use Rattle.math_types.specs.Types.{Kind, basics}
use Rattle.math_terms.specs.Terms.{con, var}
use Rattle.math_terms.specs.Fillings.{Filling, Typed, fill, Occurs}
use Rattle.math_terms.specs.Matcher.{complete}
use Rattle.math_terms.proofs.Matching as unique
use Rattle.math_terms.proofs.Matcher as right
use Rattle.text_grammar.specs.Terms.{OurTerm, OurFields, terms_of, SlipFields, items_of}
use Rattle.text_grammar.specs.constants.Constants.{Con, consts}
use Rattle.text_grammar.specs.Limits.{Linear, IsCon}
use Rattle.text_grammar.specs.constants.Matching.{constants, Matches, matcher}
use Rattle.text_grammar.proofs.constants.Linear.{left_linear}

-- a slip's field as it is read is its constants
pub constants_are : (f : List OurTerm) → All IsCon f → map con (constants f) ≡ f
constants_are [] h = refl
constants_are (con c ∷ f) h = ap (λ (l : List OurTerm). con c ∷ l) (constants_are f h.1)
constants_are (var k a ∷ f) h = absurd h.0

module _ (rule : OurFields) (linear : Linear rule) (slip : SlipFields) where
  -- DEMAND 2: the matcher says yes exactly when some filling matches
  pub match_iff : Matches rule slip ↔ IsSome (matcher rule slip)
  match_iff = right.match_iff basics consts ℕ_discrete (terms_of rule) (left_linear rule linear) (items_of slip)

  -- document 01: "There is never more than one filling"
  pub match_unique : (φ ψ : Filling Con Kind ℕ) → Typed basics consts φ → Typed basics consts ψ
      → map (fill φ) (terms_of rule) ≡ items_of slip → map (fill ψ) (terms_of rule) ≡ items_of slip
      → (k : Kind) (a : ℕ) → Any (Occurs k a) (terms_of rule) → φ k a ≡ ψ k a
  match_unique φ ψ t u p q = unique.match_unique basics consts φ ψ t u (terms_of rule) (left_linear rule linear).1 (p ∙ sym q)

  module _ (φ : Filling Con Kind ℕ) (yes-φ : matcher rule slip ≡ some φ) where
    -- the fillings that match are those that give the rule's variables the values of the answer
    pub match_is : (θ : Filling Con Kind ℕ) → Typed basics consts θ
        → (map (fill θ) (terms_of rule) ≡ items_of slip) ↔ ((k : Kind) (a : ℕ) → Any (Occurs k a) (terms_of rule) → θ k a ≡ φ k a)
    match_is = right.match_is basics consts ℕ_discrete (terms_of rule) (left_linear rule linear) (items_of slip) φ yes-φ

    -- the answer, completed for the variables that the rule lacks, is one of them
    pub match_yes : Typed basics consts (complete basics consts φ) × (map (fill (complete basics consts φ)) (terms_of rule) ≡ items_of slip)
    match_yes = right.match_yes basics consts ℕ_discrete (terms_of rule) (left_linear rule linear) (items_of slip) φ yes-φ

    -- document 01: "blank for those the rule lacks"
    pub match_blank : (k : Kind) (a : ℕ) → (Any (Occurs k a) (terms_of rule) → ⊥) → φ k a ≡ []
    match_blank = right.match_blank basics consts ℕ_discrete (terms_of rule) (left_linear rule linear) (items_of slip) φ yes-φ
