-- The views: which kind a value of the code stands for, and back. They are inverse, so a contract over kinds settles the value.
use Rattle.std.specs.Prelude.{◌≡◌, refl, ◌↔◌, true, cond, ℕ, Option, Some, None}
use Rattle.std.proofs.Common.{ap, ◌∙◌, sym}
use Rattle.std.proofs.Math.Option.{none, some}
use Rattle.std.proofs.Math.Option as math
use Rattle.math_types.specs.Order.{basic, list}
use Rattle.math_types.specs.Types.{leaf, integer, string, atom}
use Rattle.math_types.specs.Types as types
use Rattle.math_types.specs.declared.Kind.{Kind}
use Rattle.math_types.specs.declared.Kind.TheVariants.{Integer, String, Atom, List}

abbrev pub kind_of : Kind → types.Kind
kind_of Integer = basic (leaf integer)
kind_of String = basic (leaf string)
kind_of Atom = basic atom
kind_of List = list

abbrev pub kind_from : types.Kind → Kind
kind_from (basic (leaf integer)) = Integer
kind_from (basic (leaf string)) = String
kind_from (basic atom) = Atom
kind_from list = List

pub kind_of_from : (k : types.Kind) → kind_of (kind_from k) ≡ k
kind_of_from (basic (leaf integer)) = refl
kind_of_from (basic (leaf string)) = refl
kind_of_from (basic atom) = refl
kind_of_from list = refl

pub kind_from_of : (k : Kind) → kind_from (kind_of k) ≡ k
kind_from_of Integer = refl
kind_from_of String = refl
kind_from_of Atom = refl
kind_from_of List = refl

-- of two ranks the lower, where they are comparable
abbrev pub meet_rank : ℕ → ℕ → Option ℕ
meet_rank j k = cond (types.entry j k) (Some j) (cond (types.entry k j) (Some k) None)

-- the code's answer for a meet
abbrev pub meet_of : math.Option types.Kind → Option ℕ
meet_of (some k) = Some (types.rank k)
meet_of none = None

-- kinds are the same exactly where the code's values are
pub same_kind_is : (j k : Kind) → (types.same (kind_of j) (kind_of k) ≡ true) ↔ (j ≡ k)
same_kind_is j k = (
  λ p. sym (kind_from_of j) ∙ ap kind_from ((types.same_is (kind_of j) (kind_of k)).0 p) ∙ kind_from_of k,
  λ e. (types.same_is (kind_of j) (kind_of k)).1 (ap kind_of e),
)
