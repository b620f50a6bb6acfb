-- Matching of document 01's rules and slips: the theory's definitions at its constants.
use Rattle.std.proofs.Math.Option.{Option}
use Rattle.std.specs.Prelude.{List, [], ◌∷◌, ℕ}
use Rattle.std.proofs.Math.Decide.{ℕ_discrete}
use Rattle.math_types.specs.Types.{Kind, basics}
use Rattle.math_terms.specs.Terms.{con, var}
use Rattle.math_terms.specs.Fillings.{Filling}
use Rattle.math_terms.specs.Matching as definition
use Rattle.math_terms.specs.Matcher as executable
use Rattle.math_terms.specs.Compared as counted
use Rattle.text_grammar.specs.Terms.{OurField, OurFields, terms_of, SlipFields, items_of}
use Rattle.text_grammar.specs.constants.Constants.{Con, consts}

-- a slip's field as it is read, without variables: its constants
abbrev pub constants : OurField → List Con
constants [] = []
constants (con c ∷ f) = c ∷ constants f
constants (var k a ∷ f) = constants f

-- demand 2's matching
abbrev pub Matches : OurFields → SlipFields → Type 0
Matches rule slip = definition.Matches basics consts (terms_of rule) (items_of slip)

-- the filling that matches, if there is one
abbrev pub matcher : OurFields → SlipFields → Option (Filling Con Kind ℕ)
matcher rule slip = executable.matcher basics consts ℕ_discrete (terms_of rule) (items_of slip)

-- the tests in their order, and how many of the slip's items they compare up to the first that fails
abbrev pub tests : OurFields → SlipFields → List counted.Test
tests rule slip = counted.tests basics consts ℕ_discrete (terms_of rule) (items_of slip)

abbrev pub compared : OurFields → SlipFields → ℕ
compared rule slip = counted.compared basics consts ℕ_discrete (terms_of rule) (items_of slip)
