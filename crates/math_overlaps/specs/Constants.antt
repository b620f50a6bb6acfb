-- Terms whose constants are among given ones, as all constants of an accepted rule are among those that can be read.
use Rattle.math_terms.specs.Terms.{Term, con, var}

module _ {C K A : Type 0} where
  abbrev pub ConstantIn : (C → Type 0) → Term C K A → Type 0
  ConstantIn P (con c) = P c
  ConstantIn P (var k a) = Unit {0}
