-- Terms: a constant, or a variable of some kind. Over any constants C, kinds K and names A.
-- A field is a list of terms: `empty` is no term of it (document 01: counted as a term in the text, then dropped).
use Rattle.std.specs.Prelude.{◌≡◌, ℕ}
use Rattle.std.proofs.Common.{arith}

pub data Term (C K A : Type 0) : Type 0 where
  con : C → Term C K A
  var : K → A → Term C K A
  deriving Discrete as term-eq

-- what two terms that are the same have in common
module _ {C K A : Type 0} where
  pub con_once : {c d : C} → ◌≡◌ {A = Term C K A} (con c) (con d) → c ≡ d
  con_once e = cc

  pub kind_once : {j k : K} {a b : A} → ◌≡◌ {A = Term C K A} (var j a) (var k b) → j ≡ k
  kind_once e = cc

  pub name_once : {j k : K} {a b : A} → ◌≡◌ {A = Term C K A} (var j a) (var k b) → a ≡ b
  name_once e = cc

  pub con≢var : {c : C} {k : K} {a : A} → ◌≡◌ {A = Term C K A} (con c) (var k a) → ⊥
  con≢var {c} {k} {a} e = let o : ◌≡◌ {A = ℕ} 0 1 = cc in omega arith
