-- Terms: their forms differ, and each form is one-to-one.
use mathlib.Core.Path.{◌≡◌, subst}
use Rattle.math_search.specs.Problems.{FieldTerm, atomic, listvar}

module _ {A L : Type 0} where
  abbrev IsAtomic : FieldTerm A L → Type 0
  IsAtomic (atomic a) = Unit {0}
  IsAtomic (listvar n) = ⊥

  pub atomic_once : {a b : A} → ◌≡◌ {A = FieldTerm A L} (atomic a) (atomic b) → a ≡ b
  atomic_once p = cc

  pub listvar_once : {m n : L} → ◌≡◌ {A = FieldTerm A L} (listvar m) (listvar n) → m ≡ n
  listvar_once p = cc

  pub atomic≢listvar : {a : A} {n : L} → ◌≡◌ {A = FieldTerm A L} (atomic a) (listvar n) → ⊥
  atomic≢listvar p = subst IsAtomic p tt
