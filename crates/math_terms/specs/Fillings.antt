-- Fillings: a value for every variable, each by its type, and what a field becomes by one.
use Rattle.std.specs.Prelude.{◌≡◌, ◌⊎◌, true, List, [], ◌∷◌}
use Rattle.math_types.specs.Order.{Order, Full, basic, list}
use Rattle.math_terms.specs.Terms.{Term, con, var}
use Rattle.math_terms.specs.Constants.{Consts}
use Rattle.math_terms.specs.Seqs.{concat_map}

-- a filling (ground substitution) gives each variable, that is a kind and a name, a run of constants
abbrev pub Filling : Type 0 → Type 0 → Type 0 → Type 0
Filling C K A = K → A → List C

abbrev pub FillingOver : (O : Order) → Consts O → Type 0 → Type 0
FillingOver O C A = Filling C.Con (Full O.Kind) A

-- ---- "each by its type" (demand 2)

module _ (O : Order) (C : Consts O) where
  -- the values of a kind: of `list` any run, of a kind below it exactly one constant, whose kind is at or below it
  abbrev pub OfKind : Full O.Kind → List C.Con → Type 0
  OfKind (basic k) w = (c : C.Con) × (w ≡ c ∷ []) × (O.le (C.con_kind c) k ≡ true)
  OfKind list w = Unit {0}

module _ (O : Order) (C : Consts O) {A : Type 0} where
  abbrev pub Typed : FillingOver O C A → Type 0
  Typed φ = (k : Full O.Kind) (a : A) → OfKind O C k (φ k a)

-- ---- filling a field

module _ {C K A : Type 0} where
  abbrev pub value : Filling C K A → Term C K A → List C
  value φ (con c) = c ∷ []
  value φ (var k a) = φ k a

  -- each variable is replaced by its value
  abbrev pub fill : Filling C K A → List (Term C K A) → List C
  fill φ f = concat_map (value φ) f

  -- the variable of kind k and name a stands in f
  abbrev pub Occurs : K → A → List (Term C K A) → Type 0
  Occurs k a [] = ⊥
  Occurs k a (con c ∷ f) = Occurs k a f
  Occurs k a (var j b ∷ f) = ((k ≡ j) × (a ≡ b)) ⊎ Occurs k a f

  -- two fillings give the variables of f the same values
  abbrev pub Agree : Filling C K A → Filling C K A → List (Term C K A) → Type 0
  Agree φ ψ f = (k : K) (a : A) → Occurs k a f → φ k a ≡ ψ k a
