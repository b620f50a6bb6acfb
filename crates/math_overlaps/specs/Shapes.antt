-- A field with at most one list variable: atoms, perhaps a list variable, atoms. The atoms are those of a pair of rules.
use Rattle.std.specs.Prelude.{◌≡◌, List, [], ◌∷◌, ℕ}
use Rattle.std.proofs.Math.Option.{Option, none, some}
use Rattle.std.proofs.Common.{arith}
use Rattle.math_types.specs.Order.{Order, Full, basic, list}
use Rattle.math_terms.specs.Terms.{Term, con, var}

-- ---- atoms

-- an atom is a constant or a variable of a kind below `list`
pub data Atom (C X : Type 0) : Type 0 where
  fixed : C → Atom C X
  free : X → Atom C X
  deriving Discrete as atom-eq

-- what two atoms that are the same have in common
module _ {C X : Type 0} where
  pub fixed_once : {c d : C} → ◌≡◌ {A = Atom C X} (fixed c) (fixed d) → c ≡ d
  fixed_once e = cc

  pub free_once : {x y : X} → ◌≡◌ {A = Atom C X} (free x) (free y) → x ≡ y
  free_once e = cc

  pub fixed≢free : {c : C} {x : X} → ◌≡◌ {A = Atom C X} (fixed c) (free x) → ⊥
  fixed≢free {c} {x} e = let o : ◌≡◌ {A = ℕ} 0 1 = cc in omega arith

module _ {C X Y : Type 0} where
  -- the value of an atom: of a constant by ι, of a variable by θ
  abbrev pub val : (C → Y) → (X → Y) → Atom C X → Y
  val ι θ (fixed c) = ι c
  val ι θ (free x) = θ x

-- variables: equality is decided, and each has a kind
pub record Vars (O : Order) : Type 1 where
  pub Var : Type 0
  pub var_eq : Discrete Var
  pub sort : Var → O.Kind

pub data Side : Type 0 where
  left right : Side
  deriving Discrete as side-eq

-- "variables are distinct by side even if spelled alike": a variable of a pair of rules has the side, the kind and the name
pub data Variable (K A : Type 0) : Type 0 where
  of : Side → K → A → Variable K A
  deriving Discrete as variable-eq

module _ {K A : Type 0} where
  abbrev pub kind_in : Variable K A → K
  kind_in (of s k a) = k

module _ (O : Order) {A : Type 0} (name_eq : Discrete A) where
  -- the variables of a pair of rules whose names are A
  abbrev pub pair_vars : Vars O
  pair_vars = record { Var = Variable O.Kind A; var_eq = variable-eq side-eq O.kind_eq name_eq; sort = kind_in }

-- ---- shapes

-- over atoms A and list variables L
pub data Shape (A L : Type 0) : Type 0 where
  closed : List A → Shape A L
  gapped : List A → L → List A → Shape A L

module _ {A L : Type 0} where
  -- an atom before the rest of the field
  abbrev pub with_atom : A → Option (Shape A L) → Option (Shape A L)
  with_atom a none = none
  with_atom a (some (closed xs)) = some (closed (a ∷ xs))
  with_atom a (some (gapped f l t)) = some (gapped (a ∷ f) l t)

  -- a list variable before the rest, which must have none
  abbrev pub with_list : L → Option (Shape A L) → Option (Shape A L)
  with_list l none = none
  with_list l (some (closed xs)) = some (gapped [] l xs)
  with_list l (some (gapped f m t)) = none

module _ {S : Type 0} where
  -- all, if there is each
  abbrev pub both : Option S → Option (List S) → Option (List S)
  both none o = none
  both (some s) none = none
  both (some s) (some ss) = some (s ∷ ss)

module _ {C K A : Type 0} where
  -- the shape of a field of the rule on a side; none of one with two list variables
  abbrev pub shape_of : Side → List (Term C (Full K) A) → Option (Shape (Atom C (Variable K A)) A)
  shape_of s [] = some (closed [])
  shape_of s (con c ∷ f) = with_atom (fixed c) (shape_of s f)
  shape_of s (var (basic k) a ∷ f) = with_atom (free (of s k a)) (shape_of s f)
  shape_of s (var list a ∷ f) = with_list a (shape_of s f)

  -- the shapes of a rule's fields
  abbrev pub shapes_of : Side → List (List (Term C (Full K) A)) → Option (List (Shape (Atom C (Variable K A)) A))
  shapes_of s [] = some []
  shapes_of s (f ∷ r) = both (shape_of s f) (shapes_of s r)
