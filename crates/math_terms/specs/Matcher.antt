-- The matcher: matching as it is carried out, with the filling so far handed on from test to test.
-- The tests go from the left and end at the first that fails: the number of fields; then, field by field, first its length, then its atoms.
-- `match_iff`, `match_yes`, `match_is` of proofs/Matcher say that it decides matching and finds the one filling.
use Rattle.std.proofs.Math.Logic.{ite}
use Rattle.std.specs.Prelude.{Bool, cond, List, [], ◌∷◌, ℕ, suc, ◌+◌, ◌-◌, eqb, leb, length, take, drop}
use Rattle.std.proofs.Math.Option.{Option, none, some}
use Rattle.std.proofs.Math.ListN.{get_elem?}
use Rattle.base_lists.specs.Seqs.{both?}
use Rattle.math_types.specs.Order.{Order, Full, basic, list, full-eq}
use Rattle.math_terms.specs.Terms.{Term, con, var}
use Rattle.math_terms.specs.Constants.{Consts, TermOver}
use Rattle.math_terms.specs.Fillings.{Filling, FillingOver}
use Rattle.math_terms.specs.Linear.{lists}

module _ {X Y : Type 0} where
  -- go on if the test before passed
  abbrev pub and_then : Option X → (X → Option Y) → Option Y
  and_then none g = none
  and_then (some x) g = g x

-- ---- lengths

module _ {C K A : Type 0} where
  -- how many terms of a field are atoms
  abbrev pub atoms : List (Term C (Full K) A) → ℕ
  atoms [] = 0
  atoms (con c ∷ f) = suc (atoms f)
  atoms (var (basic k) a ∷ f) = suc (atoms f)
  atoms (var list a ∷ f) = atoms f

  -- how many items of the slip a term takes, if a list variable takes `gap`
  abbrev pub width : ℕ → Term C (Full K) A → ℕ
  width gap (con c) = 1
  width gap (var (basic k) a) = 1
  width gap (var list a) = gap

-- with a list variable at least as many items as atoms, without one exactly as many
abbrev pub room : {A : Type 0} → List A → ℕ → ℕ → Bool
room [] h n = eqb h n
room (a ∷ l) h n = leb h n

module _ {C K A : Type 0} where
  -- a run of n items has room for the field
  abbrev pub has_room : List (Term C (Full K) A) → ℕ → Bool
  has_room f n = room (lists f) (atoms f) n

-- ---- the filling so far

module _ {C K A : Type 0} where
  -- document 01: "blank for those the rule lacks"
  abbrev pub blank : Filling C K A
  blank k a = []

module _ {C K A : Type 0} (kind_eq : Discrete K) (name_eq : Discrete A) where
  -- the variable of kind k and name a has the value w
  abbrev pub bind : K → A → List C → Filling C K A → Filling C K A
  bind k a w φ j b = ite (both? (kind_eq j k) (name_eq b a)) w (φ j b)

-- ---- the tests

module _ (O : Order) (C : Consts O) {A : Type 0} (name_eq : Discrete A) where
  open O use {Kind, kind_eq, le}
  open C use {Con, con_eq, con_kind}

  -- the item c must be the constant d
  abbrev pub same : Con → Con → FillingOver O C A → Option (FillingOver O C A)
  same d c φ = ite (con_eq c d) (some φ) none

  -- the item c for an atom variable, whose value so far is `old`
  abbrev pub meets : Kind → A → List Con → Con → FillingOver O C A → Option (FillingOver O C A)
  -- met first: c must be of its kind, and becomes its value
  meets k a [] c φ = cond (le (con_kind c) k) (some (bind (full-eq kind_eq) name_eq (basic k) a (c ∷ []) φ)) none
  -- met again: c must be its value
  meets k a (d ∷ old) c φ = same d c φ

  -- a term of the rule at item p of the slip's field w
  abbrev pub test : ℕ → List Con → ℕ → TermOver O C A → FillingOver O C A → Option (FillingOver O C A)
  test gap w p (con d) φ = and_then (get_elem? w p) (λ c. same d c φ)
  test gap w p (var (basic k) a) φ = and_then (get_elem? w p) (λ c. meets k a (φ (basic k) a) c φ)
  test gap w p (var list a) φ = some (bind (full-eq kind_eq) name_eq list a (take gap (drop p w)) φ)

  -- the terms of a field from the left, the first at item p
  abbrev pub walk : ℕ → List Con → List (TermOver O C A) → ℕ → FillingOver O C A → Option (FillingOver O C A)
  walk gap w [] p φ = some φ
  walk gap w (t ∷ f) p φ = and_then (test gap w p t φ) (λ ψ. walk gap w f (p + width gap t) ψ)

  -- first the length; then a list variable takes what the atoms leave
  abbrev pub match_field : List (TermOver O C A) → List Con → FillingOver O C A → Option (FillingOver O C A)
  match_field f w φ = cond (has_room f (length w)) (walk (length w - atoms f) w f 0 φ) none

  abbrev pub match_fields : List (List (TermOver O C A)) → List (List Con) → FillingOver O C A → Option (FillingOver O C A)
  match_fields [] [] φ = some φ
  match_fields [] (w ∷ ws) φ = none
  match_fields (f ∷ fs) [] φ = none
  match_fields (f ∷ fs) (w ∷ ws) φ = and_then (match_field f w φ) (λ ψ. match_fields fs ws ψ)

  -- THE MATCHER. Document 01: "Different field counts give no"
  abbrev pub matcher : List (List (TermOver O C A)) → List (List Con) → Option (FillingOver O C A)
  matcher rule slip = cond (eqb (length rule) (length slip)) (match_fields rule slip blank) none

-- ---- the answer as a filling of every variable

module _ (O : Order) (C : Consts O) where
  abbrev pub or_some : O.Kind → List C.Con → List C.Con
  or_some k [] = C.some_of k ∷ []
  or_some k (c ∷ w) = c ∷ w

module _ (O : Order) (C : Consts O) {A : Type 0} where
  -- an atom variable without a value takes the constant that its kind has
  abbrev pub complete : FillingOver O C A → FillingOver O C A
  complete φ (basic k) a = or_some O C k (φ (basic k) a)
  complete φ list a = φ list a
