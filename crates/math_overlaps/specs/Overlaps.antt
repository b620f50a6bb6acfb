-- THE OVERLAP LIST of two rules: the entries' fields in our terms, renumbered, and the values that their lines show.
use Rattle.std.proofs.Math.Logic.{ite}
use Rattle.std.proofs.Math.Option.{Option, none, some}
use Rattle.std.specs.Prelude.{List, [], ◌∷◌, ◌++◌, map, ℕ, zero, suc, ◌+◌, ◌-◌, length, take, drop}
use Rattle.std.proofs.Math.Decide.{ℕ_discrete}
use Rattle.math_types.specs.Order.{Order, Full, basic, list, full-eq}
use Rattle.math_terms.specs.Terms.{Term, con, var}
use Rattle.math_terms.specs.Constants.{Consts, TermOver}
use Rattle.math_terms.specs.Seqs.{concat_map}
use Rattle.math_overlaps.specs.Substitutions.{Subst}
use Rattle.math_overlaps.specs.Shapes.{Atom, fixed, free, Side, left, right, side-eq, Variable, of, pair_vars, Shape, closed, gapped}
use Rattle.math_overlaps.specs.Shapes.{shapes_of}
use Rattle.math_overlaps.specs.Candidates.{Cand}
use Rattle.math_overlaps.specs.Joins.{State, start, resolve}
use Rattle.math_overlaps.specs.Entries.{fields_for, entries}

-- ---- numbers for names

module _ {A : Type 0} (name_eq : Discrete A) where
  -- at which place x stands
  abbrev pub place_of : A → List A → ℕ
  place_of x [] = zero
  place_of x (y ∷ l) = ite (name_eq x y) zero (suc (place_of x l))

  abbrev pub without : A → List A → List A
  without x [] = []
  without x (y ∷ l) = ite (name_eq x y) (without x l) (y ∷ without x l)

  -- each member once, in the order of first occurrence
  abbrev pub firsts : List A → List A
  firsts [] = []
  firsts (x ∷ l) = x ∷ without x (firsts l)

module _ {C K B : Type 0} (kind_eq : Discrete K) where
  -- the names of a field's variables of kind k, from the left
  abbrev pub names_of : K → List (Term C K B) → List B
  names_of k [] = []
  names_of k (con c ∷ f) = names_of k f
  names_of k (var j b ∷ f) = ite (kind_eq k j) (b ∷ names_of k f) (names_of k f)

module _ {C K B : Type 0} (kind_eq : Discrete K) (name_eq : Discrete B) where
  -- "renumbered from 0 in each type, by first occurrence in its fields"
  abbrev pub number : List (List (Term C K B)) → K → B → ℕ
  number fs k b = place_of name_eq b (firsts name_eq (concat_map (names_of kind_eq k) fs))

module _ {C K B D : Type 0} where
  abbrev pub rename : (K → B → D) → Term C K B → Term C K D
  rename ν (con c) = con c
  rename ν (var k b) = var k (ν k b)

-- ---- an entry's fields as terms, before the renumbering

-- names there: those of the two rules, kept apart, and for list variables the fields' places
pub data Origin (A : Type 0) : Type 0 where
  named : Side → A → Origin A
  place : ℕ → Origin A
  deriving Discrete as origin-eq

module _ {C K A : Type 0} where
  abbrev pub term_of : Atom C (Variable K A) → Term C (Full K) (Origin A)
  term_of (fixed c) = con c
  term_of (free (of s k a)) = var (basic k) (named s a)

  abbrev pub field_of : Shape (Atom C (Variable K A)) ℕ → List (Term C (Full K) (Origin A))
  field_of (closed xs) = map term_of xs
  field_of (gapped f g t) = map term_of f ++ var list (place g) ∷ map term_of t

module _ {A B L : Type 0} where
  abbrev pub map_shape : (A → B) → Shape A L → Shape B L
  map_shape f (closed xs) = closed (map f xs)
  map_shape f (gapped p l t) = gapped (map f p) l (map f t)

-- ---- the values of the list variables, read off their places

module _ {Y : Type 0} where
  -- the items of w between the first p and the last q
  abbrev pub middle : ℕ → ℕ → List Y → List Y
  middle p q w = take (length w - (p + q)) (drop p w)

module _ {A L Y : Type 0} (name_eq : Discrete L) where
  -- none for a variable that the rule lacks
  abbrev pub run_of : List (Shape A L) → List (List Y) → L → List Y
  run_of [] ws l = []
  run_of (S ∷ Ss) [] l = []
  run_of (closed xs ∷ Ss) (w ∷ ws) l = run_of Ss ws l
  run_of (gapped f m t ∷ Ss) (w ∷ ws) l = ite (name_eq l m) (middle (length f) (length t) w) (run_of Ss ws l)

-- ---- the list

-- "A line is: the entry's fields in plain text, then for each variable of the left rule a blank, `<`, name, `=`, value;
-- then the same with `>` for the right rule": the fields and the values, over the renumbered names
-- An entry is a most general common instance of the two left sides (the overlap of a critical pair).
pub record Entry (O : Order) (C : Consts O) (A : Type 0) : Type 0 where
  pub fields : List (List (TermOver O C ℕ))
  pub left : Subst C.Con (Full O.Kind) A ℕ
  pub right : Subst C.Con (Full O.Kind) A ℕ

module _ (O : Order) (C : Consts O) {A : Type 0} (name_eq : Discrete A) where
  abbrev pub PairShape : Type 0
  PairShape = Shape (Atom C.Con (Variable O.Kind A)) A

  abbrev pub PairState : Type 0
  PairState = State O C (pair_vars O name_eq)

  -- a choice and its last state: its fields, every atom as the state has it
  abbrev pub origin_fields : List PairShape → List PairShape → List Cand × PairState → List (List (TermOver O C (Origin A)))
  origin_fields Ss Ts e = map field_of (map (map_shape (resolve O C (pair_vars O name_eq) e.1)) (fields_for 0 Ss Ts e.0))

  -- the values of the variables of the rule on a side: of atom variables by the state, of list variables by their places
  abbrev pub origin_value : Side → List PairShape → PairState
      → List (List (TermOver O C (Origin A))) → Subst C.Con (Full O.Kind) A (Origin A)
  origin_value d Ss s fs (basic k) a = term_of (s (of d k a)) ∷ []
  origin_value d Ss s fs list a = run_of name_eq Ss fs a

  -- the numbers for the names of an entry's fields
  abbrev pub numbers_of : List (List (TermOver O C (Origin A))) → Full O.Kind → Origin A → ℕ
  numbers_of fs = number (full-eq O.kind_eq) (origin-eq side-eq name_eq ℕ_discrete) fs

  -- an entry as its line shows it; fs are its fields before the renumbering
  abbrev pub renumbered : List PairShape → List PairShape → PairState → List (List (TermOver O C (Origin A))) → Entry O C A
  renumbered Ss Ts s fs =
      record {
        fields = map (map (rename (numbers_of fs))) fs;
        left = λ k a. map (rename (numbers_of fs)) (origin_value left Ss s fs k a);
        right = λ k a. map (rename (numbers_of fs)) (origin_value right Ts s fs k a);
      }

  abbrev pub shown : List PairShape → List PairShape → List Cand × PairState → Entry O C A
  shown Ss Ts e = renumbered Ss Ts e.1 (origin_fields Ss Ts e)

  abbrev pub listed : Option (List PairShape) → Option (List PairShape) → List (Entry O C A)
  listed none o = []
  listed (some Ss) none = []
  listed (some Ss) (some Ts) = map (shown Ss Ts) (entries O C (pair_vars O name_eq) A A Ss Ts (start O C (pair_vars O name_eq)))

  -- THE LIST. "A whole choice, one candidate a field with nothing killed, is an entry; the entries stand in this order."
  -- A rule with two list variables in a field, which no reading returns, has no entries.
  abbrev pub overlaps : List (List (TermOver O C A)) → List (List (TermOver O C A)) → List (Entry O C A)
  overlaps r₁ r₂ = listed (shapes_of left r₁) (shapes_of right r₂)
