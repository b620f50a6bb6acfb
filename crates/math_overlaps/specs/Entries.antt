-- The entries of two rules, as shapes: one candidate a field, nothing killed, the state carried from field to field.
use Rattle.std.proofs.Math.Option.{Option, none, some}
use Rattle.std.specs.Prelude.{List, [], ◌∷◌, ◌++◌, map, ℕ, suc, ◌+◌, ◌-◌, max, length, take, drop, replicate}
use Rattle.math_types.specs.Order.{Order}
use Rattle.math_terms.specs.Constants.{Consts}
use Rattle.math_terms.specs.Matcher.{and_then}
use Rattle.math_overlaps.specs.Shapes.{Vars, Shape, closed, gapped}
use Rattle.math_overlaps.specs.Candidates.{Cand, exact, long, before, wide, cands}
use Rattle.math_overlaps.specs.Joins.{At, State, joins}

-- ---- two fields laid over each other

module _ {A : Type 0} where
  -- n positions: f from the front, t to the end
  abbrev pub grow : ℕ → List A → List A → List (Option A)
  grow n f t = map some f ++ (replicate (n - (length f + length t)) none ++ map some t)

module _ {A L : Type 0} where
  -- the atoms of a field at the positions of n items
  abbrev pub row : ℕ → Shape A L → List (Option A)
  row n (closed xs) = map some xs
  row n (gapped f l t) = grow n f t

module _ {A : Type 0} where
  -- "Atoms that share a position"
  abbrev pub meeting : List (Option A) → List (Option A) → List (A × A)
  meeting [] q = []
  meeting (o ∷ r) [] = []
  meeting (none ∷ r) (p ∷ q) = meeting r q
  meeting (some a ∷ r) (none ∷ q) = meeting r q
  meeting (some a ∷ r) (some b ∷ q) = (a, b) ∷ meeting r q

  -- an atom for each position: the left one, else the right one
  abbrev pub merge : List (Option A) → List (Option A) → List A
  merge [] q = []
  merge (o ∷ r) [] = []
  merge (some a ∷ r) (p ∷ q) = a ∷ merge r q
  merge (none ∷ r) (some b ∷ q) = b ∷ merge r q
  merge (none ∷ r) (none ∷ q) = merge r q

module _ {A L M : Type 0} where
  -- how many atoms the entry's field has
  abbrev pub span : Shape A L → Shape A M → Cand → ℕ
  span S T (exact n) = n
  span S T long = wide S T

  -- the atoms of the entry's field
  abbrev pub cells : Shape A L → Shape A M → Cand → List A
  cells S T c = merge (row (span S T c) S) (row (span S T c) T)

  -- what a candidate joins
  abbrev pub equations : Shape A L → Shape A M → Cand → List (A × A)
  equations S T c = meeting (row (span S T c) S) (row (span S T c) T)

  module _ {G : Type 0} where
    -- the entry's field, its list variable, if it has one, named g and standing behind H atoms
    abbrev pub field_for : G → Shape A L → Shape A M → Cand → Shape A G
    field_for g S T (exact n) = closed (cells S T (exact n))
    field_for g S T long = gapped (take (max (before S) (before T)) (cells S T long)) g (drop (max (before S) (before T)) (cells S T long))

  -- the fields of a choice, their list variables named by their places from g on
  abbrev pub fields_for : ℕ → List (Shape A L) → List (Shape A M) → List Cand → List (Shape A ℕ)
  fields_for g [] Ts cs = []
  fields_for g (S ∷ Ss) [] cs = []
  fields_for g (S ∷ Ss) (T ∷ Ts) [] = []
  fields_for g (S ∷ Ss) (T ∷ Ts) (c ∷ cs) = field_for g S T c ∷ fields_for (suc g) Ss Ts cs

-- ---- the entries, by recursion over the fields

module _ {S : Type 0} where
  -- the candidate c before each of what follows from its state; nothing, if it is killed
  abbrev pub chosen : Cand → Option S → (S → List (List Cand × S)) → List (List Cand × S)
  chosen c none k = []
  chosen c (some s) k = map (λ e. (c ∷ e.0, e.1)) (k s)

  -- each candidate in turn: `j c` is the state after the joins of c, and k lists what follows
  abbrev pub branch : List Cand → (Cand → Option S) → (S → List (List Cand × S)) → List (List Cand × S)
  branch [] j k = []
  branch (c ∷ cs) j k = chosen c (j c) k ++ branch cs j k

module _ (O : Order) (C : Consts O) (N : Vars O) (L M : Type 0) where
  -- "the state is carried from field to field. Choosing a length for one field leads to the next field's choices;
  -- the first field varies slowest. [..] Rules with different field counts have no entries."
  abbrev pub entries : List (Shape (At O C N) L) → List (Shape (At O C N) M) → State O C N → List (List Cand × State O C N)
  entries [] [] s = ([], s) ∷ []
  entries [] (T ∷ Ts) s = []
  entries (S ∷ Ss) [] s = []
  entries (S ∷ Ss) (T ∷ Ts) s = branch (cands S T) (λ c. joins O C N (equations S T c) s) (λ s'. entries Ss Ts s')

-- ---- the same in the document's wording; `entries_are` of proofs/Choices says that it is the same

-- each member of the first list before each of the second
abbrev pub times : List Cand → List (List Cand) → List (List Cand)
times [] r = []
times (c ∷ cs) r = map (λ x. c ∷ x) r ++ times cs r

module _ {A L M : Type 0} where
  -- "A whole choice, one candidate a field", the first field slowest
  abbrev pub choices : List (Shape A L) → List (Shape A M) → List (List Cand)
  choices [] [] = [] ∷ []
  choices [] (T ∷ Ts) = []
  choices (S ∷ Ss) [] = []
  choices (S ∷ Ss) (T ∷ Ts) = times (cands S T) (choices Ss Ts)

module _ (O : Order) (C : Consts O) (N : Vars O) (L M : Type 0) where
  -- the state after all joins of a choice, if nothing kills it
  abbrev pub joined : List (Shape (At O C N) L) → List (Shape (At O C N) M) → List Cand → State O C N → Option (State O C N)
  joined [] [] [] s = some s
  joined [] [] (c ∷ cs) s = none
  joined [] (T ∷ Ts) cs s = none
  joined (S ∷ Ss) [] cs s = none
  joined (S ∷ Ss) (T ∷ Ts) [] s = none
  joined (S ∷ Ss) (T ∷ Ts) (c ∷ cs) s = and_then (joins O C N (equations S T c) s) (λ s'. joined Ss Ts cs s')

module _ {X S : Type 0} where
  abbrev pub keep : X → Option S → List (X × S) → List (X × S)
  keep x none r = r
  keep x (some s) r = (x, s) ∷ r

  -- those that f gives a state, with it
  abbrev pub alive : (X → Option S) → List X → List (X × S)
  alive f [] = []
  alive f (x ∷ xs) = keep x (f x) (alive f xs)
