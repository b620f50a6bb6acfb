-- The entries made on places are the theory's: the same choices in the same order, and arrays that represent their states.
use mathlib.Core.Path.{◌≡◌, refl, ap}
use mathlib.Core.Option.{Option, none, some}
use mathlib.Core.List.{List, [], ◌∷◌, map}
use Prim.Native.Nat.{ℕ}
use lib.ListN.{get_or}
use Rattle.math_types.specs.Order.{Order}
use Rattle.math_terms.specs.Constants.{Consts}
use Rattle.math_terms.specs.Matcher.{and_then}
use Rattle.math_overlaps.specs.Shapes.{Vars, Shape}
use Rattle.math_overlaps.specs.Candidates.{Cand, cands}
use Rattle.math_overlaps.specs.Joins.{At, State, start, resolve, join, joins}
use Rattle.math_overlaps.specs.Entries.{equations, chosen, branch, entries, fields_for}
use Rattle.math_overlaps.specs.Overlaps.{map_shape}
use Rattle.math_codes.specs.Tables.{Holds, Table, Ranks, Made}
use Rattle.math_codes.specs.States.{join_places, joins_places}
use Rattle.math_codes.specs.Entries.{entries_on, code_fields}
use Rattle.math_codes.proofs.Joins.{Codes, Represents, Agrees, represents_start, join_agrees}
use Rattle.math_codes.proofs.Seqs.{Each, Pair, OnShape, each_append, each_map, same_cands, equations_each, fields_on, shape_map}

module _ (O : Order) (C : Consts O) (N : Vars O) (t : List (Option (At O C N))) where
  -- the same choice, and an array that represents the state
  abbrev pub OnEntry : List Cand × List ℕ → List Cand × State O C N → Type 0
  OnEntry e f = (e.0 ≡ f.0) × Represents O C N t e.1 f.1

  -- the place holds the atom
  abbrev pub At-place : ℕ → At O C N → Type 0
  At-place p a = Holds t p a

  -- ---- the entry's fields

  module _ (atoms : List ℕ) (s : State O C N) (h : Represents O C N t atoms s) {L M : Type 0} where
    -- every atom as the state has it, by its code
    pub fields_agree : (Ps : List (Shape ℕ L)) (Ss : List (Shape (At O C N) L)) (Qs : List (Shape ℕ M)) (Ts : List (Shape (At O C N) M)) (cs : List Cand)
        → Each (OnShape At-place) Ps Ss → Each (OnShape At-place) Qs Ts
        → Each (OnShape (Codes O C N t)) (code_fields Ps Qs (cs, atoms)) (map (map_shape (resolve O C N s)) (fields_for 0 Ss Ts cs))
    fields_agree Ps Ss Qs Ts cs i j =
        each_map (OnShape At-place) (OnShape (Codes O C N t)) (map_shape (λ p. get_or atoms p 0)) (map_shape (resolve O C N s))
        (λ P S k. shape_map At-place (Codes O C N t) (λ p. get_or atoms p 0) (resolve O C N s) (λ p a l. h.held p a l) P S k)
        (fields_for 0 Ps Qs cs) (fields_for 0 Ss Ts cs) (fields_on At-place 0 Ps Ss Qs Ts cs i j)

  module _ (R : Ranks O) (T : Table) (m : Made O C N R T t) where
    -- ---- joins

    then_agrees : (o : Option (List ℕ)) (q : Option (State O C N)) (f : List ℕ → Option (List ℕ)) (g : State O C N → Option (State O C N))
        → Agrees O C N t o q → ((atoms : List ℕ) (s : State O C N) → Represents O C N t atoms s → Agrees O C N t (f atoms) (g s))
        → Agrees O C N t (and_then o f) (and_then q g)
    then_agrees none none f g h k = tt
    then_agrees none (some s) f g h k = absurd h
    then_agrees (some atoms) none f g h k = absurd h
    then_agrees (some atoms) (some s) f g h k = k atoms s h

    pub joins_agree : (es : List (ℕ × ℕ)) (fs : List (At O C N × At O C N)) → Each (Pair At-place) es fs → (atoms : List ℕ) (s : State O C N)
        → Represents O C N t atoms s
        → Agrees O C N t (joins_places R.below T es atoms) (joins O C N fs s)
    joins_agree [] [] i atoms s h = h
    joins_agree [] (f ∷ fs) i atoms s h = absurd i
    joins_agree (e ∷ es) [] i atoms s h = absurd i
    joins_agree (e ∷ es) (f ∷ fs) i atoms s h =
        then_agrees (join_places R.below T e.0 e.1 atoms) (join O C N s f.0 f.1) (λ next. joins_places R.below T es next)
        (λ s'. joins O C N fs s')
        (join_agrees O C N t R T m atoms s h e.0 e.1 f.0 f.1 i.0.0 i.0.1) (λ next s' h'. joins_agree es fs i.1 next s' h')

    -- ---- entries

    module _ (k : List ℕ → List (List Cand × List ℕ)) (k' : State O C N → List (List Cand × State O C N))
        (kk : (atoms : List ℕ) (s : State O C N) → Represents O C N t atoms s → Each OnEntry (k atoms) (k' s)) where
      chosen_agrees : (c : Cand) (o : Option (List ℕ)) (q : Option (State O C N)) → Agrees O C N t o q → Each OnEntry (chosen c o k) (chosen c q k')
      chosen_agrees c none none h = tt
      chosen_agrees c none (some s) h = absurd h
      chosen_agrees c (some atoms) none h = absurd h
      chosen_agrees c (some atoms) (some s) h =
          each_map OnEntry OnEntry (λ e. (c ∷ e.0, e.1)) (λ e. (c ∷ e.0, e.1)) (λ e f r. (ap (λ (cs : List Cand). c ∷ cs) r.0, r.1)) (k atoms) (k' s)
          (kk atoms s h)

      branch_agrees : (j : Cand → Option (List ℕ)) (j' : Cand → Option (State O C N)) → ((c : Cand) → Agrees O C N t (j c) (j' c)) → (cs : List Cand)
          → Each OnEntry (branch cs j k) (branch cs j' k')
      branch_agrees j j' jj [] = tt
      branch_agrees j j' jj (c ∷ cs) = each_append OnEntry (chosen c (j c) k) (branch cs j k) (chosen c (j' c) k') (branch cs j' k')
          (chosen_agrees c (j c) (j' c) (jj c)) (branch_agrees j j' jj cs)

    module _ (L M : Type 0) where
      pub entries_agree : (Ps : List (Shape ℕ L)) (Ss : List (Shape (At O C N) L)) (Qs : List (Shape ℕ M)) (Ts : List (Shape (At O C N) M))
          → Each (OnShape At-place) Ps Ss → Each (OnShape At-place) Qs Ts → (atoms : List ℕ) (s : State O C N) → Represents O C N t atoms s
          → Each OnEntry (entries_on R.below T L M Ps Qs atoms) (entries O C N L M Ss Ts s)
      entries_agree [] [] [] [] i j atoms s h = ((refl, h), tt)
      entries_agree [] [] [] (T' ∷ Ts) i j atoms s h = absurd j
      entries_agree [] [] (Q ∷ Qs) [] i j atoms s h = absurd j
      entries_agree [] [] (Q ∷ Qs) (T' ∷ Ts) i j atoms s h = tt
      entries_agree [] (S ∷ Ss) Qs Ts i j atoms s h = absurd i
      entries_agree (P ∷ Ps) [] Qs Ts i j atoms s h = absurd i
      entries_agree (P ∷ Ps) (S ∷ Ss) [] [] i j atoms s h = tt
      entries_agree (P ∷ Ps) (S ∷ Ss) [] (T' ∷ Ts) i j atoms s h = absurd j
      entries_agree (P ∷ Ps) (S ∷ Ss) (Q ∷ Qs) [] i j atoms s h = absurd j
      entries_agree (P ∷ Ps) (S ∷ Ss) (Q ∷ Qs) (T' ∷ Ts) i j atoms s h =
          rw (same_cands At-place P S Q T' i.0 j.0)
          (branch_agrees (λ next. entries_on R.below T L M Ps Qs next) (λ s'. entries O C N L M Ss Ts s')
          (λ next s' h'. entries_agree Ps Ss Qs Ts i.1 j.1 next s' h')
          (λ c. joins_places R.below T (equations P Q c) atoms) (λ c. joins O C N (equations S T' c) s)
          (λ c. joins_agree (equations P Q c) (equations S T' c) (equations_each At-place P S Q T' i.0 j.0 c) atoms s h) (cands S T'))

      -- THE ENTRIES, from the first state on
      pub entries_are : (Ps : List (Shape ℕ L)) (Ss : List (Shape (At O C N) L)) (Qs : List (Shape ℕ M)) (Ts : List (Shape (At O C N) M))
          → Each (OnShape At-place) Ps Ss → Each (OnShape At-place) Qs Ts
          → Each OnEntry (entries_on R.below T L M Ps Qs T.first) (entries O C N L M Ss Ts (start O C N))
      entries_are Ps Ss Qs Ts i j = entries_agree Ps Ss Qs Ts i j T.first (start O C N) (represents_start O C N t R T m)
