-- Items stand for the terms of an entry's fields and of the values, before the renumbering.
use mathlib.Core.Path.{◌≡◌, refl, sym, ap, ◌∙◌}
use mathlib.Core.Logic.{inl, inr, ite}
use mathlib.Core.Option.{Option, none, some, none-ne-some, some-injective}
use mathlib.Core.List.{List, [], ◌∷◌, map}
use Prim.Native.Nat.{ℕ, zero, suc, ◌+◌, ◌-◌, ◌≤◌, ◌<◌}
use native.Mathlib.Omega.{arith}
use native.Mathlib.Decide.{dec_lt}
use lib.ListN.{length, get_or, take, drop, length-map, get_or-map, get_or-append}
use lib.Seq.{get_or-append-add}
use Rattle.base_lists.specs.Seqs.{All, Any}
use Rattle.math_types.specs.Order.{Order, Full, basic, list}
use Rattle.math_terms.specs.Terms.{Term, con, var, con_once, con≢var, kind_once}
use Rattle.math_terms.specs.Constants.{Consts, TermOver}
use Rattle.math_terms.specs.Fillings.{Occurs}
use Rattle.math_overlaps.specs.Shapes.{Atom, fixed, free, Side, Variable, of, Vars, pair_vars, Shape, closed, gapped}
use Rattle.math_overlaps.specs.Candidates.{Cand, range, exact, long}
use Rattle.math_overlaps.specs.Joins.{At, resolve}
use Rattle.math_overlaps.specs.Entries.{fields_for}
use Rattle.math_overlaps.specs.Overlaps.{Origin, place, term_of, field_of, map_shape, middle, run_of, PairShape, PairState, origin_fields, origin_value}
use Rattle.math_codes.specs.Tables.{Holds, code_of, IsCode, same}
use Rattle.math_codes.specs.Entries.{code_fields}
use Rattle.math_codes.specs.Items.{shown_at, terms_row, items_of, entry_items, value_items}
use Rattle.math_codes.proofs.Tables.{holds_below, holds_once, code_holds, code_first, code_found}
use Rattle.math_codes.proofs.Seqs.{Each, OnShape, each_length, each_append, each_take, each_drop}
use Rattle.math_codes.proofs.Joins.{Codes, Represents}
use Rattle.math_codes.proofs.Entries.{At-place, fields_agree}
use Rattle.math_codes.proofs.Places.{Stands, StandAll}

pub range_at : {X : Type 0} (f : ℕ → X) (a k i : ℕ) (d : X) → i < k → get_or (map f (range a k)) i d ≡ f (a + i)
range_at f a zero i d h = absurd (omega arith)
range_at f a (suc k) zero d h = ap f (let e : a ≡ a + 0 = omega arith in e)
range_at f a (suc k) (suc i) d h = range_at f (suc a) k i d (omega arith) ∙ ap f (let e : suc a + i ≡ a + suc i = omega arith in e)

-- ---- the terms of atoms

module _ {C K A : Type 0} where
  term_once : (a b : Atom C (Variable K A)) → term_of a ≡ term_of b → a ≡ b
  term_once (fixed c) (fixed d) e = ap fixed (con_once e)
  term_once (fixed c) (free (of s k m)) e = absurd (con≢var e)
  term_once (free (of s k m)) (fixed d) e = absurd (con≢var (sym e))
  term_once (free (of s k m)) (free (of s' k' m')) e = cc

  -- an atom's term is no list variable
  term_atom : (a : Atom C (Variable K A)) (x : Origin A) → term_of a ≡ var list x → ⊥
  term_atom (fixed c) x e = con≢var e
  term_atom (free (of s k m)) x e = let q = kind_once e in let o : ◌≡◌ {A = ℕ} 0 1 = cc in omega arith

  pub shown_some : (o : Option (Atom C (Variable K A))) (u : Term C (Full K) (Origin A)) → shown_at o ≡ some u
      → (a : Atom C (Variable K A)) × (o ≡ some a) × (term_of a ≡ u)
  shown_some none u e = absurd (none-ne-some u e)
  shown_some (some a) u e = (a, refl, some-injective (term_of a) u e)

  -- ---- the table of terms

  module _ (t : List (Option (Atom C (Variable K A)))) (h : ℕ) where
    at_atom : (p : ℕ) → p < length t → get_or (terms_row t h) p none ≡ shown_at (get_or t p none)
    at_atom p l = get_or-append (map shown_at t) (map (λ g. some (var list (place g))) (range 0 h)) none p (omega (arith, length-map t shown_at))
        ∙ get_or-map shown_at t p none

    at_list : (g : ℕ) → g < h → get_or (terms_row t h) (length t + g) none ≡ some (var list (place g))
    at_list g l =
        ap (λ (n : ℕ). get_or (terms_row t h) (n + g) none) (sym (length-map t shown_at))
        ∙ get_or-append-add (map shown_at t) (map (λ g. some (var list (place g))) (range 0 h)) g none
        ∙ range_at (λ g. some (var list (place g))) 0 h g none l
        ∙ ap (λ (n : ℕ). some (var list (place n))) (let e : 0 + g ≡ g = omega arith in e)

    pub atom_there : (p : ℕ) (a : Atom C (Variable K A)) → Holds t p a → Holds (terms_row t h) p (term_of a)
    atom_there p a i = at_atom p (holds_below t p a i) ∙ ap shown_at i

    module _ (d : Discrete (Atom C (Variable K A))) (d' : Discrete (Term C (Full K) (Origin A))) where
      -- an atom's code is its term's
      pub atom_item : (c : ℕ) (a : Atom C (Variable K A)) → IsCode d t c a → IsCode d' (terms_row t h) c (term_of a)
      atom_item c a i = (atom_there c a i.0, code_found d' (terms_row t h) c (term_of a) (atom_there c a i.0) first)
        where
          first : (q : ℕ) → q < c → Holds (terms_row t h) q (term_of a) → ⊥
          first q l k =
              let b = shown_some (get_or t q none) (term_of a) (sym (at_atom q (let z = holds_below t c a i.0 in omega arith)) ∙ k) in
              let f = code_first d t q a (b.1 ∙ ap some (term_once b.0 a b.2)) in
              omega (arith, i.1)

      -- the list variables have theirs behind
      pub list_item : (g : ℕ) → g < h → IsCode d' (terms_row t h) (length t + g) (var list (place g))
      list_item g l = (at_list g l, code_found d' (terms_row t h) (length t + g) (var list (place g)) (at_list g l) first)
        where
          first : (q : ℕ) → q < length t + g → Holds (terms_row t h) q (var list (place g)) → ⊥
          first q m k = go (dec_lt q (length t))
            where
              go : Dec (q < length t) → ⊥
              go (yes z) = let b = shown_some (get_or t q none) (var list (place g)) (sym (at_atom q z) ∙ k) in term_atom b.0 (place g) b.2
              go (no z) =
                  let r = q - length t in
                  let e : length t + r ≡ q = omega arith in
                  let s = holds_once (terms_row t h) q (var list (place r)) (var list (place g))
                  (ap (λ (n : ℕ). get_or (terms_row t h) n none) (sym e) ∙ at_list r (omega arith)) k in
                  let o : r ≡ g = cc in omega arith

-- ---- an entry's list variables are named by its fields' places

module _ {A : Type 0} where
  abbrev GapBelow : ℕ → Shape A ℕ → Type 0
  GapBelow h (closed xs) = Unit {0}
  GapBelow h (gapped f g t) = g < h

module _ {A L M : Type 0} where
  fields_below : (h g : ℕ) (Ss : List (Shape A L)) (Ts : List (Shape A M)) (cs : List Cand) → g + length Ss ≤ h → All (GapBelow h) (fields_for g Ss Ts cs)
  fields_below h g [] Ts cs l = tt
  fields_below h g (S ∷ Ss) [] cs l = tt
  fields_below h g (S ∷ Ss) (T ∷ Ts) [] l = tt
  fields_below h g (S ∷ Ss) (T ∷ Ts) (exact n ∷ cs) l = (tt, fields_below h (suc g) Ss Ts cs (omega arith))
  fields_below h g (S ∷ Ss) (T ∷ Ts) (long ∷ cs) l = (omega arith, fields_below h (suc g) Ss Ts cs (omega arith))

module _ {A B : Type 0} (f : A → B) (h : ℕ) where
  map_below : (Ss : List (Shape A ℕ)) → All (GapBelow h) Ss → All (GapBelow h) (map (map_shape f) Ss)
  map_below [] l = tt
  map_below (closed xs ∷ Ss) l = (tt, map_below Ss l.1)
  map_below (gapped p g q ∷ Ss) l = (l.0, map_below Ss l.1)

-- ---- runs

module _ {X Y A B L : Type 0} (R : X → Y → Type 0) (Q : A → B → Type 0) (name_eq : Discrete L) where
  pub run_each : (Ps : List (Shape A L)) (Ss : List (Shape B L)) → Each (OnShape Q) Ps Ss → (is : List (List X)) (fs : List (List Y)) → Each (Each R) is fs
      → (l : L)
      → Each R (run_of name_eq Ps is l) (run_of name_eq Ss fs l)
  run_each [] [] h is fs k l = tt
  run_each [] (S ∷ Ss) h is fs k l = absurd h
  run_each (P ∷ Ps) [] h is fs k l = absurd h
  run_each (P ∷ Ps) (S ∷ Ss) h [] [] k l = tt
  run_each (P ∷ Ps) (S ∷ Ss) h [] (f ∷ fs) k l = absurd k
  run_each (P ∷ Ps) (S ∷ Ss) h (i ∷ is) [] k l = absurd k
  run_each (closed xs ∷ Ps) (closed ys ∷ Ss) h (i ∷ is) (f ∷ fs) k l = run_each Ps Ss h.1 is fs k.1 l
  run_each (closed xs ∷ Ps) (gapped p m q ∷ Ss) h (i ∷ is) (f ∷ fs) k l = absurd h.0
  run_each (gapped p m q ∷ Ps) (closed ys ∷ Ss) h (i ∷ is) (f ∷ fs) k l = absurd h.0
  run_each (gapped p m q ∷ Ps) (gapped p' m' q' ∷ Ss) h (i ∷ is) (f ∷ fs) k l =
      rw (h.0.1, each_length Q p p' h.0.0, each_length Q q q' h.0.2, each_length R i f k.0)
      (go (name_eq l m') (run_each Ps Ss h.1 is fs k.1 l))
    where
      go : (d : Dec (l ≡ m')) → Each R (run_of name_eq Ps is l) (run_of name_eq Ss fs l)
          → Each R (ite d (take (length f - (length p' + length q')) (drop (length p') i)) (run_of name_eq Ps is l))
          (ite d (middle (length p') (length q') f) (run_of name_eq Ss fs l))
      go (yes e) rec = each_take R (length f - (length p' + length q')) (drop (length p') i) (drop (length p') f) (each_drop R (length p') i f k.0)
      go (no n) rec = rec

-- ---- the entry's fields and the values

module _ (O : Order) (C : Consts O) {A : Type 0} (name_eq : Discrete A) (d' : Discrete (TermOver O C (Origin A)))
    (t : List (Option (At O C (pair_vars O name_eq)))) (h : ℕ) where
  abbrev N : Vars O
  N = pair_vars O name_eq

  abbrev pub Items : ℕ → TermOver O C (Origin A) → Type 0
  Items c u = IsCode d' (terms_row t h) c u

  atoms_items : (cs : List ℕ) (bs : List (At O C N)) → Each (Codes O C N t) cs bs → Each Items cs (map term_of bs)
  atoms_items [] [] i = tt
  atoms_items [] (a ∷ bs) i = absurd i
  atoms_items (c ∷ cs) [] i = absurd i
  atoms_items (c ∷ cs) (a ∷ bs) i = (atom_item t h (same O C N) d' c a i.0, atoms_items cs bs i.1)

  field_items_lem : (P : Shape ℕ ℕ) (S : Shape (At O C N) ℕ) → OnShape (Codes O C N t) P S → GapBelow h S → Each Items (items_of (length t) P) (field_of S)
  field_items_lem (closed xs) (closed ys) i l = atoms_items xs ys i
  field_items_lem (closed xs) (gapped p g q) i l = absurd i
  field_items_lem (gapped p g q) (closed ys) i l = absurd i
  field_items_lem (gapped p g q) (gapped p' g' q') i l =
      rw i.1
      (each_append Items p ((length t + g') ∷ q) (map term_of p') (var list (place g') ∷ map term_of q') (atoms_items p p' i.0)
      (list_item t h (same O C N) d' g' l, atoms_items q q' i.2))

  fields_items : (Ps : List (Shape ℕ ℕ)) (Ss : List (Shape (At O C N) ℕ)) → Each (OnShape (Codes O C N t)) Ps Ss → All (GapBelow h) Ss
      → Each (Each Items) (map (items_of (length t)) Ps) (map field_of Ss)
  fields_items [] [] i l = tt
  fields_items [] (S ∷ Ss) i l = absurd i
  fields_items (P ∷ Ps) [] i l = absurd i
  fields_items (P ∷ Ps) (S ∷ Ss) i l = (field_items_lem P S i.0 l.0, fields_items Ps Ss i.1 l.1)

  module _ (Ps : List (Shape ℕ A)) (Ss : List (PairShape O C name_eq)) (Qs : List (Shape ℕ A)) (Ts : List (PairShape O C name_eq))
      (i : Each (OnShape (At-place O C N t)) Ps Ss) (j : Each (OnShape (At-place O C N t)) Qs Ts) (l : length Ss ≤ h)
      (cs : List Cand) (atoms : List ℕ) (s : PairState O C name_eq) (r : Represents O C N t atoms s) where
    -- THE FIELDS of an entry
    pub entry_items_lem : Each (Each Items) (entry_items (length t) Ps Qs (cs, atoms)) (origin_fields O C name_eq Ss Ts (cs, s))
    entry_items_lem =
        fields_items (code_fields Ps Qs (cs, atoms)) (map (map_shape (resolve O C N s)) (fields_for 0 Ss Ts cs))
        (fields_agree O C N t atoms s r Ps Ss Qs Ts cs i j)
        (map_below (resolve O C N s) h (fields_for 0 Ss Ts cs) (fields_below h 0 Ss Ts cs (omega arith)))

    -- THE VALUES of the variables of the rule on a side
    module _ (d : Side) (Ws : List (Shape ℕ A)) (Us : List (PairShape O C name_eq)) (k : Each (OnShape (At-place O C N t)) Ws Us) where
      pub atom_value_lem : (n : O.Kind) (a : A) (p : ℕ) → Holds t p (free (of d n a))
          → Each Items (value_items O C name_eq t d Ws atoms (entry_items (length t) Ps Qs (cs, atoms)) (basic n) a)
          (origin_value O C name_eq d Us s (origin_fields O C name_eq Ss Ts (cs, s)) (basic n) a)
      atom_value_lem n a p q =
          let c = code_of (same O C N) t (free (of d n a)) in
          (atom_item t h (same O C N) d' (get_or atoms c 0) (s (of d n a)) (r.held c (free (of d n a)) (code_holds (same O C N) t p (free (of d n a)) q)), tt)

      pub list_value : (a : A)
          → Each Items (value_items O C name_eq t d Ws atoms (entry_items (length t) Ps Qs (cs, atoms)) list a)
          (origin_value O C name_eq d Us s (origin_fields O C name_eq Ss Ts (cs, s)) list a)
      list_value a = run_each Items (At-place O C N t) name_eq Ws Us k (entry_items (length t) Ps Qs (cs, atoms))
          (origin_fields O C name_eq Ss Ts (cs, s)) entry_items_lem a

-- ---- a variable of a rule stands in the table

module _ {C K A : Type 0} where
  there_field : (t : List (Option (Atom C (Variable K A)))) (s : Side) (k : K) (a : A) (b : ℕ) (f : List (Term C (Full K) A)) → Stands t s b f
      → Occurs (basic k) a f → (p : ℕ) × Holds t p (free (of s k a))
  there_field t s k a b (con c ∷ f) h o = there_field t s k a (suc b) f h.1 o
  there_field t s k a b (var (basic j) m ∷ f) h (inl e) = (
    b,
    h.0 ∙ (let q = e.0 in let r = e.1 in let z : ◌≡◌ {A = Option (Atom C (Variable K A))} (some (free (of s j m)))
        (some (free (of s k a))) = cc in z),
  )
  there_field t s k a b (var (basic j) m ∷ f) h (inr o) = there_field t s k a (suc b) f h.1 o
  there_field t s k a b (var list m ∷ f) h (inl e) = let q = e.0 in let o : ◌≡◌ {A = ℕ} 0 1 = cc in absurd (omega arith)
  there_field t s k a b (var list m ∷ f) h (inr o) = there_field t s k a (suc b) f h.1 o
  there_field t s k a b [] h o = elim o [ ]

  pub there : (t : List (Option (Atom C (Variable K A)))) (s : Side) (k : K) (a : A) (w b : ℕ) (r : List (List (Term C (Full K) A))) → StandAll t s w b r
      → Any (Occurs (basic k) a) r
      → (p : ℕ) × Holds t p (free (of s k a))
  there t s k a w b (f ∷ r) h (inl o) = there_field t s k a b f h.0 o
  there t s k a w b (f ∷ r) h (inr o) = there t s k a w (b + w) r h.1 o
  there t s k a w b [] h x'' = elim x'' [ ]
