-- The numbers of an entry's variables: in each type 0, 1, 2, .. by first occurrence, and no more than there are names.
use mathlib.Core.Path.{◌≡◌, refl, sym, ◌∙◌, ap, ap₂, subst as along}
use mathlib.Core.Logic.{◌⊎◌, inl, inr, ite, if_pos, if_neg}
use mathlib.Core.Option.{some, some-injective}
use mathlib.Core.List.{List, [], ◌∷◌, ◌++◌, map, map-map, map-append}
use mathlib.Core.List.Memᴰ
use mathlib.Core.List.{Memᴰ}
use Prim.Native.Nat.{ℕ, zero, suc, ◌+◌, ◌≤◌, ◌<◌}
use native.Mathlib.Omega.{arith}
use native.Mathlib.Decide.{ℕ_discrete}
use lib.ListN.{length, get_elem?, length-append, length-map}
use Rattle.base_lists.specs.Seqs.{All, Any, all_append, all_mem}
use Rattle.math_types.specs.Order.{Order, Full, basic, list, full-eq, list≢basic}
use Rattle.math_terms.specs.Terms.{Term, con, var}
use Rattle.math_terms.specs.Constants.{Consts, TermOver}
use Rattle.math_terms.specs.Seqs.{concat_map, Distinct}
use Rattle.math_terms.specs.Fillings.{Occurs}
use Rattle.math_overlaps.specs.Shapes.{Atom, fixed, free, Side, left, right, side-eq, Variable, of, pair_vars, Shape, closed, gapped, shapes_of}
use Rattle.math_overlaps.specs.Candidates.{Cand, range}
use Rattle.math_overlaps.specs.Joins.{resolve}
use Rattle.math_overlaps.specs.Entries.{fields_for}
use Rattle.math_overlaps.specs.Overlaps.{place_of, without, firsts, names_of, number, rename, Origin, named, place, origin-eq, term_of, field_of, map_shape}
use Rattle.math_overlaps.specs.Overlaps.{PairShape}
use Rattle.math_overlaps.specs.Overlaps.{PairState, origin_fields, shown}
use Rattle.math_overlaps.proofs.Seqs.{pigeon}
use Rattle.math_overlaps.proofs.Renumbered.{in_firsts, at_place, in_all_names}
use Rattle.math_overlaps.proofs.Kept.{Every, OnTerm, rule_every, entry_every}
use Rattle.math_overlaps.proofs.Listed.{raw}

-- ---- each member once

module _ {A : Type 0} (d : Discrete A) where
  without_in : (x z : A) (l : List A) → Memᴰ z (without d x l) → (x ≡ z → ⊥) × Memᴰ z l
  without_in x z [] i = absurd (Memᴰ.not-nil i)
  without_in x z (y ∷ l) i = go (d x y) i (λ j. without_in x z l j)
    where
      first : (x ≡ y → ⊥) → (z ≡ y) ⊎ Memᴰ z (without d x l)
          → (Memᴰ z (without d x l) → (x ≡ z → ⊥) × Memᴰ z l) → (x ≡ z → ⊥) × Memᴰ z (y ∷ l)
      first n (inl e) rec = (λ p. n (p ∙ e), Memᴰ.head e)
      first n (inr j) rec = let r = rec j in (r.0, Memᴰ.tail r.1)

      go : (q : Dec (x ≡ y)) → Memᴰ z (ite q (without d x l) (y ∷ without d x l))
          → (Memᴰ z (without d x l) → (x ≡ z → ⊥) × Memᴰ z l) → (x ≡ z → ⊥) × Memᴰ z (y ∷ l)
      go (yes e) j rec = let r = rec j in (r.0, Memᴰ.tail r.1)
      go (no n) j rec = first n (Memᴰ.cases_cons j) rec

  without_distinct : (x : A) (l : List A) → Distinct l → Distinct (without d x l)
  without_distinct x [] h = tt
  without_distinct x (y ∷ l) h = go (d x y) (without_distinct x l h.1)
    where
      go : (q : Dec (x ≡ y)) → Distinct (without d x l) → Distinct (ite q (without d x l) (y ∷ without d x l))
      go (yes e) r = r
      go (no n) r = (λ i. h.0 (without_in x y l i).1, r)

  pub firsts_in : (z : A) (l : List A) → Memᴰ z (firsts d l) → Memᴰ z l
  firsts_in z [] i = i
  firsts_in z (x ∷ l) i = go (Memᴰ.cases_cons i) (λ j. firsts_in z l j)
    where
      go : (z ≡ x) ⊎ Memᴰ z (without d x (firsts d l)) → (Memᴰ z (firsts d l) → Memᴰ z l) → Memᴰ z (x ∷ l)
      go (inl e) rec = Memᴰ.head e
      go (inr j) rec = Memᴰ.tail (rec (without_in x z (firsts d l) j).1)

  pub firsts_distinct : (l : List A) → Distinct (firsts d l)
  firsts_distinct [] = tt
  firsts_distinct (x ∷ l) = (λ i. (without_in x x (firsts d l) i).0 refl, without_distinct x (firsts d l) (firsts_distinct l))

  place_below : (x : A) (l : List A) → Memᴰ x l → place_of d x l < length l
  place_below x [] i = absurd (Memᴰ.not-nil i)
  place_below x (y ∷ l) i = go (d x y) (Memᴰ.cases_cons i) (λ j. place_below x l j)
    where
      go : (q : Dec (x ≡ y)) → (x ≡ y) ⊎ Memᴰ x l → (Memᴰ x l → place_of d x l < length l) → ite q zero (suc (place_of d x l)) < suc (length l)
      go (yes e) p rec = omega arith
      go (no n) (inl p) rec = absurd (n p)
      go (no n) (inr j) rec = let r = rec j in omega arith

module _ {A B : Type 0} where
  map_agree : (f g : A → B) (l : List A) → ((x : A) → Memᴰ x l → f x ≡ g x) → map f l ≡ map g l
  map_agree f g [] h = refl
  map_agree f g (x ∷ l) h = ap₂ (λ (y : B) (r : List B). y ∷ r) (h x (Memᴰ.head refl)) (map_agree f g l (λ y i. h y (Memᴰ.tail i)))

  module _ (d : Discrete A) (d' : Discrete B) (f : A → B) where
    without_map : (x : A) (l : List A) → ((y : A) → Memᴰ y l → f x ≡ f y → x ≡ y) → without d' (f x) (map f l) ≡ map f (without d x l)
    without_map x [] h = refl
    without_map x (y ∷ l) h = go (d' (f x) (f y)) (d x y) (without_map x l (λ z i. h z (Memᴰ.tail i)))
      where
        go : (q : Dec (f x ≡ f y)) (q' : Dec (x ≡ y)) → without d' (f x) (map f l) ≡ map f (without d x l)
            → ite q (without d' (f x) (map f l)) (f y ∷ without d' (f x) (map f l)) ≡ map f (ite q' (without d x l) (y ∷ without d x l))
        go (yes e) (yes p) rec = rec
        go (yes e) (no n) rec = absurd (n (h y (Memᴰ.head refl) e))
        go (no n) (yes p) rec = absurd (n (ap f p))
        go (no n) (no m) rec = ap (λ (r : List B). f y ∷ r) rec

    -- a map that is one-to-one on the members keeps the order of first occurrence
    firsts_map : (l : List A) → ((x y : A) → Memᴰ x l → Memᴰ y l → f x ≡ f y → x ≡ y) → firsts d' (map f l) ≡ map f (firsts d l)
    firsts_map [] h = refl
    firsts_map (x ∷ l) h = ap (λ (r : List B). f x ∷ r)
        (ap (without d' (f x)) (firsts_map l (λ y z i j. h y z (Memᴰ.tail i) (Memᴰ.tail j)))
        ∙ without_map x (firsts d l) (λ y i. h x y (Memᴰ.head refl) (Memᴰ.tail (firsts_in d y l i))))

range_suc : (a n : ℕ) → map suc (range a n) ≡ range (suc a) n
range_suc a zero = refl
range_suc a (suc n) = ap (λ (r : List ℕ). suc a ∷ r) (range_suc (suc a) n)

module _ {A : Type 0} (d : Discrete A) where
  -- the members of a list stand at the places 0, 1, 2, ..
  places : (l : List A) → Distinct l → map (λ x. place_of d x l) l ≡ range 0 (length l)
  places [] h = refl
  places (y ∷ l) h = ap₂ (λ (n : ℕ) (r : List ℕ). n ∷ r) (if_pos (d y y) refl zero (suc (place_of d y l)))
      (map_agree (λ x. place_of d x (y ∷ l)) (λ x. suc (place_of d x l)) l
      (λ x i. if_neg (d x y) (λ e. h.0 (along (λ (z : A). Memᴰ z l) e i)) zero (suc (place_of d x l)))
      ∙ sym (map-map suc (λ x. place_of d x l) l) ∙ ap (map suc) (places l h.1) ∙ range_suc 0 (length l))

-- ---- the names of renumbered fields

module _ {C K B D : Type 0} (kind_eq : Discrete K) (ν : K → B → D) (k : K) where
  names_renamed : (f : List (Term C K B)) → names_of kind_eq k (map (rename ν) f) ≡ map (ν k) (names_of kind_eq k f)
  names_renamed [] = refl
  names_renamed (con c ∷ f) = names_renamed f
  names_renamed (var j b ∷ f) = go (kind_eq k j) (names_renamed f)
    where
      go : (q : Dec (k ≡ j)) → names_of kind_eq k (map (rename ν) f) ≡ map (ν k) (names_of kind_eq k f)
          → ite q (ν j b ∷ names_of kind_eq k (map (rename ν) f)) (names_of kind_eq k (map (rename ν) f))
          ≡ map (ν k) (ite q (b ∷ names_of kind_eq k f) (names_of kind_eq k f))
      go (yes e) rec = ap₂ (λ (n : D) (r : List D). n ∷ r) (ap (λ (z : K). ν z b) (sym e)) rec
      go (no n) rec = rec

  all_names_renamed : (fs : List (List (Term C K B))) → concat_map (names_of kind_eq k) (map (map (rename ν)) fs) ≡ map (ν k) (concat_map (names_of kind_eq k) fs)
  all_names_renamed [] = refl
  all_names_renamed (f ∷ fs) =
      ap₂ (λ (x y : List D). x ++ y) (names_renamed f) (all_names_renamed fs) ∙ sym (map-append (ν k) (names_of kind_eq k f) (concat_map (names_of kind_eq k) fs))

module _ {C K B : Type 0} (kind_eq : Discrete K) (name_eq : Discrete B) (fs : List (List (Term C K B))) (k : K) where
  abbrev names : List B
  names = concat_map (names_of kind_eq k) fs

  abbrev renumbered : List (List (Term C K ℕ))
  renumbered = map (map (rename (number kind_eq name_eq fs))) fs

  once : (x y : B) → Memᴰ x names → Memᴰ y names → number kind_eq name_eq fs k x ≡ number kind_eq name_eq fs k y → x ≡ y
  once x y i j e = some-injective x y
      (sym (at_place name_eq x (firsts name_eq names) (in_firsts name_eq x names i))
      ∙ ap (get_elem? (firsts name_eq names)) e
      ∙ at_place name_eq y (firsts name_eq names) (in_firsts name_eq y names j))

  -- BY FIRST OCCURRENCE: the numbers of a type, each where it stands first, are 0, 1, 2, ..
  pub by_first : firsts ℕ_discrete (concat_map (names_of kind_eq k) (map (map (rename (number kind_eq name_eq fs))) fs))
      ≡ range 0 (length (firsts name_eq (concat_map (names_of kind_eq k) fs)))
  by_first = ap (firsts ℕ_discrete) (all_names_renamed kind_eq (number kind_eq name_eq fs) k fs)
      ∙ firsts_map name_eq ℕ_discrete (number kind_eq name_eq fs k) names once ∙ places name_eq (firsts name_eq names) (firsts_distinct name_eq names)

  -- and they are below the number of names
  pub number_below : (n : ℕ) → Any (Occurs k n) (map (map (rename (number kind_eq name_eq fs))) fs)
      → n < length (firsts name_eq (concat_map (names_of kind_eq k) fs))
  number_below n o =
      let u = Memᴰ.of_map (number kind_eq name_eq fs k) names
      (along (λ (l : List ℕ). Memᴰ n l) (all_names_renamed kind_eq (number kind_eq name_eq fs) k fs) (in_all_names kind_eq k n renumbered o)) in
      along (λ (m : ℕ). m < length (firsts name_eq names)) u.2 (place_below name_eq u.0 (firsts name_eq names) (in_firsts name_eq u.0 names u.1))

-- as many different members as names to choose from
few : {A : Type 0} (d : Discrete A) (l ys : List A) → ((x : A) → Memᴰ x l → Memᴰ x ys) → length (firsts d l) ≤ length ys
few {A} d l ys h = pigeon (λ (x y : A). x ≡ y) (firsts d l) ys (firsts_distinct d l) (λ x i. (x, h x (firsts_in d x l i), refl)) (λ x x' y e e'. e ∙ sym e')

-- ---- the names of an entry's fields are those of the rules

module _ {C K A : Type 0} (kind_eq : Discrete K) where
  names_append : (k : Full K) (f g : List (Term C (Full K) (Origin A)))
      → names_of (full-eq kind_eq) k (f ++ g) ≡ names_of (full-eq kind_eq) k f ++ names_of (full-eq kind_eq) k g
  names_append k [] g = refl
  names_append k (con c ∷ f) g = names_append k f g
  names_append k (var j b ∷ f) g = go (full-eq kind_eq k j) (names_append k f g)
    where
      rest : List (Origin A)
      rest = names_of (full-eq kind_eq) k g

      go : (q : Dec (k ≡ j)) → names_of (full-eq kind_eq) k (f ++ g) ≡ names_of (full-eq kind_eq) k f ++ rest
          → ite q (b ∷ names_of (full-eq kind_eq) k (f ++ g)) (names_of (full-eq kind_eq) k (f ++ g))
          ≡ ite q (b ∷ names_of (full-eq kind_eq) k f) (names_of (full-eq kind_eq) k f) ++ rest
      go (yes e) rec = ap (λ (r : List (Origin A)). b ∷ r) rec
      go (no n) rec = rec

module _ {C K A : Type 0} (kind_eq : Discrete K) (Q : Atom C (Variable K A) → Type 0) where
  -- a origin of kind k is a variable with Q
  abbrev OriginIn : Full K → Origin A → Type 0
  OriginIn (basic k) (named s a) = Q (free (of s k a))
  OriginIn (basic k) (place g) = ⊥
  OriginIn list m = Unit {0}

  atom_origins : (k : Full K) (xs : List (Atom C (Variable K A))) → All Q xs → All (OriginIn k) (names_of (full-eq kind_eq) k (map term_of xs))
  atom_origins k [] h = tt
  atom_origins k (fixed c ∷ xs) h = atom_origins k xs h.1
  atom_origins k (free (of s j a) ∷ xs) h = go (full-eq kind_eq k (basic j)) (atom_origins k xs h.1)
    where
      go : (q : Dec (k ≡ basic j)) → All (OriginIn k) (names_of (full-eq kind_eq) k (map term_of xs))
          → All (OriginIn k) (ite q (named s a ∷ names_of (full-eq kind_eq) k (map term_of xs)) (names_of (full-eq kind_eq) k (map term_of xs)))
      go (yes e) rec = (along (λ (z : Full K). OriginIn z (named s a)) (sym e) h.0, rec)
      go (no n) rec = rec

  field_origins : (k : Full K) (S : Shape (Atom C (Variable K A)) ℕ) → Every Q S → All (OriginIn k) (names_of (full-eq kind_eq) k (field_of S))
  field_origins k (closed xs) h = atom_origins k xs h
  field_origins k (gapped f g t) h = along (All (OriginIn k)) (sym (names_append kind_eq k (map term_of f) (var list (place g) ∷ map term_of t)))
      (all_append (OriginIn k) (names_of (full-eq kind_eq) k (map term_of f))
      (names_of (full-eq kind_eq) k (var list (place g) ∷ map term_of t)) (atom_origins k f h.0) (go (full-eq kind_eq k list) (atom_origins k t h.1)))
    where
      go : (q : Dec (k ≡ list)) → All (OriginIn k) (names_of (full-eq kind_eq) k (map term_of t))
          → All (OriginIn k) (ite q (place g ∷ names_of (full-eq kind_eq) k (map term_of t)) (names_of (full-eq kind_eq) k (map term_of t)))
      go (yes e) rec = (along (λ (z : Full K). OriginIn z (place g)) (sym e) tt, rec)
      go (no n) rec = rec

  all_origins : (k : Full K) (Ss : List (Shape (Atom C (Variable K A)) ℕ)) → All (Every Q) Ss
      → All (OriginIn k) (concat_map (names_of (full-eq kind_eq) k) (map field_of Ss))
  all_origins k [] h = tt
  all_origins k (S ∷ Ss) h =
      all_append (OriginIn k) (names_of (full-eq kind_eq) k (field_of S))
      (concat_map (names_of (full-eq kind_eq) k) (map field_of Ss)) (field_origins k S h.0) (all_origins k Ss h.1)

-- a field has at most one list variable
module _ {C K A : Type 0} (kind_eq : Discrete K) where
  no_lists_lem : (xs : List (Atom C (Variable K A))) → names_of (full-eq kind_eq) list (map term_of xs) ≡ []
  no_lists_lem [] = refl
  no_lists_lem (fixed c ∷ xs) = no_lists_lem xs
  no_lists_lem (free (of s j a) ∷ xs) =
      if_neg (full-eq kind_eq list (basic j)) list≢basic (named s a ∷ names_of (full-eq kind_eq) list (map term_of xs))
      (names_of (full-eq kind_eq) list (map term_of xs))
      ∙ no_lists_lem xs

  one_list : (S : Shape (Atom C (Variable K A)) ℕ) → length (names_of (full-eq kind_eq) list (field_of S)) ≤ 1
  one_list (closed xs) = omega (arith, ap length (no_lists_lem xs))
  one_list (gapped f g t) = omega (arith, ap length is)
    where
      rest : List (Origin A)
      rest = names_of (full-eq kind_eq) list (map term_of t)

      is : names_of (full-eq kind_eq) list (field_of (gapped f g t)) ≡ place g ∷ []
      is = names_append kind_eq list (map term_of f) (var list (place g) ∷ map term_of t)
          ∙ ap₂ (λ (x y : List (Origin A)). x ++ y) (no_lists_lem f)
          (if_pos (full-eq kind_eq list list) refl (place g ∷ rest) rest ∙ ap (λ (r : List (Origin A)). place g ∷ r) (no_lists_lem t))

  all_lists : (Ss : List (Shape (Atom C (Variable K A)) ℕ)) → length (concat_map (names_of (full-eq kind_eq) list) (map field_of Ss)) ≤ length Ss
  all_lists [] = omega arith
  all_lists (S ∷ Ss) = let r = all_lists Ss in simp length-append (omega (arith, one_list S))

module _ {A L M : Type 0} where
  fields_count : (g : ℕ) (Ss : List (Shape A L)) (Ts : List (Shape A M)) (cs : List Cand) → length (fields_for g Ss Ts cs) ≤ length Ss
  fields_count g [] Ts cs = omega arith
  fields_count g (S ∷ Ss) [] cs = omega arith
  fields_count g (S ∷ Ss) (T ∷ Ts) [] = omega arith
  fields_count g (S ∷ Ss) (T ∷ Ts) (c ∷ cs) = let r = fields_count (suc g) Ss Ts cs in omega arith

module _ (O : Order) (C : Consts O) {A : Type 0} (name_eq : Discrete A) (r₁ r₂ : List (List (TermOver O C A))) where
  -- a variable of the rule on its side
  abbrev InRules : Atom C.Con (Variable O.Kind A) → Type 0
  InRules (fixed c) = Unit {0}
  InRules (free (of left k a)) = Any (Occurs (basic k) a) r₁
  InRules (free (of right k a)) = Any (Occurs (basic k) a) r₂

  module _ (d : Side) (up : (k : O.Kind) (a : A) → Type 0) (in-rule : (k : O.Kind) (a : A) → up k a → InRules (free (of d k a))) where
    on_field : (f : List (TermOver O C A)) → ((k : O.Kind) (a : A) → Occurs (basic k) a f → up k a) → All (OnTerm InRules d) f
    on_field [] h = tt
    on_field (con c ∷ f) h = (tt, on_field f h)
    on_field (var (basic k) a ∷ f) h = (in-rule k a (h k a (inl (refl, refl))), on_field f (λ j b o. h j b (inr o)))
    on_field (var list a ∷ f) h = (tt, on_field f (λ j b o. h j b (inr o)))

    on_rule : (r : List (List (TermOver O C A))) → ((k : O.Kind) (a : A) → Any (Occurs (basic k) a) r → up k a) → All (All (OnTerm InRules d)) r
    on_rule [] h = tt
    on_rule (f ∷ r) h = (on_field f (λ k a o. h k a (inl o)), on_rule r (λ k a o. h k a (inr o)))

  module _ (Ss Ts : List (PairShape O C name_eq)) (is₁ : shapes_of left r₁ ≡ some Ss) (is₂ : shapes_of right r₂ ≡ some Ts)
      (e : List Cand × PairState O C name_eq) (i : Memᴰ e (raw O C name_eq Ss Ts)) where
    abbrev resolved : List (Shape (Atom C.Con (Variable O.Kind A)) ℕ)
    resolved = map (map_shape (resolve O C (pair_vars O name_eq) e.1)) (fields_for 0 Ss Ts e.0)

    from_rules : All (Every InRules) resolved
    from_rules = (entry_every O C (pair_vars O name_eq) InRules A A Ss Ts
        (rule_every InRules left r₁ Ss is₁ (on_rule left (λ k a. Any (Occurs (basic k) a) r₁) (λ k a o. o) r₁ (λ k a o. o)))
        (rule_every InRules right r₂ Ts is₂ (on_rule right (λ k a. Any (Occurs (basic k) a) r₂) (λ k a o. o) r₂ (λ k a o. o))) e i).1

    -- the numbers of a type are below the number of names that the two rules have for it
    pub numbers_below : (k : O.Kind) (as₁ as₂ : List A) → ((a : A) → Any (Occurs (basic k) a) r₁ → Memᴰ a as₁)
        → ((a : A) → Any (Occurs (basic k) a) r₂ → Memᴰ a as₂)
        → (n : ℕ) → Any (Occurs (basic k) n) (shown O C name_eq Ss Ts e).fields → n < length as₁ + length as₂
    numbers_below k as₁ as₂ h₁ h₂ n o =
        let p = number_below (full-eq O.kind_eq) (origin-eq side-eq name_eq ℕ_discrete) (origin_fields O C name_eq Ss Ts e) (basic k) n o in
        let q = few (origin-eq side-eq name_eq ℕ_discrete) origins (map (named left) as₁ ++ map (named right) as₂) inside in
        omega (arith, p, simp (length-append, length-map, length-map) at q)
      where
        origins : List (Origin A)
        origins = concat_map (names_of (full-eq O.kind_eq) (basic k)) (origin_fields O C name_eq Ss Ts e)

        go : (m : Origin A) → OriginIn O.kind_eq InRules (basic k) m → Memᴰ m (map (named left) as₁ ++ map (named right) as₂)
        go (named left a) q = Memᴰ.append_left (map (named right) as₂) (Memᴰ.map (named left) (h₁ a q))
        go (named right a) q = Memᴰ.append_right (map (named left) as₁) (Memᴰ.map (named right) (h₂ a q))
        go (place g) q = absurd q

        inside : (m : Origin A) → Memᴰ m origins → Memᴰ m (map (named left) as₁ ++ map (named right) as₂)
        inside m j = go m (all_mem (OriginIn O.kind_eq InRules (basic k)) origins (all_origins O.kind_eq InRules (basic k) resolved from_rules) m j)

  module _ (Ss Ts : List (PairShape O C name_eq)) (e : List Cand × PairState O C name_eq) where
    -- the numbers of list variables are below the number of fields
    pub lists_below : (n : ℕ) → Any (Occurs list n) (shown O C name_eq Ss Ts e).fields → n < length Ss
    lists_below n o =
        let p = number_below (full-eq O.kind_eq) (origin-eq side-eq name_eq ℕ_discrete) (origin_fields O C name_eq Ss Ts e) list n o in
        let q = few (origin-eq side-eq name_eq ℕ_discrete) origins origins (λ x j. j) in
        let r = all_lists O.kind_eq (map (map_shape (resolve O C (pair_vars O name_eq) e.1)) (fields_for 0 Ss Ts e.0)) in
        omega (arith, p, q, simp length-map at r, fields_count 0 Ss Ts e.0)
      where
        origins : List (Origin A)
        origins = concat_map (names_of (full-eq O.kind_eq) list) (origin_fields O C name_eq Ss Ts e)
