-- The types in their order, once: leaves, then atom, then list. Everything others ask of a type is a fact over a type `k` here.
-- What an instance gives is in the record `Leaves`: one line for each leaf, and one computed equation.
--     kinds, rank, kind_at     the list, a type's place in it, the type at a place
--     same, is_list            tests by rank
--     entry-is                a table of n by n that passes one computed test is the order
use Rattle.std.specs.Prelude.{◌≡◌, refl, ◌↔◌, Bool, true, false, ℕ, zero, suc, ◌+◌, ◌*◌, ◌≤◌, ◌<◌, T, eqb, length, get_or}
use Rattle.std.proofs.Common.{sym, ap, ap₂, ◌∙◌, subst, arith, length-append, get_or-append-add, eqb-true, eq-eqb}
use Rattle.std.proofs.Math.Option.{some, some-injective, none-ne-some}
use mathlib.Core.List.{List, [], ◌∷◌, ◌++◌, map, head-eq_of_cons-eq, tail-eq_of_cons-eq}
use Rattle.std.proofs.Math.Decide.{ℕ_discrete, dec_lt}
use Rattle.std.proofs.Math.ListN.{get_elem?, get_or-eq_default}
use Rattle.std.proofs.lemmas.List.{length-map, get_or_at}
use Rattle.base_lists.specs.Seqs.{All, tabulate}
use Rattle.base_lists.specs.Truths.{false_is, decided}
use Rattle.base_lists.specs.Tables.{all_below, all_below_lem}
use Rattle.math_types.specs.Order.{Order, Full, basic, list, full}
use Rattle.math_types.specs.Flat.{Flat, leaf, atom, flat-eq, flat, le}

-- leaves in their order, and each one's place
pub record Leaves : Type 1 where
  pub Leaf : Type 0
  pub leaf_eq : Discrete Leaf
  pub leaves : List Leaf
  pub place : Leaf → ℕ
  -- at its place stands the leaf (one line for each leaf)
  pub leaf_at : (l : Leaf) → get_elem? leaves (place l) ≡ some l
  -- and at each place one whose place it is (computed)
  pub places : map place leaves ≡ tabulate (length leaves) (λ i. i)

-- ---- members by their places

module _ {A : Type 0} where
  found_below : (s : List A) (i : ℕ) (x : A) → get_elem? s i ≡ some x → i < length s
  found_below [] i x e = absurd (none-ne-some x e)
  found_below (a ∷ s) zero x e = omega arith
  found_below (a ∷ s) (suc i) x e = omega (arith, found_below s i x e)

  there : (s : List A) (i : ℕ) → i < length s → (x : A) × (get_elem? s i ≡ some x)
  there [] i h = absurd (omega arith)
  there (a ∷ s) zero h = (a, refl)
  there (a ∷ s) (suc i) h = there s i (omega arith)

  found_front : (s t : List A) (i : ℕ) (x d : A) → get_elem? s i ≡ some x → get_or (s ++ t) i d ≡ x
  found_front [] t i x d e = absurd (none-ne-some x e)
  found_front (a ∷ s) t zero x d e = some-injective a x e
  found_front (a ∷ s) t (suc i) x d e = found_front s t i x d e

  all_at : (P : A → Type 0) (s : List A) (i : ℕ) (d : A) → All P s → i < length s → P (get_or s i d)
  all_at P [] i d h l = absurd (omega arith)
  all_at P (a ∷ s) zero d h l = h.0
  all_at P (a ∷ s) (suc i) d h l = all_at P s i d h.1 (omega arith)

  placed : (s : List A) (f : A → ℕ) (g : ℕ → ℕ) → map f s ≡ tabulate (length s) g → (i : ℕ) (x : A) → get_elem? s i ≡ some x → f x ≡ g i
  placed [] f g e i x p = absurd (none-ne-some x p)
  placed (a ∷ s) f g e zero x p = sym (ap f (some-injective a x p)) ∙ head-eq_of_cons-eq e
  placed (a ∷ s) f g e (suc i) x p = placed s f (λ j. g (suc j)) (tail-eq_of_cons-eq e) i x p

mapped : {A B : Type 0} (f : A → B) (s : List A) (i : ℕ) (x : A) → get_elem? s i ≡ some x → get_elem? (map f s) i ≡ some (f x)
mapped f [] i x e = absurd (none-ne-some x e)
mapped f (a ∷ s) zero x e = ap (λ y. some (f y)) (some-injective a x e)
mapped f (a ∷ s) (suc i) x e = mapped f s i x e

-- ---- kinds of any leaves

module _ (E : Leaves) where
  abbrev pub Basic : Type 0
  Basic = Flat E.Leaf

  abbrev pub Kind : Type 0
  Kind = Full Basic

  abbrev leaf_kinds : List Kind
  leaf_kinds = map (λ (l : E.Leaf). basic (leaf l)) E.leaves

  -- the types in the order of a line
  abbrev pub kinds : List Kind
  kinds = leaf_kinds ++ basic atom ∷ list ∷ []

  abbrev pub rank : Kind → ℕ
  rank (basic (leaf l)) = E.place l
  rank (basic atom) = length E.leaves
  rank list = suc (length E.leaves)

  -- how many types a variable below list can have
  abbrev pub atom_kinds : ℕ
  atom_kinds = rank list

  abbrev pub kind_at : ℕ → Kind
  kind_at i = get_or kinds i list

  leaf_kinds_long : length leaf_kinds ≡ length E.leaves
  leaf_kinds_long = length-map E.leaves (λ l. basic (leaf l))

  pub kinds_long : length kinds ≡ suc (suc (length E.leaves))
  kinds_long = omega (arith, length-append leaf_kinds (basic atom ∷ list ∷ []), leaf_kinds_long)

  pub rank_basic : (k : Basic) → rank (basic k) < atom_kinds
  rank_basic (leaf l) = omega (arith, found_below E.leaves (E.place l) l (E.leaf_at l))
  rank_basic atom = omega arith

  pub rank_kinds : (k : Kind) → rank k < length kinds
  rank_kinds (basic k) = omega (arith, rank_basic k, kinds_long)
  rank_kinds list = omega (arith, kinds_long)

  -- ---- the type at a rank

  leaf_there : (i : ℕ) (l : E.Leaf) → get_elem? E.leaves i ≡ some l → kind_at i ≡ basic (leaf l)
  leaf_there i l e =
      found_front leaf_kinds (basic atom ∷ list ∷ []) i (basic (leaf l)) list (mapped (λ (l : E.Leaf). basic (leaf l)) E.leaves i l e)

  list_there : (n : ℕ) → length leaf_kinds ≡ n → kind_at (suc n) ≡ list
  list_there n e = rw (let q : suc n ≡ length leaf_kinds + 1 = omega arith in q) (get_or-append-add leaf_kinds (basic atom ∷ list ∷ []) 1 list)

  pub kind_at_rank : (k : Kind) → kind_at (rank k) ≡ k
  kind_at_rank (basic (leaf l)) = leaf_there (E.place l) l (E.leaf_at l)
  kind_at_rank (basic atom) = get_or_at leaf_kinds (basic atom) (list ∷ []) list (length E.leaves) leaf_kinds_long
  kind_at_rank list = list_there (length E.leaves) leaf_kinds_long

  -- behind the types below list there is list
  pub kind_past : (i : ℕ) → atom_kinds ≤ i → kind_at i ≡ list
  kind_past i h = go (ℕ_discrete i atom_kinds)
    where
      go : Dec (i ≡ atom_kinds) → kind_at i ≡ list
      go (yes e) = ap kind_at e ∙ kind_at_rank list
      go (no n) = get_or-eq_default kinds list (omega (arith, kinds_long, n))

  -- no two kinds share a rank
  pub rank_once : (j k : Kind) → rank j ≡ rank k → j ≡ k
  rank_once j k e = sym (kind_at_rank j) ∙ ap kind_at e ∙ kind_at_rank k

  pub rank_at_lem : (i : ℕ) → i < length kinds → rank (kind_at i) ≡ i
  rank_at_lem i h = go (dec_lt i (length E.leaves)) (ℕ_discrete i (length E.leaves))
    where
      one : (k : Kind) → i ≡ rank k → rank (kind_at i) ≡ i
      one k e = ap (λ n. rank (kind_at n)) e ∙ ap rank (kind_at_rank k) ∙ sym e

      go : Dec (i < length E.leaves) → Dec (i ≡ length E.leaves) → rank (kind_at i) ≡ i
      go (yes p) c =
          let l = there E.leaves i p in
          ap rank (leaf_there i l.0 l.1) ∙ placed E.leaves E.place (λ j. j) E.places i l.0 l.1
      go (no p) (yes e) = one (basic atom) e
      go (no p) (no n) = one list (omega (arith, kinds_long, n))

  -- a rank below list's is that of a type below list
  pub basic_at : (i : ℕ) → i < atom_kinds → (k : Basic) × (kind_at i ≡ basic k) × (rank (basic k) ≡ i)
  basic_at i h = go (kind_at i) refl
    where
      there_is : rank (kind_at i) ≡ i
      there_is = rank_at_lem i (omega (arith, kinds_long))

      go : (k : Kind) → kind_at i ≡ k → (k : Basic) × (kind_at i ≡ basic k) × (rank (basic k) ≡ i)
      go (basic k) e = (k, e, ap rank (sym e) ∙ there_is)
      go list e = absurd (omega (arith, h, ap rank e, there_is))

  -- what holds at each member of the list holds of every type
  pub every_kind : (P : Kind → Type 0) → All P kinds → (k : Kind) → P k
  every_kind P h k = subst P (kind_at_rank k) (all_at P kinds (rank k) list h (rank_kinds k))

  -- ---- tests by rank

  abbrev pub same : Kind → Kind → Bool
  same j k = eqb (rank j) (rank k)

  abbrev pub is_list : Kind → Bool
  is_list (basic k) = false
  is_list list = true

  pub same_is : (j k : Kind) → (same j k ≡ true) ↔ (j ≡ k)
  same_is j k = (λ p. rank_once j k (eqb-true (rank j) (rank k) p), λ e. eq-eqb (rank j) (rank k) (ap rank e))

  apart : (m n : ℕ) → (m ≡ n → ⊥) → eqb m n ≡ false
  apart m n h = (false_is (eqb m n)).1 (λ e. h (eqb-true m n e))

  -- list is no type below list
  pub not_list : (k : Basic) → same (basic k) list ≡ false
  not_list k = apart (rank (basic k)) (rank list) (λ e. omega (arith, rank_basic k))

  pub list_not : (k : Basic) → same list (basic k) ≡ false
  list_not k = apart (rank list) (rank (basic k)) (λ e. omega (arith, rank_basic k))

  pub is_list_lem : (k : Kind) → same k list ≡ is_list k
  is_list_lem (basic k) = not_list k
  is_list_lem list = eq-eqb (rank list) (rank list) refl

  pub same_basic : (j k : Basic) → same (basic j) (basic k) ≡ decided (flat-eq E.leaf_eq j k)
  same_basic j k = go (flat-eq E.leaf_eq j k)
    where
      go : (c : Dec (j ≡ k)) → same (basic j) (basic k) ≡ decided c
      go (yes e) = (same_is (basic j) (basic k)).1 (ap basic e)
      go (no n) = apart (rank (basic j)) (rank (basic k)) (λ e. n (basic_once (rank_once (basic j) (basic k) e)))
        where
          basic_once : basic j ≡ basic k → j ≡ k
          basic_once e = cc

  -- ---- the table

  -- the instances of `Order`, without list and with it
  abbrev pub basics : Order
  basics = flat E.Leaf E.leaf_eq

  abbrev pub types : Order
  types = full basics

  -- a table of all pairs of types: a row for each lower one, a column for each upper one
  abbrev pub entry : List Bool → ℕ → ℕ → Bool
  entry t x y = get_or t (length kinds * x + y) false

  abbrev alike : Bool → Bool → Bool
  alike true b = b
  alike false true = false
  alike false false = true

  -- what the table has at two ranks is what the order says of their types
  abbrev pub alike_at : List Bool → ℕ → ℕ → Bool
  alike_at t x y = alike (entry t x y) (le E.leaf_eq (kind_at x) (kind_at y))

  -- the one test, over the pairs of ranks
  abbrev pub is_order : List Bool → Bool
  is_order t = all_below (λ x. all_below (λ y. alike_at t x y) (length kinds)) (length kinds)

  alike_is : (a b : Bool) → T (alike a b) → a ≡ b
  alike_is true true t = refl
  alike_is true false t = absurd t
  alike_is false true t = absurd t
  alike_is false false t = refl

  -- what a table that passes it reads at two ranks is the order: so all laws of the order are laws of the table
  pub entry_is : (t : List Bool) → T (is_order t) → (j k : Kind) → entry t (rank j) (rank k) ≡ le E.leaf_eq j k
  entry_is t h j k = at (rank j) (rank k) (rank_kinds j) (rank_kinds k) ∙ ap₂ (le E.leaf_eq) (kind_at_rank j) (kind_at_rank k)
    where
      at : (x y : ℕ) → x < length kinds → y < length kinds → entry t x y ≡ le E.leaf_eq (kind_at x) (kind_at y)
      at x y hx hy =
          alike_is (entry t x y) (le E.leaf_eq (kind_at x) (kind_at y))
          (all_below_lem (λ y. alike_at t x y) (length kinds)
          (all_below_lem (λ x. all_below (λ y. alike_at t x y) (length kinds)) (length kinds) h x hx) y hy)
