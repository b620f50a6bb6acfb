-- The code's recursion writes what is written of the entries in their order, and an entry's items are those of its fields.
use mathlib.Core.Path.{◌≡◌, refl, ap, ap₂, ◌∙◌}
use mathlib.Core.Bool.{Bool}
use mathlib.Core.Option.{Option, none, some}
use mathlib.Core.List.{List, [], ◌∷◌, ◌++◌, map, append-nil, Memᴰ}
use Prim.Native.Nat.{ℕ, zero, suc, ◌+◌, max}
use native.Mathlib.Omega.{arith}
use lib.ListN.{get_or, take, drop}
use Rattle.base_lists.specs.Seqs.{tabulate, tabulate_same}
use Rattle.base_lists.specs.Arrays.{map_take, map_drop}
use Rattle.math_terms.specs.Seqs.{concat_map}
use Rattle.math_terms.proofs.Seqs.{concat_map_append, concat_mapped}
use Rattle.math_overlaps.specs.Candidates.{Cand, exact, long, range, before, wide, cands}
use Rattle.math_overlaps.specs.Entries.{equations, chosen, branch, span, cells, field_for}
use Rattle.math_overlaps.specs.Overlaps.{map_shape}
use Rattle.math_overlaps.proofs.Pairs.{no_long₁, no_long₂}
use Rattle.math_overlaps.proofs.Candidates.{range_length}
use Rattle.math_codes.specs.Tables.{Table}
use Rattle.math_codes.specs.States.{joins_places}
use Rattle.math_codes.specs.Entries.{entries_on}
use Rattle.math_codes.specs.Items.{items_of}
use Rattle.math_codes.specs.Spots.{Spot, shape_from, spot_shape, cell_at, pick_cell, join_from}
use Rattle.math_codes.specs.Walks.{or_nothing, span_on, joins_on, walk_on, item_at, field_items}
use Rattle.math_codes.proofs.Spots.{spot_joins, spot_cells, spot_cands_lem}

module _ {L : Type 0} where
  same_before : (b h t : ℕ) (o : Option L) → before (shape_from b h t o) ≡ h
  same_before b h t none = range_length b h
  same_before b h t (some l) = range_length b h

-- the numbers of two fields say how wide an entry's field is
module _ {L M : Type 0} where
  long_only : (b h t : ℕ) (o : Option L) (b' h' t' : ℕ) (o' : Option M) → Memᴰ long (cands (shape_from b h t o) (shape_from b' h' t' o'))
      → wide (shape_from b h t o) (shape_from b' h' t' o') ≡ max h h' + max t t'
  long_only b h t none b' h' t' o' i = absurd (no_long₁ ℕ L M (range b h) (shape_from b' h' t' o') i)
  long_only b h t (some l) b' h' t' none i = absurd (no_long₂ ℕ L M (range b h) l (range (suc (b + h)) t) (range b' h') i)
  long_only b h t (some l) b' h' t' (some m) i = rw (range_length b h, range_length b' h', range_length (suc (b + h)) t, range_length (suc (b' + h')) t')

  pub same_span : (s : Spot L) (s' : Spot M) (c : Cand) → Memᴰ c (cands (spot_shape s) (spot_shape s')) → span (spot_shape s) (spot_shape s') c
      ≡ span_on s s' c
  same_span s s' (exact n) i = refl
  same_span s s' long i = long_only s.base s.head s.tail s.name s'.base s'.head s'.tail s'.name i

-- ---- the recursion

written : {X : Type 0} (write : List Cand → List ℕ → List X) (k : List ℕ → List (List Cand × List ℕ)) (c : Cand) (o : Option (List ℕ))
    → concat_map (λ e. write e.0 e.1) (chosen c o k) ≡ or_nothing o (λ next. concat_map (λ e. write (c ∷ e.0) e.1) (k next))
written write k c none = refl
written write k c (some next) = concat_mapped (λ e. write e.0 e.1) (λ e. (c ∷ e.0, e.1)) (k next)

pub or_same : {X : Type 0} (o : Option (List ℕ)) (f g : List ℕ → List X) → ((next : List ℕ) → f next ≡ g next) → or_nothing o f ≡ or_nothing o g
or_same none f g h = refl
or_same (some next) f g h = h next

module _ (below : ℕ → ℕ → Bool) (T : Table) {L M : Type 0} where
  -- one candidate's joins
  pub joins_on_lem : (P : Spot L) (Q : Spot M) (c : Cand) → Memᴰ c (cands (spot_shape P) (spot_shape Q)) → (atoms : List ℕ)
      → joins_places below T (equations (spot_shape P) (spot_shape Q) c) atoms ≡ joins_on below T P Q c atoms
  joins_on_lem P Q c i atoms = spot_joins P Q c i below T atoms ∙ ap (λ (n : ℕ). join_from below T (cell_at P n) (cell_at Q n) n 0 atoms) (same_span P Q c i)

  -- THE RECURSION
  pub walk_agrees : {X : Type 0} (Ps : List (Spot L)) (Qs : List (Spot M)) (atoms : List ℕ) (write : List Cand → List ℕ → List X)
      → concat_map (λ e. write e.0 e.1) (entries_on below T L M (map spot_shape Ps) (map spot_shape Qs) atoms) ≡ walk_on below T Ps Qs atoms write
  walk_agrees [] [] atoms write = append-nil (write [] atoms)
  walk_agrees [] (Q ∷ Qs) atoms write = refl
  walk_agrees (P ∷ Ps) [] atoms write = refl
  walk_agrees {X} (P ∷ Ps) (Q ∷ Qs) atoms write =
      go (cands (spot_shape P) (spot_shape Q)) (λ c i. i) (λ next w. walk_agrees Ps Qs next w)
      ∙ ap (concat_map step) (spot_cands_lem P Q)
    where
      rest : List ℕ → List (List Cand × List ℕ)
      rest next = entries_on below T L M (map spot_shape Ps) (map spot_shape Qs) next

      step : Cand → List X
      step c = or_nothing (joins_on below T P Q c atoms) (λ next. walk_on below T Ps Qs next (λ cs last. write (c ∷ cs) last))

      j : Cand → Option (List ℕ)
      j c = joins_places below T (equations (spot_shape P) (spot_shape Q) c) atoms

      go : (cs : List Cand) → ((c : Cand) → Memᴰ c cs → Memᴰ c (cands (spot_shape P) (spot_shape Q)))
          → ((next : List ℕ) (w : List Cand → List ℕ → List X) → concat_map (λ e. w e.0 e.1) (rest next) ≡ walk_on below T Ps Qs next w)
          → concat_map (λ e. write e.0 e.1) (branch cs j rest) ≡ concat_map step cs
      go [] i rec = refl
      go (c ∷ cs) i rec =
          concat_map_append (λ e. write e.0 e.1) (chosen c (j c) rest) (branch cs j rest)
          ∙ ap₂ (λ (x y : List X). x ++ y)
          (written write rest c (j c)
          ∙ ap (λ (o : Option (List ℕ)). or_nothing o (λ next. concat_map (λ e. write (c ∷ e.0) e.1) (rest next)))
          (joins_on_lem P Q c (i c (Memᴰ.head refl)) atoms)
          ∙ or_same (joins_on below T P Q c atoms) (λ next. concat_map (λ e. write (c ∷ e.0) e.1) (rest next))
          (λ next. walk_on below T Ps Qs next (λ cs last. write (c ∷ cs) last))
          (λ next. rec next (λ cs last. write (c ∷ cs) last)))
          (go cs (λ c' m. i c' (Memᴰ.tail m)) rec)

-- ---- the items of an entry's field

map_tabulate : {A B : Type 0} (g : A → B) (n : ℕ) (f : ℕ → A) → map g (tabulate n f) ≡ tabulate n (λ i. g (f i))
map_tabulate g zero f = refl
map_tabulate g (suc n) f = ap (λ l. g (f 0) ∷ l) (map_tabulate g n (λ i. f (suc i)))

take_tabulate : {A : Type 0} (h t : ℕ) (f : ℕ → A) → take h (tabulate (h + t) f) ≡ tabulate h f
take_tabulate zero t f = refl
take_tabulate (suc h) t f = ap (λ (n : ℕ). take (suc h) (tabulate n f)) (let e : suc h + t ≡ suc (h + t) = omega arith in e)
    ∙ ap (λ l. f 0 ∷ l) (take_tabulate h t (λ i. f (suc i)))

drop_tabulate : {A : Type 0} (h t : ℕ) (f : ℕ → A) → drop h (tabulate (h + t) f) ≡ tabulate t (λ i. f (h + i))
drop_tabulate zero t f = ap (λ (n : ℕ). tabulate n f) (let e : 0 + t ≡ t = omega arith in e)
    ∙ tabulate_same t f (λ i. f (0 + i)) (λ i l. ap f (let e : i ≡ 0 + i = omega arith in e))
drop_tabulate (suc h) t f =
    ap (λ (n : ℕ). drop (suc h) (tabulate n f)) (let e : suc h + t ≡ suc (h + t) = omega arith in e)
    ∙ drop_tabulate h t (λ i. f (suc i))
    ∙ tabulate_same t (λ i. f (suc (h + i))) (λ i. f (suc h + i)) (λ i l. ap f (let e : suc (h + i) ≡ suc h + i = omega arith in e))

module _ {L M : Type 0} (atoms : List ℕ) (s : Spot L) (s' : Spot M) (n g : ℕ) where
  abbrev look : ℕ → ℕ
  look p = get_or atoms p 0

  -- the codes of the merged places
  codes_at : (c : Cand) → Memᴰ c (cands (spot_shape s) (spot_shape s')) → map look (cells (spot_shape s) (spot_shape s') c)
      ≡ tabulate (span_on s s' c) (item_at atoms s s' (span_on s s' c))
  codes_at c i =
      let m = span (spot_shape s) (spot_shape s') c in
      ap (map look) (spot_cells s s' c i)
      ∙ map_tabulate look m (λ p. pick_cell (cell_at s m p) (cell_at s' m p))
      ∙ ap (λ (k : ℕ). tabulate k (item_at atoms s s' k)) (same_span s s' c i)

  -- THE ITEMS of an entry's field
  pub items_agree : (c : Cand) → Memᴰ c (cands (spot_shape s) (spot_shape s')) → items_of n (map_shape look (field_for g (spot_shape s) (spot_shape s') c))
      ≡ field_items atoms s s' n g c
  items_agree (exact m) i = codes_at (exact m) i
  items_agree long i =
      let H = max (before (spot_shape s)) (before (spot_shape s')) in
      let e : H ≡ max s.head s'.head = ap₂ max (same_before s.base s.head s.tail s.name)
      (same_before s'.base s'.head s'.tail s'.name) in
      ap₂ (λ (x y : List ℕ). x ++ (n + g) ∷ y)
      (map_take look H (cells (spot_shape s) (spot_shape s') long)
      ∙ ap₂ (λ (k : ℕ) (l : List ℕ). take k l) e (codes_at long i)
      ∙ take_tabulate (max s.head s'.head) (max s.tail s'.tail) (item_at atoms s s' (span_on s s' long)))
      (map_drop look H (cells (spot_shape s) (spot_shape s') long)
      ∙ ap₂ (λ (k : ℕ) (l : List ℕ). drop k l) e (codes_at long i)
      ∙ drop_tabulate (max s.head s'.head) (max s.tail s'.tail) (item_at atoms s s' (span_on s s' long)))
