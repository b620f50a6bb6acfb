-- Fields as numbers: the scan gives the shape over places, and rows, joins, cells and candidates are computed position by position.
use mathlib.Core.Path.{◌≡◌, refl, sym, ap, ap₂, ◌∙◌, subst}
use mathlib.Core.Bool.{Bool, cond}
use mathlib.Core.Option.{Option, none, some}
use mathlib.Core.List.{List, [], ◌∷◌, ◌++◌, map, foldl, append-nil, append_assoc, Memᴰ}
use Prim.Native.Nat.{ℕ, zero, suc, ◌+◌, ◌-◌, ◌≤◌, ◌<◌}
use native.Mathlib.Omega.{arith}
use native.Mathlib.Decide.{dec_lt, dec_le}
use borrow.Author.Tests.{lt-ltb, le-ltb, le-leb, lt-leb}
use lib.Dec.{ltb}
use lib.ListN.{length, get_or, replicate, length-append, length-map, length-replicate, get_or-replicate, get_or-append}
use lib.Seq.{get_or-append-add}
use Rattle.base_lists.specs.Seqs.{tabulate, tabulated, tabulate_same}
use Rattle.math_types.specs.Order.{Full, basic, list}
use Rattle.math_terms.specs.Terms.{Term, con, var}
use Rattle.math_terms.specs.Matcher.{and_then}
use Rattle.math_overlaps.specs.Shapes.{Shape, closed, gapped, with_atom, with_list}
use Rattle.math_overlaps.specs.Candidates.{Cand, range, cands}
use Rattle.math_overlaps.specs.Entries.{row, meeting, merge, span, cells, equations}
use Rattle.math_overlaps.proofs.Candidates.{Room, range_length}
use Rattle.math_overlaps.proofs.Rows.{Covered}
use Rattle.math_overlaps.proofs.Pairs.{room_of, covered_of}
use Rattle.math_codes.specs.Tables.{Table}
use Rattle.math_codes.specs.States.{join_places, joins_places}
use Rattle.math_codes.specs.Entries.{place_shape}
use Rattle.math_codes.specs.Spots.{Spot, shape_from, spot_shape, scan_term, spot_of, tail_at, cell_at, pick_cell, join_cells, join_from, cands_from}
use Rattle.math_codes.specs.Spots.{spot_cands}
use Rattle.math_codes.proofs.Items.{range_at}

range_snoc : (a k : ℕ) → range a (suc k) ≡ range a k ++ (a + k) ∷ []
range_snoc a zero = ap (λ (n : ℕ). n ∷ []) (let e : a ≡ a + 0 = omega arith in e)
range_snoc a (suc k) = ap (λ (l : List ℕ). a ∷ l) (range_snoc (suc a) k
    ∙ ap (λ (n : ℕ). range (suc a) k ++ n ∷ []) (let e : suc a + k ≡ a + suc k = omega arith in e))

-- ---- the scan

module _ {A : Type 0} where
  -- places before a shape
  abbrev before_it : List ℕ → Shape ℕ A → Shape ℕ A
  before_it xs (closed ys) = closed (xs ++ ys)
  before_it xs (gapped p l q) = gapped (xs ++ p) l q

  -- a field without one: its places are a run
  abbrev IsRun : ℕ → ℕ → Option (Shape ℕ A) → Type 0
  IsRun b n none = Unit {0}
  IsRun b n (some (closed xs)) = xs ≡ range b n
  IsRun b n (some (gapped p l q)) = Unit {0}

  run_atom : (b n : ℕ) (o : Option (Shape ℕ A)) → IsRun (suc b) n o → IsRun b (suc n) (with_atom b o)
  run_atom b n none h = tt
  run_atom b n (some (closed xs)) h = ap (λ (l : List ℕ). b ∷ l) h
  run_atom b n (some (gapped p l q)) h = tt

  run_list : (b n : ℕ) (l : A) (o : Option (Shape ℕ A)) → IsRun b n (with_list l o)
  run_list b n l none = tt
  run_list b n l (some (closed xs)) = tt
  run_list b n l (some (gapped p m q)) = tt

  -- before one; `o` is the shape of the rest
  abbrev Scanned : ℕ → ℕ → Option (Shape ℕ A) → Spot A → Type 0
  Scanned b h none s = Unit {0}
  Scanned b h (some S) s = spot_shape s ≡ before_it (range b h) S

  scan_atom : (b h : ℕ) (o : Option (Shape ℕ A)) (s : Spot A) → Scanned b (suc h) o s → Scanned b h (with_atom (b + h) o) s
  scan_atom b h none s e = tt
  scan_atom b h (some (closed xs)) s e = e ∙ ap closed (ap (λ (l : List ℕ). l ++ xs) (range_snoc b h) ∙ append_assoc (range b h) ((b + h) ∷ []) xs)
  scan_atom b h (some (gapped p l q)) s e = e ∙ ap (λ (r : List ℕ). gapped r l q)
      (ap (λ (r : List ℕ). r ++ p) (range_snoc b h) ∙ append_assoc (range b h) ((b + h) ∷ []) p)

  scan_list : (b h n : ℕ) (l : A) (o : Option (Shape ℕ A)) (s : Spot A) → IsRun (suc (b + h)) n o → spot_shape s
      ≡ gapped (range b h) l (range (suc (b + h)) n) → Scanned b h (with_list l o) s
  scan_list b h n l none s r e = tt
  scan_list b h n l (some (closed xs)) s r e = e ∙ ap₂ (λ (p q : List ℕ). gapped p l q) (sym (append-nil (range b h))) (sym r)
  scan_list b h n l (some (gapped p m q)) s r e = tt

module _ {C K A : Type 0} where
  -- behind a list variable
  scan_tail : (b h t : ℕ) (l : A) (f : List (Term C (Full K) A)) → spot_shape (foldl scan_term (record { base = b; head = h; tail = t; name = some l }) f)
      ≡ gapped (range b h) l (range (suc (b + h)) (t + length f))
  scan_tail b h t l [] = ap (λ (n : ℕ). gapped (range b h) l (range (suc (b + h)) n)) (let e : t ≡ t + 0 = omega arith in e)
  scan_tail b h t l (u ∷ f) = scan_tail b h (suc t) l f ∙ ap (λ (n : ℕ). gapped (range b h) l (range (suc (b + h)) n))
      (let e : suc t + length f ≡ t + suc (length f) = omega arith in e)

  is_run : (b : ℕ) (f : List (Term C (Full K) A)) → IsRun b (length f) (place_shape b f)
  is_run b [] = refl
  is_run b (con c ∷ f) = run_atom b (length f) (place_shape (suc b) f) (is_run (suc b) f)
  is_run b (var (basic k) a ∷ f) = run_atom b (length f) (place_shape (suc b) f) (is_run (suc b) f)
  is_run b (var list a ∷ f) = run_list b (suc (length f)) a (place_shape (suc b) f)

  scanned : (b h : ℕ) (f : List (Term C (Full K) A)) → Scanned b h (place_shape (b + h) f)
      (foldl scan_term (record { base = b; head = h; tail = 0; name = none }) f)
  scanned b h [] = ap closed (sym (append-nil (range b h)))
  scanned b h (con c ∷ f) =
      scan_atom b h (place_shape (suc (b + h)) f) (foldl scan_term (record { base = b; head = suc h; tail = 0; name = none }) f)
      (subst (λ (n : ℕ). Scanned b (suc h) (place_shape n f) (foldl scan_term (record { base = b; head = suc h; tail = 0; name = none }) f))
      (let e : b + suc h ≡ suc (b + h) = omega arith in e) (scanned b (suc h) f))
  scanned b h (var (basic k) a ∷ f) =
      scan_atom b h (place_shape (suc (b + h)) f) (foldl scan_term (record { base = b; head = suc h; tail = 0; name = none }) f)
      (subst (λ (n : ℕ). Scanned b (suc h) (place_shape n f) (foldl scan_term (record { base = b; head = suc h; tail = 0; name = none }) f))
      (let e : b + suc h ≡ suc (b + h) = omega arith in e) (scanned b (suc h) f))
  scanned b h (var list a ∷ f) =
      scan_list b h (length f) a (place_shape (suc (b + h)) f) (foldl scan_term (record { base = b; head = h; tail = 0; name = some a }) f)
      (is_run (suc (b + h)) f)
      (scan_tail b h 0 a f ∙ ap (λ (n : ℕ). gapped (range b h) a (range (suc (b + h)) n)) (let e : 0 + length f ≡ length f = omega arith in e))

  -- THE SCAN gives the field's shape over places
  pub scan_agrees : (b : ℕ) (f : List (Term C (Full K) A)) (S : Shape ℕ A) → place_shape b f ≡ some S → spot_shape (spot_of b f) ≡ S
  scan_agrees b f S e =
      subst (λ (o : Option (Shape ℕ A)). Scanned b 0 o (spot_of b f)) (ap (λ (n : ℕ). place_shape n f) (let q : b + 0 ≡ b = omega arith in q) ∙ e)
      (scanned b 0 f) ∙ nothing S
    where
      nothing : (S : Shape ℕ A) → before_it [] S ≡ S
      nothing (closed xs) = refl
      nothing (gapped p l q) = refl

-- ---- rows

some_at : (b h i : ℕ) → i < h → get_or (map some (range b h)) i none ≡ some (b + i)
some_at b h i l = range_at some b h i none l

row_closed : (b h n p : ℕ) → n ≡ h → p < n → get_or (map some (range b h)) p none ≡ cond (ltb p h) (some (b + p)) none
row_closed b h n p e l = rw (lt-ltb p h (omega arith)) (some_at b h p (omega arith))

module _ {L : Type 0} where
  -- the numbers have room for n items
  abbrev pub RoomFor : Spot L → ℕ → Type 0
  RoomFor s n = Room (spot_shape s) n

  module _ (b h t n : ℕ) (l : L) (r : h + t ≤ n) where
    abbrev gap_row : List (Option ℕ)
    gap_row = map some (range b h) ++ (replicate (n - (h + t)) none ++ map some (range (suc (b + h)) t))

    gap_long : length gap_row ≡ n
    gap_long = simp (length-append, length-map, length-replicate, range_length) (omega arith)

    gap_at : (p : ℕ) → p < n → get_or gap_row p none ≡ cond (ltb p h) (some (b + p)) (tail_at (some l) (suc (b + h)) t n p)
    gap_at p q = go (dec_lt p h) (dec_le n (p + t))
      where
        front : List (Option ℕ)
        front = map some (range b h)

        gap : List (Option ℕ)
        gap = replicate (n - (h + t)) none

        back : List (Option ℕ)
        back = map some (range (suc (b + h)) t)

        front_long : length front ≡ h
        front_long = length-map (range b h) some ∙ range_length b h

        gap_is : length gap ≡ n - (h + t)
        gap_is = length-replicate (n - (h + t)) none

        behind : h ≤ p → get_or gap_row p none ≡ get_or (gap ++ back) (p - h) none
        behind z =
            ap (λ (i : ℕ). get_or gap_row i none) (let e : p ≡ length front + (p - h) = omega (arith, front_long) in e)
            ∙ get_or-append-add front (gap ++ back) (p - h) none

        go : Dec (p < h) → Dec (n ≤ p + t) → get_or gap_row p none ≡ cond (ltb p h) (some (b + p)) (tail_at (some l) (suc (b + h)) t n p)
        go (yes y) d = rw (lt-ltb p h y) (get_or-append front (gap ++ back) none p (omega (arith, front_long)) ∙ some_at b h p y)
        go (no y) (yes d) =
            rw (le-ltb p h (omega arith), le-leb n (p + t) d)
            (behind (omega arith)
            ∙ ap (λ (i : ℕ). get_or (gap ++ back) i none) (let e : p - h ≡ length gap + (p + t - n) = omega (arith, gap_is) in e)
            ∙ get_or-append-add gap back (p + t - n) none
            ∙ some_at (suc (b + h)) t (p + t - n) (omega arith))
        go (no y) (no d) =
            rw (le-ltb p h (omega arith), lt-leb n (p + t) (omega arith))
            (behind (omega arith) ∙ get_or-append gap back none (p - h) (omega (arith, gap_is))
            ∙ get_or-replicate (n - (h + t)) (p - h) none none (omega arith))

  -- THE ROW of a field over n items, position by position
  row_from : (b h t n : ℕ) (o : Option L) → Room (shape_from b h t o) n → row n (shape_from b h t o)
      ≡ tabulate n (cell_at (record { base = b; head = h; tail = t; name = o }) n)
  row_from b h t n none r =
      let e = r ∙ range_length b h in
      tabulated n (map some (range b h)) (cell_at {L = L} (record { base = b; head = h; tail = t; name = none }) n) none
      (length-map (range b h) some ∙ range_length b h ∙ sym e) (λ p l. row_closed b h n p e l)
  row_from b h t n (some l) r =
      let q : h + t ≤ n = omega (arith, r, range_length b h, range_length (suc (b + h)) t) in
      ap₂ (λ (x y : ℕ). map some (range b h) ++ (replicate (n - (x + y)) none ++ map some (range (suc (b + h)) t))) (range_length b h)
      (range_length (suc (b + h)) t)
      ∙ tabulated n (gap_row b h t n l q) (cell_at (record { base = b; head = h; tail = t; name = some l }) n) none (gap_long b h t n l q) (gap_at b h t n l q)

  pub row_spot : (s : Spot L) (n : ℕ) → RoomFor s n → row n (spot_shape s) ≡ tabulate n (cell_at s n)
  row_spot s n r = row_from s.base s.head s.tail n s.name r

-- ---- joins and cells, position by position

module _ (below : ℕ → ℕ → Bool) (T : Table) where
  joins_from : (k p : ℕ) (a b : ℕ → Option ℕ) (atoms : List ℕ)
      → joins_places below T (meeting (tabulate k (λ i. a (p + i))) (tabulate k (λ i. b (p + i)))) atoms ≡ join_from below T a b k p atoms
  joins_from zero p a b atoms = refl
  joins_from (suc k) p a b atoms =
      ap₂ (λ (x y : List (Option ℕ)). joins_places below T (meeting (a (p + 0) ∷ x) (b (p + 0) ∷ y)) atoms) (shift a) (shift b)
      ∙ ap (λ (i : ℕ). joins_places below T (meeting (a i ∷ tabulate k (λ i. a (suc p + i))) (b i ∷ tabulate k (λ i. b (suc p + i)))) atoms)
      (let e : p + 0 ≡ p = omega arith in e)
      ∙ go (a p) (b p) (λ next. joins_from k (suc p) a b next)
    where
      shift : (f : ℕ → Option ℕ) → tabulate k (λ i. f (p + suc i)) ≡ tabulate k (λ i. f (suc p + i))
      shift f = tabulate_same k (λ i. f (p + suc i)) (λ i. f (suc p + i)) (λ i l. ap f (let e : p + suc i ≡ suc p + i = omega arith in e))

      goes : (o : Option (List ℕ)) (f g : List ℕ → Option (List ℕ)) → ((next : List ℕ) → f next ≡ g next) → and_then o f ≡ and_then o g
      goes none f g h = refl
      goes (some next) f g h = h next

      go : (x y : Option ℕ) → ((next : List ℕ) → joins_places below T (meeting (tabulate k (λ i. a (suc p + i))) (tabulate k (λ i. b (suc p + i)))) next
          ≡ join_from below T a b k (suc p) next)
          → joins_places below T (meeting (x ∷ tabulate k (λ i. a (suc p + i))) (y ∷ tabulate k (λ i. b (suc p + i)))) atoms
          ≡ and_then (join_cells below T x y atoms) (λ next. join_from below T a b k (suc p) next)
      go none y rec = rec atoms
      go (some x) none rec = rec atoms
      go (some x) (some y) rec = goes (join_places below T x y atoms) _ (λ next. join_from below T a b k (suc p) next) rec

merged_from : (n : ℕ) (a b : ℕ → Option ℕ) → Covered (tabulate n a) (tabulate n b) → merge (tabulate n a) (tabulate n b)
    ≡ tabulate n (λ p. pick_cell (a p) (b p))
merged_from zero a b h = refl
merged_from (suc n) a b h = go (a 0) (b 0) h (merged_from n (λ i. a (suc i)) (λ i. b (suc i)))
  where
    go : (x y : Option ℕ) → Covered (x ∷ tabulate n (λ i. a (suc i))) (y ∷ tabulate n (λ i. b (suc i)))
        → (Covered (tabulate n (λ i. a (suc i))) (tabulate n (λ i. b (suc i))) → merge (tabulate n (λ i. a (suc i))) (tabulate n (λ i. b (suc i)))
        ≡ tabulate n (λ p. pick_cell (a (suc p)) (b (suc p))))
        → merge (x ∷ tabulate n (λ i. a (suc i))) (y ∷ tabulate n (λ i. b (suc i))) ≡ pick_cell x y ∷ tabulate n (λ p. pick_cell (a (suc p)) (b (suc p)))
    go (some x) y h rec = ap (λ (l : List ℕ). x ∷ l) (rec h)
    go none (some y) h rec = ap (λ (l : List ℕ). y ∷ l) (rec h)
    go none none h rec = absurd h

module _ {L M : Type 0} (s : Spot L) (s' : Spot M) (c : Cand) (i : Memᴰ c (cands (spot_shape s) (spot_shape s'))) where
  abbrev n : ℕ
  n = span (spot_shape s) (spot_shape s') c

  same_row : row n (spot_shape s) ≡ tabulate n (cell_at s n)
  same_row = row_spot s n (room_of (spot_shape s) (spot_shape s') c i).0

  same_row' : row n (spot_shape s') ≡ tabulate n (cell_at s' n)
  same_row' = row_spot s' n (room_of (spot_shape s) (spot_shape s') c i).1

  -- THE JOINS of a candidate
  pub spot_joins : (below : ℕ → ℕ → Bool) (T : Table) (atoms : List ℕ) → joins_places below T (equations (spot_shape s) (spot_shape s') c) atoms
      ≡ join_from below T (cell_at s n) (cell_at s' n) n 0 atoms
  spot_joins below T atoms =
      ap₂ (λ (x y : List (Option ℕ)). joins_places below T (meeting x y) atoms) (same_row ∙ from (cell_at s n)) (same_row' ∙ from (cell_at s' n))
      ∙ joins_from below T n 0 (cell_at s n) (cell_at s' n) atoms
    where
      from : (f : ℕ → Option ℕ) → tabulate n f ≡ tabulate n (λ i. f (0 + i))
      from f = tabulate_same n f (λ i. f (0 + i)) (λ i l. ap f (let e : i ≡ 0 + i = omega arith in e))

  -- THE PLACES of the entry's field
  pub spot_cells : cells (spot_shape s) (spot_shape s') c ≡ tabulate n (λ p. pick_cell (cell_at s n p) (cell_at s' n p))
  spot_cells =
      ap₂ merge same_row same_row'
      ∙ merged_from n (cell_at s n) (cell_at s' n) (subst (λ (x : List (Option ℕ)). Covered x (tabulate n (cell_at s' n))) same_row
      (subst (λ (y : List (Option ℕ)). Covered (row n (spot_shape s)) y) same_row' (covered_of (spot_shape s) (spot_shape s') c i)))

-- ---- candidates

module _ {L M : Type 0} where
  cands_from_lem : (b h t : ℕ) (o : Option L) (b' h' t' : ℕ) (o' : Option M) → cands (shape_from b h t o) (shape_from b' h' t' o') ≡ cands_from h t o h' t' o'
  cands_from_lem b h t none b' h' t' none = rw (range_length b h, range_length b' h')
  cands_from_lem b h t none b' h' t' (some m) = rw (range_length b h, range_length b' h', range_length (suc (b' + h')) t')
  cands_from_lem b h t (some l) b' h' t' none = rw (range_length b h, range_length (suc (b + h)) t, range_length b' h')
  cands_from_lem b h t (some l) b' h' t' (some m) = rw (range_length b h, range_length (suc (b + h)) t, range_length b' h', range_length (suc (b' + h')) t')

  -- THE CANDIDATES of two fields
  pub spot_cands_lem : (s : Spot L) (s' : Spot M) → cands (spot_shape s) (spot_shape s') ≡ spot_cands s s'
  spot_cands_lem s s' = cands_from_lem s.base s.head s.tail s.name s'.base s'.head s'.tail s'.name
