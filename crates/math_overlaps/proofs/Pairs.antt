-- One pair of fields: the entry's field of a candidate, and exactness field by field.
use mathlib.Core.Path.{◌≡◌, refl, sym, ◌∙◌, ap, ap₂, subst as along}
use mathlib.Core.Logic.{ite}
use mathlib.Core.List.{List, ◌++◌, map, map-append, Memᴰ}
use Prim.Native.Nat.{ℕ, ◌+◌, ◌-◌, ◌≤◌, ◌<◌, max}
use native.Mathlib.Omega.{arith}
use native.Mathlib.Decide.{dec_lt}
use lib.ListN.{length, take, drop, length-append, length-map, length-take, length-drop, take-append-drop}
use Rattle.math_overlaps.specs.Shapes.{Shape, closed, gapped}
use Rattle.math_overlaps.specs.Candidates.{Cand, exact, long, before, wide, cands}
use Rattle.math_overlaps.specs.Entries.{row, span, cells, equations, field_for}
use Rattle.math_overlaps.proofs.Seqs.{cut, split3, SolvesV}
use Rattle.math_overlaps.proofs.Candidates.{Room, pick, Runs, pick_in_lem, pick_of, pick_runs, exact≢long}
use Rattle.math_overlaps.proofs.Rows.{Covered, merge_length, merge_fit, fit_merge, Inst, inst_room, inst_fit, fit_inst, long_drop, long_add, Reach}
use Rattle.math_overlaps.proofs.Rows.{covered_row, row_length}

module _ {A L M : Type 0} where
  pub room_of : (S₁ : Shape A L) (S₂ : Shape A M) (c : Cand) → Memᴰ c (cands S₁ S₂) → Room S₁ (span S₁ S₂ c) × Room S₂ (span S₁ S₂ c)
  room_of S₁ S₂ (exact n) i = let p = pick_of S₁ S₂ (exact n) i n refl in (p.1, p.2)
  room_of S₁ S₂ long i = let p = pick_of S₁ S₂ long i (wide S₁ S₂) (omega arith) in (p.1, p.2)

  pub reach_of : (S₁ : Shape A L) (S₂ : Shape A M) (c : Cand) → Memᴰ c (cands S₁ S₂) → Reach (span S₁ S₂ c) S₁ S₂
  reach_of (closed xs) S₂ c i = tt
  reach_of (gapped f l t) (closed ys) c i = tt
  reach_of (gapped f l t) (gapped f' l' t') long i = omega arith
  reach_of (gapped f l t) (gapped f' l' t') (exact n) i = go (dec_lt n W) (pick_of (gapped f l t) (gapped f' l' t') (exact n) i n refl).0
    where
      W : ℕ
      W = max (length f) (length f') + max (length t) (length t')

      go : (d : Dec (n < W)) → ite d (exact n) long ≡ exact n → n ≤ W
      go (yes h) e = omega arith
      go (no h) e = let o : ◌≡◌ {A = ℕ} 0 1 = cc in omega arith

  pub covered_of : (S₁ : Shape A L) (S₂ : Shape A M) (c : Cand) → Memᴰ c (cands S₁ S₂) → Covered (row (span S₁ S₂ c) S₁) (row (span S₁ S₂ c) S₂)
  covered_of S₁ S₂ c i = let r = room_of S₁ S₂ c i in covered_row (span S₁ S₂ c) S₁ S₂ r.0 r.1 (reach_of S₁ S₂ c i)

  pub cells_length : (S₁ : Shape A L) (S₂ : Shape A M) (c : Cand) → Memᴰ c (cands S₁ S₂) → length (cells S₁ S₂ c) ≡ span S₁ S₂ c
  cells_length S₁ S₂ c i =
      merge_length (row (span S₁ S₂ c) S₁) (row (span S₁ S₂ c) S₂) (covered_of S₁ S₂ c i) ∙ row_length (span S₁ S₂ c) S₁ (room_of S₁ S₂ c i).0

module _ (A L M : Type 0) where
  pub no_long₁ : (xs : List A) (S₂ : Shape A M) → Memᴰ long (cands {L = L} (closed xs) S₂) → ⊥
  no_long₁ xs S₂ i = exact≢long (pick_of {L = L} (closed xs) S₂ long i (wide {L = L} (closed xs) S₂) (omega arith)).0

  pub no_long₂ : (f : List A) (l : L) (t : List A) (ys : List A) → Memᴰ long (cands {M = M} (gapped f l t) (closed ys)) → ⊥
  no_long₂ f l t ys i = exact≢long (pick_of {R = M} (gapped f l t) (closed ys) long i (wide {M = M} (gapped f l t) (closed ys)) (omega arith)).0

module _ {A L M G C : Type 0} (v : A → C) (g : G) where
  -- a run of as many items as the candidate has cells
  even_to : (S₁ : Shape A L) (S₂ : Shape A M) (c : Cand) → Memᴰ c (cands S₁ S₂) → (w : List C) → length w ≡ span S₁ S₂ c → Inst v S₁ w → Inst v S₂ w
      → SolvesV v (equations S₁ S₂ c) × (w ≡ map v (cells S₁ S₂ c))
  even_to S₁ S₂ c i w e p q =
      merge_fit v (row (span S₁ S₂ c) S₁) (row (span S₁ S₂ c) S₂) (covered_of S₁ S₂ c i) w (inst_fit v S₁ (span S₁ S₂ c) w e p)
      (inst_fit v S₂ (span S₁ S₂ c) w e q)

  even_from : (S₁ : Shape A L) (S₂ : Shape A M) (c : Cand) → Memᴰ c (cands S₁ S₂)
      → (w : List C) → SolvesV v (equations S₁ S₂ c) → w ≡ map v (cells S₁ S₂ c)
      → Inst v S₁ w × Inst v S₂ w
  even_from S₁ S₂ c i w s e =
      let r = fit_merge v (row (span S₁ S₂ c) S₁) (row (span S₁ S₂ c) S₂) (covered_of S₁ S₂ c i) w s e in
      (fit_inst v S₁ (span S₁ S₂ c) w r.0, fit_inst v S₂ (span S₁ S₂ c) w r.1)

  -- a run fits the entry of a candidate only if the candidate is for it
  pub entry_runs : (S₁ : Shape A L) (S₂ : Shape A M) (c : Cand) → Memᴰ c (cands S₁ S₂)
      → (w : List C) → Inst v (field_for g S₁ S₂ c) w → Runs S₁ S₂ c (length w)
  entry_runs S₁ S₂ (exact n) i w h = ap length h ∙ length-map (cells S₁ S₂ (exact n)) v ∙ cells_length S₁ S₂ (exact n) i
  entry_runs S₁ S₂ long i w h = omega (arith, simp (length-append, length-map, length-take, length-drop) at (ap length h.1), cells_length S₁ S₂ long i)

  pub entry_pick : (S₁ : Shape A L) (S₂ : Shape A M) (c : Cand) → Memᴰ c (cands S₁ S₂)
      → (w : List C) → Inst v (field_for g S₁ S₂ c) w → pick S₁ S₂ (length w) ≡ c
  entry_pick S₁ S₂ c i w h = (pick_of S₁ S₂ c i (length w) (entry_runs S₁ S₂ c i w h)).0

  -- both shapes have the run: it fits the entry of the candidate that it picks
  abbrev Meets : Shape A L → Shape A M → List C → Cand → Type 0
  Meets S₁ S₂ w c = Memᴰ c (cands S₁ S₂) × SolvesV v (equations S₁ S₂ c) × Inst v (field_for g S₁ S₂ c) w

  to_exact : (S₁ : Shape A L) (S₂ : Shape A M) (w : List C) → Inst v S₁ w → Inst v S₂ w
      → (n : ℕ) → Memᴰ (exact n) (cands S₁ S₂) → length w ≡ n → Meets S₁ S₂ w (exact n)
  to_exact S₁ S₂ w p q n i e = let r = even_to S₁ S₂ (exact n) i w e p q in (i, r.0, r.1)

  -- the two ends of a `long` entry
  ends_of : (S₁ : Shape A L) (S₂ : Shape A M) (a b : List C) → Memᴰ long (cands S₁ S₂)
      → length a ≡ max (before S₁) (before S₂) → a ++ b ≡ map v (cells S₁ S₂ long)
      → (a ≡ map v (take (max (before S₁) (before S₂)) (cells S₁ S₂ long))) × (b ≡ map v (drop (max (before S₁) (before S₂)) (cells S₁ S₂ long)))
  ends_of S₁ S₂ a b i ha e = cut a (map v (take H z)) b (map v (drop H z)) (simp (length-map, length-take) (omega (arith, cells_length S₁ S₂ long i)))
      (e ∙ ap (map v) (sym (take-append-drop H z)) ∙ map-append v (take H z) (drop H z))
    where
      H : ℕ
      H = max (before S₁) (before S₂)

      z : List A
      z = cells S₁ S₂ long

  to_long : (S₁ : Shape A L) (S₂ : Shape A M) (w : List C) → Inst v S₁ w → Inst v S₂ w
      → Memᴰ long (cands S₁ S₂) → wide S₁ S₂ ≤ length w → Meets S₁ S₂ w long
  to_long (closed xs) S₂ w p q i h = absurd (no_long₁ A L M xs S₂ i)
  to_long (gapped f l t) (closed ys) w p q i h = absurd (no_long₂ A L M f l t ys i)
  to_long (gapped f l t) (gapped f' l' t') w p q i h = (i, r.0, (x.1, x.3 ∙ ap₂ (λ (a b : List C). a ++ (x.1 ++ b)) e.0 e.1))
    where
      S₁ : Shape A L
      S₁ = gapped f l t

      S₂ : Shape A M
      S₂ = gapped f' l' t'

      x : (a m b : List C) × (w ≡ a ++ (m ++ b)) × (length a ≡ max (length f) (length f')) × (length b ≡ max (length t) (length t'))
      x = split3 (max (length f) (length f')) (max (length t) (length t')) w h

      r : SolvesV v (equations S₁ S₂ long) × (x.0 ++ x.2 ≡ map v (cells S₁ S₂ long))
      r = even_to S₁ S₂ long i (x.0 ++ x.2) (simp length-append (omega (arith, x.4, x.5)))
          (long_drop v f l t x.0 x.1 x.2 (omega (arith, x.4)) (omega (arith, x.5)) (along (Inst v S₁) x.3 p))
          (long_drop v f' l' t' x.0 x.1 x.2 (omega (arith, x.4)) (omega (arith, x.5)) (along (Inst v S₂) x.3 q))

      e : (x.0 ≡ map v (take (max (length f) (length f')) (cells S₁ S₂ long))) × (x.2 ≡ map v (drop (max (length f) (length f')) (cells S₁ S₂ long)))
      e = ends_of S₁ S₂ x.0 x.2 i x.4 r.1

  pub pair_to : (S₁ : Shape A L) (S₂ : Shape A M) (w : List C) → Inst v S₁ w → Inst v S₂ w
      → Memᴰ (pick S₁ S₂ (length w)) (cands S₁ S₂) × SolvesV v (equations S₁ S₂ (pick S₁ S₂ (length w)))
      × Inst v (field_for g S₁ S₂ (pick S₁ S₂ (length w))) w
  pair_to S₁ S₂ w p q = go (pick S₁ S₂ (length w)) (pick_in_lem S₁ S₂ (length w) (inst_room v S₁ w p) (inst_room v S₂ w q)) (pick_runs S₁ S₂ (length w))
    where
      go : (c : Cand) → Memᴰ c (cands S₁ S₂) → Runs S₁ S₂ c (length w) → Meets S₁ S₂ w c
      go (exact n) i r = to_exact S₁ S₂ w p q n i r
      go long i r = to_long S₁ S₂ w p q i r

  -- a run that fits an entry whose equations hold fits both shapes
  pub pair_from : (S₁ : Shape A L) (S₂ : Shape A M) (c : Cand) → Memᴰ c (cands S₁ S₂)
      → (w : List C) → SolvesV v (equations S₁ S₂ c) → Inst v (field_for g S₁ S₂ c) w
      → Inst v S₁ w × Inst v S₂ w
  pair_from S₁ S₂ (exact n) i w s h = even_from S₁ S₂ (exact n) i w s h
  pair_from (closed xs) S₂ long i w s h = absurd (no_long₁ A L M xs S₂ i)
  pair_from (gapped f l t) (closed ys) long i w s h = absurd (no_long₂ A L M f l t ys i)
  pair_from (gapped f l t) (gapped f' l' t') long i w s h = (
    along (Inst v S₁) (sym h.1) (long_add v f l t a h.0 b la.0 lb.0 r.0),
    along (Inst v S₂) (sym h.1) (long_add v f' l' t' a h.0 b la.1 lb.1 r.1),
  )
    where
      S₁ : Shape A L
      S₁ = gapped f l t

      S₂ : Shape A M
      S₂ = gapped f' l' t'

      H : ℕ
      H = max (length f) (length f')

      z : List A
      z = cells S₁ S₂ long

      a : List C
      a = map v (take H z)

      b : List C
      b = map v (drop H z)

      la : (length f ≤ length a) × (length f' ≤ length a)
      la = simp (length-map, length-take) (omega (arith, cells_length S₁ S₂ long i))

      lb : (length t ≤ length b) × (length t' ≤ length b)
      lb = simp (length-map, length-drop) (omega (arith, cells_length S₁ S₂ long i))

      r : Inst v S₁ (a ++ b) × Inst v S₂ (a ++ b)
      r = even_from S₁ S₂ long i (a ++ b) s (sym (map-append v (take H z) (drop H z)) ∙ ap (map v) (take-append-drop H z))
