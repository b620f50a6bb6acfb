-- Two shapes laid over a run of n items: rows of cells, the equations where both have an atom, and the merged row.
use mathlib.Core.Path.{◌≡◌, refl, sym, ◌∙◌, ap, ap₂, subst as along}
use mathlib.Core.Option.{Option, none, some}
use mathlib.Core.List.{List, [], ◌∷◌, ◌++◌, map, append_assoc, map-append, head-eq_of_cons-eq, tail-eq_of_cons-eq, nil≢cons, cons≢nil}
use Prim.Native.Nat.{ℕ, zero, suc, ◌+◌, ◌-◌, ◌≤◌, max}
use native.Mathlib.Omega.{arith}
use native.Mathlib.Decide.{dec_le}
use lib.ListN.{length, replicate, length-append, length-map, length-replicate}
use Rattle.math_overlaps.specs.Shapes.{Shape, closed, gapped}
use Rattle.math_overlaps.specs.Candidates.{wide}
use Rattle.math_overlaps.specs.Entries.{grow, row, meeting, merge}
use Rattle.math_overlaps.proofs.Seqs.{pre_of, suf_of, SolvesV}
use Rattle.math_overlaps.proofs.Candidates.{Room}

module _ {A : Type 0} where
  -- the same length, and in every place at least one atom
  abbrev pub Covered : List (Option A) → List (Option A) → Type 0
  Covered [] [] = Unit {0}
  Covered [] (p ∷ q) = ⊥
  Covered (o ∷ r) [] = ⊥
  Covered (some a ∷ r) (p ∷ q) = Covered r q
  Covered (none ∷ r) (some b ∷ q) = Covered r q
  Covered (none ∷ r) (none ∷ q) = ⊥

  pub covered_sym : (r q : List (Option A)) → Covered r q → Covered q r
  covered_sym [] [] h = tt
  covered_sym [] (p ∷ q) h = h
  covered_sym (o ∷ r) [] h = h
  covered_sym (some a ∷ r) (some b ∷ q) h = covered_sym r q h
  covered_sym (some a ∷ r) (none ∷ q) h = covered_sym r q h
  covered_sym (none ∷ r) (some b ∷ q) h = covered_sym r q h
  covered_sym (none ∷ r) (none ∷ q) h = h

  pub merge_length : (r q : List (Option A)) → Covered r q → length (merge r q) ≡ length r
  merge_length [] [] h = refl
  merge_length [] (p ∷ q) h = absurd h
  merge_length (o ∷ r) [] h = absurd h
  merge_length (some a ∷ r) (p ∷ q) h = ap suc (merge_length r q h)
  merge_length (none ∷ r) (some b ∷ q) h = ap suc (merge_length r q h)
  merge_length (none ∷ r) (none ∷ q) h = absurd h

  -- a row of atoms covers
  covers_all : (xs : List A) (q : List (Option A)) → length xs ≡ length q → Covered (map some xs) q
  covers_all [] [] h = tt
  covers_all [] (p ∷ q) h = absurd (omega arith)
  covers_all (a ∷ xs) [] h = absurd (omega arith)
  covers_all (a ∷ xs) (p ∷ q) h = covers_all xs q (omega arith)

  -- atoms from the front on one side, atoms to the end on the other, that meet
  covers_meet : (f : List A) (r s : List (Option A)) (t : List A) → length (map some f ++ r) ≡ length (s ++ map some t)
      → length r ≤ length t → Covered (map some f ++ r) (s ++ map some t)
  covers_meet f r [] t e h = covered_sym (map some t) (map some f ++ r) (covers_all t (map some f ++ r) (sym (length-map t some) ∙ sym e))
  covers_meet [] r (p ∷ s) t e h = absurd (omega (arith, simp (length-append, length-map) at e))
  covers_meet (a ∷ f) r (p ∷ s) t e h = covers_meet f r s t (omega arith) h

module _ {A C : Type 0} where
  abbrev pub Fit : (A → C) → List (Option A) → List C → Type 0
  Fit v [] [] = Unit {0}
  Fit v [] (c ∷ w) = ⊥
  Fit v (o ∷ r) [] = ⊥
  Fit v (some a ∷ r) (c ∷ w) = (c ≡ v a) × Fit v r w
  Fit v (none ∷ r) (c ∷ w) = Fit v r w

module _ {C : Type 0} where
  regroup : (a b c d : List C) → (a ++ b) ++ (c ++ d) ≡ a ++ ((b ++ c) ++ d)
  regroup a b c d = simp append_assoc

  regroup₂ : (a b m c d : List C) → (a ++ b) ++ (m ++ (c ++ d)) ≡ a ++ ((b ++ (m ++ c)) ++ d)
  regroup₂ a b m c d = simp append_assoc

module _ {A C : Type 0} (v : A → C) where
  pub merge_fit : (r q : List (Option A)) → Covered r q → (w : List C) → Fit v r w → Fit v q w → SolvesV v (meeting r q) × (w ≡ map v (merge r q))
  merge_fit [] [] h [] p p' = (tt, refl)
  merge_fit [] [] h (c ∷ w) p p' = absurd p
  merge_fit [] (o ∷ q) h w p p' = absurd h
  merge_fit (o ∷ r) [] h w p p' = absurd h
  merge_fit (o ∷ r) (o' ∷ q) h [] p p' = absurd p
  merge_fit (some a ∷ r) (some b ∷ q) h (c ∷ w) p p' =
      let i = merge_fit r q h w p.1 p'.1 in ((sym p.0 ∙ p'.0, i.0), ap₂ (λ (x : C) (l : List C). x ∷ l) p.0 i.1)
  merge_fit (some a ∷ r) (none ∷ q) h (c ∷ w) p p' = let i = merge_fit r q h w p.1 p' in (i.0, ap₂ (λ (x : C) (l : List C). x ∷ l) p.0 i.1)
  merge_fit (none ∷ r) (some b ∷ q) h (c ∷ w) p p' = let i = merge_fit r q h w p p'.1 in (i.0, ap₂ (λ (x : C) (l : List C). x ∷ l) p'.0 i.1)
  merge_fit (none ∷ r) (none ∷ q) h (c ∷ w) p p' = absurd h

  pub fit_merge : (r q : List (Option A)) → Covered r q → (w : List C) → SolvesV v (meeting r q) → w ≡ map v (merge r q) → Fit v r w × Fit v q w
  fit_merge [] [] h [] s e = (tt, tt)
  fit_merge [] [] h (c ∷ w) s e = absurd (cons≢nil e)
  fit_merge [] (o ∷ q) h w s e = absurd h
  fit_merge (o ∷ r) [] h w s e = absurd h
  fit_merge (some a ∷ r) (o' ∷ q) h [] s e = absurd (nil≢cons e)
  fit_merge (none ∷ r) (some b ∷ q) h [] s e = absurd (nil≢cons e)
  fit_merge (none ∷ r) (none ∷ q) h w s e = absurd h
  fit_merge (some a ∷ r) (some b ∷ q) h (c ∷ w) s e =
      let i = fit_merge r q h w s.1 (tail-eq_of_cons-eq e) in ((head-eq_of_cons-eq e, i.0), (head-eq_of_cons-eq e ∙ s.0, i.1))
  fit_merge (some a ∷ r) (none ∷ q) h (c ∷ w) s e = let i = fit_merge r q h w s (tail-eq_of_cons-eq e) in ((head-eq_of_cons-eq e, i.0), i.1)
  fit_merge (none ∷ r) (some b ∷ q) h (c ∷ w) s e = let i = fit_merge r q h w s (tail-eq_of_cons-eq e) in (i.0, (head-eq_of_cons-eq e, i.1))

  pub fit_join : (r q : List (Option A)) (w u : List C) → Fit v r w → Fit v q u → Fit v (r ++ q) (w ++ u)
  fit_join [] q [] u p p' = p'
  fit_join [] q (c ∷ w) u p p' = absurd p
  fit_join (o ∷ r) q [] u p p' = absurd p
  fit_join (some a ∷ r) q (c ∷ w) u p p' = (p.0, fit_join r q w u p.1 p')
  fit_join (none ∷ r) q (c ∷ w) u p p' = fit_join r q w u p p'

  pub fit_split : (r q : List (Option A)) (w : List C) → Fit v (r ++ q) w → (w₁ w₂ : List C) × (w ≡ w₁ ++ w₂) × Fit v r w₁ × Fit v q w₂
  fit_split [] q w p = ([], w, refl, tt, p)
  fit_split (o ∷ r) q [] p = absurd p
  fit_split (some a ∷ r) q (c ∷ w) p = let i = fit_split r q w p.1 in (c ∷ i.0, i.1, ap (λ (l : List C). c ∷ l) i.2, (p.0, i.3), i.4)
  fit_split (none ∷ r) q (c ∷ w) p = let i = fit_split r q w p in (c ∷ i.0, i.1, ap (λ (l : List C). c ∷ l) i.2, i.3, i.4)

  pub fit_some : (xs : List A) → Fit v (map some xs) (map v xs)
  fit_some [] = tt
  fit_some (a ∷ xs) = (refl, fit_some xs)

  pub some_fit : (xs : List A) (w : List C) → Fit v (map some xs) w → w ≡ map v xs
  some_fit [] [] p = refl
  some_fit [] (c ∷ w) p = absurd p
  some_fit (a ∷ xs) [] p = absurd p
  some_fit (a ∷ xs) (c ∷ w) p = ap₂ (λ (x : C) (l : List C). x ∷ l) p.0 (some_fit xs w p.1)

  pub fit_none : (k : ℕ) (w : List C) → length w ≡ k → Fit v (replicate k none) w
  fit_none zero [] e = tt
  fit_none zero (c ∷ w) e = absurd (omega arith)
  fit_none (suc k) [] e = absurd (omega arith)
  fit_none (suc k) (c ∷ w) e = fit_none k w (omega arith)

  -- what lies between long enough ends does not matter to a gapped shape
  ends : (f t : List A) (a m b m₁ : List C) → length f ≤ length a → length t ≤ length b → a ++ (m ++ b) ≡ map v f ++ (m₁ ++ map v t)
      → ((a' : List C) × (a ≡ map v f ++ a')) × ((b' : List C) × (b ≡ b' ++ map v t))
  ends f t a m b m₁ p q e = (
    pre_of (map v f) (m₁ ++ map v t) a (m ++ b) (sym e) (simp length-map (p)),
    suf_of (map v f ++ m₁) (map v t) (a ++ m) b (append_assoc (map v f) m₁ (map v t) ∙ sym e ∙ sym (append_assoc a m b)) (simp length-map (q)),
  )

  -- a run is an instance of a shape
  module _ {L : Type 0} where
    abbrev pub Inst : Shape A L → List C → Type 0
    Inst (closed xs) w = w ≡ map v xs
    Inst (gapped f l t) w = (m : List C) × (w ≡ map v f ++ (m ++ map v t))

    pub inst_room : (S : Shape A L) (w : List C) → Inst S w → Room S (length w)
    inst_room (closed xs) w h = ap length h ∙ length-map xs v
    inst_room (gapped f l t) w h = omega (arith, simp (length-append, length-map) at (ap length h.1))

    pub inst_fit : (S : Shape A L) (n : ℕ) (w : List C) → length w ≡ n → Inst S w → Fit v (row n S) w
    inst_fit (closed xs) n w e h = rw h (fit_some xs)
    inst_fit (gapped f l t) n w e h =
        rw h.1 (fit_join (map some f) (replicate (n - (length f + length t)) none ++ map some t) (map v f) (h.0 ++ map v t) (fit_some f)
        (fit_join (replicate (n - (length f + length t)) none) (map some t) h.0 (map v t)
        (fit_none (n - (length f + length t)) h.0 (omega (arith, simp (length-append, length-map) at (ap length h.1)))) (fit_some t)))

    pub fit_inst : (S : Shape A L) (n : ℕ) (w : List C) → Fit v (row n S) w → Inst S w
    fit_inst (closed xs) n w h = some_fit xs w h
    fit_inst (gapped f l t) n w h =
        let i = fit_split (map some f) (replicate (n - (length f + length t)) none ++ map some t) w h in
        let j = fit_split (replicate (n - (length f + length t)) none) (map some t) i.1 i.4 in
        (j.0, i.2 ∙ ap₂ (λ (x y : List C). x ++ y) (some_fit f i.0 i.3) (j.2 ∙ ap (λ (y : List C). j.0 ++ y) (some_fit t j.1 j.4)))

    pub long_drop : (f : List A) (l : L) (t : List A) (a m b : List C) → length f ≤ length a
        → length t ≤ length b → Inst (gapped f l t) (a ++ (m ++ b)) → Inst (gapped f l t) (a ++ b)
    long_drop f l t a m b p q h =
        let e = ends f t a m b h.0 p q h.1 in
        (e.0.0 ++ e.1.0, ap₂ (λ (x y : List C). x ++ y) e.0.1 e.1.1 ∙ regroup (map v f) e.0.0 e.1.0 (map v t))

    pub long_add : (f : List A) (l : L) (t : List A) (a m b : List C) → length f ≤ length a
        → length t ≤ length b → Inst (gapped f l t) (a ++ b) → Inst (gapped f l t) (a ++ (m ++ b))
    long_add f l t a m b p q h =
        let e = ends f t a [] b h.0 p q h.1 in
        (e.0.0 ++ (m ++ e.1.0), ap₂ (λ (x y : List C). x ++ (m ++ y)) e.0.1 e.1.1 ∙ regroup₂ (map v f) e.0.0 m e.1.0 (map v t))

module _ {A : Type 0} where
  grow_length : (n : ℕ) (f t : List A) → length f + length t ≤ n → length (grow n f t) ≡ n
  grow_length n f t h = simp (length-append, length-map, length-replicate) (omega arith)

  grow_full : (n : ℕ) (f t : List A) → n - (length f + length t) ≡ 0 → grow n f t ≡ map some (f ++ t)
  grow_full n f t e = ap (λ (k : ℕ). map some f ++ (replicate k none ++ map some t)) e ∙ sym (map-append some f t)

  covered_full : (n : ℕ) (f t f' t' : List A) → length f + length t ≤ n
      → length f' + length t' ≤ n → n ≤ length f + length t → Covered (grow n f t) (grow n f' t')
  covered_full n f t f' t' p q h = rw (grow_full n f t (omega arith))
      (covers_all (f ++ t) (grow n f' t') (rw grow_length (simp length-append (omega arith))))

  covered_meet : (n : ℕ) (f t f' t' : List A) → length f + length t ≤ n
      → length f' + length t' ≤ n → n ≤ length f + length t' → Covered (grow n f t) (grow n f' t')
  covered_meet n f t f' t' p q h = along (Covered (grow n f t)) e
      (covers_meet f (replicate (n - (length f + length t)) none ++ map some t) (map some f' ++ replicate (n - (length f' + length t')) none) t'
      (grow_length n f t p ∙ sym (grow_length n f' t' q) ∙ ap length (sym e))
      (simp (length-append, length-map, length-replicate) (omega arith)))
    where
      e : (map some f' ++ replicate (n - (length f' + length t')) none) ++ map some t' ≡ grow n f' t'
      e = append_assoc (map some f') (replicate (n - (length f' + length t')) none) (map some t')

  -- where the ends of the pair reach over the whole run, every place is covered
  pub covered_grow : (n : ℕ) (f t f' t' : List A) → length f + length t ≤ n → length f' + length t' ≤ n
      → n ≤ max (length f) (length f') + max (length t) (length t') → Covered (grow n f t) (grow n f' t')
  covered_grow n f t f' t' p q h = go (dec_le (length f') (length f)) (dec_le (length t') (length t))
    where
      go : Dec (length f' ≤ length f) → Dec (length t' ≤ length t) → Covered (grow n f t) (grow n f' t')
      go (yes a) (yes b) = covered_full n f t f' t' p q (omega arith)
      go (yes a) (no b) = covered_meet n f t f' t' p q (omega arith)
      go (no a) (yes b) = covered_sym (grow n f' t') (grow n f t) (covered_meet n f' t' f t q p (omega arith))
      go (no a) (no b) = covered_sym (grow n f' t') (grow n f t) (covered_full n f' t' f t q p (omega arith))

  pub covers_right : (r : List (Option A)) (xs : List A) → length r ≡ length xs → Covered r (map some xs)
  covers_right r xs e = covered_sym (map some xs) r (covers_all xs r (sym e))

module _ {A L M : Type 0} where
  -- no gap on one side, or ends that meet
  abbrev pub Reach : ℕ → Shape A L → Shape A M → Type 0
  Reach n (closed xs) S₂ = Unit {0}
  Reach n (gapped f l t) (closed ys) = Unit {0}
  Reach n (gapped f l t) (gapped f' l' t') = n ≤ wide (gapped f l t) (gapped f' l' t')

  pub covered_row : (n : ℕ) (S₁ : Shape A L) (S₂ : Shape A M) → Room S₁ n → Room S₂ n → Reach n S₁ S₂ → Covered (row n S₁) (row n S₂)
  covered_row n (closed xs) (closed ys) p q h = covers_all xs (map some ys) (sym p ∙ q ∙ sym (length-map ys some))
  covered_row n (closed xs) (gapped f l t) p q h = covers_all xs (grow n f t) (sym p ∙ sym (grow_length n f t q))
  covered_row n (gapped f l t) (closed ys) p q h = covers_right (grow n f t) ys (grow_length n f t p ∙ q)
  covered_row n (gapped f l t) (gapped f' l' t') p q h = covered_grow n f t f' t' p q h

module _ {A L : Type 0} where
  pub row_length : (n : ℕ) (S : Shape A L) → Room S n → length (row n S) ≡ n
  row_length n (closed xs) p = length-map xs some ∙ sym p
  row_length n (gapped f l t) p = grow_length n f t p
