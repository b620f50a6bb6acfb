-- The place of refusal 2 over any grammar: it is the first byte that no text could have there, and there is one at most.
use mathlib.Core.Path.{◌≡◌, refl, sym, ap, subst}
use mathlib.Core.Logic.{◌⊎◌, inl, inr}
use mathlib.Core.Option.{Option, none, some}
use mathlib.Core.List.{List, [], ◌∷◌, ◌++◌, append_assoc, append-nil}
use Prim.Native.Nat.{ℕ, zero, suc, ◌≤◌, ◌<◌}
use native.Mathlib.Omega.{arith}
use native.Mathlib.Decide.{dec_lt}
use lib.ListN.{length, take, drop, take-append-drop, length-append}
use lib.Seq.{take-take, take-length, drop-length, take-append_seam}
use Rattle.text_grammar.specs.Place.{ViableOf, StopsOf, Answers}

-- ---- a text cut at a place

take_next : (a : List ℕ) (b : ℕ) (r : List ℕ) → take (suc (length a)) (a ++ b ∷ r) ≡ a ++ b ∷ []
take_next [] b r = refl
take_next (c ∷ a) b r = ap (λ (l : List ℕ). c ∷ l) (take_next a b r)

pub split_at : (t : List ℕ) (p : ℕ) → p < length t → (b : ℕ) × (r : List ℕ) × (drop p t ≡ b ∷ r) × (take (suc p) t ≡ take p t ++ b ∷ [])
split_at [] p h = absurd (omega arith)
split_at (b ∷ t) zero h = (b, t, refl, refl)
split_at (c ∷ t) (suc p) h = let s = split_at t p (omega arith) in (s.0, s.1, s.2, ap (λ (l : List ℕ). c ∷ l) s.3)

-- the answer to "at which place" is the place
pub answer_is : (R : ℕ → Type 0) (o : Option ℕ) (p : ℕ) → Answers R o → R p → o ≡ some p
answer_is R none p h r = absurd (h p r)
answer_is R (some q) p h r = ap some (sym (h.1 p r))

module _ (G : List ℕ → Type 0) where
  -- what begins a beginning of a text is one
  pub viable_prefix : (p r : List ℕ) → ViableOf G (p ++ r) → ViableOf G p
  viable_prefix p r v = (r ++ v.0, subst G (append_assoc p r v.0) v.1)

  pub viable_shorter : (t : List ℕ) (k p : ℕ) → k ≤ p → ViableOf G (take p t) → ViableOf G (take k t)
  viable_shorter t k p h v =
      subst (ViableOf G) (take-take k p t h)
      (viable_prefix (take k (take p t)) (drop k (take p t)) (subst (ViableOf G) (sym (take-append-drop k (take p t))) v))

  -- so `StopsOf` names the FIRST byte that no text of the grammar could have there
  pub stops_first : (t : List ℕ) (p k : ℕ) → StopsOf G t p → k ≤ p → ViableOf G (take k t)
  stops_first t p k s h = viable_shorter t k p h s.0

  pub stops_in : (t : List ℕ) (p : ℕ) → StopsOf G t p → p ≤ length t
  stops_in t p s = go s.1
    where
      go : {A B : Type 0} → ((p ≡ length t) × A) ⊎ ((p < length t) × B) → p ≤ length t
      go (inl e) = omega (arith, e.0)
      go (inr l) = omega (arith, l.0)

  not_before : (t : List ℕ) (p q : ℕ) → StopsOf G t p → StopsOf G t q → p < q → ⊥
  not_before t p q s u h = go s.1 (stops_in t q u)
    where
      go : ((p ≡ length t) × (G t → ⊥)) ⊎ ((p < length t) × (ViableOf G (take (suc p) t) → ⊥)) → q ≤ length t → ⊥
      go (inl e) l = omega (arith, e.0)
      go (inr n) l = n.1 (stops_first t q (suc p) u (omega arith))

  pub stops_one : (t : List ℕ) (p q : ℕ) → StopsOf G t p → StopsOf G t q → p ≡ q
  stops_one t p q s u = go (dec_lt p q) (dec_lt q p)
    where
      go : Dec (p < q) → Dec (q < p) → p ≡ q
      go (yes h) d = absurd (not_before t p q s u h)
      go (no n) (yes h) = absurd (not_before t q p u s h)
      go (no n) (no k) = omega arith

  -- a text of the grammar stops nowhere
  pub stops_never : (t : List ℕ) → G t → (p : ℕ) → StopsOf G t p → ⊥
  stops_never t g p s = go s.1
    where
      front : ViableOf G (take (suc p) t)
      front = viable_prefix (take (suc p) t) (drop (suc p) t) (subst (ViableOf G) (sym (take-append-drop (suc p) t)) ([], subst G (sym (append-nil t)) g))

      go : ((p ≡ length t) × (G t → ⊥)) ⊎ ((p < length t) × (ViableOf G (take (suc p) t) → ⊥)) → ⊥
      go (inl e) = e.1 g
      go (inr n) = n.1 front

  -- right answers: none in the grammar, and a place
  abbrev pub Right : List ℕ → Option ℕ → Type 0
  Right t none = G t
  Right t (some p) = StopsOf G t p

  pub right_answers : (t : List ℕ) (o : Option ℕ) → Right t o → Answers (StopsOf G t) o
  right_answers t none g = stops_never t g
  right_answers t (some p) s = (s, λ q u. stops_one t q p u s)

  -- the same of a text in two parts: it can't end behind `a`, or can't go on
  abbrev pub Ends : List ℕ → List ℕ → Type 0
  Ends a [] = G a → ⊥
  Ends a (b ∷ r) = ViableOf G (a ++ b ∷ []) → ⊥

  pub stops_at : (a z : List ℕ) → ViableOf G a → Ends a z → StopsOf G (a ++ z) (length a)
  stops_at a [] v n =
      (subst (ViableOf G) (sym (take-append_seam a [])) v, inl (ap (λ (l : List ℕ). length l) (sym (append-nil a)), λ g. n (subst G (append-nil a) g)))
  stops_at a (b ∷ r) v n =
      let l = length-append a (b ∷ r) in
      (subst (ViableOf G) (sym (take-append_seam a (b ∷ r))) v, inr (omega arith, λ w. n (subst (ViableOf G) (take_next a b r) w)))

  pub stops_ends : (t : List ℕ) (p : ℕ) → StopsOf G t p → Ends (take p t) (drop p t)
  stops_ends t p s = go s.1
    where
      go : ((p ≡ length t) × (G t → ⊥)) ⊎ ((p < length t) × (ViableOf G (take (suc p) t) → ⊥)) → Ends (take p t) (drop p t)
      go (inl e) =
          subst (λ (k : ℕ). Ends (take k t) (drop k t)) (sym e.0)
          (subst (λ (l : List ℕ). Ends (take (length t) t) l) (sym (drop-length t)) (λ g. e.1 (subst G (take-length t) g)))
      go (inr n) =
          let d = split_at t p n.0 in
          subst (λ (l : List ℕ). Ends (take p t) l) (sym d.2) (λ v. n.1 (subst (ViableOf G) (sym d.3) v))
