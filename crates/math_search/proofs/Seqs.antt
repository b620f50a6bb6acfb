-- Laws of lists: every member, beginnings, members replaced by lists.
use mathlib.Core.Path.{◌≡◌, refl, sym, ap₂}
use mathlib.Core.Logic.{◌⊎◌, inl, inr}
use mathlib.Core.List.{List, [], ◌∷◌, ◌++◌, cons≢nil, head-eq_of_cons-eq, tail-eq_of_cons-eq, Memᴰ}
use Prim.Native.Nat.{ℕ, zero, suc, ◌≤◌}
use native.Mathlib.Omega.{arith}
use Rattle.base_lists.specs.Seqs.{All, all_append}
use Rattle.math_terms.specs.Seqs.{concat_map}

pub one_or_none : (n : ℕ) → (n ≡ 0) ⊎ (1 ≤ n)
one_or_none zero = inl refl
one_or_none (suc n) = inr (omega arith)

module _ {A : Type 0} where
  pub all_both : (P Q : A → Type 0) (s : List A) → All (λ x. P x → Q x) s → All P s → All Q s
  all_both P Q [] f h = tt
  all_both P Q (x ∷ s) f h = (f.0 h.0, all_both P Q s f.1 h.1)

  pub all_every : (P : A → Type 0) (s : List A) → ((x : A) → P x) → All P s
  all_every P [] f = tt
  all_every P (x ∷ s) f = (f x, all_every P s f)

  pub all_from : (P : A → Type 0) (s : List A) → ((x : A) → Memᴰ x s → P x) → All P s
  all_from P [] f = tt
  all_from P (x ∷ s) f = (f x (Memᴰ.head refl), all_from P s (λ y i. f y (Memᴰ.tail i)))

  pub nil_left : (a b : List A) → a ++ b ≡ [] → a ≡ []
  nil_left [] b e = refl
  nil_left (x ∷ a) b e = absurd (cons≢nil e)

  pub nil_right : (a b : List A) → a ++ b ≡ [] → b ≡ []
  nil_right [] b e = e
  nil_right (x ∷ a) b e = absurd (cons≢nil e)

  -- of two beginnings of a list one begins the other
  pub either_pre : (a b x y : List A) → a ++ x ≡ b ++ y → ((w : List A) × (a ≡ b ++ w)) ⊎ ((w : List A) × (b ≡ a ++ w))
  either_pre [] b x y e = inr (b, refl)
  either_pre (c ∷ a) [] x y e = inl (c ∷ a, refl)
  either_pre (c ∷ a) (d ∷ b) x y e = go (either_pre a b x y (tail-eq_of_cons-eq e))
    where
      go : ((w : List A) × (a ≡ b ++ w)) ⊎ ((w : List A) × (b ≡ a ++ w)) → ((w : List A) × (c ∷ a ≡ d ∷ (b ++ w))) ⊎ ((w : List A) × (d ∷ b ≡ c ∷ (a ++ w)))
      go (inl r) = inl (r.0, ap₂ (λ (u : A) (v : List A). u ∷ v) (head-eq_of_cons-eq e) r.1)
      go (inr r) = inr (r.0, ap₂ (λ (u : A) (v : List A). u ∷ v) (sym (head-eq_of_cons-eq e)) r.1)

module _ {A B : Type 0} where
  pub concat_map_agree : (f g : A → List B) (s : List A) → All (λ x. f x ≡ g x) s → concat_map f s ≡ concat_map g s
  concat_map_agree f g [] h = refl
  concat_map_agree f g (x ∷ s) h = ap₂ (λ (u v : List B). u ++ v) h.0 (concat_map_agree f g s h.1)

  pub all_concat_map : (P : B → Type 0) (f : A → List B) (s : List A) → All (λ x. All P (f x)) s → All P (concat_map f s)
  all_concat_map P f [] h = tt
  all_concat_map P f (x ∷ s) h = all_append P (f x) (concat_map f s) h.0 (all_concat_map P f s h.1)

module _ {A : Type 0} where
  pub concat_map_self : (f : A → List A) (s : List A) → All (λ x. f x ≡ x ∷ []) s → concat_map f s ≡ s
  concat_map_self f [] h = refl
  concat_map_self f (x ∷ s) h = ap₂ (λ (u v : List A). u ++ v) h.0 (concat_map_self f s h.1)
