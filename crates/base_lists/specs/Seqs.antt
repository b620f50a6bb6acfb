-- Every member, some member, none: predicates on lists that compute, and their decisions; the list of a function's values.
use Rattle.std.specs.Prelude.{◌≡◌, refl, ◌↔◌, ◌⊎◌, Bool, true, false, ◌||◌, ℕ, zero, suc, ◌+◌, ◌<◌, length, get_or}
use Rattle.std.proofs.Common.{sym, ◌∙◌, ap, ap₂, subst, inl, inr, arith}
use Rattle.std.proofs.lemmas.Bool.{false≢true}
use mathlib.Core.List.Memᴰ
use mathlib.Core.List.{List, [], ◌∷◌, ◌++◌, map, Memᴰ}
use Rattle.std.proofs.lemmas.List.{length-map}

module _ {A : Type 0} where
  -- every member has P
  abbrev pub All : (A → Type 0) → List A → Type 0
  All P [] = Unit {0}
  All P (x ∷ xs) = P x × All P xs

  -- some member has P
  abbrev pub Any : (A → Type 0) → List A → Type 0
  Any P [] = ⊥
  Any P (x ∷ xs) = P x ⊎ Any P xs

  abbrev pub IsNil : List A → Type 0
  IsNil [] = Unit {0}
  IsNil (x ∷ xs) = ⊥

  abbrev pub IsCons : List A → Type 0
  IsCons [] = ⊥
  IsCons (x ∷ xs) = Unit {0}

module _ {A : Type 0} where
  pub all_append : (P : A → Type 0) (s t : List A) → All P s → All P t → All P (s ++ t)
  all_append P [] t p q = q
  all_append P (x ∷ s) t p q = (p.0, all_append P s t p.1 q)

  pub all_left : (P : A → Type 0) (s t : List A) → All P (s ++ t) → All P s
  all_left P [] t p = tt
  all_left P (x ∷ s) t p = (p.0, all_left P s t p.1)

  pub all_right : (P : A → Type 0) (s t : List A) → All P (s ++ t) → All P t
  all_right P [] t p = p
  all_right P (x ∷ s) t p = all_right P s t p.1

  pub all_map : (P Q : A → Type 0) → ((x : A) → P x → Q x) → (s : List A) → All P s → All Q s
  all_map P Q f [] p = tt
  all_map P Q f (x ∷ s) p = (f x p.0, all_map P Q f s p.1)

  -- what every member has, each has
  pub all_of : (P : A → Type 0) → ((x : A) → P x) → (s : List A) → All P s
  all_of P h [] = tt
  all_of P h (x ∷ s) = (h x, all_of P h s)

  pub all_mem : (P : A → Type 0) (s : List A) → All P s → (x : A) → Memᴰ x s → P x
  all_mem P (y ∷ s) h x (Memᴰ.head e) = rw e h.0
  all_mem P (y ∷ s) h x (Memᴰ.tail m) = all_mem P s h.1 x m
  all_mem P [] h x x4 = elim x4 [ ]

  pub any_left : (P : A → Type 0) (s t : List A) → Any P s → Any P (s ++ t)
  any_left P (x ∷ s) t (inl p) = inl p
  any_left P (x ∷ s) t (inr a) = inr (any_left P s t a)
  any_left P [] t x' = elim x' [ ]

  pub any_right : (P : A → Type 0) (s t : List A) → Any P t → Any P (s ++ t)
  any_right P [] t a = a
  any_right P (x ∷ s) t a = inr (any_right P s t a)

  pub any_map : (P Q : A → Type 0) → ((x : A) → P x → Q x) → (s : List A) → Any P s → Any Q s
  any_map P Q f (x ∷ s) (inl p) = inl (f x p)
  any_map P Q f (x ∷ s) (inr a) = inr (any_map P Q f s a)
  any_map P Q f [] x' = elim x' [ ]

  unfoldable pub all? : (P : A → Type 0) → ((x : A) → Dec (P x)) → (s : List A) → Dec (All P s)
  all? P d [] = yes tt
  all? P d (x ∷ s) = go (d x) (all? P d s)
    where
      go : Dec (P x) → Dec (All P s) → Dec (P x × All P s)
      go (yes p) (yes q) = yes (p, q)
      go (yes p) (no n) = no (λ h. n h.1)
      go (no n) c = no (λ h. n h.0)

  unfoldable pub any? : (P : A → Type 0) → ((x : A) → Dec (P x)) → (xs : List A) → Dec (Any P xs)
  any? P d [] = no (λ h. h)
  any? P d (x ∷ xs) = go (d x) (any? P d xs)
    where
      neither : (P x → ⊥) → (Any P xs → ⊥) → P x ⊎ Any P xs → ⊥
      neither n k (inl p) = n p
      neither n k (inr p) = k p

      go : Dec (P x) → Dec (Any P xs) → Dec (P x ⊎ Any P xs)
      go (yes p) c = yes (inl p)
      go (no n) (yes p) = yes (inr p)
      go (no n) (no k) = no (neither n k)

module _ {A : Type 0} (eq : Discrete A) where
  -- whether x is a member
  abbrev pub mem? : (x : A) (u : List A) → Dec (Memᴰ x u)
  mem? x [] = no (λ i. Memᴰ.not-nil i)
  mem? x (y ∷ u) = join (eq x y) (mem? x u)
    where
      neither : (x ≡ y → ⊥) → (Memᴰ x u → ⊥) → (x ≡ y) ⊎ Memᴰ x u → ⊥
      neither a b (inl e) = a e
      neither a b (inr i) = b i

      join : Dec (x ≡ y) → Dec (Memᴰ x u) → Dec (Memᴰ x (y ∷ u))
      join (yes e) d = yes (Memᴰ.head e)
      join (no a) (yes i) = yes (Memᴰ.tail i)
      join (no a) (no b) = no (λ i. neither a b (Memᴰ.cases_cons i))

abbrev pub both? : {A B : Type 0} → Dec A → Dec B → Dec (A × B)
both? (yes a) (yes b) = yes (a, b)
both? (yes a) (no n) = no (λ h. n h.1)
both? (no n) d = no (λ h. n h.0)

module _ {A : Type 0} where
  pub cons_is : (xs : List A) → (0 < length xs) ↔ IsCons xs
  cons_is [] = (λ h. omega arith, λ h. absurd h)
  cons_is (x ∷ xs) = (λ h. tt, λ h. omega arith)

  -- the same as a test
  abbrev pub is_cons : List A → Bool
  is_cons [] = false
  is_cons (x ∷ xs) = true

  pub cons_true : (xs : List A) → (is_cons xs ≡ true) ↔ (xs ≡ [] → ⊥)
  cons_true [] = (λ e. absurd (false≢true e), λ n. absurd (n refl))
  cons_true (x ∷ xs) = (λ e q. subst IsCons q tt, λ n. refl)

  pub cons_append : (s t : List A) → is_cons (s ++ t) ≡ (is_cons s || is_cons t)
  cons_append [] t = refl
  cons_append (x ∷ s) t = refl

module _ {A B : Type 0} where
  pub all_mapped : (P : B → Type 0) (g : A → B) (s : List A) → All (λ x. P (g x)) s → All P (map g s)
  all_mapped P g [] h = tt
  all_mapped P g (x ∷ s) h = (h.0, all_mapped P g s h.1)

  pub cons_map : (f : A → B) (l : List A) → IsCons l → IsCons (map f l)
  cons_map f [] h = h
  cons_map f (x ∷ l) h = tt

  pub cons_mapped : (f : A → B) (l : List A) → is_cons (map f l) ≡ is_cons l
  cons_mapped f [] = refl
  cons_mapped f (x ∷ l) = refl

-- what owning an array of structs tells: its length is that of the list under a map
pub long_mapped : {A B : Type 0} (g : A → B) (l : List A) (n : ℕ) → length (map g l) ≡ n → length l ≡ n
long_mapped g l n p = sym (length-map l g) ∙ p

-- ---- the values of a function at the numbers below n

abbrev pub tabulate : {A : Type 0} → ℕ → (ℕ → A) → List A
tabulate zero f = []
tabulate (suc n) f = f 0 ∷ tabulate n (λ i. f (suc i))

module _ {A : Type 0} where
  pub tabulate_long : (n : ℕ) (f : ℕ → A) → length (tabulate n f) ≡ n
  tabulate_long zero f = refl
  tabulate_long (suc n) f = omega (arith, tabulate_long n (λ i. f (suc i)))

  pub tabulate_last : (n : ℕ) (f : ℕ → A) → tabulate (n + 1) f ≡ tabulate n f ++ (f n ∷ [])
  tabulate_last zero f = ap (λ (k : ℕ). tabulate k f) (let e : 0 + 1 ≡ 1 = omega arith in e)
  tabulate_last (suc n) f =
      ap (λ (k : ℕ). tabulate k f) (let e : suc n + 1 ≡ suc (n + 1) = omega arith in e)
      ∙ ap (λ (l : List A). f 0 ∷ l) (tabulate_last n (λ i. f (suc i)))

  pub tabulate_at : (n : ℕ) (f : ℕ → A) (i : ℕ) (d : A) → i < n → get_or (tabulate n f) i d ≡ f i
  tabulate_at zero f i d h = absurd (omega arith)
  tabulate_at (suc n) f zero d h = refl
  tabulate_at (suc n) f (suc i) d h = tabulate_at n (λ j. f (suc j)) i d (omega arith)

  -- a list is what its members are
  pub tabulated : (n : ℕ) (s : List A) (f : ℕ → A) (d : A) → length s ≡ n → ((i : ℕ) → i < n → get_or s i d ≡ f i) → s ≡ tabulate n f
  tabulated zero [] f d l h = refl
  tabulated zero (x ∷ s) f d l h = absurd (omega (arith, l))
  tabulated (suc n) [] f d l h = absurd (omega (arith, l))
  tabulated (suc n) (x ∷ s) f d l h =
      ap₂ (λ a t. a ∷ t) (h 0 (omega arith)) (tabulated n s (λ i. f (suc i)) d (omega (arith, l)) (λ i p. h (suc i) (omega arith)))

  pub tabulate_same : (n : ℕ) (f g : ℕ → A) → ((i : ℕ) → i < n → f i ≡ g i) → tabulate n f ≡ tabulate n g
  tabulate_same zero f g h = refl
  tabulate_same (suc n) f g h =
      ap₂ (λ a t. a ∷ t) (h 0 (omega arith)) (tabulate_same n (λ i. f (suc i)) (λ i. g (suc i)) (λ i p. h (suc i) (omega arith)))
