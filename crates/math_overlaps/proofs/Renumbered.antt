-- The renumbering by first occurrence in each type is one-to-one on the fields' variables, so they match the same slips.
use mathlib.Core.Path.{◌≡◌, refl, sym, ◌∙◌, ap, ap₂}
use mathlib.Core.Logic.{◌⊎◌, inl, inr, ite}
use mathlib.Core.Option.{Option, none, some}
use mathlib.Core.List.{List, [], ◌∷◌, ◌++◌, map, map-append}
use mathlib.Core.List.Memᴰ
use mathlib.Core.List.{Memᴰ}
use Prim.Native.Nat.{ℕ, zero, suc}
use lib.ListN.{get_elem?}
use Rattle.base_lists.specs.Seqs.{Any}
use Rattle.math_types.specs.Order.{Order, Full, basic, list, full-eq}
use Rattle.math_terms.specs.Terms.{Term, con, var}
use Rattle.math_terms.specs.Constants.{Consts, TermOver}
use Rattle.math_terms.specs.Seqs.{concat_map}
use Rattle.math_terms.specs.Fillings.{Filling, FillingOver, OfKind, Typed, fill, Occurs}
use Rattle.math_terms.specs.Matching.{Matches}
use Rattle.math_terms.proofs.Fillings.{fills_agree}
use Rattle.math_overlaps.specs.Substitutions.{Subst, substitute}
use Rattle.math_overlaps.specs.Overlaps.{place_of, without, firsts, names_of, number, rename}

-- ---- places
module _ {A : Type 0} (d : Discrete A) where
  in_without : (x z : A) (l : List A) → (x ≡ z → ⊥) → Memᴰ z l → Memᴰ z (without d x l)
  in_without x z [] n i = absurd (Memᴰ.not-nil i)
  in_without x z (y ∷ l) n i = go (d x y) (Memᴰ.cases_cons i) (λ j. in_without x z l n j)
    where
      go : (q : Dec (x ≡ y)) → (z ≡ y) ⊎ Memᴰ z l → (Memᴰ z l → Memᴰ z (without d x l)) → Memᴰ z (ite q (without d x l) (y ∷ without d x l))
      go (yes e) (inl p) rec = absurd (n (e ∙ sym p))
      go (yes e) (inr j) rec = rec j
      go (no h) (inl p) rec = Memᴰ.head p
      go (no h) (inr j) rec = Memᴰ.tail (rec j)

  pub in_firsts : (z : A) (l : List A) → Memᴰ z l → Memᴰ z (firsts d l)
  in_firsts z [] i = i
  in_firsts z (x ∷ l) i = go (d x z) (Memᴰ.cases_cons i) (λ j. in_firsts z l j)
    where
      go : Dec (x ≡ z) → (z ≡ x) ⊎ Memᴰ z l → (Memᴰ z l → Memᴰ z (firsts d l)) → Memᴰ z (x ∷ without d x (firsts d l))
      go (yes e) q rec = Memᴰ.head (sym e)
      go (no h) (inl p) rec = Memᴰ.head p
      go (no h) (inr j) rec = Memᴰ.tail (in_without x z (firsts d l) h (rec j))

  pub at_place : (x : A) (l : List A) → Memᴰ x l → get_elem? l (place_of d x l) ≡ some x
  at_place x [] i = absurd (Memᴰ.not-nil i)
  at_place x (y ∷ l) i = go (d x y) (Memᴰ.cases_cons i) (λ j. at_place x l j)
    where
      go : (q : Dec (x ≡ y)) → (x ≡ y) ⊎ Memᴰ x l → (Memᴰ x l → get_elem? l (place_of d x l) ≡ some x)
          → get_elem? (y ∷ l) (ite q zero (suc (place_of d x l))) ≡ some x
      go (yes e) p rec = ap {B = Option A} some (sym e)
      go (no h) (inl p) rec = absurd (h p)
      go (no h) (inr j) rec = rec j

module _ {C K B : Type 0} (kind_eq : Discrete K) where
  in_names : (k : K) (b : B) (f : List (Term C K B)) → Occurs k b f → Memᴰ b (names_of kind_eq k f)
  in_names k b (con c ∷ f) o = in_names k b f o
  in_names k b (var j a ∷ f) o = go (kind_eq k j) o (λ i. in_names k b f i)
    where
      go : (q : Dec (k ≡ j)) → ((k ≡ j) × (b ≡ a)) ⊎ Occurs k b f → (Occurs k b f → Memᴰ b (names_of kind_eq k f))
          → Memᴰ b (ite q (a ∷ names_of kind_eq k f) (names_of kind_eq k f))
      go (yes e) (inl p) rec = Memᴰ.head p.1
      go (yes e) (inr i) rec = Memᴰ.tail (rec i)
      go (no n) (inl p) rec = absurd (n p.0)
      go (no n) (inr i) rec = rec i
  in_names k b [] o = elim o [ ]

  pub in_all_names : (k : K) (b : B) (fs : List (List (Term C K B))) → Any (Occurs k b) fs → Memᴰ b (concat_map (names_of kind_eq k) fs)
  in_all_names k b (f ∷ fs) (inl o) = Memᴰ.append_left (concat_map (names_of kind_eq k) fs) (in_names k b f o)
  in_all_names k b (f ∷ fs) (inr o) = Memᴰ.append_right (names_of kind_eq k f) (in_all_names k b fs o)
  in_all_names k b [] x' = elim x' [ ]

module _ {C K B : Type 0} (kind_eq : Discrete K) (name_eq : Discrete B) (fs : List (List (Term C K B))) where
  -- the name of a number
  abbrev unnumber : K → ℕ → Option B
  unnumber k n = get_elem? (firsts name_eq (concat_map (names_of kind_eq k) fs)) n

  unnumber_number : (k : K) (b : B) → Any (Occurs k b) fs → unnumber k (number kind_eq name_eq fs k b) ≡ some b
  unnumber_number k b o =
      let names = concat_map (names_of kind_eq k) fs in
      at_place name_eq b (firsts name_eq names) (in_firsts name_eq b names (in_all_names kind_eq k b fs o))

-- ---- renaming and filling
module _ {C K B D : Type 0} (ν : K → B → D) where
  pub rename_fill : (ψ : Filling C K D) (f : List (Term C K B)) → fill ψ (map (rename ν) f) ≡ fill (λ k b. ψ k (ν k b)) f
  rename_fill ψ [] = refl
  rename_fill ψ (con c ∷ f) = ap (λ (r : List C). c ∷ r) (rename_fill ψ f)
  rename_fill ψ (var k b ∷ f) = ap (λ (r : List C). ψ k (ν k b) ++ r) (rename_fill ψ f)

  pub rename_fills : (ψ : Filling C K D) (fs : List (List (Term C K B))) → map (fill ψ) (map (map (rename ν)) fs) ≡ map (fill (λ k b. ψ k (ν k b))) fs
  rename_fills ψ [] = refl
  rename_fills ψ (f ∷ fs) = ap₂ (λ (w : List C) (r : List (List C)). w ∷ r) (rename_fill ψ f) (rename_fills ψ fs)

module _ {C K A B D : Type 0} (ν : K → B → D) (σ : Subst C K A B) where
  rename_subst : (f : List (Term C K A)) → map (rename ν) (substitute σ f) ≡ substitute (λ k a. map (rename ν) (σ k a)) f
  rename_subst [] = refl
  rename_subst (con c ∷ f) = ap (λ (r : List (Term C K D)). con c ∷ r) (rename_subst f)
  rename_subst (var k a ∷ f) = map-append (rename ν) (σ k a) (substitute σ f) ∙ ap (λ (r : List (Term C K D)). map (rename ν) (σ k a) ++ r) (rename_subst f)

  pub rename_substs : (fs : List (List (Term C K A))) → map (map (rename ν)) (map (substitute σ) fs) ≡ map (substitute (λ k a. map (rename ν) (σ k a))) fs
  rename_substs [] = refl
  rename_substs (f ∷ fs) = ap₂ (λ (w : List (Term C K D)) (r : List (List (Term C K D))). w ∷ r) (rename_subst f) (rename_substs fs)

-- ---- the renumbered fields match the same slips
module _ (O : Order) (C : Consts O) where
  abbrev pub some_value : Full O.Kind → List C.Con
  some_value (basic k) = C.some_of k ∷ []
  some_value list = []

  pub some_value_typed : (k : Full O.Kind) → OfKind O C k (some_value k)
  some_value_typed (basic k) = (C.some_of k, refl, C.some_of_le k)
  some_value_typed list = tt

  abbrev get_or : {B : Type 0} → Option B → (B → List C.Con) → Full O.Kind → List C.Con
  get_or none f k = some_value k
  get_or (some b) f k = f b

module _ (O : Order) (C : Consts O) {B : Type 0} (name_eq : Discrete B) (fs : List (List (TermOver O C B))) where
  abbrev ν : Full O.Kind → B → ℕ
  ν = number (full-eq O.kind_eq) name_eq fs

  pub renumbered_from : (w : List (List C.Con)) → Matches O C (map (map (rename ν)) fs) w → Matches O C fs w
  renumbered_from w h = (λ k b. h.0 k (ν k b), (λ k b. h.1 k (ν k b)), sym (rename_fills ν h.0 fs) ∙ h.2)

  pub renumbered_to : (w : List (List C.Con)) → Matches O C fs w → Matches O C (map (map (rename ν)) fs) w
  renumbered_to w h = (ψ, typed, rename_fills ν ψ fs ∙ fills_agree (λ k b. ψ k (ν k b)) h.0 fs same ∙ h.2)
    where
      back : Full O.Kind → ℕ → Option B
      back = unnumber (full-eq O.kind_eq) name_eq fs

      ψ : FillingOver O C ℕ
      ψ k n = get_or O C (back k n) (h.0 k) k

      typed : Typed O C ψ
      typed k n = go (back k n)
        where
          go : (o : Option B) → OfKind O C k (get_or O C o (h.0 k) k)
          go none = some_value_typed O C k
          go (some b) = h.1 k b

      same : (k : Full O.Kind) (b : B) → Any (Occurs k b) fs → ψ k (ν k b) ≡ h.0 k b
      same k b o = ap (λ (p : Option B). get_or O C p (h.0 k) k) (unnumber_number (full-eq O.kind_eq) name_eq fs k b o)
