-- The rules that reading returns are left-linear in the theory's sense.
use mathlib.Core.Path.{◌≡◌, refl, ◌∙◌, ap}
use mathlib.Core.Logic.{◌⊎◌, inl, inr}
use mathlib.Core.List.Memᴰ
use mathlib.Core.List.{List, [], ◌∷◌, ◌++◌, map, map-append, append_assoc, append-nil, Memᴰ}
use Prim.Native.Nat.{ℕ, suc}
use native.Mathlib.Omega.{arith}
use lib.ListN.{length}
use Rattle.base_lists.specs.Seqs.{All, Any, any_left, any_map, any_right}
use Rattle.math_types.specs.Order.{basic, list}
use Rattle.math_terms.specs.Terms.{con, var}
use Rattle.math_terms.specs.Seqs.{concat_map, Distinct}
use Rattle.math_terms.specs.Linear.{lists, OneList, LeftLinear}
use Rattle.text_grammar.specs.Leftmost.{NoneOf}
use Rattle.text_grammar.specs.Tokens.{Occ, Clash}
use Rattle.text_grammar.specs.Terms.{OurTerm, OurFields, terms_of}
use Rattle.text_grammar.specs.Limits.{occ_f, occ_r, Linear}

module _ {A : Type 0} where
  none_rest : (P : List A → A → Type 0) (before s t : List A) → NoneOf P before (s ++ t) → NoneOf P (before ++ s) t
  none_rest P before [] t h = rw append-nil h
  none_rest P before (x ∷ s) t h = rw append_assoc at (none_rest P (before ++ x ∷ []) s t h.1)

-- none of the occurrences os clashes with one before it
abbrev Apart : List Occ → List Occ → Type 0
Apart before os = NoneOf (λ b o. Any (Clash o) b) before os

abbrev name : Occ → ℕ
name o = o.1

-- ---- no name twice
abbrev Names : List Occ → List Occ → Type 0
Names before os = Distinct (map name os) × ((a : ℕ) → Memᴰ a (map name os) → Any (λ o. name o ≡ a) before → ⊥)

apart_names : (before os : List Occ) → Apart before os → Names before os
apart_names before [] h = (tt, λ a i n. Memᴰ.not-nil i)
apart_names before (o ∷ os) h = more (apart_names (before ++ o ∷ []) os h.1)
  where
    more : Names (before ++ o ∷ []) os → Names before (o ∷ os)
    more r = ((λ i. r.1 (name o) i (any_right (λ p. name p ≡ name o) before (o ∷ []) (inl refl)), r.0), λ a i n. go a n (Memᴰ.cases_cons i))
      where
        go : (a : ℕ) → Any (λ p. name p ≡ a) before → (a ≡ name o) ⊎ Memᴰ a (map name os) → ⊥
        go a n (inl e) = h.0 (any_map (λ p. name p ≡ a) (Clash o) (λ p q. inr (q ∙ e)) before n)
        go a n (inr i) = r.1 a i (any_left (λ p. name p ≡ a) before (o ∷ []) n)

names_field : (n : ℕ) (f : List OurTerm) → map name (occ_f n f) ≡ lists f
names_field n [] = refl
names_field n (con c ∷ f) = names_field n f
names_field n (var (basic k) a ∷ f) = names_field n f
names_field n (var list a ∷ f) = ap (λ (l : List ℕ). a ∷ l) (names_field n f)

names_rule : (n : ℕ) (r : List (List OurTerm)) → map name (occ_r n r) ≡ concat_map lists r
names_rule n [] = refl
names_rule n (f ∷ r) = rw (map-append, names_field n f, names_rule (suc n) r)

-- ---- no field with two
module _ (n : ℕ) (rest : List Occ) where
  -- behind one in its field
  no_more : (before : List Occ) (f : List OurTerm) → Any (λ o. o.0 ≡ n) before → Apart before (occ_f n f ++ rest) → length (lists f) ≡ 0
  no_more before [] i h = refl
  no_more before (con c ∷ f) i h = no_more before f i h
  no_more before (var (basic k) a ∷ f) i h = no_more before f i h
  no_more before (var list a ∷ f) i h = absurd (h.0 (any_map (λ o. o.0 ≡ n) (Clash (n, a)) (λ o e. inl e) before i))

  one_list : (before : List Occ) (f : List OurTerm) → Apart before (occ_f n f ++ rest) → OneList f
  one_list before [] h = omega arith
  one_list before (con c ∷ f) h = one_list before f h
  one_list before (var (basic k) a ∷ f) h = one_list before f h
  one_list before (var list a ∷ f) h = omega (arith, no_more (before ++ (n, a) ∷ []) f (any_right (λ o. o.0 ≡ n) before ((n, a) ∷ []) (inl refl)) h.1)

one_lists : (n : ℕ) (before : List Occ) (r : List (List OurTerm)) → Apart before (occ_r n r) → All OneList r
one_lists n before [] h = tt
one_lists n before (f ∷ r) h =
    (one_list n (occ_r (suc n) r) before f h, one_lists (suc n) (before ++ occ_f n f) r (none_rest (λ b o. Any (Clash o) b) before (occ_f n f) (occ_r (suc n) r) h))

pub left_linear : (r : OurFields) → Linear r → LeftLinear (terms_of r)
left_linear r h = (rw (names_rule 1 (terms_of r)) at (apart_names [] (occ_r 1 (terms_of r)) h).0, one_lists 1 [] (terms_of r) h)
