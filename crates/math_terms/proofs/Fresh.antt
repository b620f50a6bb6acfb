-- Left-linearity as the matcher meets it: at each list variable, none of the terms before has it.
use mathlib.Core.Path.{refl, sym}
use mathlib.Core.Logic.{◌↔◌, ◌⊎◌, inl, inr}
use mathlib.Core.List.Memᴰ
use mathlib.Core.List.{List, [], ◌∷◌, ◌++◌, Memᴰ}
use Rattle.base_lists.specs.Seqs.{Any}
use Rattle.math_types.specs.Order.{Full, basic, list, list≢basic}
use Rattle.math_terms.specs.Terms.{Term, con, var}
use Rattle.math_terms.specs.Seqs.{concat_map, Distinct}
use Rattle.math_terms.specs.Fillings.{Occurs}
use Rattle.math_terms.specs.Linear.{lists}
use Rattle.math_terms.proofs.Steps.{New}

module _ {T : Type 0} where
  -- the terms of f behind those of `done`, the last one first
  abbrev pub onto : List T → List T → List T
  onto [] done = done
  onto (t ∷ f) done = onto f (t ∷ done)

  abbrev pub onto_all : List (List T) → List T → List T
  onto_all [] done = done
  onto_all (f ∷ fs) done = onto_all fs (onto f done)

module _ {C K A : Type 0} where
  -- ---- which variables stand there
  onto_occurs : (k : K) (a : A) (f done : List (Term C K A)) → Occurs k a (onto f done) ↔ (Occurs k a f ⊎ Occurs k a done)
  onto_occurs k a [] done = (inr, λ i. last i)
    where
      last : ⊥ ⊎ Occurs k a done → Occurs k a done
      last (inl i) = absurd i
      last (inr i) = i
  onto_occurs k a (con c ∷ f) done = onto_occurs k a f (con c ∷ done)
  onto_occurs k a (var j b ∷ f) done = let r = onto_occurs k a f (var j b ∷ done) in (λ i. to (r.0 i), λ i. r.1 (from i))
    where
      to : Occurs k a f ⊎ Occurs k a (var j b ∷ done) → Occurs k a (var j b ∷ f) ⊎ Occurs k a done
      to (inl i) = inl (inr i)
      to (inr (inl e)) = inl (inl e)
      to (inr (inr i)) = inr i

      from : Occurs k a (var j b ∷ f) ⊎ Occurs k a done → Occurs k a f ⊎ Occurs k a (var j b ∷ done)
      from (inl (inl e)) = inr (inl e)
      from (inl (inr i)) = inl i
      from (inr i) = inr (inr i)

  pub all_occurs : (k : K) (a : A) (r : List (List (Term C K A))) (done : List (Term C K A))
      → Occurs k a (onto_all r done) ↔ (Any (Occurs k a) r ⊎ Occurs k a done)
  all_occurs k a [] done = (inr, λ i. last i)
    where
      last : ⊥ ⊎ Occurs k a done → Occurs k a done
      last (inl i) = absurd i
      last (inr i) = i
  all_occurs k a (f ∷ r) done = let q = all_occurs k a r (onto f done) in (λ i. to (q.0 i), λ i. q.1 (from i))
    where
      in_first : Occurs k a f ⊎ Occurs k a done → Any (Occurs k a) (f ∷ r) ⊎ Occurs k a done
      in_first (inl i) = inl (inl i)
      in_first (inr i) = inr i

      to : Any (Occurs k a) r ⊎ Occurs k a (onto f done) → Any (Occurs k a) (f ∷ r) ⊎ Occurs k a done
      to (inl i) = inl (inr i)
      to (inr i) = in_first ((onto_occurs k a f done).0 i)

      from : Any (Occurs k a) (f ∷ r) ⊎ Occurs k a done → Any (Occurs k a) r ⊎ Occurs k a (onto f done)
      from (inl (inl i)) = inr ((onto_occurs k a f done).1 (inl i))
      from (inl (inr i)) = inl i
      from (inr i) = inr ((onto_occurs k a f done).1 (inr i))

module _ {C K A : Type 0} where
  -- ---- no list variable stands among the terms before it
  abbrev pub Fresh : List (Term C (Full K) A) → List (Term C (Full K) A) → Type 0
  Fresh [] done = Unit {0}
  Fresh (t ∷ f) done = New done t × Fresh f (t ∷ done)

  abbrev pub FreshAll : List (List (Term C (Full K) A)) → List (Term C (Full K) A) → Type 0
  FreshAll [] done = Unit {0}
  FreshAll (f ∷ fs) done = Fresh f done × FreshAll fs (onto f done)

  -- none of the names is a list variable of `done`
  abbrev Apart : List A → List (Term C (Full K) A) → Type 0
  Apart names done = (a : A) → Memᴰ a names → Occurs list a done → ⊥

  -- f is fresh, and the names behind its own stay apart
  fresh : (f : List (Term C (Full K) A)) (names : List A) (done : List (Term C (Full K) A))
      → Distinct (lists f ++ names) → Apart (lists f ++ names) done → Fresh f done × Distinct names × Apart names (onto f done)
  fresh [] names done d h = (tt, d, h)
  fresh (con c ∷ f) names done d h = let r = fresh f names (con c ∷ done) d h in ((tt, r.0), r.1, r.2)
  fresh (var (basic k) b ∷ f) names done d h = let r = fresh f names (var (basic k) b ∷ done) d (λ a i o. h a i (none_here o)) in ((tt, r.0), r.1, r.2)
    where
      none_here : {a : A} → Occurs list a (var (basic k) b ∷ done) → Occurs list a done
      none_here (inl e) = absurd (list≢basic e.0)
      none_here (inr i) = i
  fresh (var list b ∷ f) names done d h =
      let r = fresh f names (var list b ∷ done) d.1 (λ a i o. apart a i o) in ((h b (Memᴰ.head refl), r.0), r.1, r.2)
    where
      apart : (a : A) → Memᴰ a (lists f ++ names) → Occurs list a (var list b ∷ done) → ⊥
      apart a i (inl e) = d.0 (Memᴰ.cast (sym e.1) i)
      apart a i (inr o) = h a (Memᴰ.tail i) o

  fresh_all : (r : List (List (Term C (Full K) A))) (done : List (Term C (Full K) A))
      → Distinct (concat_map lists r) → Apart (concat_map lists r) done → FreshAll r done
  fresh_all [] done d h = tt
  fresh_all (f ∷ r) done d h = let q = fresh f (concat_map lists r) done d h in (q.0, fresh_all r (onto f done) q.1 q.2)

  -- a rule in which no list variable is twice
  pub fresh_rule : (r : List (List (Term C (Full K) A))) → Distinct (concat_map lists r) → FreshAll r []
  fresh_rule r d = fresh_all r [] d (λ a i o. o)
