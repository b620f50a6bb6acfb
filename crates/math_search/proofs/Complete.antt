-- The search is complete: a solution by constants of a problem that waits is an instance of an answer.
use mathlib.Core.Path.{◌≡◌, refl, sym, ◌∙◌, ap, subst}
use mathlib.Core.Logic.{◌⊎◌, inl, inr}
use mathlib.Core.List.Memᴰ
use mathlib.Core.List.{List, [], ◌∷◌, ◌++◌, append-nil, Memᴰ}
use Prim.Native.Nat.{ℕ, zero, suc}
use Rattle.base_lists.specs.Seqs.{All, all_append, all_map, mem?}
use Rattle.math_terms.specs.Seqs.{concat_map}
use Rattle.math_overlaps.specs.Shapes.{fixed, free}
use Rattle.math_search.specs.Problems.{Setting, atomic, listvar, Tm, Field, kind_of, Bindings, Rest, solved, equation, Problem, problem}
use Rattle.math_search.specs.Rules.{Rule}
use Rattle.math_search.specs.Queue.{answers, offspring, run}
use Rattle.math_search.specs.Answers.{StandsIn, Fits, Solves, atom_value, ground, WellTyped, Covers}
use Rattle.math_search.proofs.Seqs.{concat_map_self}
use Rattle.math_search.proofs.Invariant.{Respects, Unifies, Fixed, Known, Unbound, Invariant, old_atom, old_mem}
use Rattle.math_search.proofs.Choice.{extend, extend_term, atom_typed}
use Rattle.math_search.proofs.Children.{step_complete}
use Rattle.math_search.proofs.Queue.{IsAnswers, answered, step_answers, all_offspring}
use Rattle.math_search.proofs.Tree.{Fine, child_fine, fine_known}

module _ (E : Setting) where
  open E use {order, constants, variables, names}
  open order use {le_trans}
  open constants use {Con, con_kind}
  open variables use {Var, sort}
  open names use {Name, pick, pick_new}

  -- ---- answers solve

  -- bindings, put into themselves, change nothing
  self_respects : (n : Rest E) (σ : Bindings E) (u : List Name) → Invariant E (problem n σ u) → Respects E σ σ
  self_respects n σ u i = go
    where
      old : (t : Tm E) → Known E u t → σ t ≡ concat_map σ (σ t)
      old t o = sym (concat_map_self σ (σ t) (all_map (Unbound E σ u) (Fixed E σ) (λ s k. k.0) (σ t) (i.vals t o)))

      at : (k : Name) → Dec (Memᴰ k u) → σ (listvar k) ≡ concat_map σ (σ (listvar k))
      at k (yes j) = old (listvar k) (old_mem E u k j)
      at k (no j) = sym (append-nil (σ (listvar k))) ∙ ap (λ (K : Field E). concat_map σ K) (sym (i.alone k j))

      go : (t : Tm E) → σ t ≡ concat_map σ (σ t)
      go (atomic a) = old (atomic a) (old_atom E u a)
      go (listvar k) = at k (mem? E.names.name_eq k u)

  pub fine_solves : (A B : Field E) (σ : Bindings E) (u : List Name) → Fine E A B (problem solved σ u) → Solves E A B σ
  fine_solves A B σ u h = (h.solves σ (tt, self_respects solved σ u h.inv), h.inv.kinds)

  -- ---- solutions are covered

  -- the values (ρ, m) solve p, if only its own list variables get other values
  abbrev Waits : Field E → Field E → (Var → Con) → (Name → List Con) → Problem E → Type 0
  Waits A B ρ m p = (m' : Name → List Con) × Unifies E (ground E ρ m') p × ((t : Tm E) → StandsIn E A B t → ground E ρ m t ≡ ground E ρ m' t)

  waits_child : (A B : Field E) (ρ : Var → Con) (m : Name → List Con) → WellTyped E ρ → (L M : Field E) (σ : Bindings E) (u : List Name)
      → Fine E A B (problem (equation L M) σ u) → Waits A B ρ m (problem (equation L M) σ u)
      → (c : Problem E) × Memᴰ c (offspring E (problem (equation L M) σ u)) × Waits A B ρ m c
  waits_child A B ρ m ty L M σ u h w =
      let s = step_complete E L M σ u h.inv ρ w.0 ty w.1 in (
        s.1.0.1,
        Memᴰ.map (λ (c : Rule × Problem E). c.1) s.1.1,
        (
          extend E w.0 (pick u) s.1.2.0,
          s.1.2.1,
          λ t r. w.2 t r ∙ sym (extend_term E ρ w.0 (pick u) s.1.2.0 t (fine_known E A B (problem (equation L M) σ u) h t r (pick u) (pick_new u))),
        ),
      )

  pub run_complete : (A B : Field E) (ρ : Var → Con) (m : Name → List Con) → WellTyped E ρ
      → (k room : ℕ) (q : List (Problem E)) (xs : List (Bindings E)) → All (Fine E A B) q → run E k room q ≡ answers xs
      → (p : Problem E) → Memᴰ p q → Waits A B ρ m p → (σ : Bindings E) × Memᴰ σ xs × Covers E (StandsIn E A B) ρ m σ
  run_complete A B ρ m ty zero room [] xs h e p i w = absurd (Memᴰ.not-nil i)
  run_complete A B ρ m ty zero room (p₀ ∷ q) xs h e p i w = absurd (subst (IsAnswers E) (sym e) tt)
  run_complete A B ρ m ty (suc k) room [] xs h e p i w = absurd (Memᴰ.not-nil i)
  run_complete A B ρ m ty (suc k) room (problem solved σ u ∷ q) xs h e p i w =
      go (answered E σ (run E k room q) xs e) (Memᴰ.cases_cons i) (λ bs g j. run_complete A B ρ m ty k room q bs h.1 g p j w)
    where
      go : ((bs : List (Bindings E)) × (run E k room q ≡ answers bs) × (xs ≡ σ ∷ bs)) → (p ≡ problem solved σ u) ⊎ Memᴰ p q
          → ((bs : List (Bindings E)) → run E k room q ≡ answers bs → Memᴰ p q → (τ : Bindings E) × Memᴰ τ bs × Covers E (StandsIn E A B) ρ m τ)
          → (τ : Bindings E) × Memᴰ τ xs × Covers E (StandsIn E A B) ρ m τ
      go r (inl x) rec = let w' : Waits A B ρ m (problem solved σ u) = subst (Waits A B ρ m) x w in
          (σ, subst (λ (l : List (Bindings E)). Memᴰ σ l) (sym r.2) (Memᴰ.head refl), (w'.0, λ t g. w'.2 t g ∙ w'.1.1 t))
      go r (inr j) rec = let a = rec r.0 r.1 j in (a.0, subst (λ (l : List (Bindings E)). Memᴰ a.0 l) (sym r.2) (Memᴰ.tail a.1), a.2)
  run_complete A B ρ m ty (suc k) room (problem (equation L M) σ u ∷ q) xs h e p i w = go (Memᴰ.cases_cons i)
      (λ p' j w'. run_complete A B ρ m ty k room (q ++ offspring E (problem (equation L M) σ u)) xs
      (all_append (Fine E A B) q (offspring E (problem (equation L M) σ u)) h.1
      (all_offspring E (Fine E A B) (problem (equation L M) σ u) (child_fine E A B L M σ u h.0)))
      (step_answers E k room (problem (equation L M) σ u) q xs e) p' j w')
    where
      go : (p ≡ problem (equation L M) σ u) ⊎ Memᴰ p q
          → ((p' : Problem E) → Memᴰ p' (q ++ offspring E (problem (equation L M) σ u))
          → Waits A B ρ m p' → (τ : Bindings E) × Memᴰ τ xs × Covers E (StandsIn E A B) ρ m τ)
          → (τ : Bindings E) × Memᴰ τ xs × Covers E (StandsIn E A B) ρ m τ
      go (inl x) rec = let c = waits_child A B ρ m ty L M σ u h.0 (subst (Waits A B ρ m) x w) in rec c.0 (Memᴰ.append_right q c.1) c.2
      go (inr j) rec = rec p (Memᴰ.append_left (offspring E (problem (equation L M) σ u)) j) w

  -- ---- instances solve

  -- values of the right kinds for an answer's variables make a filling of the right kinds, and it solves the equation
  pub through : (σ : Bindings E) → ((t : Tm E) → Fits E t (σ t)) → (ρ : Var → Con) (m : Name → List Con) → WellTyped E ρ
      → (ρ' : Var → Con) × (m' : Name → List Con) × WellTyped E ρ' × ((t : Tm E) → ground E ρ' m' t ≡ concat_map (ground E ρ m) (σ t))
  through σ g ρ m ty = (
    λ x. atom_value E ρ (g (atomic (free x))).0,
    λ n. concat_map (ground E ρ m) (σ (listvar n)),
    λ x. le_trans (con_kind (atom_value E ρ (g (atomic (free x))).0)) (kind_of E (g (atomic (free x))).0) (sort x)
        (atom_typed E ρ ty (g (atomic (free x))).0) (g (atomic (free x))).2,
    at,
  )
    where
      at : (t : Tm E)
          → ground E (λ x. atom_value E ρ (g (atomic (free x))).0) (λ n. concat_map (ground E ρ m) (σ (listvar n))) t ≡ concat_map (ground E ρ m) (σ t)
      at (atomic (fixed c)) = sym (ap (λ (K : Field E). concat_map (ground E ρ m) K) (g (atomic (fixed c))))
      at (atomic (free x)) = sym (ap (λ (K : Field E). concat_map (ground E ρ m) K) (g (atomic (free x))).1)
      at (listvar n) = refl
