-- WHERE THE TERMS OF AN ANSWER COME FROM: what holds of the equation's terms, and of every list variable, holds of every term of every value.
use mathlib.Core.Path.{◌≡◌}
use mathlib.Core.Logic.{inl, inr}
use mathlib.Core.Option.{some}
use mathlib.Core.List.{List, [], ◌∷◌}
use Prim.Native.Nat.{ℕ}
use Rattle.base_lists.specs.Seqs.{All, all_map, all_mem}
use Rattle.math_search.specs.Problems.{Setting, listvar, Tm, Field, Bindings, solved, equation, Problem, problem, rest, bindings, root}
use Rattle.math_search.specs.Rules.{Move, keep, bind, apply, children}
use Rattle.math_search.specs.Queue.{total, answers, searching}
use Rattle.math_search.specs.Answers.{StandsIn, Linear}
use Rattle.math_search.proofs.Seqs.{all_every}
use Rattle.math_search.proofs.Counts.{Other, all_put_in}
use Rattle.math_search.proofs.Effects.{AllRest, Does}
use Rattle.math_search.proofs.Invariant.{Invariant, inv_move}
use Rattle.math_search.proofs.Children.{all_children}
use Rattle.math_search.proofs.Queue.{run_keeps, began_answers}
use Rattle.math_search.proofs.Root.{root_inv}

module _ (E : Setting) (P : Tm E → Type 0) (lists : (n : E.names.Name) → P (listvar n)) (A B : Field E) where
  open E use {names}
  open names use {Name, pick, pick_new}

  -- the terms of what is left and of the values
  record Has (p : Problem E) : Type 0 where
    inv : Invariant E p
    left : AllRest E P (rest E p)
    values : (t : Tm E) → StandsIn E A B t → All P (bindings E p t)

  moved : (L M : Field E) (σ : Bindings E) (u : List Name) → Has (problem (equation L M) σ u) → (m : Move E) → Does E L M (pick u) (some m)
      → AllRest E P (rest E (apply E σ u m)) × ((t : Tm E) → StandsIn E A B t → All P (bindings E (apply E σ u m) t))
  moved L M σ u h (keep n) d = (d.from P h.left.0 h.left.1, h.values)
  moved L M σ u h (bind x s v n) d =
      let new = d.from h.inv.lin P (others L h.left.0) (others M h.left.1) (all_every (λ k. P (listvar k)) v lists) in
      (new.1, λ t i. all_put_in E P x s new.0 (σ t) (others (σ t) (h.values t i)))
    where
      others : (K : Field E) → All P K → All (λ t. Other E x t → P t) K
      others K k = all_map P (λ t. Other E x t → P t) (λ t q _. q) K k

  kept : (L M : Field E) (σ : Bindings E) (u : List Name) → Has (problem (equation L M) σ u) → All (λ c. Has c.1) (children E (problem (equation L M) σ u))
  kept L M σ u h = all_children E Has L M σ u (λ m d.
      let k = moved L M σ u h m d in
      record { inv = inv_move E L M (pick u) σ u m (pick_new u) d h.inv; left = k.0; values = k.1 })

  module _ (a : All P A) (b : All P B) (linear : Linear E A B) where
    begins : Has (root E A B)
    begins = record { inv = root_inv E A B linear; left = (a, b); values = stands }
      where
        stands : (t : Tm E) → StandsIn E A B t → All P (t ∷ [])
        stands t (inl i) = (all_mem P A a t i, tt)
        stands t (inr i) = (all_mem P B b t i, tt)

    pub answers_from : (room : ℕ) (xs : List (Bindings E)) → searching E room A B ≡ answers xs
        → All (λ σ. (t : Tm E) → StandsIn E A B t → All P (σ t)) xs
    answers_from room xs e =
        all_map (λ σ. (u : List Name) × Has (problem solved σ u)) (λ σ. (t : Tm E) → StandsIn E A B t → All P (σ t)) (λ σ h. h.1.values) xs
        (run_keeps E Has kept (total E (root E A B ∷ [])) room (root E A B ∷ []) xs (begins, tt) (began_answers E room A B xs e))
