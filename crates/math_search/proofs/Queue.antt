-- The queue: the search ends, more room gives the same answers, and what every child keeps every answer has.
use mathlib.Core.Path.{◌≡◌, refl, sym, ◌∙◌, ap, subst}
use mathlib.Core.Logic.{◌⊎◌, inl, inr}
use mathlib.Core.Bool.{Bool, true, false, cond}
use mathlib.Core.Option.{Option, none, some, none-ne-some, some-injective}
use mathlib.Core.List.{List, [], ◌∷◌, ◌++◌, append-nil, append_assoc}
use Prim.Native.Nat.{ℕ, zero, suc, ◌+◌, ◌≤◌}
use native.Mathlib.Omega.{arith}
use lib.Dec.{leb}
use lib.ListN.{length, length-append}
use Rattle.base_lists.specs.Seqs.{All, all_append, all_mapped}
use borrow.Author.Tests.{leb-false, lt-leb}
use Rattle.math_search.specs.Problems.{Setting, Field, Bindings, solved, equation, Problem, problem, rest, root}
use Rattle.math_search.specs.Rules.{children}
use Rattle.math_search.specs.Queue.{rank, total, Result, answers, refused, unfinished, enqueue, onward, answer, offspring, run, searching}
use Rattle.math_search.proofs.Falling.{weight_pos, queue_falls}

module _ (E : Setting) where
  open E use {names}
  open names use {Name}

  -- ---- putting in

  -- what is put in stands behind what waits
  enqueued : (room : ℕ) (q ps q' : List (Problem E)) → enqueue E room q ps ≡ some q' → q' ≡ q ++ ps
  enqueued room q [] q' e = sym (some-injective q q' e) ∙ sym (append-nil q)
  enqueued room q (p ∷ ps) q' e = go (leb room (length q)) e (λ g. enqueued room (q ++ p ∷ []) ps q' g)
    where
      go : (b : Bool) → cond b none (enqueue E room (q ++ p ∷ []) ps) ≡ some q'
          → (enqueue E room (q ++ p ∷ []) ps ≡ some q' → q' ≡ (q ++ p ∷ []) ++ ps) → q' ≡ q ++ p ∷ ps
      go true e rec = absurd (none-ne-some q' e)
      go false e rec = rec e ∙ append_assoc q (p ∷ []) ps

  -- as many as there is room for can be put in
  pub enqueue_fits : (room : ℕ) (q ps : List (Problem E)) → length q + length ps ≤ room → enqueue E room q ps ≡ some (q ++ ps)
  enqueue_fits room q [] h = ap {B = Option (List (Problem E))} some (sym (append-nil q))
  enqueue_fits room q (p ∷ ps) h = ap (λ (b : Bool). cond b none (enqueue E room (q ++ p ∷ []) ps)) (lt-leb room (length q) (omega arith))
      ∙ enqueue_fits room (q ++ p ∷ []) ps (omega (arith, length-append q (p ∷ []))) ∙ ap {B = Option (List (Problem E))} some (append_assoc q (p ∷ []) ps)

  -- and no more
  pub enqueue_full : (room : ℕ) (q ps q' : List (Problem E)) → length q ≤ room → enqueue E room q ps ≡ some q' → length q + length ps ≤ room
  enqueue_full room q [] q' h e = omega arith
  enqueue_full room q (p ∷ ps) q' h e = go (leb room (length q)) refl e (λ l g. enqueue_full room (q ++ p ∷ []) ps q' l g)
    where
      go : (b : Bool) → leb room (length q) ≡ b → cond b none (enqueue E room (q ++ p ∷ []) ps) ≡ some q'
          → (length (q ++ p ∷ []) ≤ room → enqueue E room (q ++ p ∷ []) ps ≡ some q' → length (q ++ p ∷ []) + length ps ≤ room)
          → length q + suc (length ps) ≤ room
      go true t e rec = absurd (none-ne-some q' e)
      go false t e rec = omega (arith, rec (omega (arith, length-append q (p ∷ []), leb-false room (length q) t)) e, length-append q (p ∷ []))

  enqueue_more : (room room' : ℕ) → room ≤ room' → (q ps q' : List (Problem E)) → enqueue E room q ps ≡ some q' → enqueue E room' q ps ≡ some q'
  enqueue_more room room' h q [] q' e = e
  enqueue_more room room' h q (p ∷ ps) q' e = go (leb room (length q)) refl e (λ g. enqueue_more room room' h (q ++ p ∷ []) ps q' g)
    where
      go : (b : Bool) → leb room (length q) ≡ b → cond b none (enqueue E room (q ++ p ∷ []) ps) ≡ some q'
          → (enqueue E room (q ++ p ∷ []) ps ≡ some q' → enqueue E room' (q ++ p ∷ []) ps ≡ some q')
          → cond (leb room' (length q)) none (enqueue E room' (q ++ p ∷ []) ps) ≡ some q'
      go true t e rec = absurd (none-ne-some q' e)
      go false t e rec =
          ap (λ (b : Bool). cond b none (enqueue E room' (q ++ p ∷ []) ps)) (lt-leb room' (length q) (omega (arith, leb-false room (length q) t))) ∙ rec e

  -- ---- results

  abbrev pub IsAnswers : Result E → Type 0
  IsAnswers (answers xs) = Unit {0}
  IsAnswers refused = ⊥
  IsAnswers unfinished = ⊥

  abbrev pub IsUnfinished : Result E → Type 0
  IsUnfinished (answers xs) = ⊥
  IsUnfinished refused = ⊥
  IsUnfinished unfinished = Unit {0}

  abbrev pub given : Result E → List (Bindings E)
  given (answers xs) = xs
  given refused = []
  given unfinished = []

  -- after an answer
  pub answered : (σ : Bindings E) (r : Result E) (xs : List (Bindings E))
      → answer E σ r ≡ answers xs → (ys : List (Bindings E)) × (r ≡ answers ys) × (xs ≡ σ ∷ ys)
  answered σ (answers ys) xs e = (ys, refl, sym (ap given e))
  answered σ refused xs e = absurd (subst IsAnswers (sym e) tt)
  answered σ unfinished xs e = absurd (subst IsAnswers (sym e) tt)

  -- what goes on had room
  went : (o : Option (List (Problem E))) (k : List (Problem E) → Result E) (r : Result E)
      → onward E o k ≡ r → (r ≡ refused) ⊎ ((q : List (Problem E)) × (o ≡ some q) × (k q ≡ r))
  went none k r e = inl (sym e)
  went (some q) k r e = inr (q, refl, e)

  -- a step that is not refused leads to the queue with the children at its end
  stepped : (k room : ℕ) (p : Problem E) (q : List (Problem E)) (r : Result E)
      → onward E (enqueue E room q (offspring E p)) (λ q'. run E k room q') ≡ r → (r ≡ refused) ⊎ (run E k room (q ++ offspring E p) ≡ r)
  stepped k room p q r e = go (went (enqueue E room q (offspring E p)) (λ q'. run E k room q') r e)
    where
      go : (r ≡ refused) ⊎ ((q' : List (Problem E)) × (enqueue E room q (offspring E p) ≡ some q') × (run E k room q' ≡ r))
          → (r ≡ refused) ⊎ (run E k room (q ++ offspring E p) ≡ r)
      go (inl f) = inl f
      go (inr s) = inr (subst (λ (l : List (Problem E)). run E k room l ≡ r) (enqueued room q (offspring E p) s.0 s.1) s.2)

  pub step_answers : (k room : ℕ) (p : Problem E) (q : List (Problem E)) (xs : List (Bindings E))
      → onward E (enqueue E room q (offspring E p)) (λ q'. run E k room q') ≡ answers xs → run E k room (q ++ offspring E p) ≡ answers xs
  step_answers k room p q xs e = go (stepped k room p q (answers xs) e)
    where
      go : (◌≡◌ {A = Result E} (answers xs) refused) ⊎ (run E k room (q ++ offspring E p) ≡ answers xs) → run E k room (q ++ offspring E p) ≡ answers xs
      go (inl f) = absurd (subst IsAnswers f tt)
      go (inr s) = s

  -- ---- the search ends

  pub run_ends : (k room : ℕ) (q : List (Problem E)) → total E q ≤ k → run E k room q ≡ unfinished → ⊥
  run_ends zero room [] h e = subst IsAnswers e tt
  run_ends zero room (p ∷ q) h e = omega (arith, weight_pos E (rank E (rest E p)))
  run_ends (suc k) room [] h e = subst IsAnswers e tt
  run_ends (suc k) room (problem solved σ u ∷ q) h e = run_ends k room q (omega arith) (go (run E k room q) e)
    where
      go : (r : Result E) → answer E σ r ≡ unfinished → r ≡ unfinished
      go (answers xs) e = absurd (subst IsUnfinished (sym e) tt)
      go refused e = absurd (subst IsUnfinished (sym e) tt)
      go unfinished e = refl
  run_ends (suc k) room (problem (equation L M) σ u ∷ q) h e =
      go (stepped k room (problem (equation L M) σ u) q unfinished e)
      (λ g. run_ends k room (q ++ offspring E (problem (equation L M) σ u)) (omega (arith, queue_falls E L M σ u q)) g)
    where
      go : (◌≡◌ {A = Result E} unfinished refused) ⊎ (run E k room (q ++ offspring E (problem (equation L M) σ u)) ≡ unfinished)
          → (run E k room (q ++ offspring E (problem (equation L M) σ u)) ≡ unfinished → ⊥) → ⊥
      go (inl f) rec = subst IsUnfinished f tt
      go (inr s) rec = rec s

  -- ---- room

  -- with more room the same answers come
  pub run_more : (k room room' : ℕ) → room ≤ room' → (q : List (Problem E)) (xs : List (Bindings E))
      → run E k room q ≡ answers xs → run E k room' q ≡ answers xs
  run_more zero room room' h [] xs e = e
  run_more zero room room' h (p ∷ q) xs e = e
  run_more (suc k) room room' h [] xs e = e
  run_more (suc k) room room' h (problem solved σ u ∷ q) xs e =
      let r = answered σ (run E k room q) xs e in
      ap (answer E σ) (run_more k room room' h q r.0 r.1) ∙ ap {B = Result E} answers (sym r.2)
  run_more (suc k) room room' h (problem (equation L M) σ u ∷ q) xs e =
      go (went (enqueue E room q (offspring E p)) (λ q'. run E k room q') (answers xs) e) (λ q' g. run_more k room room' h q' xs g)
    where
      p : Problem E
      p = problem (equation L M) σ u

      go : (◌≡◌ {A = Result E} (answers xs) refused)
          ⊎ ((q' : List (Problem E)) × (enqueue E room q (offspring E (problem (equation L M) σ u)) ≡ some q') × (run E k room q' ≡ answers xs))
          → ((q' : List (Problem E)) → run E k room q' ≡ answers xs → run E k room' q' ≡ answers xs)
          → onward E (enqueue E room' q (offspring E (problem (equation L M) σ u))) (λ q'. run E k room' q') ≡ answers xs
      go (inl f) rec = absurd (subst IsAnswers f tt)
      go (inr s) rec =
          ap (λ (o : Option (List (Problem E))). onward E o (λ q'. run E k room' q'))
          (enqueue_more room room' h q (offspring E (problem (equation L M) σ u)) s.0 s.1)
          ∙ rec s.0 s.2

  length_total : (q : List (Problem E)) → length q ≤ total E q
  length_total [] = omega arith
  length_total (p ∷ q) = omega (arith, length_total q, weight_pos E (rank E (rest E p)))

  -- with room for `total` problems nothing is refused
  pub run_room : (k room : ℕ) (q : List (Problem E)) → total E q ≤ room → run E k room q ≡ refused → ⊥
  run_room zero room [] h e = subst IsAnswers e tt
  run_room zero room (p ∷ q) h e = subst IsUnfinished e tt
  run_room (suc k) room [] h e = subst IsAnswers e tt
  run_room (suc k) room (problem solved σ u ∷ q) h e = run_room k room q (omega arith) (go (run E k room q) e)
    where
      go : (r : Result E) → answer E σ r ≡ refused → r ≡ refused
      go (answers xs) e = absurd (subst IsAnswers e tt)
      go refused e = refl
      go unfinished e = absurd (subst IsUnfinished e tt)
  run_room (suc k) room (problem (equation L M) σ u ∷ q) h e =
      run_room k room (q ++ offspring E (problem (equation L M) σ u)) (omega (arith, queue_falls E L M σ u q)) (sym on ∙ e)
    where
      on : onward E (enqueue E room q (offspring E (problem (equation L M) σ u))) (λ q'. run E k room q')
          ≡ run E k room (q ++ offspring E (problem (equation L M) σ u))
      on = ap (λ (o : Option (List (Problem E))). onward E o (λ q'. run E k room q')) (enqueue_fits room q (offspring E (problem (equation L M) σ u))
          (omega (
            arith,
            length_total (q ++ offspring E (problem (equation L M) σ u)),
            length-append q (offspring E (problem (equation L M) σ u)),
            queue_falls E L M σ u q,
          )))

  -- ---- what every child keeps, every answer has

  pub all_offspring : (P : Problem E → Type 0) (p : Problem E) → All (λ c. P c.1) (children E p) → All P (offspring E p)
  all_offspring P p h = all_mapped P (λ c. c.1) (children E p) h

  pub run_keeps : (P : Problem E → Type 0)
      → ((L M : Field E) (σ : Bindings E) (u : List Name) → P (problem (equation L M) σ u) → All (λ c. P c.1) (children E (problem (equation L M) σ u)))
      → (k room : ℕ) (q : List (Problem E)) (xs : List (Bindings E)) → All P q
      → run E k room q ≡ answers xs → All (λ σ. (u : List Name) × P (problem solved σ u)) xs
  run_keeps P c zero room [] xs h e = subst (λ (r : Result E). All (λ σ. (u : List Name) × P (problem solved σ u)) (given r)) e tt
  run_keeps P c zero room (p ∷ q) xs h e = absurd (subst IsAnswers (sym e) tt)
  run_keeps P c (suc k) room [] xs h e = subst (λ (r : Result E). All (λ σ. (u : List Name) × P (problem solved σ u)) (given r)) e tt
  run_keeps P c (suc k) room (problem solved σ u ∷ q) xs h e =
      let r = answered σ (run E k room q) xs e in
      subst (λ (l : List (Bindings E)). All (λ σ. (u : List Name) × P (problem solved σ u)) l) (sym r.2)
      ((u, h.0), run_keeps P c k room q r.0 h.1 r.1)
  run_keeps P c (suc k) room (problem (equation L M) σ u ∷ q) xs h e =
      run_keeps P c k room (q ++ offspring E (problem (equation L M) σ u)) xs
      (all_append P q (offspring E (problem (equation L M) σ u)) h.1 (all_offspring P (problem (equation L M) σ u) (c L M σ u h.0)))
      (step_answers k room (problem (equation L M) σ u) q xs e)

  -- ---- the root

  -- the search begins with the root alone
  pub began : (room : ℕ) (L M : Field E) (r : Result E) → searching E room L M ≡ r
      → (r ≡ refused) ⊎ (run E (total E (root E L M ∷ [])) room (root E L M ∷ []) ≡ r)
  began room L M r e = go (went (enqueue E room [] (root E L M ∷ [])) (λ q. run E (total E q) room q) r e)
    where
      go : (r ≡ refused) ⊎ ((q : List (Problem E)) × (enqueue E room [] (root E L M ∷ []) ≡ some q) × (run E (total E q) room q ≡ r))
          → (r ≡ refused) ⊎ (run E (total E (root E L M ∷ [])) room (root E L M ∷ []) ≡ r)
      go (inl f) = inl f
      go (inr s) = inr (subst (λ (l : List (Problem E)). run E (total E l) room l ≡ r) (enqueued room [] (root E L M ∷ []) s.0 s.1) s.2)

  pub began_answers : (room : ℕ) (L M : Field E) (xs : List (Bindings E)) → searching E room L M ≡ answers xs
      → run E (total E (root E L M ∷ [])) room (root E L M ∷ []) ≡ answers xs
  began_answers room L M xs e = go (began room L M (answers xs) e)
    where
      go : (◌≡◌ {A = Result E} (answers xs) refused) ⊎ (run E (total E (root E L M ∷ [])) room (root E L M ∷ []) ≡ answers xs)
          → run E (total E (root E L M ∷ [])) room (root E L M ∷ []) ≡ answers xs
      go (inl f) = absurd (subst IsAnswers f tt)
      go (inr s) = s

  -- with a record there is room for it
  pub begins : (room : ℕ) (L M : Field E) → 1 ≤ room → searching E room L M ≡ run E (total E (root E L M ∷ [])) room (root E L M ∷ [])
  begins room L M h = ap (λ (o : Option (List (Problem E))). onward E o (λ q. run E (total E q) room q)) (enqueue_fits room [] (root E L M ∷ []) h)

  -- with none there is not
  pub answers_room : (room : ℕ) (L M : Field E) (xs : List (Bindings E)) → searching E room L M ≡ answers xs → 1 ≤ room
  answers_room room L M xs e = go (went (enqueue E room [] (root E L M ∷ [])) (λ q. run E (total E q) room q) (answers xs) e)
    where
      go : (◌≡◌ {A = Result E} (answers xs) refused)
          ⊎ ((q : List (Problem E)) × (enqueue E room [] (root E L M ∷ []) ≡ some q) × (run E (total E q) room q ≡ answers xs))
          → 1 ≤ room
      go (inl f) = absurd (subst IsAnswers f tt)
      go (inr s) = enqueue_full room [] (root E L M ∷ []) s.0 (omega arith) s.1
