-- THE CASE OF 9, by a number that is not the search's own: `peak`, the most problems that wait at once where nothing is refused.
--     peak-met        some queue of that run is as long as `peak`,
--     peak-most       and none is longer
--     refused-peak    the search over a row is refused exactly where the row has fewer records than `peak`,
--     refused-queued  that is, where some queue of that run is longer than the row
--     row-of-none     a row of none is always too few
--     enough-room     with as many records as `peak` there are answers
use mathlib.Core.Path.{◌≡◌, refl, sym, ◌∙◌, ap, subst}
use mathlib.Core.Logic.{◌↔◌}
use mathlib.Core.Option.{Option, none, some}
use mathlib.Core.List.{List, [], ◌∷◌, ◌++◌, append-nil}
use Prim.Native.Nat.{ℕ, zero, suc, ◌+◌, ◌-◌, ◌≤◌, ◌<◌, max}
use native.Mathlib.Omega.{arith}
use native.Mathlib.Nat.{lt_of_not-le, le-max_left, le-max_right, max-eq_left, max-eq_right, sub-add-eq-max}
use native.Mathlib.Decide.{dec_le}
use lib.ListN.{length, length-append}
use Rattle.math_search.specs.Problems.{Setting, Field, Bindings, solved, equation, Problem, problem, rest, root}
use Rattle.math_search.specs.Queue.{rank, total, Result, answers, refused, unfinished, enqueue, onward, answer, offspring, run, searching}
use Rattle.math_search.proofs.Falling.{weight_pos, queue_falls}
use Rattle.math_search.proofs.Queue.{IsAnswers, enqueue_fits, enqueue_full, begins}
use Rattle.math_search.proofs.Searching.{searching_ends}
use Rattle.math_search.specs.Runs.{Queued, begun, taken, longest, peak}

module _ (E : Setting) where
  -- ---- the longest queue

  length_longest : (k : ℕ) (q : List (Problem E)) → length q ≤ longest E k q
  length_longest zero q = omega arith
  length_longest (suc k) [] = omega arith
  length_longest (suc k) (p ∷ q) = le-max_left (length (p ∷ q)) _

  -- every step lowers the steps that are left
  step_falls : (p : Problem E) (q : List (Problem E)) → total E (q ++ offspring E p) < total E (p ∷ q)
  step_falls (problem solved σ u) q = omega (arith, ap (total E) (append-nil q))
  step_falls (problem (equation L M) σ u) q = queue_falls E L M σ u q

  -- ---- the search over a row

  answer_refused : (σ : Bindings E) (r : Result E) → (answer E σ r ≡ refused) ↔ (r ≡ refused)
  answer_refused σ (answers xs) = (λ e. absurd (subst (IsAnswers E) e tt), λ e. absurd (subst (IsAnswers E) e tt))
  answer_refused σ refused = (λ e. refl, λ e. refl)
  answer_refused σ unfinished = (λ e. e, λ e. e)

  -- more than there is room for can't be put in
  no_room_for : (room : ℕ) (q ps : List (Problem E)) → length q ≤ room → (length q + length ps ≤ room → ⊥) → enqueue E room q ps ≡ none
  no_room_for room q ps h n = go (enqueue E room q ps) refl
    where
      go : (o : Option (List (Problem E))) → enqueue E room q ps ≡ o → o ≡ none
      go none e = refl
      go (some q') e = absurd (n (enqueue_full E room q ps q' h e))

  run_refused : (k room : ℕ) (q : List (Problem E)) → total E q ≤ k → length q ≤ room → (run E k room q ≡ refused) ↔ (room < longest E k q)
  run_refused zero room [] h l = (λ e. absurd (subst (IsAnswers E) e tt), λ m. absurd (omega arith))
  run_refused zero room (p ∷ q) h l = absurd (omega (arith, weight_pos E (rank E (rest E p))))
  run_refused (suc k) room [] h l = (λ e. absurd (subst (IsAnswers E) e tt), λ m. absurd (omega arith))
  run_refused (suc k) room (problem solved σ u ∷ q) h l =
      let i = run_refused k room q (omega arith) (omega arith) in (
        λ e. omega (arith, i.0 ((answer_refused σ (run E k room q)).0 e), same, larger),
        λ m. (answer_refused σ (run E k room q)).1 (i.1 (omega (arith, same, larger))),
      )
    where
      same : longest E k (q ++ []) ≡ longest E k q
      same = ap (longest E k) (append-nil q)

      larger : max (suc (length q)) (longest E k (q ++ [])) ≡ (suc (length q) - longest E k (q ++ [])) + longest E k (q ++ [])
      larger = sym (sub-add-eq-max (suc (length q)) (longest E k (q ++ [])))
  run_refused (suc k) room (problem (equation L M) σ u ∷ q) h l =
      go (dec_le (length q + length os) room) (λ f. run_refused k room (q ++ os) (omega (arith, queue_falls E L M σ u q)) (omega (arith, length-append q os)))
    where
      os : List (Problem E)
      os = offspring E (problem (equation L M) σ u)

      Goal : Type 0
      Goal = (onward E (enqueue E room q os) (λ q'. run E k room q') ≡ refused) ↔ (room < max (suc (length q)) (longest E k (q ++ os)))

      larger : max (suc (length q)) (longest E k (q ++ os)) ≡ (suc (length q) - longest E k (q ++ os)) + longest E k (q ++ os)
      larger = sym (sub-add-eq-max (suc (length q)) (longest E k (q ++ os)))

      go : Dec (length q + length os ≤ room) → (length q + length os ≤ room → (run E k room (q ++ os) ≡ refused) ↔ (room < longest E k (q ++ os))) → Goal
      go (yes f) rec = (λ e. omega (arith, (rec f).0 (sym on ∙ e), larger), λ m. on ∙ (rec f).1 (omega (arith, larger)))
        where
          on : onward E (enqueue E room q os) (λ q'. run E k room q') ≡ run E k room (q ++ os)
          on = ap (λ (o : Option (List (Problem E))). onward E o (λ q'. run E k room q')) (enqueue_fits E room q os f)
      go (no n) rec = (
        λ e. omega (arith, larger, length_longest k (q ++ os), length-append q os, lt_of_not-le n),
        λ m. ap (λ (o : Option (List (Problem E))). onward E o (λ q'. run E k room q')) (no_room_for room q os (omega arith) n),
      )

  pub refused_peak : (room : ℕ) (L M : Field E) → (searching E room L M ≡ refused) ↔ (room < peak E L M)
  refused_peak zero L M = (λ e. omega (arith, length_longest (total E (root E L M ∷ [])) (root E L M ∷ [])), λ h. refl)
  refused_peak (suc room) L M =
      let i = run_refused (total E (root E L M ∷ [])) (suc room) (root E L M ∷ []) (omega arith) (omega arith) in
      let b = begins E (suc room) L M (omega arith) in
      (λ e. i.0 (sym b ∙ e), λ h. b ∙ i.1 h)

  -- ---- what `peak` is

  -- no queue is longer
  most_from : (L M : Field E) (q : List (Problem E)) → Queued E L M q → (k : ℕ) × (total E q ≤ k) × (longest E k q ≤ peak E L M)
  most_from L M q begun = (total E (root E L M ∷ []), omega arith, omega arith)
  most_from L M q (taken {p = p} {q = r} m) = go (most_from L M (p ∷ r) m)
    where
      go : (k : ℕ) × (total E (p ∷ r) ≤ k) × (longest E k (p ∷ r) ≤ peak E L M)
          → (k : ℕ) × (total E (r ++ offspring E p) ≤ k) × (longest E k (r ++ offspring E p) ≤ peak E L M)
      go h = by h.0 h.1 h.2
        where
          by : (k : ℕ) → total E (p ∷ r) ≤ k → longest E k (p ∷ r) ≤ peak E L M
              → (k : ℕ) × (total E (r ++ offspring E p) ≤ k) × (longest E k (r ++ offspring E p) ≤ peak E L M)
          by zero t l = absurd (omega (arith, weight_pos E (rank E (rest E p))))
          by (suc k) t l = (k, omega (arith, step_falls p r), omega (arith, le-max_right (length (p ∷ r)) (longest E k (r ++ offspring E p))))

  pub peak_most : (L M : Field E) (q : List (Problem E)) → Queued E L M q → length q ≤ peak E L M
  peak_most L M q m =
      let h = most_from L M q m in
      omega (arith, h.2, length_longest h.0 q)

  met_from : (L M : Field E) (k : ℕ) (q : List (Problem E)) → Queued E L M q → (q' : List (Problem E)) × Queued E L M q' × (length q' ≡ longest E k q)
  met_from L M zero q m = (q, m, refl)
  met_from L M (suc k) [] m = ([], m, refl)
  met_from L M (suc k) (p ∷ q) m = go (dec_le (longest E k (q ++ offspring E p)) (length (p ∷ q))) (met_from L M k (q ++ offspring E p) (taken m))
    where
      go : Dec (longest E k (q ++ offspring E p) ≤ length (p ∷ q)) → (q' : List (Problem E)) × Queued E L M q' × (length q' ≡ longest E k (q ++ offspring E p))
          → (q' : List (Problem E)) × Queued E L M q' × (length q' ≡ max (length (p ∷ q)) (longest E k (q ++ offspring E p)))
      go (yes h) r = (p ∷ q, m, sym (max-eq_left h))
      go (no n) r = (r.0, r.1, r.2 ∙ sym (max-eq_right (omega (arith, lt_of_not-le n))))

  -- and one is as long
  pub peak_met : (L M : Field E) → (q : List (Problem E)) × Queued E L M q × (length q ≡ peak E L M)
  peak_met L M = met_from L M (total E (root E L M ∷ [])) (root E L M ∷ []) begun

  pub refused_queued : (room : ℕ) (L M : Field E) → (searching E room L M ≡ refused) ↔ ((q : List (Problem E)) × Queued E L M q × (room < length q))
  refused_queued room L M = (
    λ e. let m = peak_met L M in (m.0, m.1, omega (arith, m.2, (refused_peak room L M).0 e)),
    λ h. (refused_peak room L M).1 (omega (arith, h.2, peak_most L M h.0 h.1)),
  )

  -- "a row of none refuses every pair of accepted fields"
  pub row_of_none : (L M : Field E) → searching E 0 L M ≡ refused
  row_of_none L M = refl

  pub enough_room : (room : ℕ) (L M : Field E) → peak E L M ≤ room → (xs : List (Bindings E)) × (searching E room L M ≡ answers xs)
  enough_room room L M h = go (searching E room L M) refl
    where
      go : (r : Result E) → searching E room L M ≡ r → (xs : List (Bindings E)) × (searching E room L M ≡ answers xs)
      go (answers xs) e = (xs, e)
      go refused e = absurd (omega (arith, (refused_peak room L M).0 e))
      go unfinished e = absurd (searching_ends E room L M e)
