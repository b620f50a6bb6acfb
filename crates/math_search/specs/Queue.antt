-- Breadth-first search (Figure 7 of document 001) over a row (a queue in a ring buffer) of so many records.
use Rattle.std.specs.Prelude.{cond, List, [], ◌∷◌, ◌++◌, map, ℕ, zero, suc, ◌+◌, ◌*◌, ◌^◌, leb, length}
use Rattle.std.proofs.Math.Option.{Option, none, some}
use Rattle.math_search.specs.Problems.{Setting, Field, Bindings, Rest, solved, equation, Problem, problem, rest, root}
use Rattle.math_search.specs.Rules.{rule_count, children}
use Rattle.math_search.specs.Termination.{head_part, type_part}

module _ (E : Setting) where
  -- ---- the number of steps: `total` of the problems that wait falls at every step (`queue_falls` of proofs/Falling)

  abbrev pub terms_in : Field E → Field E → ℕ
  terms_in L M = length L + length M

  -- 1 if the left side has two terms or more
  abbrev pub long_part : Field E → ℕ
  long_part [] = 0
  long_part (t ∷ []) = 0
  long_part (t ∷ (u ∷ L)) = 1

  abbrev pub rank : Rest E → ℕ
  rank solved = 0
  rank (equation L M) = 1 + (8 * terms_in L M + (4 * head_part E L + (2 * type_part E L M + long_part L)))

  -- a problem has at most a child a rule, each of lower rank
  abbrev pub weight : Problem E → ℕ
  weight p = suc rule_count ^ rank (rest E p)

  abbrev pub total : List (Problem E) → ℕ
  total [] = 0
  total (p ∷ q) = weight p + total q

  -- ---- the queue

  -- `refused` is 9; `unfinished`, the steps used up, never comes (`searching_ends` of proofs/Searching)
  pub data Result : Type 0 where
    answers : List (Bindings E) → Result
    refused : Result
    unfinished : Result

  -- "9: a problem is to be put in while as many wait as the row has records"; the last put in is the last to leave
  abbrev pub enqueue : ℕ → List (Problem E) → List (Problem E) → Option (List (Problem E))
  enqueue room q [] = some q
  enqueue room q (p ∷ ps) = cond (leb room (length q)) none (enqueue room (q ++ p ∷ []) ps)

  -- go on, if there was room
  abbrev pub onward : Option (List (Problem E)) → (List (Problem E) → Result) → Result
  onward none k = refused
  onward (some q) k = k q

  -- "in the order in which solved problems leave the row; repeats stay"
  abbrev pub answer : Bindings E → Result → Result
  answer σ (answers xs) = answers (σ ∷ xs)
  answer σ refused = refused
  answer σ unfinished = unfinished

  -- the children, in their order
  abbrev pub offspring : Problem E → List (Problem E)
  offspring p = map (λ c. c.1) (children E p)

  -- The first of those that wait is taken, and waits no longer. A solved one is an answer; of another the children are put in, each
  -- at the end, those that will fail and those that are solved like any other. A problem that fails has none.
  abbrev pub run : ℕ → ℕ → List (Problem E) → Result
  run zero room [] = answers []
  run zero room (p ∷ q) = unfinished
  run (suc k) room [] = answers []
  run (suc k) room (problem solved σ u ∷ q) = answer σ (run k room q)
  run (suc k) room (problem (equation L M) σ u ∷ q) = onward (enqueue room q (offspring (problem (equation L M) σ u))) (λ q'. run k room q')

  -- THE SEARCH for one field pair, over a row of `room` records: "a row of none refuses every pair of accepted fields"
  abbrev pub searching : ℕ → Field E → Field E → Result
  searching room L M = onward (enqueue room [] (root E L M ∷ [])) (λ q. run (total q) room q)
