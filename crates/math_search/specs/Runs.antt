-- THE RUN WITHOUT A ROW, where nothing is refused: the queues that it meets, and the most problems that wait at once.
use Rattle.std.specs.Prelude.{List, [], ◌∷◌, ◌++◌, ℕ, zero, suc, max, length}
use Rattle.math_search.specs.Problems.{Setting, Field, Problem, root}
use Rattle.math_search.specs.Queue.{total, offspring}

module _ (E : Setting) where
  -- the queues of that run, no steps counted: the first is taken, and its children are put in (a solved one has none)
  pub data Queued (L M : Field E) : List (Problem E) → Type 0 where
    begun : Queued L M (root E L M ∷ [])
    taken : {p : Problem E} {q : List (Problem E)} → Queued L M (p ∷ q) → Queued L M (q ++ offspring E p)

  -- the longest queue from q on, within k steps
  abbrev pub longest : ℕ → List (Problem E) → ℕ
  longest zero q = length q
  longest (suc k) [] = 0
  longest (suc k) (p ∷ q) = max (length (p ∷ q)) (longest k (q ++ offspring E p))

  -- THE MOST PROBLEMS THAT WAIT AT ONCE, where nothing is refused: `peak_most` and `peak_met` of proofs/Peak say so of `Queued`
  abbrev pub peak : Field E → Field E → ℕ
  peak L M = longest (total E (root E L M ∷ [])) (root E L M ∷ [])
