-- Every step lowers the number of steps that are left.
use mathlib.Core.Path.{◌≡◌, ◌∙◌, ap}
use mathlib.Core.List.{List, [], ◌∷◌, ◌++◌, map}
use Prim.Native.Nat.{ℕ, suc, ◌+◌, ◌*◌, ◌^◌, ◌≤◌, ◌<◌}
use native.Mathlib.Omega.{arith}
use native.Mathlib.Nat.{pow-succ', pow-le-pow_right, suc-mul, mul-le-mul_right}
use lib.ListN.{length, length-map}
use Rattle.base_lists.specs.Seqs.{All, all_map}
use Rattle.math_search.specs.Problems.{Setting, Field, Bindings, equation, Problem, problem, rest}
use Rattle.math_search.specs.Rules.{Rule, moves, apply, children, rule_count}
use Rattle.math_search.specs.Termination.{head_part, type_part}
use Rattle.math_search.specs.Queue.{terms_in, long_part, rank, weight, total, offspring}
use Rattle.math_search.proofs.Effects.{Falls}
use Rattle.math_search.proofs.Children.{moves_length, children_fall}

module _ (E : Setting) where
  open E use {names}
  open names use {Name, pick}

  total_append : (q r : List (Problem E)) → total E (q ++ r) ≡ total E q + total E r
  total_append [] r = omega arith
  total_append (p ∷ q) r = omega (arith, total_append q r)

  pub weight_pos : (k : ℕ) → 1 ≤ suc rule_count ^ k
  weight_pos k = pow-le-pow_right {n = suc rule_count} (omega arith) {i = 0} {j = k} (omega arith)

  total_le : (cs : List (Rule × Problem E)) (k : ℕ) → All (λ c. rank E (rest E c.1) ≤ k) cs → total E (map (λ c. c.1) cs) ≤ length cs * suc rule_count ^ k
  total_le [] k h = omega arith
  total_le (c ∷ cs) k h =
      omega (
        arith,
        total_le cs k h.1,
        pow-le-pow_right {n = suc rule_count} (omega arith) {i = rank E (rest E c.1)} {j = k} h.0,
        suc-mul (length cs) (suc rule_count ^ k),
      )

  pub queue_falls : (L M : Field E) (σ : Bindings E) (u : List Name) (q : List (Problem E))
      → total E (q ++ offspring E (problem (equation L M) σ u)) < total E (problem (equation L M) σ u ∷ q)
  queue_falls L M σ u q = omega (arith, total_append q (map (λ c. c.1) cs), total_le cs k low, few, power, weight_pos k)
    where
      cs : List (Rule × Problem E)
      cs = children E (problem (equation L M) σ u)

      k : ℕ
      k = 8 * terms_in E L M + (4 * head_part E L + (2 * type_part E L M + long_part E L))

      low : All (λ c. rank E (rest E c.1) ≤ k) (children E (problem (equation L M) σ u))
      low =
          all_map (λ (c : Rule × Problem E). Falls E (rest E c.1) L M) (λ (c : Rule × Problem E). rank E (rest E c.1) ≤ k) (λ c h. omega (arith, h.0))
          (children E (problem (equation L M) σ u)) (children_fall E L M σ u)

      few : length (children E (problem (equation L M) σ u)) * suc rule_count ^ k ≤ rule_count * suc rule_count ^ k
      few =
          mul-le-mul_right (suc rule_count ^ k)
          (omega (arith, moves_length E L M (pick u), length-map {B = Rule × Problem E} (moves E L M (pick u)) (λ q. (q.0, apply E σ u q.1))))

      power : weight E (problem (equation L M) σ u) ≡ suc rule_count * suc rule_count ^ k
      power = ap (λ (j : ℕ). suc rule_count ^ j) one_more ∙ pow-succ' (suc rule_count) k
        where
          one_more : 1 + k ≡ suc k
          one_more = omega arith
