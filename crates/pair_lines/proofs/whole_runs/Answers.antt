use Rattle.std.proofs.Common.{ℕ, List, zero, suc, cond, ◌≡◌, ◌+◌, ◌%◌, ◌≤◌, ◌<◌, eqb, get_or, arith, rules, subst, ◌∙◌}
use Rattle.std.specs.Array.{IsFromFnResultFrom}
use Rattle.std.specs.Fn.{Called}
use denote.Param.Members.{Mut}
use borrow.Author.Tests.{tests}
use native.Mathlib.Decide.{ℕ_discrete}
use Rattle.base_lists.specs.Seqs.{tabulated}
use Rattle.pair_lines.specs.Lines.{run_places}
use Rattle.pair_lines.proofs.whole_runs.Goals as goal

-- what a closure that keeps its state makes at each index
made : {F : Type 0} (g : Mut F (ℕ × Unit {0}) ℕ) (f : F) (h : ℕ → ℕ) (ys : List ℕ) → ((x y : ℕ) (q : F) → Called g f (x, tt) y q → (q ≡ f) × (y ≡ h x))
    → (n i : ℕ) → IsFromFnResultFrom g f ys i n
    → (k : ℕ) → i ≤ k → k < i + n → get_or ys k 0 ≡ h k
made g f h ys one zero i m k a b = absurd (omega arith)
made {F} g f h ys one (suc n) i m k a b =
    elim (ℕ_discrete k i) [
      | yes e ↦ rw e (m.2.1 0 ∙ (one i m.1 m.0 m.3).1)
      | no e ↦ made g f h ys one n (i + 1) (subst (λ (q : F). IsFromFnResultFrom g q ys (i + 1) n) (one i m.1 m.0 m.3).0 m.4) k (omega arith) (omega arith)
    ]

pub returns : goal.returns
returns c =
    tabulated run_places c.from_fn.result (λ i. cond (eqb (i % 2) 0) 0 c.args.n) 0 c.from_fn.ensures.items.long
    (λ i l. made _ _ (λ k. cond (eqb (k % 2) 0) 0 c.args.n) c.from_fn.result (λ x y q k. search (rules, tests)) 32 0 c.from_fn.ensures.items.each i
    (omega arith) (omega arith))
