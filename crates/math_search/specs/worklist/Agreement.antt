-- Records that stand for the problems of the search.
use Rattle.std.specs.Prelude.{◌≡◌, Bool, true, false, List, [], ◌∷◌, ℕ, ◌+◌}
use Rattle.std.proofs.Math.Option.{Option, none, some}
use Rattle.math_search.specs.Problems.{Setting, Field, Bindings, Rest, solved, equation, Problem, problem}
use Rattle.math_search.specs.Rules.{Rule, rule_order, Move, fails, rule, apply, rule_count}
use Rattle.math_search.specs.worklist.Machine.{Records}

-- the rules have the numbers from k on, up to their count
abbrev pub Numbered : (Rule → ℕ) → ℕ → List Rule → Type 0
Numbered number k [] = k ≡ rule_count
Numbered number k (r ∷ rs) = (number r ≡ k) × Numbered number (k + 1) rs

module _ (E : Setting) (D : Records) (Holds : D.Rec → Problem E → Type 0) where
  open E use {names}
  open names use {Name, pick}

  abbrev pub open_rest : Rest E → Bool
  open_rest solved = false
  open_rest (equation L M) = true

  -- p's child by the rule of number k is the problem that the move makes, if there is one
  abbrev pub ChildIs : D.Rec → ℕ → Bindings E → List Name → Option (Move E) → Type 0
  ChildIs p k σ u none = D.ok p k ≡ false
  ChildIs p k σ u (some m) = (D.ok p k ≡ true) × Holds (D.child p k) (apply E σ u m)

  -- records and problems go together, step by step; `text` is the line of an answer
  pub record Agrees (number : Rule → ℕ) (text : Bindings E → List ℕ) : Type 0 where
    pub ordered : Numbered number 0 rule_order
    pub open_is : (p : D.Rec) (n : Rest E) (σ : Bindings E) (u : List Name) → Holds p (problem n σ u) → D.is_open p ≡ open_rest n
    pub fails_is : (p : D.Rec) (L M : Field E) (σ : Bindings E) (u : List Name)
        → Holds p (problem (equation L M) σ u) → D.fails p ≡ fails E L M
    pub child_is : (p : D.Rec) (L M : Field E) (σ : Bindings E) (u : List Name)
        → Holds p (problem (equation L M) σ u) → fails E L M ≡ false
        → (r : Rule) → ChildIs p (number r) σ u (rule E r L M (pick u))
    pub line_is : (p : D.Rec) (σ : Bindings E) (u : List Name) → Holds p (problem solved σ u) → D.line p ≡ text σ
