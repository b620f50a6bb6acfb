-- What holds of every problem of the search tree, in one record.
use mathlib.Core.Path.{◌≡◌}
use mathlib.Core.Logic.{inl, inr}
use mathlib.Core.Option.{some}
use mathlib.Core.List.Memᴰ
use mathlib.Core.List.{List, ◌++◌, Memᴰ}
use Prim.Native.Nat.{◌+◌, ◌≤◌}
use native.Mathlib.Omega.{arith}
use lib.ListN.{length}
use Rattle.base_lists.specs.Seqs.{All, all_map, all_mem}
use Rattle.math_terms.specs.Seqs.{concat_map}
use Rattle.math_search.specs.Problems.{Setting, Tm, Field, Bindings, solved, equation, Problem, problem, rest, bindings, used, root}
use Rattle.math_search.specs.Rules.{Rule, Move, keep, bind, apply, children, Met, start, step}
use Rattle.math_search.specs.Queue.{terms_in}
use Rattle.math_search.specs.Answers.{StandsIn, Linear}
use Rattle.math_search.proofs.Seqs.{all_from}
use Rattle.math_search.proofs.Effects.{terms_left, Does}
use Rattle.math_search.proofs.Invariant.{Unifies, Known, Invariant}
use Rattle.math_search.proofs.Children.{all_children, children_room, children_inv, children_sound}
use Rattle.math_search.proofs.Root.{old_left, old_right, root_inv, root_room}
use Rattle.math_search.proofs.Cuts.{Cut}
use Rattle.math_search.proofs.Lengths.{children_cut, value_long, root_cut}

module _ (E : Setting) where
  open E use {names}
  open names use {Name, pick}

  -- what holds of every problem of the search tree of A = B
  pub record Fine (A B : Field E) (p : Problem E) : Type 0 where
    pub inv : Invariant E p
    pub old_A : All (Known E (used E p)) A
    pub old_B : All (Known E (used E p)) B
    pub cut : Cut E (concat_map (bindings E p) A) (concat_map (bindings E p) B) (terms_in E A B) (rest E p)
    pub names_few : length (used E p) + terms_left E (rest E p) ≤ 2 + terms_in E A B
    pub solves : (θ : Tm E → Field E) → Unifies E θ p → concat_map θ A ≡ concat_map θ B

  pub root_fine : (A B : Field E) → Linear E A B → Fine A B (root E A B)
  root_fine A B l = record {
    inv = root_inv E A B l;
    old_A = old_left E A B;
    old_B = old_right E A B;
    cut = root_cut E A B;
    names_few = root_room E A B l;
    solves = λ θ h. h.0;
  }

  all_old : (A : Field E) (L M : Field E) (σ : Bindings E) (u : List Name) (m : Move E)
      → Does E L M (pick u) (some m) → All (Known E u) A → All (Known E (used E (apply E σ u m))) A
  all_old A L M σ u (keep n) d o = o
  all_old A L M σ u (bind x s v n) d o = all_map (Known E u) (Known E (v ++ u)) (λ t h k g. h k (λ j. g (Memᴰ.append_right v j))) A o

  pub child_fine : (A B L M : Field E) (σ : Bindings E) (u : List Name) → Fine A B (problem (equation L M) σ u)
      → All (λ c. Fine A B c.1) (children E (problem (equation L M) σ u))
  child_fine A B L M σ u h = all_from (λ c. Fine A B c.1) (children E (problem (equation L M) σ u)) (λ c i. record {
    inv = all_mem (λ c. Invariant E c.1) cs (children_inv E L M σ u h.inv) c i;
    old_A =
        all_mem (λ c. All (Known E (used E c.1)) A) cs
        (all_children E (λ p. All (Known E (used E p)) A) L M σ u (λ m d. all_old A L M σ u m d h.old_A)) c i;
    old_B =
        all_mem (λ c. All (Known E (used E c.1)) B) cs
        (all_children E (λ p. All (Known E (used E p)) B) L M σ u (λ m d. all_old B L M σ u m d h.old_B)) c i;
    cut =
        all_mem (λ c. Cut E (concat_map (bindings E c.1) A) (concat_map (bindings E c.1) B) (terms_in E A B) (rest E c.1)) cs
        (children_cut E A B (terms_in E A B) L M σ u h.inv h.old_A h.cut) c i;
    names_few = omega (
      arith,
      h.names_few,
      all_mem (λ c. length (used E c.1) + terms_left E (rest E c.1) ≤ length u + terms_in E L M) cs (children_room E L M σ u) c i,
    );
    solves = λ θ k. h.solves θ (all_mem (λ c. Unifies E θ c.1 → Unifies E θ (problem (equation L M) σ u)) cs (children_sound E L M σ u h.inv θ) c i k);
  })
    where
      cs : List (Rule × Problem E)
      cs = children E (problem (equation L M) σ u)

  pub fine_values : (A B : Field E) (p : Problem E) → Fine A B p → (t : Tm E) → StandsIn E A B t → length (bindings E p t) ≤ terms_in E A B
  fine_values A B (problem n σ u) h t i = value_long E A B (terms_in E A B) n σ h.cut t i

  pub fine_names : (A B : Field E) (p : Problem E) → Fine A B p → length (used E p) ≤ 2 + terms_in E A B
  fine_names A B p h = omega (arith, h.names_few)

  pub met_fine : (A B : Field E) → Linear E A B → (p : Problem E) → Met E A B p → Fine A B p
  met_fine A B l p start = root_fine A B l
  met_fine A B l p (step {p = q} m c i) = child_of_lem q (met_fine A B l q m) c i
    where
      child_of_lem : (q : Problem E) → Fine A B q → (c : Rule × Problem E) → Memᴰ c (children E q) → Fine A B c.1
      child_of_lem (problem solved σ u) h c i = absurd (Memᴰ.not-nil i)
      child_of_lem (problem (equation L M) σ u) h c i = all_mem (λ c. Fine A B c.1) (children E (problem (equation L M) σ u)) (child_fine A B L M σ u h) c i

  pub fine_known : (A B : Field E) (p : Problem E) → Fine A B p → (t : Tm E) → StandsIn E A B t → Known E (used E p) t
  fine_known A B p h t (inl i) = all_mem (Known E (used E p)) A h.old_A t i
  fine_known A B p h t (inr i) = all_mem (Known E (used E p)) B h.old_B t i
