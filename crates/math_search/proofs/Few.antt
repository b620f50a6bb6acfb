-- How many answers a search gives: at most 2 ^ (terms + list variables), `answers_few`. By a number for each problem, `most`, that is 1 for a solved
-- one and at least the sum of the children's.
use mathlib.Core.Path.{◌≡◌, refl, sym, ◌∙◌, ap, ap₂, subst}
use mathlib.Core.Logic.{ite, if_neg}
use mathlib.Core.Bool.{Bool, true, false, cond, ◌&&◌, not, true≢false, false≢true}
use mathlib.Core.Option.{Option, none, some}
use mathlib.Core.List.{List, [], ◌∷◌, ◌++◌, map, head-eq_of_cons-eq}
use Prim.Native.Nat.{ℕ, zero, suc, ◌+◌, ◌*◌, ◌^◌, ◌≤◌}
use native.Mathlib.Omega.{arith}
use native.Mathlib.Nat.{pow-succ', pow-le-pow_right}
use lib.ListN.{length}
use Rattle.base_limits.specs.Limits.{most_terms}
use Rattle.base_lists.specs.Seqs.{All, all_append}
use Rattle.math_types.specs.Order.{basic, full_le}
use Rattle.math_overlaps.specs.Shapes.{fixed, free}
use Rattle.math_search.specs.Problems.{Setting, atomic, listvar, At, Tm, Field, at_eq, tm_eq, field_eq, kind_of, field_type, term_type, Bindings}
use Rattle.math_search.specs.Problems.{put_in}
use Rattle.math_search.specs.Problems.{Rest, solved, equation, Problem, problem, rest, root}
use Rattle.math_search.specs.Rules.{Rule, rule_order, below, occurs, Move, keep, bind, fails, remove, bind_atom, decomp1', decomp3, decomp4, solve_by}
use Rattle.math_search.specs.Rules.{orient2}
use Rattle.math_search.specs.Rules.{orient3, rule, add, collect, apply}
use Rattle.math_search.specs.Queue.{total, Result, answers, offspring, run, searching}
use Rattle.math_search.specs.Answers.{listvars, Linear}
use Rattle.math_search.proofs.Terms.{atomic_once, atomic≢listvar}
use Rattle.math_search.proofs.Counts.{put_length, put_lists, absent}
use Rattle.math_search.proofs.Bound.{rest_right, heads_differ}
use Rattle.math_search.proofs.Invariant.{Invariant}
use Rattle.math_search.proofs.Children.{children_inv}
use Rattle.math_search.proofs.Queue.{IsAnswers, given, answered, step_answers, all_offspring, began_answers}
use Rattle.math_search.proofs.Root.{root_inv}

pub two_pos : (k : ℕ) → 1 ≤ 2 ^ k
two_pos k = pow-le-pow_right {n = 2} (omega arith) {i = 0} {j = k} (omega arith)

double : (k m : ℕ) → k ≡ suc m → 2 ^ k ≡ 2 * 2 ^ m
double k m e = ap (λ (j : ℕ). 2 ^ j) e ∙ pow-succ' 2 m

fourfold : (k m : ℕ) → k ≡ 2 + m → 2 ^ k ≡ 4 * 2 ^ m
fourfold k m e = omega (arith, double k (1 + m) (omega arith), double (1 + m) m (omega arith))

eightfold : (k m : ℕ) → k ≡ 3 + m → 2 ^ k ≡ 8 * 2 ^ m
eightfold k m e = omega (arith, double k (2 + m) (omega arith), fourfold (2 + m) m (omega arith))

sixteenfold : (k m : ℕ) → k ≡ 4 + m → 2 ^ k ≡ 16 * 2 ^ m
sixteenfold k m e = omega (arith, double k (3 + m) (omega arith), eightfold (3 + m) m (omega arith))

module _ (E : Setting) where
  open E use {order, variables, names}
  open order use {Kind, kind_eq, le, le_refl}
  open variables use {Var, sort}
  open names use {Name, pick}

  -- ---- the number of a problem

  abbrev size : Field E → Field E → ℕ
  size L M = (length L + length M) + (listvars E L + listvars E M)

  abbrev full : Field E → Field E → ℕ
  full L M = 2 ^ size L M

  -- of two atoms at the heads: the sides only change places (Orient1, Orient3)
  abbrev turns : At E → At E → Bool
  turns (fixed c) (fixed d) = false
  turns (fixed c) (free y) = true
  turns (free x) (fixed d) = false
  turns (free x) (free y) = below E (basic (sort x)) (basic (sort y))

  abbrev most : Rest E → ℕ
  most solved = 1
  most (equation [] M) = 1
  most (equation (t ∷ L) []) = 1
  most (equation (listvar x ∷ []) (u ∷ M)) = 1
  most (equation (listvar x ∷ (t ∷ L)) (u ∷ M)) = full (listvar x ∷ (t ∷ L)) (u ∷ M)
  most (equation (atomic a ∷ L) (listvar y ∷ M)) = full (atomic a ∷ L) (listvar y ∷ M)
  most (equation (atomic a ∷ []) (atomic b ∷ M)) = cond (turns a b) (full (atomic a ∷ []) (atomic b ∷ M)) 4
  most (equation (atomic a ∷ (t ∷ L)) (atomic b ∷ M)) = full (atomic a ∷ (t ∷ L)) (atomic b ∷ M)

  most_nil : (L : Field E) → most (equation L []) ≡ 1
  most_nil [] = refl
  most_nil (t ∷ L) = refl

  most_full : (L M : Field E) → most (equation L M) ≤ full L M
  most_full [] M = two_pos (size [] M)
  most_full (t ∷ L) [] = two_pos (size (t ∷ L) [])
  most_full (listvar x ∷ []) (u ∷ M) = two_pos (size (listvar x ∷ []) (u ∷ M))
  most_full (listvar x ∷ (t ∷ L)) (u ∷ M) = omega arith
  most_full (atomic a ∷ L) (listvar y ∷ M) = omega arith
  most_full (atomic a ∷ []) (atomic b ∷ M) = go (turns a b)
    where
      go : (c : Bool) → cond c (full (atomic a ∷ []) (atomic b ∷ M)) 4 ≤ full (atomic a ∷ []) (atomic b ∷ M)
      go true = omega arith
      go false = omega (arith, fourfold (size (atomic a ∷ []) (atomic b ∷ M)) (size [] M) (omega arith), two_pos (size [] M))
  most_full (atomic a ∷ (t ∷ L)) (atomic b ∷ M) = omega arith

  -- ---- the children's, rule by rule

  abbrev left_by : Move E → Rest E
  left_by (keep n) = n
  left_by (bind x s v n) = n

  abbrev worth : Option (Move E) → ℕ
  worth none = 0
  worth (some m) = most (left_by m)

  abbrev worths : Field E → Field E → Name → List Rule → ℕ
  worths L M f [] = 0
  worths L M f (r ∷ rs) = worth (rule E r L M f) + worths L M f rs

  remove_one : (L M : Field E) → worth (remove E L M) ≤ 1
  remove_one L M = go (field_eq E L M)
    where
      go : (d : Dec (L ≡ M)) → worth (ite d (some (keep solved)) none) ≤ 1
      go (yes e) = omega arith
      go (no n) = omega arith

  decomp3_most : (s t : Tm E) (L M : Field E) → worth (decomp3 E (s ∷ L) (t ∷ M)) ≤ most (equation L M)
  decomp3_most s t L M = go (tm_eq E s t)
    where
      go : (d : Dec (s ≡ t)) → worth (ite d (some (keep (equation L M))) none) ≤ most (equation L M)
      go (yes e) = omega arith
      go (no n) = omega arith

  -- heads that differ: neither Remove nor Decomp3
  heads_apart : (s t : Tm E) (L M : Field E) → (s ≡ t → ⊥) → (worth (remove E (s ∷ L) (t ∷ M)) ≡ 0) × (worth (decomp3 E (s ∷ L) (t ∷ M)) ≡ 0)
  heads_apart s t L M d = (
    ap worth (if_neg (field_eq E (s ∷ L) (t ∷ M)) (λ e. d (head-eq_of_cons-eq e)) (some (keep solved)) none),
    ap worth (if_neg (tm_eq E s t) d (some (keep (equation L M))) none),
  )

  bound_most : (x : Var) (a : At E) (n : Rest E) → worth (bind_atom E x a n) ≤ most n
  bound_most x a n = go (at_eq E a (free x)) (le (kind_of E a) (sort x))
    where
      go : (d : Dec (a ≡ free x)) (b : Bool) → worth (ite d none (cond b (some (bind (atomic (free x)) (atomic a ∷ []) [] n)) none)) ≤ most n
      go (yes e) b = omega arith
      go (no e) true = omega arith
      go (no e) false = omega arith

  bound_none : (x : Var) (a : At E) (n : Rest E) → le (kind_of E a) (sort x) ≡ false → worth (bind_atom E x a n) ≡ 0
  bound_none x a n h = go (at_eq E a (free x)) (le (kind_of E a) (sort x)) h
    where
      go : (d : Dec (a ≡ free x)) (b : Bool) → b ≡ false → worth (ite d none (cond b (some (bind (atomic (free x)) (atomic a ∷ []) [] n)) none)) ≡ 0
      go (yes e) b h = refl
      go (no e) true h = absurd (true≢false h)
      go (no e) false h = refl

  solved_one : (x : Tm E) (M : Field E) → worth (solve_by E x M) ≤ 1
  solved_one x M = go (full_le order (field_type E M) (term_type E x)) (occurs E x M)
    where
      go : (a b : Bool) → worth (cond a (cond b none (some (bind x M [] solved))) none) ≤ 1
      go true true = omega arith
      go true false = omega arith
      go false b = omega arith

  decomp4_one : (x : Var) (a : At E) (M : Field E) → worth (decomp4 E (atomic (free x) ∷ []) (atomic a ∷ M)) ≤ 1
  decomp4_one x a [] = omega arith
  decomp4_one x a (atomic b ∷ M) = omega arith
  decomp4_one x a (listvar y ∷ []) = bound_most x a (equation [] (listvar y ∷ []))
  decomp4_one x a (listvar y ∷ (t ∷ M)) = omega arith

  decomp1'_full : (x : Var) (t : Tm E) (L : Field E) (a : At E) (M : Field E) → worth (decomp1' E (atomic (free x) ∷ (t ∷ L)) (atomic a ∷ M)) ≤ full (t ∷ L) M
  decomp1'_full x t L a M = omega (arith, bound_most x a (equation (ins (t ∷ L)) (ins M)), most_full (ins (t ∷ L)) (ins M), same)
    where
      ins : Field E → Field E
      ins K = put_in E (atomic (free x)) (atomic a ∷ []) K

      sum : (a b c d a' b' c' d' : ℕ) → a ≡ a' → b ≡ b' → c ≡ c' → d ≡ d' → (a + b) + (c + d) ≡ (a' + b') + (c' + d')
      sum a b c d a' b' c' d' p q r s = omega arith

      same : full (put_in E (atomic (free x)) (atomic a ∷ []) (t ∷ L)) (put_in E (atomic (free x)) (atomic a ∷ []) M) ≡ full (t ∷ L) M
      same =
          ap (λ (k : ℕ). 2 ^ k) (sum (length (ins (t ∷ L))) (length (ins M)) (listvars E (ins (t ∷ L))) (listvars E (ins M)) (length (t ∷ L)) (length M)
          (listvars E (t ∷ L)) (listvars E M)
          (put_length E (free x) a (t ∷ L)) (put_length E (free x) a M) (put_lists E (free x) a (t ∷ L)) (put_lists E (free x) a M))

  decomp1'_one : (x : Var) (t : Tm E) (L : Field E) (a : At E) → worth (decomp1' E (atomic (free x) ∷ (t ∷ L)) (atomic a ∷ [])) ≤ 1
  decomp1'_one x t L a = omega (arith, bound_most x a (equation (ins (t ∷ L)) []), most_nil (ins (t ∷ L)))
    where
      ins : Field E → Field E
      ins K = put_in E (atomic (free x)) (atomic a ∷ []) K

  -- the sides change places
  swapped : (L M : Field E) → most (equation M L) ≤ full L M
  swapped L M = omega (arith, most_full M L, ap (λ (k : ℕ). 2 ^ k) turned)
    where
      turned : size M L ≡ size L M
      turned = omega arith

  -- Orient2, of two variables of one kind
  orient2_four : (x y : Var) (t : Tm E) (L : Field E) → worth (orient2 E (atomic (free x) ∷ (t ∷ L)) (atomic (free y) ∷ [])) ≤ 4
  orient2_four x y t L = go (kind_eq (sort x) (sort y))
    where
      none_below : (p q : Bool) → p ≡ true → q ≡ true → cond (p && not q) (full (atomic (free y) ∷ []) (atomic (free x) ∷ (t ∷ L))) 4 ≤ 4
      none_below true true h k = omega arith
      none_below true false h k = absurd (false≢true k)
      none_below false q h k = absurd (false≢true h)

      go : (d : Dec (sort x ≡ sort y)) → worth (ite d (some (keep (equation (atomic (free y) ∷ []) (atomic (free x) ∷ (t ∷ L))))) none) ≤ 4
      go (yes e) =
          none_below (le (sort y) (sort x)) (le (sort x) (sort y)) (subst (λ (k : Kind). le k (sort x) ≡ true) e (le_refl (sort x)))
          (subst (λ (k : Kind). le (sort x) k ≡ true) e (le_refl (sort x)))
      go (no n) = omega arith

  -- ---- two atom variables

  -- the left's kind is below the right's: only Orient3
  higher : (x y : Var) (L M : Field E) (f : Name) → le (sort x) (sort y) ≡ true → le (sort y) (sort x) ≡ false
      → worths (atomic (free x) ∷ L) (atomic (free y) ∷ M) f rule_order ≤ full (atomic (free x) ∷ L) (atomic (free y) ∷ M)
  higher x y L M f h k = by L M
    where
      differ : ◌≡◌ {A = Tm E} (atomic (free x)) (atomic (free y)) → ⊥
      differ e = false≢true (sym k ∙ subst (λ (a : At E). le (kind_of E a) (sort x) ≡ true) (atomic_once e) (le_refl (sort x)))

      kinds : sort x ≡ sort y → ⊥
      kinds e = false≢true (sym k ∙ subst (λ (j : Kind). le j (sort x) ≡ true) e (le_refl (sort x)))

      turned : (K N : Field E) → worth (orient3 E (atomic (free x) ∷ K) (atomic (free y) ∷ N)) ≤ full (atomic (free x) ∷ K) (atomic (free y) ∷ N)
      turned K N = go (below E (basic (sort x)) (basic (sort y)))
        where
          go : (b : Bool)
              → worth (cond b (some (keep (equation (atomic (free y) ∷ N) (atomic (free x) ∷ K)))) none) ≤ full (atomic (free x) ∷ K) (atomic (free y) ∷ N)
          go true = swapped (atomic (free x) ∷ K) (atomic (free y) ∷ N)
          go false = omega arith

      no_subst : worth (solve_by E (atomic (free x)) (atomic (free y) ∷ [])) ≡ 0
      no_subst =
          ap (λ (b : Bool).
          worth (cond b (cond (occurs E (atomic (free x)) (atomic (free y) ∷ [])) none (some (bind (atomic (free x)) (atomic (free y) ∷ []) [] solved))) none))
          k

      no_orient2 : (t : Tm E) (K : Field E) → worth (orient2 E (atomic (free x) ∷ (t ∷ K)) (atomic (free y) ∷ [])) ≡ 0
      no_orient2 t K = ap worth (if_neg (kind_eq (sort x) (sort y)) kinds (some (keep (equation (atomic (free y) ∷ []) (atomic (free x) ∷ (t ∷ K))))) none)

      no_decomp4 : (N : Field E) → worth (decomp4 E (atomic (free x) ∷ []) (atomic (free y) ∷ N)) ≡ 0
      no_decomp4 [] = refl
      no_decomp4 (atomic b ∷ N) = refl
      no_decomp4 (listvar z ∷ []) = bound_none x (free y) (equation [] (listvar z ∷ [])) k
      no_decomp4 (listvar z ∷ (t ∷ N)) = refl

      by : (K N : Field E) → worths (atomic (free x) ∷ K) (atomic (free y) ∷ N) f rule_order ≤ full (atomic (free x) ∷ K) (atomic (free y) ∷ N)
      by [] [] = omega (
        arith,
        (heads_apart (atomic (free x)) (atomic (free y)) [] [] differ).0,
        (heads_apart (atomic (free x)) (atomic (free y)) [] [] differ).1,
        no_subst,
        turned [] [],
      )
      by [] (v ∷ N) = omega (
        arith,
        (heads_apart (atomic (free x)) (atomic (free y)) [] (v ∷ N) differ).0,
        (heads_apart (atomic (free x)) (atomic (free y)) [] (v ∷ N) differ).1,
        no_decomp4 (v ∷ N),
        turned [] (v ∷ N),
      )
      by (t ∷ K) [] = omega (
        arith,
        (heads_apart (atomic (free x)) (atomic (free y)) (t ∷ K) [] differ).0,
        (heads_apart (atomic (free x)) (atomic (free y)) (t ∷ K) [] differ).1,
        bound_none x (free y) (equation (put_in E (atomic (free x)) (atomic (free y) ∷ []) (t ∷ K)) (put_in E (atomic (free x)) (atomic (free y) ∷ []) [])) k,
        no_orient2 t K,
        turned (t ∷ K) [],
      )
      by (t ∷ K) (v ∷ N) = omega (
        arith,
        (heads_apart (atomic (free x)) (atomic (free y)) (t ∷ K) (v ∷ N) differ).0,
        (heads_apart (atomic (free x)) (atomic (free y)) (t ∷ K) (v ∷ N) differ).1,
        bound_none x (free y)
            (equation (put_in E (atomic (free x)) (atomic (free y) ∷ []) (t ∷ K)) (put_in E (atomic (free x)) (atomic (free y) ∷ []) (v ∷ N))) k,
        turned (t ∷ K) (v ∷ N),
      )

  -- else not Orient3
  level : (x y : Var) (L M : Field E) (f : Name) → below E (basic (sort x)) (basic (sort y)) ≡ false
      → worths (atomic (free x) ∷ L) (atomic (free y) ∷ M) f rule_order ≤ most (equation (atomic (free x) ∷ L) (atomic (free y) ∷ M))
  level x y L M f h = by L M
    where
      no_turn : (K N : Field E) → worth (orient3 E (atomic (free x) ∷ K) (atomic (free y) ∷ N)) ≡ 0
      no_turn K N = ap (λ (b : Bool). worth (cond b (some (keep (equation (atomic (free y) ∷ N) (atomic (free x) ∷ K)))) none)) h

      four : (N : Field E) → most (equation (atomic (free x) ∷ []) (atomic (free y) ∷ N)) ≡ 4
      four N = ap (λ (b : Bool). cond b (full (atomic (free x) ∷ []) (atomic (free y) ∷ N)) 4) h

      by : (K N : Field E) → worths (atomic (free x) ∷ K) (atomic (free y) ∷ N) f rule_order ≤ most (equation (atomic (free x) ∷ K) (atomic (free y) ∷ N))
      by [] [] = omega (
        arith,
        four [],
        no_turn [] [],
        remove_one (atomic (free x) ∷ []) (atomic (free y) ∷ []),
        decomp3_most (atomic (free x)) (atomic (free y)) [] [],
        solved_one (atomic (free x)) (atomic (free y) ∷ []),
      )
      by [] (v ∷ N) = omega (
        arith,
        four (v ∷ N),
        no_turn [] (v ∷ N),
        remove_one (atomic (free x) ∷ []) (atomic (free y) ∷ (v ∷ N)),
        decomp3_most (atomic (free x)) (atomic (free y)) [] (v ∷ N),
        decomp4_one x (free y) (v ∷ N),
      )
      by (t ∷ K) [] = omega (
        arith,
        no_turn (t ∷ K) [],
        remove_one (atomic (free x) ∷ (t ∷ K)) (atomic (free y) ∷ []),
        decomp3_most (atomic (free x)) (atomic (free y)) (t ∷ K) [],
        decomp1'_one x t K (free y),
        orient2_four x y t K,
        eightfold (size (atomic (free x) ∷ (t ∷ K)) (atomic (free y) ∷ [])) (length K + listvars E (t ∷ K)) (omega arith),
        two_pos (length K + listvars E (t ∷ K)),
      )
      by (t ∷ K) (v ∷ N) = omega (
        arith,
        no_turn (t ∷ K) (v ∷ N),
        remove_one (atomic (free x) ∷ (t ∷ K)) (atomic (free y) ∷ (v ∷ N)),
        decomp3_most (atomic (free x)) (atomic (free y)) (t ∷ K) (v ∷ N),
        most_full (t ∷ K) (v ∷ N),
        decomp1'_full x t K (free y) (v ∷ N),
        fourfold (size (atomic (free x) ∷ (t ∷ K)) (atomic (free y) ∷ (v ∷ N))) (size (t ∷ K) (v ∷ N)) (omega arith),
        two_pos (size (t ∷ K) (v ∷ N)),
      )

  free_few : (x y : Var) (L M : Field E) (f : Name)
      → worths (atomic (free x) ∷ L) (atomic (free y) ∷ M) f rule_order ≤ most (equation (atomic (free x) ∷ L) (atomic (free y) ∷ M))
  free_few x y L M f = go (le (sort x) (sort y)) (le (sort y) (sort x)) refl refl
    where
      all : (K N : Field E) → below E (basic (sort x)) (basic (sort y)) ≡ true
          → most (equation (atomic (free x) ∷ K) (atomic (free y) ∷ N)) ≡ full (atomic (free x) ∷ K) (atomic (free y) ∷ N)
      all [] N h = ap (λ (b : Bool). cond b (full (atomic (free x) ∷ []) (atomic (free y) ∷ N)) 4) h
      all (t ∷ K) N h = refl

      go : (p q : Bool) → le (sort x) (sort y) ≡ p → le (sort y) (sort x) ≡ q
          → worths (atomic (free x) ∷ L) (atomic (free y) ∷ M) f rule_order ≤ most (equation (atomic (free x) ∷ L) (atomic (free y) ∷ M))
      go true false h k = omega (arith, higher x y L M f h k, all L M (ap₂ (λ (p q : Bool). p && not q) h k))
      go true true h k = level x y L M f (ap₂ (λ (p q : Bool). p && not q) h k)
      go false q h k = level x y L M f (ap (λ (p : Bool). p && not (le (sort y) (sort x))) h)

  -- ---- every equation

  abbrev Constant : Tm E → Type 0
  Constant (atomic (fixed c)) = Unit {0}
  Constant (atomic (free x)) = ⊥
  Constant (listvar n) = ⊥

  mixed : (a : At E) (n : Name) → ◌≡◌ {A = Tm E} (atomic a) (listvar n) → ⊥
  mixed a n e = atomic≢listvar e

  -- a list variable before other terms on the left
  long_few : (x : Name) (t : Tm E) (L : Field E) (u : Tm E) (M : Field E) (f : Name) → Linear E (listvar x ∷ (t ∷ L)) (u ∷ M)
      → worths (listvar x ∷ (t ∷ L)) (u ∷ M) f rule_order ≤ full (listvar x ∷ (t ∷ L)) (u ∷ M)
  long_few x t L (atomic a) M f l = by M
    where
      apart : (N : Field E) → (worth (remove E (listvar x ∷ (t ∷ L)) (atomic a ∷ N)) ≡ 0) × (worth (decomp3 E (listvar x ∷ (t ∷ L)) (atomic a ∷ N)) ≡ 0)
      apart N = heads_apart (listvar x) (atomic a) (t ∷ L) N (λ e. atomic≢listvar (sym e))

      by : (N : Field E) → worths (listvar x ∷ (t ∷ L)) (atomic a ∷ N) f rule_order ≤ full (listvar x ∷ (t ∷ L)) (atomic a ∷ N)
      by [] = omega (
        arith,
        (apart []).0,
        (apart []).1,
        most_full (t ∷ L) [],
        most_full (t ∷ L) (atomic a ∷ []),
        most_full (listvar f ∷ (t ∷ L)) [],
        eightfold (size (listvar x ∷ (t ∷ L)) (atomic a ∷ [])) (size (t ∷ L) []) (omega arith),
        double (size (t ∷ L) (atomic a ∷ [])) (size (t ∷ L) []) (omega arith),
        fourfold (size (listvar f ∷ (t ∷ L)) []) (size (t ∷ L) []) (omega arith),
      )
      by (v ∷ N) = omega (
        arith,
        (apart (v ∷ N)).0,
        (apart (v ∷ N)).1,
        most_full (t ∷ L) (v ∷ N),
        most_full (t ∷ L) (atomic a ∷ (v ∷ N)),
        most_full (listvar f ∷ (t ∷ L)) (v ∷ N),
        eightfold (size (listvar x ∷ (t ∷ L)) (atomic a ∷ (v ∷ N))) (size (t ∷ L) (v ∷ N)) (omega arith),
        double (size (t ∷ L) (atomic a ∷ (v ∷ N))) (size (t ∷ L) (v ∷ N)) (omega arith),
        fourfold (size (listvar f ∷ (t ∷ L)) (v ∷ N)) (size (t ∷ L) (v ∷ N)) (omega arith),
      )
  long_few x t L (listvar y) M f l = by M
    where
      apart : (N : Field E) → (worth (remove E (listvar x ∷ (t ∷ L)) (listvar y ∷ N)) ≡ 0) × (worth (decomp3 E (listvar x ∷ (t ∷ L)) (listvar y ∷ N)) ≡ 0)
      apart N = heads_apart (listvar x) (listvar y) (t ∷ L) N (λ e. heads_differ E x y (t ∷ L) M l (sym e))

      by : (N : Field E) → worths (listvar x ∷ (t ∷ L)) (listvar y ∷ N) f rule_order ≤ full (listvar x ∷ (t ∷ L)) (listvar y ∷ N)
      by [] = omega (
        arith,
        (apart []).0,
        (apart []).1,
        most_full (t ∷ L) [],
        most_full (listvar f ∷ (t ∷ L)) [],
        most_full (t ∷ L) (listvar f ∷ []),
        most_full (t ∷ L) (listvar y ∷ []),
        two_pos (size (t ∷ L) []),
        sixteenfold (size (listvar x ∷ (t ∷ L)) (listvar y ∷ [])) (size (t ∷ L) []) (omega arith),
        fourfold (size (listvar f ∷ (t ∷ L)) []) (size (t ∷ L) []) (omega arith),
        fourfold (size (t ∷ L) (listvar f ∷ [])) (size (t ∷ L) []) (omega arith),
      )
      by (v ∷ N) = omega (
        arith,
        (apart (v ∷ N)).0,
        (apart (v ∷ N)).1,
        most_full (t ∷ L) (v ∷ N),
        most_full (listvar f ∷ (t ∷ L)) (v ∷ N),
        most_full (t ∷ L) (listvar f ∷ (v ∷ N)),
        most_full (t ∷ L) (listvar y ∷ (v ∷ N)),
        sixteenfold (size (listvar x ∷ (t ∷ L)) (listvar y ∷ (v ∷ N))) (size (t ∷ L) (v ∷ N)) (omega arith),
        fourfold (size (listvar f ∷ (t ∷ L)) (v ∷ N)) (size (t ∷ L) (v ∷ N)) (omega arith),
        fourfold (size (t ∷ L) (listvar f ∷ (v ∷ N))) (size (t ∷ L) (v ∷ N)) (omega arith),
      )

  rules_few : (L M : Field E) (f : Name) → Linear E L M → worths L M f rule_order ≤ most (equation L M)
  rules_few [] [] f l = omega arith
  rules_few [] (atomic a ∷ M) f l = omega arith
  rules_few [] (listvar y ∷ M) f l = omega arith
  rules_few (atomic (fixed c) ∷ []) [] f l = omega arith
  rules_few (atomic (fixed c) ∷ (t ∷ L)) [] f l = omega arith
  rules_few (atomic (free x) ∷ []) [] f l = omega arith
  rules_few (atomic (free x) ∷ (t ∷ L)) [] f l = omega arith
  rules_few (listvar x ∷ []) [] f l = omega (arith, solved_one (listvar x) [])
  rules_few (listvar x ∷ (t ∷ L)) [] f l = omega arith
  rules_few (listvar x ∷ []) (u ∷ M) f l = omega (arith, solved_one (listvar x) (u ∷ M), apart.0, apart.1)
    where
      apart : (worth (remove E (listvar x ∷ []) (u ∷ M)) ≡ 0) × (worth (decomp3 E (listvar x ∷ []) (u ∷ M)) ≡ 0)
      apart = heads_apart (listvar x) u [] M (λ e. (absent E x (u ∷ M) (rest_right E x [] (u ∷ M) l)).0 (sym e))
  rules_few (listvar x ∷ (t ∷ L)) (u ∷ M) f l = long_few x t L u M f l
  rules_few (atomic (fixed c) ∷ L) (listvar y ∷ M) f l = by L M
    where
      by : (K N : Field E) → worths (atomic (fixed c) ∷ K) (listvar y ∷ N) f rule_order ≤ full (atomic (fixed c) ∷ K) (listvar y ∷ N)
      by [] N =
          let h = heads_apart (atomic (fixed c)) (listvar y) [] N (mixed (fixed c) y) in
          omega (arith, h.0, h.1, swapped (atomic (fixed c) ∷ []) (listvar y ∷ N))
      by (t ∷ K) [] =
          let h = heads_apart (atomic (fixed c)) (listvar y) (t ∷ K) [] (mixed (fixed c) y) in
          omega (arith, h.0, h.1, swapped (atomic (fixed c) ∷ (t ∷ K)) (listvar y ∷ []))
      by (t ∷ K) (v ∷ N) =
          let h = heads_apart (atomic (fixed c)) (listvar y) (t ∷ K) (v ∷ N) (mixed (fixed c) y) in
          omega (arith, h.0, h.1, swapped (atomic (fixed c) ∷ (t ∷ K)) (listvar y ∷ (v ∷ N)))
  rules_few (atomic (free x) ∷ L) (listvar y ∷ M) f l = by L M
    where
      by : (K N : Field E) → worths (atomic (free x) ∷ K) (listvar y ∷ N) f rule_order ≤ full (atomic (free x) ∷ K) (listvar y ∷ N)
      by [] [] =
          let h = heads_apart (atomic (free x)) (listvar y) [] [] (mixed (free x) y) in
          omega (arith, h.0, h.1, swapped (atomic (free x) ∷ []) (listvar y ∷ []))
      by [] (v ∷ N) =
          let h = heads_apart (atomic (free x)) (listvar y) [] (v ∷ N) (mixed (free x) y) in
          omega (arith, h.0, h.1, swapped (atomic (free x) ∷ []) (listvar y ∷ (v ∷ N)))
      by (t ∷ K) [] =
          let h = heads_apart (atomic (free x)) (listvar y) (t ∷ K) [] (mixed (free x) y) in
          omega (arith, h.0, h.1, swapped (atomic (free x) ∷ (t ∷ K)) (listvar y ∷ []))
      by (t ∷ K) (v ∷ N) =
          let h = heads_apart (atomic (free x)) (listvar y) (t ∷ K) (v ∷ N) (mixed (free x) y) in
          omega (arith, h.0, h.1, swapped (atomic (free x) ∷ (t ∷ K)) (listvar y ∷ (v ∷ N)))
  rules_few (atomic (fixed c) ∷ []) (atomic (fixed d) ∷ M) f l =
      omega (arith, remove_one (atomic (fixed c) ∷ []) (atomic (fixed d) ∷ M), decomp3_most (atomic (fixed c)) (atomic (fixed d)) [] M)
  rules_few (atomic (fixed c) ∷ (t ∷ L)) (atomic (fixed d) ∷ M) f l = by M
    where
      by : (N : Field E) → worths (atomic (fixed c) ∷ (t ∷ L)) (atomic (fixed d) ∷ N) f rule_order ≤ full (atomic (fixed c) ∷ (t ∷ L)) (atomic (fixed d) ∷ N)
      by [] = omega (
        arith,
        remove_one (atomic (fixed c) ∷ (t ∷ L)) (atomic (fixed d) ∷ []),
        decomp3_most (atomic (fixed c)) (atomic (fixed d)) (t ∷ L) [],
        most_full (t ∷ L) [],
        fourfold (size (atomic (fixed c) ∷ (t ∷ L)) (atomic (fixed d) ∷ [])) (size (t ∷ L) []) (omega arith),
        two_pos (size (t ∷ L) []),
      )
      by (v ∷ N) = omega (
        arith,
        remove_one (atomic (fixed c) ∷ (t ∷ L)) (atomic (fixed d) ∷ (v ∷ N)),
        decomp3_most (atomic (fixed c)) (atomic (fixed d)) (t ∷ L) (v ∷ N),
        most_full (t ∷ L) (v ∷ N),
        fourfold (size (atomic (fixed c) ∷ (t ∷ L)) (atomic (fixed d) ∷ (v ∷ N))) (size (t ∷ L) (v ∷ N)) (omega arith),
        two_pos (size (t ∷ L) (v ∷ N)),
      )
  rules_few (atomic (fixed c) ∷ L) (atomic (free y) ∷ M) f l = by L M
    where
      differ : ◌≡◌ {A = Tm E} (atomic (fixed c)) (atomic (free y)) → ⊥
      differ e = subst Constant e tt

      by : (K N : Field E) → worths (atomic (fixed c) ∷ K) (atomic (free y) ∷ N) f rule_order ≤ most (equation (atomic (fixed c) ∷ K) (atomic (free y) ∷ N))
      by [] N =
          let h = heads_apart (atomic (fixed c)) (atomic (free y)) [] N differ in
          omega (arith, h.0, h.1, swapped (atomic (fixed c) ∷ []) (atomic (free y) ∷ N))
      by (t ∷ K) [] =
          let h = heads_apart (atomic (fixed c)) (atomic (free y)) (t ∷ K) [] differ in
          omega (arith, h.0, h.1, swapped (atomic (fixed c) ∷ (t ∷ K)) (atomic (free y) ∷ []))
      by (t ∷ K) (v ∷ N) =
          let h = heads_apart (atomic (fixed c)) (atomic (free y)) (t ∷ K) (v ∷ N) differ in
          omega (arith, h.0, h.1, swapped (atomic (fixed c) ∷ (t ∷ K)) (atomic (free y) ∷ (v ∷ N)))
  rules_few (atomic (free x) ∷ L) (atomic (fixed d) ∷ M) f l = by L M
    where
      differ : ◌≡◌ {A = Tm E} (atomic (free x)) (atomic (fixed d)) → ⊥
      differ e = subst Constant (sym e) tt

      by : (K N : Field E) → worths (atomic (free x) ∷ K) (atomic (fixed d) ∷ N) f rule_order ≤ most (equation (atomic (free x) ∷ K) (atomic (fixed d) ∷ N))
      by [] [] =
          let h = heads_apart (atomic (free x)) (atomic (fixed d)) [] [] differ in
          omega (arith, h.0, h.1, solved_one (atomic (free x)) (atomic (fixed d) ∷ []))
      by [] (v ∷ N) = let h = heads_apart (atomic (free x)) (atomic (fixed d)) [] (v ∷ N) differ in omega (arith, h.0, h.1, decomp4_one x (fixed d) (v ∷ N))
      by (t ∷ K) [] = let h = heads_apart (atomic (free x)) (atomic (fixed d)) (t ∷ K) [] differ in omega (
        arith,
        h.0,
        h.1,
        decomp1'_full x t K (fixed d) [],
        fourfold (size (atomic (free x) ∷ (t ∷ K)) (atomic (fixed d) ∷ [])) (size (t ∷ K) []) (omega arith),
      )
      by (t ∷ K) (v ∷ N) = let h = heads_apart (atomic (free x)) (atomic (fixed d)) (t ∷ K) (v ∷ N) differ in omega (
        arith,
        h.0,
        h.1,
        decomp1'_full x t K (fixed d) (v ∷ N),
        fourfold (size (atomic (free x) ∷ (t ∷ K)) (atomic (fixed d) ∷ (v ∷ N))) (size (t ∷ K) (v ∷ N)) (omega arith),
      )
  rules_few (atomic (free x) ∷ L) (atomic (free y) ∷ M) f l = free_few x y L M f

  -- ---- the search

  abbrev summed : List (Problem E) → ℕ
  summed [] = 0
  summed (p ∷ q) = most (rest E p) + summed q

  summed_append : (q r : List (Problem E)) → summed (q ++ r) ≡ summed q + summed r
  summed_append [] r = omega arith
  summed_append (p ∷ q) r = omega (arith, summed_append q r)

  abbrev problems : Bindings E → List Name → List (Rule × Move E) → List (Problem E)
  problems σ u ms = map (λ (c : Rule × Problem E). c.1) (map (λ (m : Rule × Move E). (m.0, apply E σ u m.1)) ms)

  left_rest : (σ : Bindings E) (u : List Name) (m : Move E) → most (rest E (apply E σ u m)) ≡ most (left_by m)
  left_rest σ u (keep n) = refl
  left_rest σ u (bind x s v n) = refl

  collected : (L M : Field E) (f : Name) (σ : Bindings E) (u : List Name) (rs : List Rule) → summed (problems σ u (collect E L M f rs)) ≡ worths L M f rs
  collected L M f σ u [] = refl
  collected L M f σ u (r ∷ rs) = go (rule E r L M f) (collected L M f σ u rs)
    where
      go : (o : Option (Move E)) → summed (problems σ u (collect E L M f rs)) ≡ worths L M f rs
          → summed (problems σ u (add E r o (collect E L M f rs))) ≡ worth o + worths L M f rs
      go none h = omega arith
      go (some m) h = omega (arith, left_rest σ u m)

  children_few : (L M : Field E) (σ : Bindings E) (u : List Name) → Linear E L M → summed (offspring E (problem (equation L M) σ u)) ≤ most (equation L M)
  children_few L M σ u l = go (fails E L M)
    where
      go : (b : Bool) → summed (problems σ u (cond b [] (collect E L M (pick u) rule_order))) ≤ most (equation L M)
      go true = omega arith
      go false = omega (arith, collected L M (pick u) σ u rule_order, rules_few L M (pick u) l)

  run_few : (k room : ℕ) (q : List (Problem E)) (xs : List (Bindings E)) → All (Invariant E) q → run E k room q ≡ answers xs → length xs ≤ summed q
  run_few zero room [] xs h e = subst (λ (r : Result E). length (given E r) ≤ 0) e (omega arith)
  run_few zero room (p ∷ q) xs h e = absurd (subst (IsAnswers E) (sym e) tt)
  run_few (suc k) room [] xs h e = subst (λ (r : Result E). length (given E r) ≤ 0) e (omega arith)
  run_few (suc k) room (problem solved σ u ∷ q) xs h e =
      let r = answered E σ (run E k room q) xs e in
      omega (arith, run_few k room q r.0 h.1 r.1, ap (λ (l : List (Bindings E)). length l) r.2)
  run_few (suc k) room (problem (equation L M) σ u ∷ q) xs h e =
      omega (
        arith,
        run_few k room (q ++ offspring E (problem (equation L M) σ u)) xs
            (all_append (Invariant E) q (offspring E (problem (equation L M) σ u)) h.1
            (all_offspring E (Invariant E) (problem (equation L M) σ u) (children_inv E L M σ u h.0)))
            (step_answers E k room (problem (equation L M) σ u) q xs e),
        summed_append q (offspring E (problem (equation L M) σ u)),
        children_few L M σ u h.0.lin,
      )

  pub answers_few : (room : ℕ) (L M : Field E) (xs : List (Bindings E)) → Linear E L M
      → searching E room L M ≡ answers xs → length xs ≤ 2 ^ ((length L + length M) + (listvars E L + listvars E M))
  answers_few room L M xs l e =
      omega (arith, run_few (total E (root E L M ∷ [])) room (root E L M ∷ []) xs (root_inv E L M l, tt) (began_answers E room L M xs e), most_full L M)

  -- with 16 terms a field: 2 ^ 34
  pub answers_34 : (room : ℕ) (L M : Field E) (xs : List (Bindings E)) → Linear E L M
      → length L ≤ most_terms → length M ≤ most_terms → searching E room L M ≡ answers xs → length xs ≤ 2 ^ 34
  answers_34 room L M xs l a b e =
      omega (
        arith,
        answers_few room L M xs l e,
        pow-le-pow_right {n = 2} (omega arith) {i = (length L + length M) + (listvars E L + listvars E M)} {j = 34} (omega (arith, l.left, l.right)),
      )
