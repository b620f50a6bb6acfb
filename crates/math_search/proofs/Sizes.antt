-- Sizes that a record of a problem needs, for every problem that is met:
--     sides-short          each side has no more terms than the larger side of the equation
--     list-values-short    the value of an own list variable has at most one term more than the other side of the equation
--     names-below          with numbers as list variables, fields of at most 16 terms and numbers below 32 in them: all that are used are below 32,
--     fresh-below          and so is the fresh one, where a rule brings one in
use mathlib.Core.Path.{◌≡◌, refl, sym, ap, subst}
use mathlib.Core.Logic.{◌⊎◌, inl, inr, ite}
use mathlib.Core.Bool.{Bool, true, false, cond}
use mathlib.Core.Option.{Option, none, some}
use mathlib.Core.List.Memᴰ
use mathlib.Core.List.{List, [], ◌∷◌, ◌++◌, Memᴰ}
use Prim.Native.Nat.{ℕ, suc, ◌+◌, ◌≤◌, ◌<◌}
use native.Mathlib.Omega.{arith}
use lib.ListN.{length, length-append}
use Rattle.base_limits.specs.Limits.{most_terms, numbers_of_pair}
use Rattle.base_lists.specs.Seqs.{All, all_map, all_append, all_mem, all_mapped}
use Rattle.math_types.specs.Order.{Order, basic, full_le}
use Rattle.math_terms.specs.Constants.{Consts}
use Rattle.math_terms.specs.Seqs.{concat_map}
use Rattle.math_overlaps.specs.Shapes.{fixed, free, Vars}
use Rattle.math_search.specs.Problems.{Setting, atomic, listvar, At, Tm, Field, at_eq, tm_eq, field_eq, kind_of, field_type, term_type, Bindings}
use Rattle.math_search.specs.Problems.{put_in}
use Rattle.math_search.specs.Problems.{Rest, solved, equation, Problem, problem, rest, bindings, used, names_in}
use Rattle.math_search.specs.Fresh.{lowest, numbers}
use Rattle.math_search.specs.Rules.{Rule, Remove, Decomp1, Decomp1', Decomp2, Decomp2', Decomp3, Decomp4, Subst1, Subst2, Subst3, Orient1, Orient2}
use Rattle.math_search.specs.Rules.{Orient3}
use Rattle.math_search.specs.Rules.{Orient4, below, occurs, Move, keep, bind, bind_atom, solve_by, rule, moves, apply, children, Met, start, step}
use Rattle.math_search.specs.Queue.{terms_in}
use Rattle.math_search.specs.Answers.{listvars, Linear, Fits}
use Rattle.math_search.proofs.Terms.{atomic≢listvar}
use Rattle.math_search.proofs.Counts.{put_length}
use Rattle.math_search.proofs.Children.{Is, moves_is, move_does}
use Rattle.math_search.proofs.Lengths.{cut_long}
use Rattle.math_search.proofs.Tree.{Fine, met_fine}
use Rattle.math_search.proofs.Fresh.{lowest_small}

module _ (E : Setting) where
  open E use {order, variables, names}
  open order use {kind_eq, le}
  open variables use {Var, sort}
  open names use {Name, pick}

  -- ---- the two sides

  -- each side of what is left has at most k terms
  abbrev pub Within : ℕ → Rest E → Type 0
  Within k solved = Unit {0}
  Within k (equation L M) = (length L ≤ k) × (length M ≤ k)

  -- at most one list variable is brought in, and none where the problem is solved
  abbrev pub New : Rest E → List Name → Type 0
  New solved v = v ≡ []
  New (equation L M) v = length v ≤ 1

  -- so it is behind a rule, where it was before; a rule that brings in a list variable has three terms before it; and a value has at most k terms
  abbrev Sized : ℕ → Field E → Field E → Option (Move E) → Type 0
  Sized k L M none = Unit {0}
  Sized k L M (some (keep n)) = Within k n
  Sized k L M (some (bind x s v n)) = Within k n × ((v ≡ []) ⊎ (3 ≤ terms_in E L M)) × (length s ≤ k) × New n v

  abbrev Sizes : ℕ → Rule → Type 0
  Sizes k r = (L M : Field E) (f : Name) → length L ≤ k → length M ≤ k → Sized k L M (rule E r L M f)

  swap_if : {Q : Type 0} (k : ℕ) (L M : Field E) (d : Dec Q) → length L ≤ k → length M ≤ k → Sized k L M (ite d (some (keep (equation M L))) none)
  swap_if k L M (yes e) p q = (q, p)
  swap_if k L M (no n) p q = tt

  swap_when : (k : ℕ) (L M : Field E) (b : Bool) → length L ≤ k → length M ≤ k → Sized k L M (cond b (some (keep (equation M L))) none)
  swap_when k L M true p q = (q, p)
  swap_when k L M false p q = tt

  bound : (k : ℕ) (L M : Field E) (x : Var) (a : At E) (n : Rest E) → 1 ≤ k → New n [] → Within k n → Sized k L M (bind_atom E x a n)
  bound k L M x a n h e w = go (at_eq E a (free x)) (le (kind_of E a) (sort x))
    where
      go : (d : Dec (a ≡ free x)) (b : Bool) → Sized k L M (ite d none (cond b (some (bind (atomic (free x)) (atomic a ∷ []) [] n)) none))
      go (yes e) b = tt
      go (no e') true = (w, inl refl, h, e)
      go (no e) false = tt

  solved_by_lem : (k : ℕ) (L M : Field E) (x : Tm E) → length M ≤ k → Sized k L M (solve_by E x M)
  solved_by_lem k L M x q = go (full_le order (field_type E M) (term_type E x)) (occurs E x M)
    where
      go : (a b : Bool) → Sized k L M (cond a (cond b none (some (bind x M [] solved))) none)
      go true true = tt
      go true false = (tt, inl refl, q, refl)
      go false b = tt

  remove_sized : (k : ℕ) → Sizes k Remove
  remove_sized k L M f p q = go (field_eq E L M)
    where
      go : (d : Dec (L ≡ M)) → Sized k L M (ite d (some (keep solved)) none)
      go (yes e) = tt
      go (no n) = tt

  decomp1_sized : (k : ℕ) → Sizes k Decomp1
  decomp1_sized k [] M f p q = tt
  decomp1_sized k (atomic a ∷ L) M f p q = tt
  decomp1_sized k (listvar x ∷ []) M f p q = tt
  decomp1_sized k (listvar x ∷ (t ∷ L)) [] f p q = tt
  decomp1_sized k (listvar x ∷ (t ∷ L)) (s ∷ M) f p q = ((omega arith, omega arith), inl refl, omega arith, omega arith)

  decomp1'_sized : (k : ℕ) → Sizes k Decomp1'
  decomp1'_sized k [] M f p q = tt
  decomp1'_sized k (atomic (fixed c) ∷ L) M f p q = tt
  decomp1'_sized k (atomic (free x) ∷ []) M f p q = tt
  decomp1'_sized k (atomic (free x) ∷ (t ∷ L)) [] f p q = tt
  decomp1'_sized k (atomic (free x) ∷ (t ∷ L)) (atomic a ∷ M) f p q =
      bound k (atomic (free x) ∷ (t ∷ L)) (atomic a ∷ M) x a (equation (ins (t ∷ L)) (ins M)) (omega arith) (omega arith)
      (omega (arith, put_length E (free x) a (t ∷ L)), omega (arith, put_length E (free x) a M))
    where
      ins : Field E → Field E
      ins K = put_in E (atomic (free x)) (atomic a ∷ []) K
  decomp1'_sized k (atomic (free x) ∷ (t ∷ L)) (listvar y ∷ M) f p q = tt
  decomp1'_sized k (listvar x ∷ L) M f p q = tt

  decomp2_sized : (k : ℕ) → Sizes k Decomp2
  decomp2_sized k [] M f p q = tt
  decomp2_sized k (atomic a ∷ L) M f p q = tt
  decomp2_sized k (listvar x ∷ []) M f p q = tt
  decomp2_sized k (listvar x ∷ (t ∷ L)) [] f p q = tt
  decomp2_sized k (listvar x ∷ (t ∷ L)) (atomic a ∷ M) f p q = tt
  decomp2_sized k (listvar x ∷ (t ∷ L)) (listvar y ∷ M) f p q = ((omega arith, omega arith), inr (omega arith), omega arith, omega arith)

  decomp2'_sized : (k : ℕ) → Sizes k Decomp2'
  decomp2'_sized k [] M f p q = tt
  decomp2'_sized k (atomic a ∷ L) M f p q = tt
  decomp2'_sized k (listvar x ∷ []) M f p q = tt
  decomp2'_sized k (listvar x ∷ (t ∷ L)) [] f p q = tt
  decomp2'_sized k (listvar x ∷ (t ∷ L)) (atomic a ∷ M) f p q = tt
  decomp2'_sized k (listvar x ∷ (t ∷ L)) (listvar y ∷ M) f p q = ((omega arith, omega arith), inr (omega arith), omega arith, omega arith)

  decomp3_sized : (k : ℕ) → Sizes k Decomp3
  decomp3_sized k [] M f p q = tt
  decomp3_sized k (s ∷ L) [] f p q = tt
  decomp3_sized k (s ∷ L) (t ∷ M) f p q = go (tm_eq E s t)
    where
      go : (d : Dec (s ≡ t)) → Sized k (s ∷ L) (t ∷ M) (ite d (some (keep (equation L M))) none)
      go (yes e) = (omega arith, omega arith)
      go (no n) = tt

  decomp4_sized : (k : ℕ) → Sizes k Decomp4
  decomp4_sized k [] M f p q = tt
  decomp4_sized k (atomic (fixed c) ∷ L) M f p q = tt
  decomp4_sized k (atomic (free x) ∷ []) [] f p q = tt
  decomp4_sized k (atomic (free x) ∷ []) (atomic a ∷ []) f p q = tt
  decomp4_sized k (atomic (free x) ∷ []) (atomic a ∷ (atomic b ∷ M)) f p q = tt
  decomp4_sized k (atomic (free x) ∷ []) (atomic a ∷ (listvar y ∷ [])) f p q =
      bound k (atomic (free x) ∷ []) (atomic a ∷ (listvar y ∷ [])) x a (equation [] (listvar y ∷ [])) (omega arith) (omega arith) (omega arith, omega arith)
  decomp4_sized k (atomic (free x) ∷ []) (atomic a ∷ (listvar y ∷ (t ∷ M))) f p q = tt
  decomp4_sized k (atomic (free x) ∷ []) (listvar y ∷ M) f p q = tt
  decomp4_sized k (atomic (free x) ∷ (t ∷ L)) M f p q = tt
  decomp4_sized k (listvar x ∷ L) M f p q = tt

  subst1_sized : (k : ℕ) → Sizes k Subst1
  subst1_sized k [] M f p q = tt
  subst1_sized k (atomic (fixed c) ∷ L) M f p q = tt
  subst1_sized k (atomic (free x) ∷ []) M f p q = solved_by_lem k (atomic (free x) ∷ []) M (atomic (free x)) q
  subst1_sized k (atomic (free x) ∷ (t ∷ L)) M f p q = tt
  subst1_sized k (listvar x ∷ []) M f p q = solved_by_lem k (listvar x ∷ []) M (listvar x) q
  subst1_sized k (listvar x ∷ (t ∷ L)) M f p q = tt

  subst2_sized : (k : ℕ) → Sizes k Subst2
  subst2_sized k [] M f p q = tt
  subst2_sized k (atomic a ∷ L) M f p q = tt
  subst2_sized k (listvar x ∷ []) M f p q = tt
  subst2_sized k (listvar x ∷ (t ∷ L)) M f p q = ((omega arith, q), inl refl, omega arith, omega arith)

  subst3_sized : (k : ℕ) → Sizes k Subst3
  subst3_sized k [] M f p q = tt
  subst3_sized k (atomic a ∷ L) M f p q = tt
  subst3_sized k (listvar x ∷ []) M f p q = tt
  subst3_sized k (listvar x ∷ (t ∷ L)) [] f p q = tt
  subst3_sized k (listvar x ∷ (t ∷ L)) (atomic a ∷ M) f p q = ((omega arith, omega arith), inr (omega arith), omega arith, omega arith)
  subst3_sized k (listvar x ∷ (t ∷ L)) (listvar y ∷ M) f p q = tt

  orient1_sized : (k : ℕ) → Sizes k Orient1
  orient1_sized k [] M f p q = tt
  orient1_sized k (atomic (fixed c) ∷ L) [] f p q = tt
  orient1_sized k (atomic (fixed c) ∷ L) (atomic (fixed d) ∷ M) f p q = tt
  orient1_sized k (atomic (fixed c) ∷ L) (atomic (free y) ∷ M) f p q = (q, p)
  orient1_sized k (atomic (fixed c) ∷ L) (listvar y ∷ M) f p q = (q, p)
  orient1_sized k (atomic (free x) ∷ L) M f p q = tt
  orient1_sized k (listvar x ∷ L) M f p q = tt

  orient2_sized : (k : ℕ) → Sizes k Orient2
  orient2_sized k [] M f p q = tt
  orient2_sized k (t ∷ []) M f p q = tt
  orient2_sized k (t ∷ (u ∷ L)) [] f p q = tt
  orient2_sized k (atomic (fixed c) ∷ (u ∷ L)) (s ∷ []) f p q = tt
  orient2_sized k (atomic (free x) ∷ (u ∷ L)) (atomic (fixed d) ∷ []) f p q = tt
  orient2_sized k (atomic (free x) ∷ (u ∷ L)) (atomic (free y) ∷ []) f p q =
      swap_if k (atomic (free x) ∷ (u ∷ L)) (atomic (free y) ∷ []) (kind_eq (sort x) (sort y)) p q
  orient2_sized k (atomic (free x) ∷ (u ∷ L)) (listvar y ∷ []) f p q = tt
  orient2_sized k (listvar x ∷ (u ∷ L)) (atomic b ∷ []) f p q = tt
  orient2_sized k (listvar x ∷ (u ∷ L)) (listvar y ∷ []) f p q = (q, p)
  orient2_sized k (t ∷ (u ∷ L)) (s ∷ (v ∷ M)) f p q = tt

  orient3_sized : (k : ℕ) → Sizes k Orient3
  orient3_sized k [] M f p q = tt
  orient3_sized k (atomic (fixed c) ∷ L) M f p q = tt
  orient3_sized k (atomic (free x) ∷ L) [] f p q = tt
  orient3_sized k (atomic (free x) ∷ L) (atomic (fixed d) ∷ M) f p q = tt
  orient3_sized k (atomic (free x) ∷ L) (atomic (free y) ∷ M) f p q =
      swap_when k (atomic (free x) ∷ L) (atomic (free y) ∷ M) (below E (basic (sort x)) (basic (sort y))) p q
  orient3_sized k (atomic (free x) ∷ L) (listvar y ∷ M) f p q = (q, p)
  orient3_sized k (listvar x ∷ L) M f p q = tt

  orient4_sized : (k : ℕ) → Sizes k Orient4
  orient4_sized k [] [] f p q = tt
  orient4_sized k [] (atomic a ∷ M) f p q = tt
  orient4_sized k [] (listvar y ∷ M) f p q = (q, p)
  orient4_sized k (t ∷ L) M f p q = tt

  rule_sized : (k : ℕ) (r : Rule) → Sizes k r
  rule_sized k Remove = remove_sized k
  rule_sized k Decomp1 = decomp1_sized k
  rule_sized k Decomp1' = decomp1'_sized k
  rule_sized k Decomp2 = decomp2_sized k
  rule_sized k Decomp2' = decomp2'_sized k
  rule_sized k Decomp3 = decomp3_sized k
  rule_sized k Decomp4 = decomp4_sized k
  rule_sized k Subst1 = subst1_sized k
  rule_sized k Subst2 = subst2_sized k
  rule_sized k Subst3 = subst3_sized k
  rule_sized k Orient1 = orient1_sized k
  rule_sized k Orient2 = orient2_sized k
  rule_sized k Orient3 = orient3_sized k
  rule_sized k Orient4 = orient4_sized k

  move_within : (k : ℕ) (L M : Field E) (σ : Bindings E) (u : List Name) (m : Move E) → Sized k L M (some m) → Within k (rest E (apply E σ u m))
  move_within k L M σ u (keep n) w = w
  move_within k L M σ u (bind x s v n) w = w.0

  children_within : (k : ℕ) (p : Problem E) → Within k (rest E p) → All (λ c. Within k (rest E c.1)) (children E p)
  children_within k (problem solved σ u) w = tt
  children_within k (problem (equation L M) σ u) w = all_mapped (λ c. Within k (rest E c.1)) (λ q. (q.0, apply E σ u q.1)) (moves E L M (pick u))
      (all_map (Is E L M (pick u)) (λ q. Within k (rest E (apply E σ u q.1)))
      (λ q e. move_within k L M σ u q.1 (subst (λ (o : Option (Move E)). Sized k L M o) e (rule_sized k q.0 L M (pick u) w.0 w.1)))
      (moves E L M (pick u)) (moves_is E L M (pick u)))

  -- no side ever has more terms than the larger side of the equation
  pub sides_short : (k : ℕ) (A B : Field E) → length A ≤ k → length B ≤ k → (p : Problem E) → Met E A B p → Within k (rest E p)
  sides_short k A B a b p start = (a, b)
  sides_short k A B a b p (step {p = q} m c i) = all_mem (λ c. Within k (rest E c.1)) (children E q) (children_within k q (sides_short k A B a b q m)) c i

  -- ---- the values of the equation's own list variables

  -- an atom's value is one term
  atom_one : (a : At E) (s : Field E) → Fits E (atomic a) s → length s ≡ 1
  atom_one (fixed c) s g = ap (λ (K : Field E). length K) g
  atom_one (free x) s g = ap (λ (K : Field E). length K) g.1

  atoms_one : (σ : Bindings E) → ((t : Tm E) → Fits E t (σ t)) → (A : Field E) → listvars E A ≤ 0 → length (concat_map σ A) ≡ length A
  atoms_one σ g [] h = refl
  atoms_one σ g (atomic a ∷ A) h = omega (arith, length-append (σ (atomic a)) (concat_map σ A), atom_one a (σ (atomic a)) (g (atomic a)), atoms_one σ g A h)
  atoms_one σ g (listvar n ∷ A) h = absurd (omega arith)

  -- beside the only list variable stand atoms
  rest_one : (σ : Bindings E) → ((t : Tm E) → Fits E t (σ t)) → (A : Field E) → listvars E A ≤ 1 → (n : Name)
      → Memᴰ (listvar n) A → length (σ (listvar n)) + length A ≡ length (concat_map σ A) + 1
  rest_one σ g [] h n i = absurd (Memᴰ.not-nil i)
  rest_one σ g (atomic a ∷ A) h n i = go (Memᴰ.cases_cons i) (λ j. rest_one σ g A h n j)
    where
      go : (◌≡◌ {A = Tm E} (listvar n) (atomic a)) ⊎ Memᴰ (listvar n) A
          → (Memᴰ (listvar n) A → length (σ (listvar n)) + length A ≡ length (concat_map σ A) + 1)
          → length (σ (listvar n)) + suc (length A) ≡ length (σ (atomic a) ++ concat_map σ A) + 1
      go (inl e) rec = absurd (atomic≢listvar (sym e))
      go (inr j) rec = omega (arith, rec j, length-append (σ (atomic a)) (concat_map σ A), atom_one a (σ (atomic a)) (g (atomic a)))
  rest_one σ g (listvar k ∷ A) h n i = go (Memᴰ.cases_cons i) (λ j. rest_one σ g A (omega arith) n j)
    where
      none_left : (K : Field E) → listvars E K ≤ 0 → Memᴰ (listvar n) K → ⊥
      none_left [] h j = Memᴰ.not-nil j
      none_left (atomic a ∷ K) h j = later (Memᴰ.cases_cons j) (λ j. none_left K h j)
        where
          later : (◌≡◌ {A = Tm E} (listvar n) (atomic a)) ⊎ Memᴰ (listvar n) K → (Memᴰ (listvar n) K → ⊥) → ⊥
          later (inl e) rec = atomic≢listvar (sym e)
          later (inr j) rec = rec j
      none_left (listvar m ∷ K) h j = omega arith

      go : (◌≡◌ {A = Tm E} (listvar n) (listvar k)) ⊎ Memᴰ (listvar n) A
          → (Memᴰ (listvar n) A → length (σ (listvar n)) + length A ≡ length (concat_map σ A) + 1)
          → length (σ (listvar n)) + suc (length A) ≡ length (σ (listvar k) ++ concat_map σ A) + 1
      go (inl e) rec = omega (arith, length-append (σ (listvar k)) (concat_map σ A), atoms_one σ g A (omega arith), ap (λ (t : Tm E). length (σ t)) e)
      go (inr j) rec = absurd (none_left A (omega arith) j)

  -- the value of a list variable of one side has at most one term more than the other side of the equation
  pub list_values_short : (A B : Field E) → Linear E A B → (p : Problem E) → Met E A B p → (n : Name)
      → (Memᴰ (listvar n) A → length (bindings E p (listvar n)) ≤ length B + 1)
      × (Memᴰ (listvar n) B → length (bindings E p (listvar n)) ≤ length A + 1)
  list_values_short A B l (problem r σ u) m n = (
    λ i. omega (arith, rest_one σ h.inv.kinds A l.left n i, (cut_long E (concat_map σ A) (concat_map σ B) (terms_in E A B) r h.cut).0),
    λ i. omega (arith, rest_one σ h.inv.kinds B l.right n i, (cut_long E (concat_map σ A) (concat_map σ B) (terms_in E A B) r h.cut).1),
  )
    where
      h : Fine E A B (problem r σ u)
      h = met_fine E A B l (problem r σ u) m

  -- ---- list variables brought in

  -- a rule that brings some in has at least three terms before it
  pub brings_three : (L M : Field E) (f : Name) (r : Rule) (x : Tm E) (s : Field E) (v : List Name) (n : Rest E)
      → rule E r L M f ≡ some (bind x s v n) → (v ≡ []) ⊎ (3 ≤ terms_in E L M)
  brings_three L M f r x s v n e =
      (subst (λ (o : Option (Move E)). Sized (length L + length M) L M o) e (rule_sized (length L + length M) r L M f (omega arith) (omega arith))).1

  -- a value that a rule binds has no more terms than the larger side
  pub value_short : (k : ℕ) (L M : Field E) (f : Name) → length L ≤ k → length M ≤ k
      → (r : Rule) (x : Tm E) (s : Field E) (v : List Name) (n : Rest E) → rule E r L M f ≡ some (bind x s v n) → (length s ≤ k) × New n v
  value_short k L M f p q r x s v n e = let h = subst (λ (o : Option (Move E)). Sized k L M o) e (rule_sized k r L M f p q) in (h.2, h.3)

module _ (O : Order) (C : Consts O) (N : Vars O) where
  abbrev Numbered : Setting
  Numbered = record { order = O; constants = C; variables = N; names = numbers }

  -- a rule that brings in a list variable finds one below 32
  pub fresh_below : (A B : Field Numbered) → Linear Numbered A B → length A ≤ most_terms → length B ≤ most_terms
      → (L M : Field Numbered) (σ : Bindings Numbered) (u : List ℕ) → Met Numbered A B (problem (equation L M) σ u)
      → (r : Rule) (x : Tm Numbered) (s : Field Numbered) (v : List ℕ) (n : Rest Numbered)
      → rule Numbered r L M (lowest u) ≡ some (bind x s v n) → (v ≡ []) ⊎ (lowest u < numbers_of_pair)
  fresh_below A B l a b L M σ u m r x s v n e = go (brings_three Numbered L M (lowest u) r x s v n e)
    where
      go : (v ≡ []) ⊎ (3 ≤ terms_in Numbered L M) → (v ≡ []) ⊎ (lowest u < numbers_of_pair)
      go (inl z) = inl z
      go (inr h) = inr (omega (arith, lowest_small u, (met_fine Numbered A B l (problem (equation L M) σ u) m).names_few))

  -- and so all list variables used are below 32, where those of the equation are
  pub names_below : (A B : Field Numbered) → Linear Numbered A B → length A ≤ most_terms → length B ≤ most_terms
      → All (λ n. n < numbers_of_pair) (names_in Numbered A) → All (λ n. n < numbers_of_pair) (names_in Numbered B)
      → (p : Problem Numbered) → Met Numbered A B p → All (λ n. n < numbers_of_pair) (used Numbered p)
  names_below A B l a b na nb p start = all_append (λ n. n < numbers_of_pair) (names_in Numbered A) (names_in Numbered B) na nb
  names_below A B l a b na nb p (step {p = q} m c i) = child_of_lem q m (names_below A B l a b na nb q m) c i
    where
      child_of_lem : (q : Problem Numbered) → Met Numbered A B q → All (λ n. n < numbers_of_pair) (used Numbered q)
          → (c : Rule × Problem Numbered) → Memᴰ c (children Numbered q) → All (λ n. n < numbers_of_pair) (used Numbered c.1)
      child_of_lem (problem solved σ u) m h c i = absurd (Memᴰ.not-nil i)
      child_of_lem (problem (equation L M) σ u) m h c i =
          all_mem (λ c. All (λ n. n < numbers_of_pair) (used Numbered c.1)) (children Numbered (problem (equation L M) σ u))
          (all_mapped (λ c. All (λ n. n < numbers_of_pair) (used Numbered c.1)) (λ q. (q.0, apply Numbered σ u q.1)) (moves Numbered L M (lowest u))
          (all_map (Is Numbered L M (lowest u)) (λ q. All (λ n. n < numbers_of_pair) (used Numbered (apply Numbered σ u q.1))) (λ q e. by q.0 q.1 e)
          (moves Numbered L M (lowest u)) (moves_is Numbered L M (lowest u)))) c i
        where
          new : (v : List ℕ) → All (λ k. k ≡ lowest u) v → (v ≡ []) ⊎ (lowest u < numbers_of_pair) → All (λ n. n < numbers_of_pair) v
          new v w (inl z) = subst (λ (v : List ℕ). All (λ n. n < numbers_of_pair) v) (sym z) tt
          new v w (inr g) = all_map (λ k. k ≡ lowest u) (λ n. n < numbers_of_pair) (λ k e. omega arith) v w

          by : (r : Rule) (k : Move Numbered) → rule Numbered r L M (lowest u) ≡ some k → All (λ n. n < numbers_of_pair) (used Numbered (apply Numbered σ u k))
          by r (keep n) e = h
          by r (bind x s v n) e =
              all_append (λ n. n < numbers_of_pair) v u
              (new v (move_does Numbered L M (lowest u) (r, bind x s v n) e).new (fresh_below A B l a b L M σ u m r x s v n e)) h
