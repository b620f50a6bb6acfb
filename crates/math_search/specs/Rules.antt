-- The failure rules (Figure 6 of document 001), the transformation rules (Figure 5) as document 01 amends them, and a problem's children.
-- Each rule is a partial function of the two sides, with the paper's name and, above it, the paper's rule. There
--     x, y variables; a, b atoms; s, t terms; L, M fields; f the fresh list variable
-- and "type(x) = list", "type(x) ≤ atom" are told by the term's form: a list variable, or a variable among the atoms.
use Rattle.std.specs.Prelude.{◌≡◌, refl, Bool, true, false, cond, ◌&&◌, ◌||◌, not, ℕ, length}
use Rattle.std.proofs.Math.Logic.{ite}
use Rattle.std.proofs.Math.Option.{Option, none, some}
use mathlib.Core.List.{List, [], ◌∷◌, ◌++◌, map, Memᴰ}
use Rattle.math_types.specs.Order.{Full, basic, list, full_le}
use Rattle.math_overlaps.specs.Shapes.{fixed, free}
use Rattle.math_search.specs.Problems.{Setting, atomic, listvar, At, Tm, Field, at_eq, tm_eq, field_eq, kind_of, term_type}
use Rattle.math_search.specs.Problems.{field_type, Bindings, put_in, compose, Rest, solved, equation, Problem, problem, rest, bindings}
use Rattle.math_search.specs.Problems.{used, root}

-- the transformation rules' names
pub data Rule : Type 0 where
  Remove Decomp1 Decomp1' Decomp2 Decomp2' Decomp3 Decomp4 Subst1 Subst2 Subst3 Orient1 Orient2 Orient3 Orient4 : Rule

-- document 01: "in this order: Remove, Decomp1, Decomp1', Decomp2, Decomp2', Decomp3, Decomp4, Subst1, Subst2, Subst3, Orient1 to Orient4"
abbrev pub rule_order : List Rule
rule_order =
    Remove ∷ Decomp1 ∷ Decomp1' ∷ Decomp2 ∷ Decomp2' ∷ Decomp3 ∷ Decomp4
    ∷ Subst1 ∷ Subst2 ∷ Subst3 ∷ Orient1 ∷ Orient2 ∷ Orient3 ∷ Orient4 ∷ []

-- how many there are
abbrev pub rule_count : ℕ
rule_count = 14

pub rule_count_lem : length rule_order ≡ rule_count
rule_count_lem = refl

module _ (E : Setting) where
  open E use {order, constants, variables, names}
  open order use {Kind, kind_eq, le}
  open constants use {Con, con_eq}
  open variables use {Var, sort}
  open names use {Name, pick}

  -- type < type
  abbrev pub below : Full Kind → Full Kind → Bool
  below j k = full_le order j k && not (full_le order k j)

  -- type ∥ type
  abbrev pub apart : Full Kind → Full Kind → Bool
  apart j k = not (full_le order j k) && not (full_le order k j)

  -- x ∈ Var(L)
  abbrev pub occurs : Tm E → Field E → Bool
  occurs x [] = false
  occurs x (t ∷ L) = ite (tm_eq E t x) true (occurs x L)

  -- what a rule makes of an equation: what is left; or a binding too, with the list variables that it brings in
  pub data Move : Type 0 where
    keep : Rest E → Move
    bind : Tm E → Field E → List Name → Rest E → Move

  -- ---- failure rules

  -- ⟨x = L⟩, x ∈ Var(L), x ≠ L, type(x) = list
  abbrev pub occur : Field E → Field E → Bool
  occur [] M = false
  occur (atomic a ∷ L) M = false
  occur (listvar x ∷ []) M = occurs (listvar x) M && ite (field_eq E M (listvar x ∷ [])) false true
  occur (listvar x ∷ (t ∷ L)) M = false

  -- ⟨a : L = b : M⟩, a ≠ b, both constants
  abbrev pub clash1 : Field E → Field E → Bool
  clash1 [] M = false
  clash1 (atomic (fixed c) ∷ L) [] = false
  clash1 (atomic (fixed c) ∷ L) (atomic (fixed d) ∷ M) = ite (con_eq c d) false true
  clash1 (atomic (fixed c) ∷ L) (atomic (free y) ∷ M) = false
  clash1 (atomic (fixed c) ∷ L) (listvar y ∷ M) = false
  clash1 (atomic (free x) ∷ L) M = false
  clash1 (listvar x ∷ L) M = false

  -- ⟨a : L = empty⟩
  abbrev pub clash2 : Field E → Field E → Bool
  clash2 [] M = false
  clash2 (atomic a ∷ L) [] = true
  clash2 (atomic a ∷ L) (t ∷ M) = false
  clash2 (listvar x ∷ L) M = false

  -- ⟨empty = a : L⟩
  abbrev pub clash3 : Field E → Field E → Bool
  clash3 [] [] = false
  clash3 [] (atomic a ∷ M) = true
  clash3 [] (listvar y ∷ M) = false
  clash3 (t ∷ L) M = false

  -- ⟨x = L⟩, type(x) ∥ type(L)
  abbrev pub clash4 : Field E → Field E → Bool
  clash4 [] M = false
  clash4 (atomic (fixed c) ∷ L) M = false
  clash4 (atomic (free x) ∷ []) M = apart (basic (sort x)) (field_type E M)
  clash4 (atomic (free x) ∷ (t ∷ L)) M = false
  clash4 (listvar x ∷ []) M = apart list (field_type E M)
  clash4 (listvar x ∷ (t ∷ L)) M = false

  -- a failure rule applies
  abbrev pub fails : Field E → Field E → Bool
  fails L M = occur L M || (clash1 L M || (clash2 L M || (clash3 L M || clash4 L M)))

  -- ---- transformation rules

  -- ⟨L = L⟩ ⇒ ⟨∅⟩
  abbrev pub remove : Field E → Field E → Option Move
  remove L M = ite (field_eq E L M) (some (keep solved)) none

  -- ⟨x : L = s : M⟩ ⇒ ⟨L = M, {x ↦ s}⟩, L ≠ empty, type(x) = list
  abbrev pub decomp1 : Field E → Field E → Option Move
  decomp1 [] M = none
  decomp1 (atomic a ∷ L) M = none
  decomp1 (listvar x ∷ []) M = none
  decomp1 (listvar x ∷ (t ∷ L)) [] = none
  decomp1 (listvar x ∷ (t ∷ L)) (s ∷ M) = some (bind (listvar x) (s ∷ []) [] (equation (t ∷ L) M))

  -- x ↦ a, type(a) ≤ type(x) ≤ atom; "Decomp1' and Decomp4 need x and a to differ"
  abbrev pub bind_atom : Var → At E → Rest E → Option Move
  bind_atom x a n = ite (at_eq E a (free x)) none (cond (le (kind_of E a) (sort x)) (some (bind (atomic (free x)) (atomic a ∷ []) [] n)) none)

  -- ⟨x : L = a : M⟩ ⇒ ⟨(L = M){x ↦ a}, {x ↦ a}⟩, L ≠ empty, type(a) ≤ type(x) ≤ atom, and as amended x ≠ a
  abbrev pub decomp1' : Field E → Field E → Option Move
  decomp1' [] M = none
  decomp1' (atomic (fixed c) ∷ L) M = none
  decomp1' (atomic (free x) ∷ []) M = none
  decomp1' (atomic (free x) ∷ (t ∷ L)) [] = none
  decomp1' (atomic (free x) ∷ (t ∷ L)) (atomic a ∷ M) =
      bind_atom x a (equation (put_in E (atomic (free x)) (atomic a ∷ []) (t ∷ L)) (put_in E (atomic (free x)) (atomic a ∷ []) M))
  decomp1' (atomic (free x) ∷ (t ∷ L)) (listvar y ∷ M) = none
  decomp1' (listvar x ∷ L) M = none

  -- ⟨x : L = y : M⟩ ⇒ ⟨f : L = M, {x ↦ y : f}⟩, L ≠ empty, type(x) = type(y) = list
  abbrev pub decomp2 : Field E → Field E → Name → Option Move
  decomp2 [] M f = none
  decomp2 (atomic a ∷ L) M f = none
  decomp2 (listvar x ∷ []) M f = none
  decomp2 (listvar x ∷ (t ∷ L)) [] f = none
  decomp2 (listvar x ∷ (t ∷ L)) (atomic a ∷ M) f = none
  decomp2 (listvar x ∷ (t ∷ L)) (listvar y ∷ M) f =
      some (bind (listvar x) (listvar y ∷ (listvar f ∷ [])) (f ∷ []) (equation (listvar f ∷ (t ∷ L)) M))

  -- ⟨x : L = y : M⟩ ⇒ ⟨L = f : M, {y ↦ x : f}⟩, L ≠ empty, type(x) = type(y) = list
  abbrev pub decomp2' : Field E → Field E → Name → Option Move
  decomp2' [] M f = none
  decomp2' (atomic a ∷ L) M f = none
  decomp2' (listvar x ∷ []) M f = none
  decomp2' (listvar x ∷ (t ∷ L)) [] f = none
  decomp2' (listvar x ∷ (t ∷ L)) (atomic a ∷ M) f = none
  decomp2' (listvar x ∷ (t ∷ L)) (listvar y ∷ M) f =
      some (bind (listvar y) (listvar x ∷ (listvar f ∷ [])) (f ∷ []) (equation (t ∷ L) (listvar f ∷ M)))

  -- ⟨s : L = s : M⟩ ⇒ ⟨L = M⟩
  abbrev pub decomp3 : Field E → Field E → Option Move
  decomp3 [] M = none
  decomp3 (s ∷ L) [] = none
  decomp3 (s ∷ L) (t ∷ M) = ite (tm_eq E s t) (some (keep (equation L M))) none

  -- ⟨x = a : y⟩ ⇒ ⟨empty = y, {x ↦ a}⟩, type(y) = list, and as amended "for any x of type atom or below with type(a) at or below
  -- type(x)", x ≠ a
  abbrev pub decomp4 : Field E → Field E → Option Move
  decomp4 [] M = none
  decomp4 (atomic (fixed c) ∷ L) M = none
  decomp4 (atomic (free x) ∷ []) [] = none
  decomp4 (atomic (free x) ∷ []) (atomic a ∷ []) = none
  decomp4 (atomic (free x) ∷ []) (atomic a ∷ (atomic b ∷ M)) = none
  decomp4 (atomic (free x) ∷ []) (atomic a ∷ (listvar y ∷ [])) = bind_atom x a (equation [] (listvar y ∷ []))
  decomp4 (atomic (free x) ∷ []) (atomic a ∷ (listvar y ∷ (t ∷ M))) = none
  decomp4 (atomic (free x) ∷ []) (listvar y ∷ M) = none
  decomp4 (atomic (free x) ∷ (t ∷ L)) M = none
  decomp4 (listvar x ∷ L) M = none

  -- x ↦ L, type(L) ≤ type(x), x ∉ Var(L)
  abbrev pub solve_by : Tm E → Field E → Option Move
  solve_by x M = cond (full_le order (field_type E M) (term_type E x)) (cond (occurs x M) none (some (bind x M [] solved))) none

  -- ⟨x = L⟩ ⇒ ⟨∅, {x ↦ L}⟩, x ∉ Var(L), type(x) ≥ type(L)
  abbrev pub subst1 : Field E → Field E → Option Move
  subst1 [] M = none
  subst1 (atomic (fixed c) ∷ L) M = none
  subst1 (atomic (free x) ∷ []) M = solve_by (atomic (free x)) M
  subst1 (atomic (free x) ∷ (t ∷ L)) M = none
  subst1 (listvar x ∷ []) M = solve_by (listvar x) M
  subst1 (listvar x ∷ (t ∷ L)) M = none

  -- ⟨x : L = M⟩ ⇒ ⟨L = M, {x ↦ empty}⟩, L ≠ empty, type(x) = list
  abbrev pub subst2 : Field E → Field E → Option Move
  subst2 [] M = none
  subst2 (atomic a ∷ L) M = none
  subst2 (listvar x ∷ []) M = none
  subst2 (listvar x ∷ (t ∷ L)) M = some (bind (listvar x) [] [] (equation (t ∷ L) M))

  -- ⟨x : L = a : M⟩ ⇒ ⟨f : L = M, {x ↦ a : f}⟩, L ≠ empty, type(x) = list
  abbrev pub subst3 : Field E → Field E → Name → Option Move
  subst3 [] M f = none
  subst3 (atomic a ∷ L) M f = none
  subst3 (listvar x ∷ []) M f = none
  subst3 (listvar x ∷ (t ∷ L)) [] f = none
  subst3 (listvar x ∷ (t ∷ L)) (atomic a ∷ M) f =
      some (bind (listvar x) (atomic a ∷ (listvar f ∷ [])) (f ∷ []) (equation (listvar f ∷ (t ∷ L)) M))
  subst3 (listvar x ∷ (t ∷ L)) (listvar y ∷ M) f = none

  -- ⟨a : M = x : L⟩ ⇒ ⟨x : L = a : M⟩, a is not a variable
  abbrev pub orient1 : Field E → Field E → Option Move
  orient1 [] M = none
  orient1 (atomic (fixed c) ∷ L) [] = none
  orient1 (atomic (fixed c) ∷ L) (atomic (fixed d) ∷ M) = none
  orient1 (atomic (fixed c) ∷ L) (atomic (free y) ∷ M) = some (keep (equation (atomic (free y) ∷ M) (atomic (fixed c) ∷ L)))
  orient1 (atomic (fixed c) ∷ L) (listvar y ∷ M) = some (keep (equation (listvar y ∷ M) (atomic (fixed c) ∷ L)))
  orient1 (atomic (free x) ∷ L) M = none
  orient1 (listvar x ∷ L) M = none

  -- ⟨x : L = y⟩ ⇒ ⟨y = x : L⟩, L ≠ empty, type(x) = type(y)
  abbrev pub orient2 : Field E → Field E → Option Move
  orient2 [] M = none
  orient2 (t ∷ []) M = none
  orient2 (t ∷ (u ∷ L)) [] = none
  orient2 (atomic (fixed c) ∷ (u ∷ L)) (s ∷ []) = none
  orient2 (atomic (free x) ∷ (u ∷ L)) (atomic (fixed d) ∷ []) = none
  orient2 (atomic (free x) ∷ (u ∷ L)) (atomic (free y) ∷ []) =
      ite (kind_eq (sort x) (sort y)) (some (keep (equation (atomic (free y) ∷ []) (atomic (free x) ∷ (u ∷ L))))) none
  orient2 (atomic (free x) ∷ (u ∷ L)) (listvar y ∷ []) = none
  orient2 (listvar x ∷ (u ∷ L)) (atomic b ∷ []) = none
  orient2 (listvar x ∷ (u ∷ L)) (listvar y ∷ []) = some (keep (equation (listvar y ∷ []) (listvar x ∷ (u ∷ L))))
  orient2 (t ∷ (u ∷ L)) (s ∷ (v ∷ M)) = none

  -- ⟨y : M = x : L⟩ ⇒ ⟨x : L = y : M⟩, type(y) < type(x)
  abbrev pub orient3 : Field E → Field E → Option Move
  orient3 [] M = none
  orient3 (atomic (fixed c) ∷ L) M = none
  orient3 (atomic (free x) ∷ L) [] = none
  orient3 (atomic (free x) ∷ L) (atomic (fixed d) ∷ M) = none
  orient3 (atomic (free x) ∷ L) (atomic (free y) ∷ M) =
      cond (below (basic (sort x)) (basic (sort y))) (some (keep (equation (atomic (free y) ∷ M) (atomic (free x) ∷ L)))) none
  orient3 (atomic (free x) ∷ L) (listvar y ∷ M) = some (keep (equation (listvar y ∷ M) (atomic (free x) ∷ L)))
  orient3 (listvar x ∷ L) M = none

  -- ⟨empty = x : L⟩ ⇒ ⟨x : L = empty⟩, type(x) = list
  abbrev pub orient4 : Field E → Field E → Option Move
  orient4 [] [] = none
  orient4 [] (atomic a ∷ M) = none
  orient4 [] (listvar y ∷ M) = some (keep (equation (listvar y ∷ M) []))
  orient4 (t ∷ L) M = none

  -- the rule of a name; f is the fresh list variable
  abbrev pub rule : Rule → Field E → Field E → Name → Option Move
  rule Remove L M f = remove L M
  rule Decomp1 L M f = decomp1 L M
  rule Decomp1' L M f = decomp1' L M
  rule Decomp2 L M f = decomp2 L M f
  rule Decomp2' L M f = decomp2' L M f
  rule Decomp3 L M f = decomp3 L M
  rule Decomp4 L M f = decomp4 L M
  rule Subst1 L M f = subst1 L M
  rule Subst2 L M f = subst2 L M
  rule Subst3 L M f = subst3 L M f
  rule Orient1 L M f = orient1 L M
  rule Orient2 L M f = orient2 L M
  rule Orient3 L M f = orient3 L M
  rule Orient4 L M f = orient4 L M

  -- a rule's move, if it applies
  abbrev pub add : Rule → Option Move → List (Rule × Move) → List (Rule × Move)
  add r none l = l
  add r (some m) l = (r, m) ∷ l

  -- "each rule that applies gives one child"
  abbrev pub collect : Field E → Field E → Name → List Rule → List (Rule × Move)
  collect L M f [] = []
  collect L M f (r ∷ rs) = add r (rule r L M f) (collect L M f rs)

  -- "Failure rules come first: a problem that meets one gives no child"
  abbrev pub moves : Field E → Field E → Name → List (Rule × Move)
  moves L M f = cond (fails L M) [] (collect L M f rule_order)

  -- ---- children

  -- ⟨.., σ ∘ {x ↦ s}⟩, with the fresh list variable among those used
  abbrev pub apply : Bindings E → List Name → Move → Problem E
  apply σ u (keep n) = problem n σ u
  apply σ u (bind x s v n) = problem n (compose E σ x s) (v ++ u)

  -- "the fresh list variable is the lowest number absent from that set": what `pick` gives for those used
  abbrev pub children_of : Rest E → Bindings E → List Name → List (Rule × Problem E)
  children_of solved σ u = []
  children_of (equation L M) σ u = map (λ m. (m.0, apply σ u m.1)) (moves L M (pick u))

  -- each child with the name of its rule
  abbrev pub children : Problem E → List (Rule × Problem E)
  children p = children_of (rest E p) (bindings E p) (used E p)

  -- the problems of the search tree of L = M: the equation, and each child of one
  pub data Met (L M : Field E) : Problem E → Type 0 where
    start : Met L M (root E L M)
    step : {p : Problem E} → Met L M p → (c : Rule × Problem E) → Memᴰ c (children p) → Met L M c.1
