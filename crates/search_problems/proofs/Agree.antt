-- THE STEP ON RECORDS is the search's: the failure rules, and the child that each rule gives.
use mathlib.Core.Path.{◌≡◌, refl, sym, ◌∙◌, ap, ap₂, subst}
use mathlib.Core.Bool.{Bool, true, false, not, cond, ◌&&◌}
use mathlib.Core.Option.{Option, none, some}
use mathlib.Core.List.{List}
use Rattle.std.specs.Prelude as std
use Rattle.std.specs.Prelude.{Some, None, is_some}
use Rattle.std.specs.Option.{unwrap_or}
use Prim.Native.Nat.{ℕ, ◌≤◌, ◌<◌}
use native.Mathlib.Omega.{arith}
use lib.ListN.{length, get_or}
use borrow.Author.Tests.{lt-leb}
use Rattle.base_limits.specs.Limits.{most_terms, pair_places}
use Rattle.math_types.specs.Types.{basics}
use Rattle.text_grammar.specs.constants.Constants.{consts}
use Rattle.math_search.specs.Problems.{Field, Bindings, solved, equation, problem}
use Rattle.math_search.specs.Fresh.{lowest}
use Rattle.math_search.specs.Rules.{Rule, keep, bind, fails, rule, apply}
use Rattle.math_search.specs.Rules as rules
use Rattle.math_search.proofs.Sizes.{sides_short}
use Rattle.search_problems.specs.variables.Sets.{digits, fresh_value, list_variables}
use Rattle.math_codes.specs.Tables.{Table, Made}
use Rattle.math_codes.specs.Lines.{OurAtom, our_vars, our_ranks}
use Rattle.search_spec.specs.Answers.{setting}
use Rattle.pair_row.specs.Row.{table_in}
use Rattle.search_items.specs.declared.Items.{Items}
use Rattle.search_rules.specs.declared.Move.{Move}
use Rattle.search_rules.specs.Moves.{fresh_rules, applies_value, move_value}
use Rattle.search_rules.specs.Fails.{fails_value}
use Rattle.search_rules.specs.Values.{number, made_move, move_code}
use Rattle.search_rules.proofs.Failing.{fails_agrees}
use Rattle.search_rules.proofs.Moving.{move_agrees}
use Rattle.search_rules.proofs.Telling.{brings, applies_is, fresh_is}
use Rattle.search_problems.specs.declared.Problem.{Problem}
use Rattle.search_problems.specs.Applied.{applied_value}
use Rattle.search_problems.specs.Steps.{fails_of, none_left, makes, child_by, child_of, gives}
use Rattle.search_problems.specs.Values.{blank_problem}
use Rattle.search_problems.proofs.Holds.{Equation, Holds}
use Rattle.search_problems.proofs.Moved.{fresh_holds, fresh_digit, fresh_left, applied_holds}

-- the child of the move that a rule makes, if it applies: c is the record of ⟨.., σ ∘ {x ↦ s}⟩, or none
abbrev pub ChildIs : (t : List (Option OurAtom)) (A B : Field setting) (σ : Bindings setting) (u : List ℕ)
    → std.Option Problem → Option (rules.Move setting) → Type 0
ChildIs t A B σ u c none = c ≡ None
ChildIs t A B σ u c (some m) = (is_some c ≡ true) × Holds t A B (unwrap_or c blank_problem) (apply setting σ u m)

made : (t : List (Option OurAtom)) (p : Problem) (f : ℕ) (m : rules.Move setting) → none_left p ≡ false
    → child_by p (move_code t (some m)) f ≡ Some (applied_value p (made_move t m) f)
made t p f m e =
    ap (λ (b : Bool). cond b (Some (applied_value p (made_move t m) f)) None)
    (ap (λ (b : Bool). not ((made_move t m).fresh && b)) e ∙ none (made_move t m).fresh)
  where
    none : (b : Bool) → not (b && false) ≡ true
    none true = refl
    none false = refl

-- the test is that of the child
pub gives_is : (T : Table) (p : Problem) (r : ℕ) → is_some (child_of T p r) ≡ gives T p r
gives_is T p r =
    by (move_value T r p.left p.right (fresh_value p.used)) (applies_value T r p.left p.right) (get_or fresh_rules r false)
    (applies_is T r p.left p.right (fresh_value p.used)) (fresh_is T r p.left p.right (fresh_value p.used))
  where
    some_if : (b : Bool) (q : Problem) → is_some (cond b (Some q) None) ≡ b
    some_if true q = refl
    some_if false q = refl

    by : (o : std.Option Move) (b d : Bool) → is_some o ≡ b → brings o ≡ b && d
        → is_some (child_by p o (fresh_value p.used)) ≡ b && not (d && none_left p)
    by None b d e h = ap (λ (c : Bool). c && not (d && none_left p)) e
    by (Some m) b d e h =
        some_if (makes p m) (applied_value p m (fresh_value p.used))
        ∙ ap (λ (c : Bool). not (c && none_left p)) h
        ∙ ap (λ (c : Bool). not ((c && d) && none_left p)) (sym e)
        ∙ ap (λ (c : Bool). c && not (d && none_left p)) e

-- over the pair's table t, which the row has
module _ (t : List (Option OurAtom)) (long : length t ≡ pair_places) (row : List ℕ) (Made-row : Made basics consts our_vars our_ranks (table_in row) t) where
  module _ (A B : Field setting) (q : Equation t A B) (p : Problem) (L M : Field setting) (σ : Bindings setting) (u : List ℕ)
      (h : Holds t A B p (problem (equation L M) σ u)) where
    short : (length L ≤ most_terms) × (length M ≤ most_terms)
    short = sides_short setting most_terms A B q.left_short q.right_short (problem (equation L M) σ u) h.met

    pub fails_holds : fails_of (table_in row) p ≡ fails setting L M
    fails_holds =
        ap₂ (fails_value (table_in row)) h.left h.right
        ∙ fails_agrees t long row Made-row L M h.rest_in.0 h.rest_in.1 (omega (arith, short.0)) (omega (arith, short.1))

    small : fresh_value p.used < pair_places
    small = omega (arith, fresh_digit t long A B q p (problem (equation L M) σ u) h)

    move_holds : (r : Rule) → move_value (table_in row) (number r) p.left p.right (fresh_value p.used) ≡ move_code t (rule setting r L M (lowest u))
    move_holds r =
        ap₂ (λ (l m : Items). move_value (table_in row) (number r) l m (fresh_value p.used)) h.left h.right
        ∙ move_agrees t long row Made-row r L M (fresh_value p.used) h.rest_in.0 h.rest_in.1 (omega (arith, short.0)) (omega (arith, short.1)) small
        ∙ ap (λ (f : ℕ). move_code t (rule setting r L M f)) (fresh_holds t long A B q p (problem (equation L M) σ u) h)

    pub child_holds : fails setting L M ≡ false → (r : Rule) → ChildIs t A B σ u (child_of (table_in row) p (number r)) (rule setting r L M (lowest u))
    child_holds nf r =
        subst (λ (m : std.Option Move). ChildIs t A B σ u (child_by p m (fresh_value p.used)) (rule setting r L M (lowest u))) (sym (move_holds r))
        (go (rule setting r L M (lowest u)) (applied_holds t long A B q p L M σ u h nf r))
      where
        left : none_left p ≡ false
        left = lt-leb digits (list_variables p.used) (fresh_left t long A B q p (problem (equation L M) σ u) h)

        go : (o : Option (rules.Move setting))
            → ((m : rules.Move setting) → o ≡ some m → Holds t A B (applied_value p (made_move t m) (fresh_value p.used)) (apply setting σ u m))
            → ChildIs t A B σ u (child_by p (move_code t o) (fresh_value p.used)) o
        go none k = refl
        go (some m) k = subst (λ (c : std.Option Problem). ChildIs t A B σ u c (some m)) (sym (made t p (fresh_value p.used) m left)) (refl, k m refl)
