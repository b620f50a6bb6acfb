-- A MOVE on a record is the search's: the record of a problem goes over into that of the child that a rule gives.
use mathlib.Core.Path.{◌≡◌, refl, sym, ◌∙◌, ap, ap₂, subst}
use mathlib.Core.Logic.{◌⊎◌, inl, inr}
use mathlib.Core.Bool.{false, cond}
use mathlib.Core.Option.{Option, some}
use mathlib.Core.List.{List, [], ◌∷◌, ◌++◌, map}
use Prim.Native.Nat.{ℕ, ◌≤◌, ◌<◌}
use native.Mathlib.Omega.{arith}
use native.Mathlib.Decide.{ℕ_discrete}
use lib.ListN.{length}
use Rattle.base_limits.specs.Limits.{most_terms, numbers_of_pair, pair_places}
use Rattle.base_lists.specs.Seqs.{All, all_map}
use Rattle.math_types.specs.Types.{basics}
use Rattle.text_grammar.specs.constants.Constants.{consts}
use Rattle.math_overlaps.specs.Overlaps.{firsts}
use Rattle.math_search.specs.Problems.{Tm, Field, Bindings, compose, Rest, solved, equation, problem, names_in}
use Rattle.math_search.specs.Problems as search
use Rattle.math_search.specs.Fresh.{lowest, lowest_new}
use Rattle.math_search.specs.Rules.{Rule, Move, keep, bind, fails, rule, apply, Met, step}
use Rattle.math_search.specs.Answers.{StandsIn}
use Rattle.math_search.proofs.Counts.{Other, all_put_in}
use Rattle.math_search.proofs.Effects.{AllRest, Bind}
use Rattle.math_search.proofs.Children.{move_does, rule_child}
use Rattle.math_search.proofs.Tree.{Fine, met_fine}
use Rattle.math_search.proofs.Searching.{fresh_small}
use Rattle.math_search.proofs.Sizes.{New, sides_short, value_short, fresh_below, names_below}
use Rattle.search_problems.specs.variables.Sets.{digits, set_of, with_name, fresh_value, list_variables}
use Rattle.search_problems.proofs.variables.Laws.{with_one, fresh_lowest, variables_distinct, some_left}
use Rattle.math_codes.specs.Lines.{OurAtom, our_vars}
use Rattle.search_spec.specs.Answers.{setting}
use Rattle.search_items.specs.codes.Codes.{code_tm, On}
use Rattle.search_items.specs.declared.Items.{Items}
use Rattle.search_items.specs.Values.{items_value}
use Rattle.search_rules.specs.Values.{brings_in, made_move}
use Rattle.search_problems.specs.declared.Problem.{Problem}
use Rattle.search_problems.specs.Applied.{put_items, applied_value}
use Rattle.search_problems.proofs.Holds.{Equation, value_in, Holds}
use Rattle.search_problems.proofs.Own.{names_within, left_fits, right_fits}
use Rattle.search_problems.proofs.Bindings.{atoms_bound, value_bound}

-- ---- the list variables used

-- with the fresh one f, where it is brought in
used_more : (u v : List ℕ) (f : ℕ) → length v ≤ 1 → All (λ k. k ≡ f) v → f < digits → cond (brings_in v) (with_name (set_of u) f) (set_of u) ≡ set_of (v ++ u)
used_more u [] f l h g = refl
used_more u (k ∷ []) f l h g = with_one f u g ∙ ap (λ (n : ℕ). set_of (n ∷ u)) (sym h.0)
used_more u (k ∷ (j ∷ v)) f l h g = absurd (omega arith)

module _ (t : List (Option OurAtom)) (long : length t ≡ pair_places) where
  module _ (A B : Field setting) (q : Equation t A B) where
    -- of a problem that is met: the numbers used, and the fresh one
    module _ (P : search.Problem setting) (m : Met setting A B P) where
      used_in : All (λ n. n < numbers_of_pair) (search.used setting P)
      used_in =
          names_below basics consts our_vars A B q.linear q.left_short q.right_short (names_within t A q.left_in)
          (names_within t B q.right_in) P m

      fresh_in : lowest (search.used setting P) < digits
      fresh_in = fresh_small basics consts our_vars A B q.linear q.left_short q.right_short P m

    -- THE FRESH LIST VARIABLE of the record is the search's
    pub fresh_holds : (p : Problem) (P : search.Problem setting) → Holds t A B p P → fresh_value p.used ≡ lowest (search.used setting P)
    fresh_holds p P h =
        ap fresh_value h.used
        ∙ fresh_lowest (search.used setting P)
        (all_map (λ n. n < numbers_of_pair) (λ n. n < digits) (λ n l. omega arith) (search.used setting P) (used_in P h.met)) (fresh_in P h.met)

    -- it has a digit
    pub fresh_digit : (p : Problem) (P : search.Problem setting) → Holds t A B p P → fresh_value p.used < digits
    fresh_digit p P h = omega (arith, fresh_holds p P h, fresh_in P h.met)

    -- and one is always left
    pub fresh_left : (p : Problem) (P : search.Problem setting) → Holds t A B p P → list_variables p.used < digits
    fresh_left p P h =
        subst (λ (s : ℕ). list_variables s < digits) (sym h.used)
        (some_left (lowest (search.used setting P)) (search.used setting P)
        (all_map (λ n. n < numbers_of_pair) (λ n. n < digits) (λ n l. omega arith) (search.used setting P) (used_in P h.met)) (fresh_in P h.met)
        (lowest_new (search.used setting P)))

    -- "ones count variables of a problem": those used, each once
    pub variables_holds : (p : Problem) (P : search.Problem setting) → Holds t A B p P → list_variables p.used
        ≡ length (firsts ℕ_discrete (search.used setting P))
    variables_holds p P h = ap list_variables h.used ∙ variables_distinct (search.used setting P)

    module _ (p : Problem) (L M : Field setting) (σ : Bindings setting) (u : List ℕ) (h : Holds t A B p (problem (equation L M) σ u)) where
      fine : Fine setting A B (problem (equation L M) σ u)
      fine = met_fine setting A B q.linear (problem (equation L M) σ u) h.met

      short : (length L ≤ most_terms) × (length M ≤ most_terms)
      short = sides_short setting most_terms A B q.left_short q.right_short (problem (equation L M) σ u) h.met

      -- ---- the values of the two list variables

      lists_moved : (x : Tm setting) (s : Field setting) → On t x → length s ≤ most_terms
          → map (put_items (code_tm t x) (items_value t s)) p.lists
          ≡ value_in t (compose setting σ x s) (names_in setting A) ∷ (value_in t (compose setting σ x s) (names_in setting B) ∷ [])
      lists_moved x s i l =
          ap (map (put_items (code_tm t x) (items_value t s))) h.lists
          ∙ ap₂ (λ (v w : Items). v ∷ (w ∷ []))
          (value_bound t long σ x s i (omega arith) (names_in setting A) (left_fits t A B q p (problem (equation L M) σ u) h))
          (value_bound t long σ x s i (omega arith) (names_in setting B) (right_fits t A B q p (problem (equation L M) σ u) h))

      -- ---- what a rule binds

      module _ (r : Rule) (x : Tm setting) (s : Field setting) (v : List ℕ) (n : Rest setting) (e : rule setting r L M (lowest u) ≡ some (bind x s v n)) where
        does : Bind setting L M (lowest u) x s v n
        does = move_does setting L M (lowest u) (r, bind x s v n) e

        new_in : All (λ k. k < numbers_of_pair) v
        new_in = go (fresh_below basics consts our_vars A B q.linear q.left_short q.right_short L M σ u h.met r x s v n e)
          where
            go : (v ≡ []) ⊎ (lowest u < numbers_of_pair) → All (λ k. k < numbers_of_pair) v
            go (inl z) = subst (λ (v : List ℕ). All (λ k. k < numbers_of_pair) v) (sym z) tt
            go (inr g) = all_map (λ k. k ≡ lowest u) (λ k. k < numbers_of_pair) (λ k z. omega arith) v does.new

        all_in : All (On t) s × AllRest setting (On t) n
        all_in =
            does.from fine.inv.lin (On t)
            (all_map (On t) (λ y. Other setting x y → On t y) (λ y w _. w) L h.rest_in.0)
            (all_map (On t) (λ y. Other setting x y → On t y) (λ y w _. w) M h.rest_in.1) new_in

        x_in : On t x
        x_in = does.here (On t) h.rest_in.0 h.rest_in.1

        sizes : (length s ≤ most_terms) × New setting n v
        sizes = value_short setting most_terms L M (lowest u) short.0 short.1 r x s v n e

        values_moved : (y : Tm setting) → StandsIn setting A B y → All (On t) (compose setting σ x s y)
        values_moved y i =
            all_put_in setting (On t) x s all_in.0 (σ y) (all_map (On t) (λ y. Other setting x y → On t y) (λ y w _. w) (σ y) (h.values_in_lem y i))

      -- ---- the child

      applied_by : (r : Rule) (m : Move setting) → rule setting r L M (lowest u) ≡ some m → Met setting A B (apply setting σ u m)
          → Holds t A B (applied_value p (made_move t m) (lowest u)) (apply setting σ u m)
      applied_by r (keep solved) e c =
          record {
            met = c;
            opens = refl;
            left = refl;
            right = refl;
            atoms = h.atoms;
            lists = h.lists;
            used = h.used;
            rest_in = tt;
            values_in_lem = h.values_in_lem;
          }
      applied_by r (keep (equation L' M')) e c =
          record {
            met = c;
            opens = refl;
            left = refl;
            right = refl;
            atoms = h.atoms;
            lists = h.lists;
            used = h.used;
            rest_in = (move_does setting L M (lowest u) (r, keep (equation L' M')) e).from (On t) h.rest_in.0 h.rest_in.1;
            values_in_lem = h.values_in_lem;
          }
      applied_by r (bind x s v solved) e c =
          record {
            met = c;
            opens = refl;
            left = refl;
            right = refl;
            atoms =
                atoms_bound t long σ fine.inv.kinds p.atoms h.atoms x s (x_in r x s v solved e) (all_in r x s v solved e).0
                (does r x s v solved e).fits;
            lists = lists_moved x s (x_in r x s v solved e) (sizes r x s v solved e).0;
            used = h.used ∙ ap (λ (v : List ℕ). set_of (v ++ u)) (sym (sizes r x s v solved e).1);
            rest_in = tt;
            values_in_lem = values_moved r x s v solved e;
          }
      applied_by r (bind x s v (equation L' M')) e c =
          record {
            met = c;
            opens = refl;
            left = refl;
            right = refl;
            atoms = atoms_bound t long σ fine.inv.kinds p.atoms h.atoms x s (x_in r x s v n e) (all_in r x s v n e).0 (does r x s v n e).fits;
            lists = lists_moved x s (x_in r x s v n e) (sizes r x s v n e).0;
            used =
                ap (λ (w : ℕ). cond (brings_in v) (with_name w (lowest u)) w) h.used
                ∙ used_more u v (lowest u) (sizes r x s v n e).1 (does r x s v n e).new (fresh_in (problem (equation L M) σ u) h.met);
            rest_in = (all_in r x s v n e).1;
            values_in_lem = values_moved r x s v n e;
          }
        where
          n : Rest setting
          n = equation L' M'

      -- THE CHILD that a rule gives, where no failure rule applies
      pub applied_holds : fails setting L M ≡ false → (r : Rule) (m : Move setting) → rule setting r L M (lowest u) ≡ some m
          → Holds t A B (applied_value p (made_move t m) (fresh_value p.used)) (apply setting σ u m)
      applied_holds nf r m e =
          subst (λ (f : ℕ). Holds t A B (applied_value p (made_move t m) f) (apply setting σ u m)) (sym (fresh_holds p (problem (equation L M) σ u) h))
          (applied_by r m e (step h.met (r, apply setting σ u m) (rule_child setting L M σ u r m nf e)))
