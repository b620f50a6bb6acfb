-- The two runs in the words of the definition: their counts and bytes are those of the search's lines.
--     is_nine, shown_lines     a refusal by 9, or the lines
--     twice_lines            for two fields that stand on the left sides of accepted rules
use mathlib.Core.Path.{◌≡◌, refl, subst₂}
use mathlib.Core.Bool.{Bool, true, false, ◌&&◌}
use mathlib.Core.List.{List, [], ◌∷◌, map}
use Prim.Native.Nat.{ℕ, ◌*◌, ◌^◌, ◌≤◌, ◌<◌}
use native.Mathlib.Omega.{arith}
use native.Mathlib.Decide.{ℕ_discrete}
use lib.ListN.{length, length-map}
use Rattle.base_limits.specs.Limits.{most_terms}
use Rattle.math_types.specs.Types.{basics}
use Rattle.text_grammar.specs.Terms.{OurTerm}
use Rattle.text_grammar.specs.Limits.{IsLeft}
use Rattle.text_values.specs.Values.{Field}
use Rattle.text_accepted.specs.Accepted.{accepted_field}
use Rattle.text_grammar.specs.constants.Constants.{consts}
use Rattle.math_overlaps.specs.Shapes.{left, right}
use Rattle.search_problems.specs.declared.Problem.{Problem}
use Rattle.search_steps.specs.tables.Tables.{rows_in}
use Rattle.search_problems.specs.Roots.{root_value}
use Rattle.search_steps.specs.Machine.{Config, Ends, Reaches}
use Rattle.math_search.specs.Problems as theory
use Rattle.math_search.specs.Problems.{root}
use Rattle.math_search.specs.Fresh.{numbers}
use Rattle.math_search.specs.Pairs.{side_term, sixteen_above}
use Rattle.math_search.specs.Rules.{Rule}
use Rattle.math_search.specs.Queue.{Result, answers, refused, unfinished}
use Rattle.math_search.proofs.Queue.{given}
use Rattle.math_search.specs.worklist.Agreement.{Agrees}
use Rattle.search_spec.specs.Answers.{setting, field_on, found, answer_text, Lines, lines, nine, lines_in, lines_of}
use Rattle.search_spec.proofs.Search.{equation_linear}
use Rattle.search_row.proofs.Turns.{records}
use Rattle.search_row.proofs.Twice as runs
use Rattle.search_row.proofs.Twice.{counting, writing, Answered, is_refused}

abbrev pub is_nine : Lines → Bool
is_nine (lines ls) = false
is_nine nine = true

abbrev pub shown_lines : Lines → List (List ℕ)
shown_lines (lines ls) = ls
shown_lines nine = []

module _ (f g : List OurTerm) where
  nine_is : (r : Result setting) → is_refused setting r ≡ is_nine (lines_in f g r)
  nine_is (answers xs) = refl
  nine_is refused = refl
  nine_is unfinished = refl

  lines_are : (r : Result setting) → map (answer_text f g) (given setting r) ≡ shown_lines (lines_in f g r)
  lines_are (answers xs) = refl
  lines_are refused = refl
  lines_are unfinished = refl

  module _ (F G : Field) (row : List Problem) (out : List ℕ) (is_f : IsLeft (f ∷ []))
      (is-g : IsLeft (g ∷ [])) (both : (accepted_field F && accepted_field G) ≡ true)
      (Holds : Problem → theory.Problem setting → Type 0) (number : Rule → ℕ)
      (agrees : Agrees setting (records (rows_in F G).0 (rows_in F G).1) Holds number (answer_text f g))
      (bound : ℕ)
      (short : (p : Problem) (σ : theory.Bindings setting) (u : List ℕ) → Holds p (theory.problem theory.solved σ u) → length (answer_text f g σ) ≤ bound)
      (low : bound * 2 ^ 34 < 2 ^ 64)
      (is-root : Holds (root_value (rows_in F G).0) (root setting (field_on left f) (field_on right g))) where
    short_f : length (field_on left f) ≤ most_terms
    short_f = omega (arith, is_f.0.2.0, length-map f (side_term basics consts ℕ_discrete numbers sixteen_above left))

    short_g : length (field_on right g) ≤ most_terms
    short_g = omega (arith, is-g.0.2.0, length-map g (side_term basics consts ℕ_discrete numbers sixteen_above right))

    pub counting_ends : Ends (counting F G row out)
    counting_ends =
        runs.counting_ends F G row out setting Holds number (answer_text f g) agrees bound short low (field_on left f) (field_on right g)
        (equation_linear f g is_f is-g) short_f short_g is-root both

    pub writing_ends : (t : Config) → Reaches (counting F G row out) t → Ends (writing F G row out t)
    writing_ends =
        runs.writing_ends F G row out setting Holds number (answer_text f g) agrees bound short low (field_on left f) (field_on right g)
        (equation_linear f g is_f is-g) short_f short_g is-root both

    pub twice_lines : (t v : Config) → Reaches (counting F G row out) t → Reaches (writing F G row out t) v
        → Answered F G row out (is_nine (lines_of (length row) f g)) (shown_lines (lines_of (length row) f g)) t v
    twice_lines t v r s =
        subst₂ (λ (no : Bool) (ls : List (List ℕ)). Answered F G row out no ls t v) (nine_is (found (length row) f g)) (lines_are (found (length row) f g))
        (runs.twice F G row out setting Holds number (answer_text f g) agrees bound short low (field_on left f) (field_on right g)
        (equation_linear f g is_f is-g) short_f short_g is-root both t v r s)
