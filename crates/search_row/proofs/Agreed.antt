-- THE RECORDS ARE THE SEARCH'S PROBLEMS, for two fields that stand on the left sides of accepted rules: what the machine asks of them holds.
use mathlib.Core.Path.{◌≡◌, refl, sym, ◌∙◌, ap}
use mathlib.Core.Option.{Option, none, some}
use mathlib.Core.List.{List, [], ◌∷◌}
use Prim.Native.Nat.{ℕ, ◌≤◌}
use native.Mathlib.Omega.{arith}
use lib.ListN.{length, get_or}
use Rattle.base_limits.specs.Limits.{most_fields, field_places, rule_places, pair_places}
use Rattle.text_grammar.specs.Terms.{OurTerm}
use Rattle.text_grammar.specs.Limits.{IsLeft}
use Rattle.text_values.specs.Values.{encode_field}
use Rattle.math_overlaps.specs.Shapes.{left, right}
use Rattle.math_search.specs.Problems.{Field, Bindings, Rest, solved, equation, problem, root}
use Rattle.math_search.specs.Problems as theory
use Rattle.math_search.specs.Rules.{Rule, Move, rule}
use Rattle.math_search.specs.Fresh.{lowest}
use Rattle.math_search.specs.worklist.Machine.{Records}
use Rattle.math_search.specs.worklist.Agreement.{Agrees, open_rest}
use Rattle.math_search.specs.worklist.Agreement as worklist
use Rattle.search_spec.specs.Answers.{setting, field_on, answer_text}
use Rattle.math_codes.specs.Lines.{OurAtom, our_row}
use Rattle.math_codes.specs.Spots.{Spot}
use Rattle.math_codes.proofs.Places.{Stands, left_stand, right_stand}
use Rattle.math_codes.proofs.Lists.{row_long}
use Rattle.pair_row.specs.Row.{table_in, text_in}
use Rattle.pair_table.specs.Pairs.{PairIn}
use Rattle.pair_lines.specs.Lines.{line_bound}
use Rattle.search_rules.specs.Values.{number}
use Rattle.search_problems.specs.declared.Problem.{Problem}
use Rattle.std.specs.Prelude as std
use Rattle.std.specs.Prelude.{is_some}
use Rattle.search_problems.specs.Steps.{child_of}
use Rattle.search_problems.proofs.Holds.{Equation, is_open, Holds}
use Rattle.search_problems.specs.Roots.{root_value}
use Rattle.search_problems.proofs.Agree as steps
use Rattle.search_problems.proofs.Rooted.{equation_of, root_holds}
use Rattle.search_steps.specs.tables.Tables.{rows_in}
use Rattle.search_steps.proofs.tables.Noted.{tables_hold}
use Rattle.search_steps.specs.Machine.{line_in}
use Rattle.search_row.proofs.Solved.{solved_line, solved_short}
use Rattle.search_row.proofs.Turns.{records}

module _ (f g : List OurTerm) (is_f : IsLeft (f ∷ [])) (is-g : IsLeft (g ∷ [])) where
  abbrev A : Field setting
  A = field_on left f

  abbrev B : Field setting
  B = field_on right g

  -- the pair's table, and the tables of the two fields
  abbrev pub pair_table : List (Option OurAtom)
  pair_table = our_row (f ∷ []) (g ∷ [])

  abbrev pub tables : List ℕ
  tables = (rows_in (encode_field f) (encode_field g)).0

  abbrev pub texts : List ℕ
  texts = (rows_in (encode_field f) (encode_field g)).1

  pair : PairIn (f ∷ []) (g ∷ []) tables texts
  pair = tables_hold f g is_f is-g

  long : length pair_table ≡ pair_places
  long = row_long (f ∷ []) (g ∷ []) (table_in tables) (text_in tables texts) pair.tables is_f is-g

  stand_f : Stands pair_table left 0 f
  stand_f = (left_stand field_places most_fields (f ∷ []) (g ∷ []) is_f.0.2 is-g.0.2 (omega arith)).0

  stand_g : Stands pair_table right rule_places g
  stand_g = (right_stand field_places most_fields (f ∷ []) (g ∷ []) is_f.0.2 is-g.0.2 (omega arith)).0

  equal : Equation pair_table A B
  equal = equation_of pair_table long tables pair.tables.atoms f g is_f is-g stand_f stand_g

  abbrev all : Records
  all = records tables texts

  abbrev pub Held : Problem → theory.Problem setting → Type 0
  Held = Holds pair_table A B

  open_same : (n : Rest setting) → is_open n ≡ open_rest setting all Held n
  open_same solved = refl
  open_same (equation L M) = refl

  module _ (p : Problem) (σ : Bindings setting) (u : List ℕ) where
    child_same : (r : Rule) (o : Option (Move setting)) → steps.ChildIs pair_table A B σ u (child_of (table_in tables) p (number r)) o
        → worklist.ChildIs setting all Held p (number r) σ u o
    child_same r none h = sym (steps.gives_is (table_in tables) p (number r)) ∙ ap (λ (c : std.Option Problem). is_some c) h
    child_same r (some m) h = (sym (steps.gives_is (table_in tables) p (number r)) ∙ h.0, h.1)

  module _ (p : Problem) (σ : Bindings setting) (u : List ℕ) (h : Held p (problem solved σ u)) where
    line_is : line_in tables texts p ≡ answer_text f g σ
    line_is = solved_line f g is_f is-g tables texts pair long equal p σ u h

    pub line_short : length (answer_text f g σ) ≤ line_bound
    line_short = solved_short f g is_f is-g tables texts pair long equal p σ u h

  pub agreed : Agrees setting all Held number (answer_text f g)
  agreed = record {
    ordered = (refl, (refl, (refl, (refl, (refl, (refl, (refl, (refl, (refl, (refl, (refl, (refl, (refl, (refl, refl))))))))))))));
    open_is = λ p n σ u h. h.opens ∙ open_same n;
    fails_is = λ p L M σ u h. steps.fails_holds pair_table long tables pair.tables.atoms A B equal p L M σ u h;
    child_is = λ p L M σ u h nf r.
        child_same p σ u r (rule setting r L M (lowest u)) (steps.child_holds pair_table long tables pair.tables.atoms A B equal p L M σ u h nf r);
    line_is = line_is;
  }

  -- THE ROOT
  pub root_held : Held (root_value tables) (root setting A B)
  root_held =
      root_holds pair_table long tables pair.tables.atoms f g is_f is-g stand_f stand_g
      (ap (λ (l : List (Spot ℕ)). get_or l 0 no_spot) pair.left_shapes) (ap (λ (l : List (Spot ℕ)). get_or l 0 no_spot) pair.right_shapes)
    where
      no_spot : Spot ℕ
      no_spot = record { base = 0; head = 0; tail = 0; name = none }
