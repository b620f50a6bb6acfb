-- Matching as written, under GP 2's laws, is matching of what is read.
use mathlib.Core.Path.{◌≡◌, refl, sym, ◌∙◌, ap, ap₂, subst}
use mathlib.Core.Logic.{◌↔◌}
use mathlib.Core.List.{List, [], ◌∷◌, ◌++◌, map, append-nil}
use Rattle.base_lists.specs.Seqs.{All}
use Rattle.math_types.specs.Types.{basics}
use Rattle.math_terms.specs.Terms.{con}
use Rattle.math_terms.specs.Laws.{Expr, flat, expr}
use Rattle.math_terms.specs.Matching.{MatchesByLaws}
use Rattle.math_terms.proofs.Laws.{flat_expr, matches_laws}
use Rattle.text_grammar.specs.Grammar.{Raw, raw_var, raw_empty, raw_con}
use Rattle.text_grammar.specs.constants.Constants.{consts}
use Rattle.text_grammar.specs.Terms.{OurTerm, OurFields, terms_of, term_of, field_of, fields_of}
use Rattle.text_grammar.specs.Limits.{IsCon}
use Rattle.text_grammar.specs.constants.Matching.{constants, Matches}
use Rattle.text_grammar.specs.constants.Written.{written_term, written_field}
use Rattle.text_grammar.proofs.constants.Matching.{constants_are}

flat_term : (r : Raw) → flat (written_term r) ≡ term_of r
flat_term (raw_con r) = refl
flat_term (raw_var k ds) = refl
flat_term raw_empty = refl

pub flat_field : (f : List Raw) → flat (written_field f) ≡ field_of f
flat_field [] = refl
flat_field (r ∷ []) = flat_term r ∙ sym (append-nil (term_of r))
flat_field (r ∷ (s ∷ rs)) = ap₂ (λ (x y : List OurTerm). x ++ y) (flat_term r) (flat_field (s ∷ rs))

-- the terms of a slip's fields, which have no variables, are their constants
fields_again : (s : OurFields) → All (All IsCon) s → s ≡ map (map con) (map constants s)
fields_again [] i = refl
fields_again (f ∷ s) i = ap₂ (λ (l : List OurTerm) (ls : OurFields). l ∷ ls) (sym (constants_are f i.0)) (fields_again s i.1)

map_same : {X Y Z : Type 0} (f : Y → Z) (g : X → Y) (h : X → Z) → ((x : X) → f (g x) ≡ h x) → (l : List X) → map f (map g l) ≡ map h l
map_same f g h e [] = refl
map_same {Z = Z} f g h e (x ∷ l) = ap₂ (λ (z : Z) (r : List Z). z ∷ r) (e x) (map_same f g h e l)

flat_fields : (x : List (List Raw)) → map flat (map written_field x) ≡ fields_of x
flat_fields x = map_same flat written_field field_of flat_field x

flat_exprs : (r : List (List OurTerm)) → map flat (map expr r) ≡ r
flat_exprs r = map_same flat expr (λ f. f) flat_expr r ∙ map_id r
  where
    map_id : (r : List (List OurTerm)) → map (λ f. f) r ≡ r
    map_id [] = refl
    map_id (f ∷ r) = ap (λ (l : List (List OurTerm)). f ∷ l) (map_id r)

-- by the laws, of expressions with the terms r and, without variables, s
same_terms : (es fs : List (Expr OurTerm)) (r s : OurFields) → map flat es ≡ r → map flat fs ≡ s → All (All IsCon) s
    → MatchesByLaws basics consts es fs ↔ Matches r (map constants s)
same_terms es fs r s is-r is-s plain =
    subst (λ (r : OurFields). MatchesByLaws basics consts es fs ↔ Matches r (map constants s)) is-r
    (matches_laws basics consts es fs (map constants s) (is-s ∙ fields_again s plain))

-- a rule's text that says x, and a slip's text that says y, which has no variables
pub written_matches : (x y : List (List Raw)) → All (All IsCon) (fields_of y)
    → MatchesByLaws basics consts (map written_field x) (map written_field y) ↔ Matches (fields_of x) (map constants (fields_of y))
written_matches x y plain = same_terms (map written_field x) (map written_field y) (fields_of x) (fields_of y) (flat_fields x) (flat_fields y) plain

-- a rule's and a slip's terms, as one writes them
pub terms_matches : (r s : OurFields) → All (All IsCon) s
    → MatchesByLaws basics consts (map expr (terms_of r)) (map expr (terms_of s)) ↔ Matches r (map constants s)
terms_matches r s plain = same_terms (map expr (terms_of r)) (map expr (terms_of s)) r s (flat_exprs r) (flat_exprs s) plain
