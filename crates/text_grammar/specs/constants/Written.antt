-- A rule and a slip as they are written, both alike, as GP 2's expressions: the terms of a field joined by `:`, `empty` among them.
-- `written_matches` of proofs/Written says that dropping `empty` and the brackets changes nothing.
use Rattle.std.specs.Prelude.{List, [], ◌∷◌}
use Rattle.math_terms.specs.Terms.{con, var}
use Rattle.math_terms.specs.Laws.{Expr, empty, term, ◌⦂◌}
use Rattle.text_grammar.specs.Grammar.{Raw, raw_var, raw_empty, raw_con}
use Rattle.text_grammar.specs.Numbers.{value}
use Rattle.text_grammar.specs.Terms.{OurTerm}
use Rattle.text_grammar.specs.constants.Constants.{con_of}

abbrev pub written_term : Raw → Expr OurTerm
written_term (raw_con r) = term (con (con_of r))
written_term (raw_var k ds) = term (var k (value ds))
written_term raw_empty = empty

-- document 01: "terms separated by `:`"
abbrev pub written_field : List Raw → Expr OurTerm
written_field [] = empty
written_field (r ∷ []) = written_term r
written_field (r ∷ (s ∷ rs)) = written_term r ⦂ written_field (s ∷ rs)
