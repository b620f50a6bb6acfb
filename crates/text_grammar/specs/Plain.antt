-- Plain text: document 01, "Writing a rule gives its one plain text: no `empty` unless the field has no terms,
-- integers without leading zeros".
use Rattle.std.specs.Prelude.{List, [], ◌∷◌, map, ℕ}
use Rattle.base_lists.specs.Seqs.{All, IsCons}
use Rattle.math_terms.specs.Terms.{con, var}
use Rattle.text_grammar.specs.Grammar.{Raw, raw_var, raw_empty, spell, spell_f, spell_t, raw_con}
use Rattle.text_grammar.specs.Numbers.{digits_of}
use Rattle.text_grammar.specs.Terms.{OurTerm, OurField, OurFields}
use Rattle.text_grammar.specs.constants.Constants.{raw_of_con, ConOk}

abbrev pub raw_of : OurTerm → Raw
raw_of (con c) = raw_con (raw_of_con c)
raw_of (var k n) = raw_var k (digits_of n)

abbrev pub raw_field : OurField → List Raw
raw_field [] = raw_empty ∷ []
raw_field (t ∷ ts) = map raw_of (t ∷ ts)

-- a term's text, a field's text
abbrev pub term_text : OurTerm → List ℕ
term_text t = spell (raw_of t)

abbrev pub field_text : OurField → List ℕ
field_text f = spell_f (raw_field f)

abbrev pub plain : OurFields → List ℕ
plain r = spell_t (map raw_field r)

-- a term that can be written at all
abbrev pub TermOk : OurTerm → Type 0
TermOk (con c) = ConOk c
TermOk (var k n) = Unit {0}

abbrev pub RuleOk : OurFields → Type 0
RuleOk r = IsCons r × All (All TermOk) r
