-- Our terms, the constants and variables of document 01, our fields, and which terms a written one stands for.
use Rattle.std.specs.Prelude.{List, [], ◌∷◌, ◌++◌, map, ℕ}
use Rattle.math_types.specs.Types.{Kind}
use Rattle.math_terms.specs.Terms.{Term, con, var}
use Rattle.text_grammar.specs.Grammar.{Raw, raw_var, raw_empty, raw_con}
use Rattle.text_grammar.specs.Numbers.{value}
use Rattle.text_grammar.specs.constants.Constants.{Con, con_of}

-- a variable is its type and its number
abbrev pub OurTerm : Type 0
OurTerm = Term Con Kind ℕ

-- a field, and the fields of a rule's side, of a slip as it is read, or of an entry
abbrev pub OurField : Type 0
OurField = List OurTerm

abbrev pub OurFields : Type 0
OurFields = List OurField

-- the terms of each field: what the theory is asked of
abbrev pub terms_of : OurFields → List (List OurTerm)
terms_of r = r

-- a slip's fields without variables, and the constants of each
abbrev pub SlipFields : Type 0
SlipFields = List (List Con)

abbrev pub items_of : SlipFields → List (List Con)
items_of w = w

abbrev pub term_of : Raw → List OurTerm
term_of (raw_con r) = con (con_of r) ∷ []
term_of (raw_var k ds) = var k (value ds) ∷ []
-- document 01: "`empty`: counted as a term in the text, then dropped"
term_of raw_empty = []

abbrev pub field_of : List Raw → OurField
field_of [] = []
field_of (r ∷ rs) = term_of r ++ field_of rs

abbrev pub fields_of : List (List Raw) → OurFields
fields_of x = map field_of x
