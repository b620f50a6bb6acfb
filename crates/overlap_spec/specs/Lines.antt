-- The text of overlap lines: document 01, "The overlap list".
use Rattle.std.specs.Prelude.{List, [], ◌∷◌, ◌++◌, ℕ}
use Rattle.base_lists.specs.Seqs.{All}
use Rattle.math_types.specs.Types.{Kind}
use Rattle.math_terms.specs.Terms.{var}
use Rattle.math_terms.specs.Seqs.{concat_map}
use Rattle.text_grammar.specs.Terms.{OurTerm, OurFields}
use Rattle.text_grammar.specs.Plain.{term_text, field_text, plain, TermOk, RuleOk}

-- a variable of a rule, and what the line gives it
pub record Binding : Type 0 where
  pub kind : Kind
  pub number : ℕ
  pub value : List OurTerm

-- an entry's fields, and the bindings of the two rules
pub record Line : Type 0 where
  pub fields : OurFields
  pub left : List Binding
  pub right : List Binding

-- a variable's name is its own text
abbrev pub name_text : Kind → ℕ → List ℕ
name_text k n = term_text (var k n)

-- "a blank, `<`, name, `=`, value", and "A value is a field's text"; the tag is `<` or `>`
abbrev pub binding_text : ℕ → Binding → List ℕ
binding_text tag b = 32 ∷ (tag ∷ (name_text b.kind b.number ++ 61 ∷ field_text b.value))

-- "for each variable of the left rule .. `<`"
abbrev pub left_tag : ℕ
left_tag = 60

-- "then the same with `>` for the right rule"
abbrev pub right_tag : ℕ
right_tag = 62

abbrev pub bindings_text : ℕ → List Binding → List ℕ
bindings_text tag bs = concat_map (binding_text tag) bs

-- "the entry's fields in plain text", the bindings of the left rule, those of the right rule, "then a newline (byte 10)"
abbrev pub line_text : Line → List ℕ
line_text l = plain l.fields ++ (bindings_text left_tag l.left ++ (bindings_text right_tag l.right ++ 10 ∷ []))

-- "The lines written are those of the entries, in their order"
abbrev pub list_text : List Line → List ℕ
list_text ls = concat_map line_text ls

-- a line that can be written at all: it has fields, and its strings hold only bytes that a string may have
abbrev pub WritableBinding : Binding → Type 0
WritableBinding b = All TermOk b.value

abbrev pub WritableLine : Line → Type 0
WritableLine l = RuleOk l.fields × All WritableBinding l.left × All WritableBinding l.right
