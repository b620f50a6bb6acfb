-- Going through a text from the left: where a term stands, and where the next one does.
use Rattle.std.specs.Prelude.{Bool, ◌&&◌, cond, List, ℕ, ◌+◌, ◌-◌, eqb, ltb, length, get_or, drop}
use Rattle.text_grammar.specs.Grammar.{Raw}
use Rattle.text_grammar.specs.constants.Constants.{sign_size}
use Rattle.text_grammar.specs.Tokens.{Token}
use Rattle.text_grammar.specs.Walk.{front, walk}
use Rattle.text_scan.specs.declared.Lexeme.{Lexeme}
use Rattle.text_scan.specs.declared.Spelled.{Spelled}
use Rattle.text_scan.specs.declared.Literal.{Literal}
use Rattle.text_scan.specs.declared.Literal.TheVariants.{Int, Str}
use Rattle.text_scan.specs.declared.Spelled.TheVariants.{Con, Var, Empty}
use Rattle.text_refusals.specs.declared.At.{At}

-- the first term
abbrev pub first : At
first = record { place = 0; field = 1; index = 1 }

-- how many bytes a written term has
abbrev pub literal_bytes : Literal → ℕ → ℕ
literal_bytes (Int m) n = sign_size m + n
literal_bytes Str n = n + 2

abbrev pub spelled_by : Spelled → ℕ → ℕ
spelled_by (Con l) n = literal_bytes l n
spelled_by (Var k) n = n + 1
spelled_by Empty n = 5

abbrev pub spelled : Lexeme → ℕ
spelled p = spelled_by p.what p.size

-- a `:` stands at e
abbrev pub colon_at : List ℕ → ℕ → Bool
colon_at t e = ltb e (length t) && eqb (get_or t e 0) 58

-- behind a term that ends at e: the next of the field behind `:`, else the first of the next field
abbrev pub behind : List ℕ → At → ℕ → At
behind t a e =
    cond (colon_at t e) (record { place = e + 1; field = a.field; index = a.index + 1 })
    (record { place = e + 1; field = a.field + 1; index = 1 })

abbrev pub token_at : At → Raw → Token
token_at a r = record { place = a.place; in_field = a.field; index = a.index; raw = r }

-- the term that stands there
abbrev pub term_at : List ℕ → At → Raw
term_at t a = front (drop a.place t)

-- the terms from there on
abbrev pub tokens_from : List ℕ → At → List Token
tokens_from t a = walk (length t - a.place) (drop a.place t) a.place a.field a.index
