-- What a reader of a text gives: its terms, each with its place.
use Rattle.std.specs.Prelude.{◌≡◌, ◌<◌, length, List, [], ◌∷◌, Option, MatchOption}
use Rattle.text_grammar.specs.Tokens.{Token}
use Rattle.text_scan.specs.declared.Lexeme.{Lexeme}
use Rattle.text_scan.specs.Lexemes.{lexeme_of}
use Rattle.text_refusals.specs.declared.At.{At}
use Rattle.text_passes.specs.declared.Reader.{Reader}
use Rattle.text_passes.specs.Places.{term_at, token_at, tokens_from}

-- the terms that a reader still has before it
abbrev pub tokens_left : Reader → List Token
tokens_left r = tokens_from r.text.now r.at

-- a reader gives the term that it stands at, with its place, and is then behind it; at the end there is none
abbrev pub Reads : Reader → Option (At × Lexeme) → Reader → Type 0
Reads r x s = MatchOption x ((tokens_left r ≡ []) × (tokens_left s ≡ []))
    (λ y. (r.at.place < length r.text.now) × (y ≡ (r.at, lexeme_of (term_at r.text.now r.at)))
    × (tokens_left r ≡ token_at r.at (term_at r.text.now r.at) ∷ tokens_left s) × (s.text ≡ r.text))
