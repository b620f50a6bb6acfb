-- A reader's step at a term, and what a loop over a text's terms makes of their fields' numbers.
use mathlib.Core.Path.{◌≡◌, sym, ◌∙◌, ap}
use mathlib.Core.Bool.{cond}
use mathlib.Core.List.{List, ◌∷◌, foldl}
use Prim.Native.Nat.{ℕ, ◌+◌, ◌<◌, ◌≤◌}
use native.Mathlib.Omega.{arith}
use lib.ListN.{length, drop, length-drop}
use Rattle.base_limits.specs.Limits.{most_slip_bytes}
use Rattle.text_grammar.specs.Walk.{front, walked}
use Rattle.text_scan.specs.declared.Lexeme.{Lexeme}
use Rattle.text_scan.specs.Lexemes.{lexeme_of}
use Rattle.text_refusals.specs.declared.At.{At}
use Rattle.text_passes.specs.Passes.{too_long}
use Rattle.text_passes.specs.Fields.{last_field}
use Rattle.text_passes.specs.Places.{spelled, behind, token_at, term_at, tokens_from}
use Rattle.text_passes.proofs.Places.{spelled_is, size_fits, tokens_step}

-- the size of a lexeme that stands in a text of at most n bytes
pub lexeme_small : (t : List ℕ) (n k : ℕ) (p : Lexeme) → p ≡ lexeme_of (front (drop k t)) → length t ≤ n → p.size ≤ n
lexeme_small t n k p e h = let s = size_fits (drop k t) in let d = length-drop k t in let q = ap (λ (x : Lexeme). x.size) e in omega arith

-- a term p that stands at the place a: the reader may go behind it, and gives it first
module _ (t : List ℕ) (a : At) (p : Lexeme) (is_p : p ≡ lexeme_of (term_at t a)) (less : a.place < length t) where
  pub may_pass : length t ≤ most_slip_bytes → (a.place ≤ most_slip_bytes) × (p.size ≤ most_slip_bytes)
  may_pass short = (omega arith, lexeme_small t most_slip_bytes a.place p is_p short)

  -- the term, then those behind it
  pub term_then : (a' : At) → a' ≡ behind t a (a.place + spelled p) → tokens_from t a ≡ token_at a (term_at t a) ∷ tokens_from t a'
  term_then a' is_a =
      tokens_step t a less
      ∙ ap (λ (e : ℕ). token_at a (term_at t a) ∷ tokens_from t (behind t a (a.place + e))) (sym (spelled_is (term_at t a)) ∙ sym (ap spelled is_p))
      ∙ ap (λ (b : At). token_at a (term_at t a) ∷ tokens_from t b) (sym is_a)

-- the field of the last term that is gone through, or 0 where there is none
abbrev pub last_of : List ℕ → ℕ
last_of t = cond (too_long t) 0 (foldl last_field 0 (walked t))
