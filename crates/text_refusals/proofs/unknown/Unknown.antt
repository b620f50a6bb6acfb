-- What code finds is the first variable that a side lacks, where the side's own variables have numbers within their limit.
use mathlib.Core.Path.{◌≡◌, refl, sym, ◌∙◌, ap}
use mathlib.Core.Logic.{ite}
use mathlib.Core.Bool.{Bool, true, false, not, cond, false≢true}
use mathlib.Core.Option.{Option, some, map}
use mathlib.Core.List.{List, [], ◌∷◌, ◌++◌}
use Prim.Native.Nat.{ℕ, ◌<◌, ◌≤◌}
use native.Mathlib.Omega.{arith}
use native.Mathlib.Decide.{dec_lt}
use lib.Dec.{ltb}
use borrow.Author.Tests.{lt-ltb, le-ltb}
use Rattle.base_limits.specs.Limits.{largest_number}
use Rattle.math_types.specs.Types.{Kind}
use Rattle.math_types.specs.Values.{kind_of, kind_from, kind_of_from}
use Rattle.text_grammar.specs.Grammar.{Raw, raw_var, raw_empty, raw_con}
use Rattle.text_grammar.specs.Numbers.{value}
use Rattle.text_grammar.specs.Leftmost.{leftmost}
use Rattle.text_grammar.specs.Tokens.{Token, tokens}
use Rattle.text_grammar.specs.Terms.{OurFields}
use Rattle.text_grammar.specs.Read.{place_of_token}
use Rattle.text_grammar.specs.rules.Tokens.{Has, Lacks, lacks?}
use Rattle.text_grammar.specs.rules.Judge.{lacking_at}
use Rattle.overlap_spec.specs.Variables.{occurs}
use Rattle.overlap_spec.proofs.Variables.{occurs_is}
use Rattle.text_scan.specs.Lexemes.{capped, lexeme_of}
use Rattle.text_refusals.specs.unknown.Unknown.{unknown_lexeme, unknown_at}

-- every variable of l has a number within its limit
abbrev pub NumbersIn : OurFields → Type 0
NumbersIn l = (k : Kind) (n : ℕ) → Has k n l → n ≤ largest_number

module _ (l : OurFields) (small : NumbersIn l) where
  absent : (k : Kind) (n : ℕ) → (Has k n l → ⊥) → not (occurs k n l) ≡ true
  absent k n h = go (occurs k n l) refl
    where
      go : (b : Bool) → occurs k n l ≡ b → not b ≡ true
      go true e = absurd (h ((occurs_is k n l).0 e))
      go false e = refl

  there : (k : Kind) (n : ℕ) → Has k n l → not (occurs k n l) ≡ false
  there k n h = ap not ((occurs_is k n l).1 h)

  -- the test of the code is the decision of the definition
  pub lacks_is : (r : Raw) (d : Dec (Lacks l r)) {A : Type 0} (x y : A) → cond (unknown_lexeme l (lexeme_of r)) x y ≡ ite d x y
  lacks_is (raw_con r) (yes h) x y = absurd h
  lacks_is (raw_con r) (no n) x y = refl
  lacks_is (raw_var k ds) d {A} x y = go (dec_lt largest_number (value ds)) d
    where
      go : Dec (largest_number < value ds) → (d : Dec (Has k (value ds) l → ⊥))
          → cond (cond (ltb largest_number (capped (value ds))) true (not (occurs (kind_of (kind_from k)) (capped (value ds)) l))) x y ≡ ite d x y
      go (yes h) (yes n) = rw (lt-ltb largest_number (capped (value ds)) (omega arith))
      go (yes h) (no n) = absurd (n (λ has. let s = small k (value ds) has in omega arith))
      go (no h) (yes n) =
          let c : capped (value ds) ≡ value ds = omega arith in
          rw (c, kind_of_from k, le-ltb largest_number (value ds) (omega arith), absent k (value ds) n)
      go (no h) (no n) =
          let c : capped (value ds) ≡ value ds = omega arith in
          rw (c, kind_of_from k, le-ltb largest_number (value ds) (omega arith)) (known (occurs k (value ds) l) refl)
        where
          known : (b : Bool) → occurs k (value ds) l ≡ b → cond (not (occurs k (value ds) l)) x y ≡ y
          known true e = rw e
          known false e = absurd (n (λ has. false≢true (sym e ∙ (occurs_is k (value ds) l).1 has)))
  lacks_is raw_empty (yes h) x y = absurd h
  lacks_is raw_empty (no n) x y = refl

  first_is : (ms b : List Token)
      → unknown_at l ms ≡ map place_of_token (leftmost (λ b (m : Token). Lacks l m.raw) (λ b (m : Token). lacks? l m.raw) b ms)
  first_is [] b = refl
  first_is (m ∷ ms) b = lacks_is m.raw (lacks? l m.raw) (some m.place) (unknown_at l ms) ∙ go (lacks? l m.raw) _ (first_is ms (b ++ m ∷ []))
    where
      go : (d : Dec (Lacks l m.raw)) (rest : Option Token) → unknown_at l ms ≡ map place_of_token rest
          → ite d (some m.place) (unknown_at l ms) ≡ map place_of_token (ite d (some m) rest)
      go (yes h) rest e = refl
      go (no n) rest e = e

  -- THE FIRST VARIABLE THAT l LACKS
  pub unknown_is : (y : List (List Raw)) → unknown_at l (tokens y) ≡ lacking_at l y
  unknown_is y = first_is (tokens y) []
