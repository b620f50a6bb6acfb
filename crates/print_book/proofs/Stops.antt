-- What is said of a line that is refused: its pieces, and how long it is. Assumes nothing.
use mathlib.Core.Path.{◌≡◌, sym, ◌∙◌, ap}
use mathlib.Core.List.{List, [], ◌++◌}
use Prim.Native.Nat.{ℕ, ◌≤◌, ◌<◌}
use native.Mathlib.Omega.{arith}
use lib.ListN.{length, length-append}
use Rattle.text_grammar.specs.Ascii.{ascii, newline}
use Rattle.text_grammar.specs.Numbers.{digits_of}
use Rattle.text_refusals.specs.declared.verdicts.Reason.{Reason}
use Rattle.text_refusals.specs.verdicts.Verdicts.{number_of}
use Rattle.text_write.specs.pieces.Refusals.{number_at}
use Rattle.text_write.specs.pieces.Placed.{Placed}
use Rattle.text_write.proofs.pieces.Pieces.{placed_three}
use Rattle.text_write.proofs.Digits.{digits_64}
use Rattle.book_spec.specs.Reading.{book_full}
use Rattle.book_rules.specs.declared.texts.Added.{Added}
use Rattle.book_rules.specs.declared.texts.Added.TheVariants.{Taken, Refused, Full}
use Rattle.print_book.specs.Book.{stop_text, added_text, longest_stop}

pub stop_short : (k n p : ℕ) → k < 18446744073709551616 → n < 18446744073709551616 → p < 18446744073709551616 → length (stop_text k n p) ≤ longest_stop
stop_short k n p h i j =
    omega (
      arith,
      digits_64 k h,
      digits_64 n i,
      digits_64 p j,
      length-append (ascii "refused " ++ digits_of k ++ ascii " " ++ number_at n p) newline,
      length-append (ascii "refused " ++ digits_of k ++ ascii " ") (number_at n p),
      length-append (ascii "refused " ++ digits_of k) (ascii " "),
      length-append (ascii "refused ") (digits_of k),
      length-append (digits_of n ++ ascii " at ") (digits_of p),
      length-append (digits_of n) (ascii " at "),
    )

-- ---- by what is said of the line

module _ (k : ℕ) (a : Added) where
  pub taken_said : a ≡ Taken → added_text k a ≡ []
  taken_said e = ap (added_text k) e

  pub refused_said : (r : Reason) (p n : ℕ) → a ≡ Refused r p → n ≡ number_of r → added_text k a ≡ stop_text k n p
  refused_said r p n e is = ap (added_text k) e ∙ ap (λ (i : ℕ). stop_text k i p) (sym is)

  pub full_said : a ≡ Full → added_text k a ≡ stop_text k book_full 0
  full_said e = ap (added_text k) e
