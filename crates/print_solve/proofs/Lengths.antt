-- How long an answer is, and that only the first bytes of a line matter. Assumes nothing.
use mathlib.Core.Path.{◌≡◌, sym, ap, ◌∙◌}
use mathlib.Core.List.{List, ◌++◌}
use Prim.Native.Nat.{ℕ, ◌<◌, ◌≤◌}
use native.Mathlib.Omega.{arith}
use native.Mathlib.Decide.{dec_lt}
use borrow.Author.Tests.{lt-ltb}
use lib.ListN.{length, take, length-append}
use lib.Seq.{length-take-le, take_all}
use Rattle.text_grammar.specs.Ascii.{ascii, newline}
use Rattle.text_grammar.specs.Numbers.{digits_of}
use Rattle.text_write.proofs.Digits.{digits_64}
use Rattle.print_solve.specs.search.Found.{longest_body}
use Rattle.print_solve.specs.Solve.{longest_line, line_text, title_text, longest_answer, solve_answer, longest_title}

pub title_short : (k : ℕ) → k < 18446744073709551616 → length (title_text k) ≤ longest_title
title_short k h = omega (arith, length-append (ascii "search " ++ digits_of k) newline, length-append (ascii "search ") (digits_of k), digits_64 k h)

pub answer_short : (k : ℕ) (t : List ℕ) → k < 18446744073709551616 → length (line_text t) ≤ longest_body → length (solve_answer k t) ≤ longest_answer
unfolding solve_answer
answer_short k t h l = omega (arith, length-append (title_text k) (line_text t), title_short k h)

-- ---- ONLY THE FIRST 8,205 BYTES of a line matter: a longer one is too long whatever it holds

pub line_long : (t : List ℕ) → longest_line < length t → line_text t ≡ ascii "line too long" ++ newline
unfolding line_text
line_long t h = rw (lt-ltb longest_line (length t) h)

pub cut_same : (n k : ℕ) (t : List ℕ) → longest_line < n → solve_answer k (take n t) ≡ solve_answer k t
unfolding solve_answer
cut_same n k t h = go (dec_lt n (length t))
  where
    go : Dec (n < length t) → solve_answer k (take n t) ≡ solve_answer k t
    go (yes l) =
        ap (λ (s : List ℕ). title_text k ++ s) (line_long (take n t) (omega (arith, length-take-le n t (omega arith))) ∙ sym (line_long t (omega arith)))
    go (no l) = ap (solve_answer k) (take_all n t (omega arith))
