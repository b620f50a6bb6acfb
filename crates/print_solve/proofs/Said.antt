-- What is said of a line, part by part. Assumes nothing.
use mathlib.Core.Path.{◌≡◌, sym, ap, ap₂, ◌∙◌}
use mathlib.Core.Bool.{Bool, cond}
use mathlib.Core.List.{List, ◌++◌}
use Prim.Native.Nat.{ℕ, suc, ◌+◌, ◌-◌, ◌≤◌, ◌<◌, min}
use native.Mathlib.Omega.{arith}
use borrow.Author.Tests.{lt-ltb, le-ltb}
use lib.ListN.{length, take, drop, length-drop}
use lib.Seq.{length-take-le}
use Rattle.base_bytes.specs.Bytes.{index_of}
use Rattle.search_row.specs.own.Sizes.{most_records}
use Rattle.text_grammar.specs.Ascii.{ascii, newline}
use Rattle.text_grammar.specs.Terms.{OurFields}
use Rattle.text_grammar.specs.rules.Read.{read_rule}
use Rattle.print_parts.specs.sizes.Sizes.{size_of}
use Rattle.print_solve.specs.search.Found.{most_bytes}
use Rattle.print_parts.proofs.Lines.{behind_tab}
use Rattle.print_solve.specs.Solve.{longest_line, part, behind, field_in, search_text, line_text}
use Rattle.print_solve.specs.Values.{sizes_text, right_text}

module _ (t : List ℕ) (tab rest : ℕ) (is-tab : tab ≡ index_of 9 t) (is-rest : rest ≡ min (tab + 1) (length t)) where
  -- what is lent up to the tab, and from the place behind it on
  abbrev here : List ℕ
  here = take tab t

  abbrev there : List ℕ
  there = take (length t - rest) (drop rest t)

  here_is : here ≡ part t
  here_is = ap (λ (i : ℕ). take i t) is-tab

  there_is : there ≡ behind t
  there_is = behind_tab t tab rest is-rest ∙ ap (λ (i : ℕ). drop (suc i) t) is-tab

  there_long : length there ≡ length t - rest
  there_long = length-take-le (length t - rest) (drop rest t) (omega (arith, length-drop rest t))

  -- whether a tab stands there
  module _ (left right : OurFields) (k : ℕ) (is-k : k ≡ index_of 9 there) where
    pub tab_there : k < length t - rest → sizes_text left right t ≡ ascii "bad line" ++ newline
    tab_there h = rw (sym there_is) (rw (lt-ltb (index_of 9 there) (length there) (omega (arith, there_long))))

    pub no_tab_there : length t - rest ≤ k → sizes_text left right t ≡ search_text left right (size_of most_records here) (size_of most_bytes there)
    no_tab_there h = rw (sym there_is, sym here_is) (rw (le-ltb (index_of 9 there) (length there) (omega (arith, there_long))))

  pub right_said : (left : OurFields) {right : OurFields} → right ≡ field_in (read_rule here) → right_text left t ≡ sizes_text left right there
  right_said left e = sym (ap₂ (sizes_text left) (e ∙ ap (λ (u : List ℕ). field_in (read_rule u)) here_is) there_is)

  pub line_said : {left : OurFields} → left ≡ field_in (read_rule here) → length t ≤ longest_line → line_text t ≡ right_text left there
  unfolding line_text
  line_said e h =
      ap (λ (b : Bool). cond b (ascii "line too long" ++ newline) (right_text (field_in (read_rule (part t))) (behind t))) (le-ltb longest_line (length t) h)
      ∙ sym (ap₂ right_text (e ∙ ap (λ (u : List ℕ). field_in (read_rule u)) here_is) there_is)
