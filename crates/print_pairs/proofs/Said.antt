-- What is said of a line by its two parts. Assumes nothing.
use mathlib.Core.Path.{◌≡◌, sym, ap, ap₂, ◌∙◌}
use mathlib.Core.Bool.{Bool, cond}
use mathlib.Core.List.{List, ◌++◌}
use Prim.Native.Nat.{ℕ, suc, ◌+◌, ◌-◌, ◌≤◌, min}
use borrow.Author.Tests.{le-ltb}
use lib.ListN.{length, take, drop}
use Rattle.print_parts.proofs.Lines.{behind_tab}
use Rattle.base_bytes.specs.Bytes.{index_of}
use Rattle.base_limits.specs.Limits.{most_list_bytes, pair_line}
use Rattle.text_grammar.specs.Ascii.{ascii, newline}
use Rattle.text_grammar.specs.rules.Read.{read_rule}
use Rattle.print_pairs.specs.overlaps.Texts.{read_text, texts_in}
use Rattle.print_pairs.proofs.overlaps.Said.{in_room}
use Rattle.print_pairs.specs.Pairs.{left_part, right_part, line_text}

module _ (t : List ℕ) (tab rest : ℕ) (is-tab : tab ≡ index_of 9 t) (is-rest : rest ≡ min (tab + 1) (length t)) where
  -- what is lent from the place behind the tab on
  right_part_lem : take (length t - rest) (drop rest t) ≡ right_part t
  right_part_lem = behind_tab t tab rest is-rest ∙ ap (λ (i : ℕ). drop (suc i) t) is-tab

  -- put where k bytes are left
  pub line_said : (k : ℕ) → length t ≤ pair_line → most_list_bytes ≤ k
      → line_text t ≡ texts_in k (read_rule (take tab t)) (read_rule (take (length t - rest) (drop rest t)))
  unfolding line_text
  line_said k h room =
      ap (λ (b : Bool). cond b (ascii "line too long" ++ newline) (read_text (read_rule (left_part t)) (read_rule (right_part t)))) (le-ltb pair_line (length t) h)
      ∙ ap₂ (λ (a b : List ℕ). read_text (read_rule a) (read_rule b)) (ap (λ (i : ℕ). take i t) (sym is-tab)) (sym right_part_lem)
      ∙ sym (in_room k (read_rule (take tab t)) (read_rule (take (length t - rest) (drop rest t))) room)
