-- What is said of two texts, from what the lister answers of them and leaves in the part of the room that is lent to it. Assumes nothing.
use mathlib.Core.Path.{◌≡◌, sym, ◌∙◌, subst}
use mathlib.Core.List.{List, ◌++◌}
use Prim.Native.Nat.{ℕ, ◌+◌, ◌≤◌, ◌<◌}
use native.Mathlib.Omega.{arith}
use lib.ListN.{length, take, drop}
use Rattle.base_limits.specs.Limits.{most_list_bytes}
use Rattle.text_grammar.specs.Ascii.{ascii, newline}
use Rattle.text_grammar.specs.Numbers.{digits_of}
use Rattle.text_grammar.specs.Read.{OutcomeOf}
use Rattle.text_grammar.specs.rules.Read.{OurRule, read_rule}
use Rattle.text_refusals.specs.declared.verdicts.Reason.{Reason}
use Rattle.text_refusals.specs.verdicts.Verdicts.{Accepted, Refused}
use Rattle.text_refusals.specs.verdicts.Verdicts.{number_of}
use Rattle.text_read.specs.Answers.{left_said}
use Rattle.std.specs.Prelude.{Ok, Err}
use Rattle.overlap_counts.specs.declared.Counts.{Counts}
use Rattle.overlap_list.specs.declared.TextsListed.{TextsListed}
use Rattle.overlap_list.specs.Answers.{TextsList}
use Rattle.text_write.specs.pieces.Placed.{Placed}
use Rattle.text_write.specs.pieces.Refusals.{number_at}
use Rattle.text_write.proofs.pieces.Bounds.{Piece, piece_as}
use Rattle.print_pairs.specs.overlaps.Texts.{read_text}
use Rattle.print_pairs.proofs.overlaps.Lists.{room_with, none_put, list_in, list_put, list_refused}
use Rattle.print_pairs.proofs.overlaps.Said.{left_said_lem, right_said, both_said, no_lines_left, no_lines_right}
use Rattle.print_pairs.proofs.overlaps.Values.{refusal_short}

module _ (s u : List ℕ) (old : List ℕ) (at n : ℕ) (is_n : n ≡ most_list_bytes) (room : at + most_list_bytes ≤ length old) where
  abbrev o : OutcomeOf OurRule
  o = read_rule s

  abbrev p : OutcomeOf OurRule
  p = read_rule u

  -- the bytes that are lent, and the whole room with m in their place
  abbrev part : List ℕ
  part = take n (drop at old)

  abbrev whole : List ℕ → List ℕ
  whole m = room_with (left_said o) (left_said p) old at n is_n room m

  module _ {t : TextsListed} {m : List ℕ} (is : TextsList s u part t m) where
    module _ (r : Reason) (i : ℕ) (small : i < 18446744073709551616) {e : ℕ} {new : List ℕ} where
      pub left_refused : t.left ≡ Refused r i
          → Placed (ascii "refused left " ++ number_at (number_of r) i ++ newline) at (whole m) e new → Piece most_list_bytes (read_text o p) at old e new
      left_refused h q =
          let v = sym is.left ∙ h in
          let text = ascii "refused left " ++ number_at (number_of r) i ++ newline in
          let untouched = none_put (left_said o) (left_said p) old at n is_n room is.listed.bytes (no_lines_left o p r i v) in
          let there = subst (λ (l : List ℕ). Placed text at l e new) untouched q in
          piece_as most_list_bytes at old (left_said_lem o p r i v) (there, refusal_short (ascii "refused left ") r i (omega arith) small)

      pub right_refused : t.left ≡ Accepted → t.right ≡ Refused r i
          → Placed (ascii "refused right " ++ number_at (number_of r) i ++ newline) at (whole m) e new → Piece most_list_bytes (read_text o p) at old e new
      right_refused a h q =
          let v = sym is.right ∙ h in
          let text = ascii "refused right " ++ number_at (number_of r) i ++ newline in
          let untouched = none_put (left_said o) (left_said p) old at n is_n room is.listed.bytes (no_lines_right o p r i v) in
          let there = subst (λ (l : List ℕ). Placed text at l e new) untouched q in
          piece_as most_list_bytes at old (right_said o p r i (sym is.left ∙ a) v) (there, refusal_short (ascii "refused right ") r i (omega arith) small)

    pub texts_in_lem : (k : Counts) → t.listed ≡ Ok k → at + k.bytes ≤ length old
    texts_in_lem k h = list_in (left_said o) (left_said p) old at n is_n room is.listed k h

    module _ (a : t.left ≡ Accepted) (c : t.right ≡ Accepted) (k : Counts) where
      pub texts_put : t.listed ≡ Ok k → Piece most_list_bytes (read_text o p) at old (at + k.bytes) (whole m)
      texts_put h =
          piece_as most_list_bytes at old (both_said o p (sym is.left ∙ a) (sym is.right ∙ c))
          (list_put (left_said o) (left_said p) old at n is_n room is.listed k h)

      pub texts_long : t.listed ≡ Err (record { counts = k }) → k.bytes < 18446744073709551616 → {e : ℕ} {new : List ℕ}
          → Placed (ascii "too long " ++ digits_of k.bytes ++ newline) at (whole m) e new → Piece most_list_bytes (read_text o p) at old e new
      texts_long h small q =
          piece_as most_list_bytes at old (both_said o p (sym is.left ∙ a) (sym is.right ∙ c))
          (list_refused (left_said o) (left_said p) old at n is_n room is.listed k h small q)
