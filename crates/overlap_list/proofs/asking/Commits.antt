-- A commit by the counts that were measured: each answer, and the lent bytes by it. Assumes nothing.
use mathlib.Core.Path.{◌≡◌, sym, ap, ap₂, ◌∙◌}
use mathlib.Core.List.{List}
use Prim.Native.Nat.{ℕ}
use native.Mathlib.Omega.{arith}
use lib.ListN.{length}
use lib.Seq.{sets}
use Rattle.text_write.specs.pieces.Stored.{bytes_of}
use Rattle.overlap_counts.specs.declared.Counts.{Counts}
use Rattle.std.specs.Prelude.{Ok}
use Rattle.overlap_counts.specs.Answers.{Committed, told, commit_told}
use Rattle.overlap_counts.proofs.Answers.{fits_iff, told_fresh, leaves_fresh}
use Rattle.text_grammar.specs.Told.{Told}
use Rattle.overlap_counts.specs.Answers.{no_counts}
use Rattle.overlap_list.specs.Listing.{tallied}
use Rattle.overlap_list.specs.asking.Answers.{line_counts, CommitsLines}
use Rattle.overlap_list.proofs.Counts.{counted_all, room_enough}

-- the lines were measured, which left the bytes as they were, and `a` is answered by the counts
module _ (ls : List (List ℕ)) (old now : List ℕ) (same : now ≡ old) (asked c : Counts) (is_c : c ≡ tallied no_counts ls) (a : Committed)
    (is-a : told a ≡ commit_told asked c (length now)) where
  abbrev lent : ℕ
  lent = length old

  answer_is : told a ≡ commit_told asked (line_counts ls) lent
  answer_is = is-a ∙ ap₂ (commit_told asked) (counted_all ls c is_c) (ap length same)

  number_is : {r : Committed} → a ≡ r → (commit_told asked (line_counts ls) lent).number ≡ (told r).number
  number_is e = sym (ap (λ (t : Told). t.number) answer_is) ∙ ap (λ (r : Committed). (told r).number) e

  -- and they were written
  pub lines_written : {n : Counts} → a ≡ Ok n → (u : Counts) → u ≡ tallied no_counts ls → {new : List ℕ} → new ≡ sets now 0 (bytes_of ls)
      → CommitsLines asked ls old (Ok u) new
  lines_written e u is_u is-new =
      let h = (fits_iff asked (line_counts ls) lent).0 (number_is e) in
      let size = ap (λ (x : Counts). x.bytes) (counted_all ls u is_u) in
      let put = room_enough ls old u is_u (omega (arith, h.1, size)) (is-new ∙ ap (λ (l : List ℕ). sets l 0 (bytes_of ls)) same) in
      record {
        answer = put.answer ∙ sym (told_fresh asked (line_counts ls) lent h.0);
        bytes = put.bytes ∙ sym (leaves_fresh asked (line_counts ls) (bytes_of ls) old h.0);
      }
