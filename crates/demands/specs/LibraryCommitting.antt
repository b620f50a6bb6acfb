-- What follows from the promises of the static library's ask and commit: document 02's sentences of E5, of whatever two texts.
use Rattle.std.specs.Prelude.{◌≡◌, ◌↔◌, ◌⊎◌, ◌≢◌, List, ℕ, ◌≤◌, ◌<◌, length}
use Rattle.std.proofs.Common.{sym, ◌∙◌, ap, subst, inl, inr, arith}
use Rattle.std.proofs.Math.Option.{some}
use Rattle.text_grammar.specs.Told.{Told}
use Rattle.text_grammar.specs.Read.{Reason, refused, accepted}
use Rattle.text_grammar.specs.rules.Read.{OurRule, read_rule}
use Rattle.text_read.specs.Answers.{left_said}
use Rattle.overlap_spec.specs.Overlaps.{overlap_text}
use Rattle.overlap_counts.specs.declared.Counts.{Counts}
use Rattle.overlap_counts.specs.Answers.{no_counts, commit_told}
use Rattle.overlap_counts.proofs.Answers.{told_fresh, told_stale, thirteen_iff, eight_iff, leaves_fresh, leaves_stale, leaves_small}
use Rattle.overlap_list.specs.asking.Answers.{counts_of}
use Rattle.yopobrush.specs.declared.Asking.{Asking}
use Rattle.yopobrush.specs.declared.Listing.{Listing}
use Rattle.yopobrush.specs.Answers.{reading_of, LibraryLists}
use Rattle.yopobrush.specs.Asks.{counts_said, listing_told, LibraryAsks, LibraryCommits}
use Rattle.demands.specs.Committing.{AskedCounts, asked_counts, no_fields_left, no_fields_right}
use Rattle.demands.specs.Library.{LibraryShared, numbered_iff, library_demand_3}

-- ---- the ask

pub record LibraryAsking (t u : List ℕ) (r : Asking) : Type 0 where
  pub left : r.left ≡ reading_of (read_rule t)
  pub right : r.right ≡ reading_of (read_rule u)
  -- "The two counts are those of the definition's list"
  pub counts : AskedCounts (left_said (read_rule t)) (left_said (read_rule u)) (record { entries = r.entries; bytes = r.bytes })
  -- the rule with no fields, which a text that is refused says, has the counts 0 and 0
  pub left_none : (s : Reason) (p : ℕ) → read_rule t ≡ refused s p → (r.entries ≡ 0) × (r.bytes ≡ 0)
  pub right_none : (s : Reason) (p : ℕ) → read_rule u ≡ refused s p → (r.entries ≡ 0) × (r.bytes ≡ 0)

module _ {t u : List ℕ} {r : Asking} (is : LibraryAsks t u r) where
  counts_are : record { entries = r.entries; bytes = r.bytes } ≡ counts_said (read_rule t) (read_rule u)
  counts_are = ap (λ (a : Asking). record { entries = a.entries; bytes = a.bytes }) is.answer

  zero_both : counts_said (read_rule t) (read_rule u) ≡ no_counts → (r.entries ≡ 0) × (r.bytes ≡ 0)
  zero_both e = let q = counts_are ∙ e in (ap (λ (c : Counts). c.entries) q, ap (λ (c : Counts). c.bytes) q)

  pub library_asking : LibraryAsking t u r
  library_asking =
      record {
        left = ap (λ (a : Asking). a.left) is.answer;
        right = ap (λ (a : Asking). a.right) is.answer;
        counts =
            asked_counts (left_said (read_rule t)) (left_said (read_rule u)) (record { entries = r.entries; bytes = r.bytes }) counts_are;
        left_none = λ s p e. zero_both (no_fields_left (left_said (read_rule t)) (left_said (read_rule u)) (ap left_said e));
        right_none = λ s p e. zero_both (no_fields_right (left_said (read_rule t)) (left_said (read_rule u)) (ap left_said e));
      }

-- ---- the commit

pub record LibraryCommitting (asked : Counts) (t u old : List ℕ) (r : Listing) (new : List ℕ) : Type 0 where
  -- DEMAND 3, as of the old call: "the counts that the ask returned for its rules and the buffer's room for the list, and no others"
  pub shared : (x y : OurRule) → read_rule t ≡ accepted x → read_rule u ≡ accepted y → asked ≡ counts_of x.0 y.0
      → asked.bytes ≤ length old → LibraryShared ℕ x.0 y.0 old r new
  -- "Ask then commit on the same rules leaves the bytes that the old call left", and answers the same
  pub old_call : asked ≡ counts_said (read_rule t) (read_rule u)
      → {s : Listing} {out : List ℕ} → LibraryLists t u old s out → (r ≡ s) × (new ≡ out)
  -- "Refusal 13 is a commit whose counts aren't those of its rules, tried before 8; it returns both counts as 0"
  pub thirteen_only : (r.refusal ≡ 13) ↔ (asked ≢ counts_said (read_rule t) (read_rule u))
  pub thirteen_zero : r.refusal ≡ 13 → (r.entries ≡ 0) × (r.bytes ≡ 0)
  pub eight_only : (r.refusal ≡ 8)
      ↔ ((asked ≡ counts_said (read_rule t) (read_rule u)) × (length old < (counts_said (read_rule t) (read_rule u)).bytes))
  -- "and leaves the buffer's old bytes"; so does 8
  pub refused_old : (r.refusal ≡ 13) ⊎ (r.refusal ≡ 8) → new ≡ old

module _ {asked : Counts} {t u old : List ℕ} {r : Listing} {new : List ℕ} (is : LibraryCommits asked t u old r new) where
  abbrev said : Counts
  said = counts_said (read_rule t) (read_rule u)

  abbrev answered : Told → Listing
  answered a = listing_told (reading_of (read_rule t)) (reading_of (read_rule u)) a

  abbrev text : List ℕ
  text = overlap_text (left_said (read_rule t)) (left_said (read_rule u))

  -- with the list's own counts: what the old call promises
  fresh : asked ≡ said → LibraryLists t u old r new
  fresh e =
      record {
        answer = is.answer ∙ ap answered (told_fresh asked said (length old) e);
        bytes = is.bytes ∙ leaves_fresh asked said text old e;
      }

  -- with others: 13, both counts 0, the old bytes
  stale : asked ≢ said
      → (r ≡ record { left = reading_of (read_rule t); right = reading_of (read_rule u); refusal = 13; entries = 0; bytes = 0 }) × (new ≡ old)
  stale n = (is.answer ∙ ap answered (told_stale asked said (length old) n), is.bytes ∙ leaves_stale asked said text old n)

  -- a refusal is told by its number
  by_number : {A : Type 0} (n : ℕ) → 0 < n → ((commit_told asked said (length old)).number ≡ some n) ↔ A → (r.refusal ≡ n) ↔ A
  by_number n h iff =
      let told = numbered_iff (commit_told asked said (length old)).number n h in
      let number_is = ap (λ (a : Listing). a.refusal) is.answer in
      (λ e. iff.0 (told.0 (sym number_is ∙ e)), λ a. number_is ∙ told.1 (iff.1 a))

  thirteen : (r.refusal ≡ 13) ↔ (asked ≢ said)
  thirteen = by_number 13 (omega arith) (thirteen_iff asked said (length old))

  eight : (r.refusal ≡ 8) ↔ ((asked ≡ said) × (length old < said.bytes))
  eight = by_number 8 (omega arith) (eight_iff asked said (length old))

  pub library_committing : LibraryCommitting asked t u old r new
  library_committing =
      record {
        shared = with_room;
        old_call = λ e l. ((fresh e).answer ∙ sym l.answer, (fresh e).bytes ∙ sym l.bytes);
        thirteen_only = thirteen;
        thirteen_zero = λ q. let e = (stale (thirteen.0 q)).0 in (ap (λ (a : Listing). a.entries) e, ap (λ (a : Listing). a.bytes) e);
        eight_only = eight;
        refused_old = old_left;
      }
    where
      with_room : (x y : OurRule) → read_rule t ≡ accepted x → read_rule u ≡ accepted y → asked ≡ counts_of x.0 y.0
          → asked.bytes ≤ length old → LibraryShared ℕ x.0 y.0 old r new
      with_room x y reads-t reads-u same room =
          let e : asked ≡ said = same ∙ sym (rw (reads-t, reads-u)) in
          library_demand_3 (fresh e) ℕ x y reads-t reads-u (subst (λ (c : Counts). c.bytes ≤ length old) same room)

      old_left : (r.refusal ≡ 13) ⊎ (r.refusal ≡ 8) → new ≡ old
      old_left (inl q) = (stale (thirteen.0 q)).1
      old_left (inr q) = let h = eight.0 q in is.bytes ∙ leaves_small asked said text old h.0 h.1
