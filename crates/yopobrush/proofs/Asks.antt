-- What is said of the values that asking and committing return is what is said of the texts. Assumes nothing.
use mathlib.Core.Path.{◌≡◌, ap, ap₂, ◌∙◌}
use mathlib.Core.List.{List}
use Prim.Native.Nat.{ℕ}
use Rattle.text_grammar.specs.rules.Read.{read_rule}
use Rattle.overlap_counts.specs.declared.Counts.{Counts}
use Rattle.overlap_list.specs.declared.asking.TextsAsked.{TextsAsked}
use Rattle.overlap_list.specs.declared.asking.TextsCommitted.{TextsCommitted}
use Rattle.overlap_list.specs.asking.Answers.{TextsAsk, TextsCommit}
use Rattle.yopobrush.specs.declared.Reading.{Reading}
use Rattle.yopobrush.specs.declared.Listing.{Listing}
use Rattle.yopobrush.specs.declared.Asking.{Asking}
use Rattle.yopobrush.specs.Answers.{reading_of}
use Rattle.yopobrush.specs.Values.{reading_by}
use Rattle.yopobrush.specs.Asks.{listing_told, LibraryAsks, LibraryCommits}
use Rattle.yopobrush.specs.AskValues.{asking_by, committing_by}
use Rattle.yopobrush.proofs.Said.{read_said}

-- how each text is read, and the counts of the list of what they say
pub texts_asked : (t u : List ℕ) {said : TextsAsked} (a b : Reading) (answer : Asking)
    → TextsAsk t u said
    → a ≡ reading_by said.left
    → b ≡ reading_by said.right
    → answer ≡ asking_by a b said.counts
    → LibraryAsks t u answer
texts_asked t u {said} a b answer is is-a is_b is_answer =
    record {
      answer = is_answer
          ∙ ap₂ (λ (x y : Reading). asking_by x y said.counts) (read_said t is.left is-a) (read_said u is.right is_b)
          ∙ ap (asking_by (reading_of (read_rule t)) (reading_of (read_rule u))) is.counts;
    }

-- how each text is read, and the answer to a commit of what they say
pub texts_committed : (asked : Counts) (t u : List ℕ) {old : List ℕ} {said : TextsCommitted} {new : List ℕ} (a b : Reading) (answer : Listing)
    → TextsCommit asked t u old said new
    → a ≡ reading_by said.left
    → b ≡ reading_by said.right
    → answer ≡ committing_by a b said.committed
    → LibraryCommits asked t u old answer new
texts_committed asked t u {said = said} a b answer is is-a is_b is_answer =
    record {
      answer = is_answer
          ∙ ap₂ (λ (x y : Reading). committing_by x y said.committed) (read_said t is.left is-a) (read_said u is.right is_b)
          ∙ ap (listing_told (reading_of (read_rule t)) (reading_of (read_rule u))) is.committed.answer;
      bytes = is.committed.bytes;
    }
