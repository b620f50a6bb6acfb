-- What is said of the next line of a book, by the room and by how it is read. Assumes nothing.
use mathlib.Core.Path.{◌≡◌, refl, sym, ◌∙◌, ap}
use mathlib.Core.Bool.{Bool, cond}
use mathlib.Core.List.{List}
use Prim.Native.Nat.{ℕ, ◌≤◌, ◌<◌}
use lib.ListN.{length}
use borrow.Author.Tests.{le-leb, lt-leb}
use Rattle.base_limits.specs.Limits.{longest_rule}
use Rattle.text_grammar.specs.Read.{OutcomeOf, refused, accepted}
use Rattle.text_grammar.specs.rules.Read.{OurRule, read_rule}
use Rattle.text_grammar.proofs.rules.Accepted.{rule_bytes}
use Rattle.text_refusals.specs.declared.verdicts.Reason as values
use Rattle.std.specs.Prelude.{Ok, Err}
use Rattle.text_refusals.specs.verdicts.Verdicts.{Verdict, Accepted, Refused}
use Rattle.text_refusals.specs.verdicts.Verdicts.{verdict_of}
use Rattle.text_read.specs.declared.LeftJudged.{LeftJudged}
use Rattle.text_read.specs.Answers.{JudgesLeft}
use Rattle.text_read.proofs.Judged.{judged_accepted}
use Rattle.book_rules.specs.declared.texts.Kept.{Kept}
use Rattle.book_rules.specs.declared.texts.Added.{Added}
use Rattle.book_rules.specs.declared.texts.Added.TheVariants as line
use Rattle.book_rules.specs.texts.Keeping.{room_for, Keeps, added_by, added_as, AddsLine}

-- the verdict of a line, as what is said of it
abbrev added_at : Verdict → Added
added_at (Ok u) = line.Taken
added_at (Err e) = line.Refused e.reason e.place

added_is : (o : OutcomeOf OurRule) → added_at (verdict_of o) ≡ added_by o
added_is (refused r p) = refl
added_is (accepted x) = refl

module _ (kept : Kept) (text old : List ℕ) where
  pub full_adds : room_for (length old) ≤ kept.n → AddsLine kept text old (record { added = line.Full; kept = kept }) old
  full_adds h =
      record {
        added = sym (ap (λ (b : Bool). cond b line.Full (added_by (read_rule text))) (le-leb (room_for (length old)) kept.n h));
        keeps = refl;
        bytes = refl;
      }

  module _ (room : kept.n < room_for (length old)) (l : LeftJudged) (is-l : JudgesLeft text l) where
    by_verdict : added_at l.verdict ≡ added_as kept.n (room_for (length old)) (read_rule text)
    by_verdict =
        ap added_at is-l.verdict
        ∙ added_is (read_rule text)
        ∙ sym (ap (λ (b : Bool). cond b line.Full (added_by (read_rule text))) (lt-leb (room_for (length old)) kept.n room))

    pub taken_short : l.verdict ≡ Accepted → length text ≤ longest_rule
    taken_short e = let x = judged_accepted text l is-l e in rule_bytes text x.0 x.1

    pub taken_adds : l.verdict ≡ Accepted → (k : Kept) (new : List ℕ) → Keeps kept text old k new
        → AddsLine kept text old (record { added = line.Taken; kept = k }) new
    taken_adds e k new h = record { added = sym (ap added_at e) ∙ by_verdict; keeps = h.0; bytes = h.1 }

    pub refused_adds : (q : values.Reason) (p : ℕ) → l.verdict ≡ Refused q p
        → AddsLine kept text old (record { added = line.Refused q p; kept = kept }) old
    refused_adds q p e = record { added = sym (ap added_at e) ∙ by_verdict; keeps = refl; bytes = refl }
