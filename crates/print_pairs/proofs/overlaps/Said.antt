-- What is said of two texts by how each is read. Assumes nothing.
use mathlib.Core.Path.{◌≡◌, refl, sym, ap, ap₂, ◌∙◌}
use mathlib.Core.List.{[], ◌++◌}
use Prim.Native.Nat.{ℕ, ◌≤◌, ◌<◌}
use native.Mathlib.Omega.{arith}
use borrow.Author.Tests.{le-leb, lt-leb}
use Rattle.base_limits.specs.Limits.{most_list_bytes}
use Rattle.text_grammar.specs.Ascii.{ascii, newline}
use Rattle.text_grammar.specs.Read.{OutcomeOf, refused, accepted}
use Rattle.text_grammar.specs.rules.Read.{OurRule}
use Rattle.text_refusals.specs.declared.verdicts.Reason.{Reason}
use Rattle.text_refusals.specs.declared.verdicts.Refusal.{Refusal}
use Rattle.text_refusals.specs.verdicts.Verdicts.{Accepted, Refused}
use Rattle.text_refusals.specs.verdicts.Verdicts.{reason_from, number_of, verdict_of}
use Rattle.text_refusals.proofs.verdicts.Verdicts.{number_is}
use Rattle.overlap_spec.specs.Overlaps.{lines_of, overlap_text}
use Rattle.text_read.specs.Answers.{left_said}
use Rattle.overlap_spec.proofs.Exact.{no_right}
use Rattle.text_write.specs.pieces.Refusals.{number_at}
use Rattle.print_pairs.specs.overlaps.Texts.{listed_text, read_text, texts_in}

-- with as many bytes as it may have all is said
pub in_room : (k : ℕ) (o p : OutcomeOf OurRule) → most_list_bytes ≤ k → texts_in k o p ≡ read_text o p
in_room k o p h = rw (le-leb most_list_bytes k h)

pub no_room : (k : ℕ) (o p : OutcomeOf OurRule) → k < most_list_bytes → texts_in k o p ≡ []
no_room k o p h = rw (lt-leb most_list_bytes k h)

module _ (o p : OutcomeOf OurRule) where
  pub left_said_lem : (r : Reason) (i : ℕ) → verdict_of o ≡ Refused r i → read_text o p ≡ ascii "refused left " ++ number_at (number_of r) i ++ newline
  left_said_lem r i e = go o e
    where
      go : (q : OutcomeOf OurRule) → verdict_of q ≡ Refused r i → read_text q p ≡ ascii "refused left " ++ number_at (number_of r) i ++ newline
      go (refused s k) h =
          let same : record { reason = reason_from s; place = k } ≡ record { reason = r; place = i } = cc in
          let a = ap (λ (x : Refusal). number_of x.reason) same in
          let b = ap (λ (x : Refusal). x.place) same in
          ap₂ (λ (m n : ℕ). ascii "refused left " ++ number_at m n ++ newline) (sym (number_is s) ∙ a) b
      go (accepted x) h = let z : ◌≡◌ {A = ℕ} 0 1 = cc in absurd (omega arith)

  pub right_said : (r : Reason) (i : ℕ) → verdict_of o ≡ Accepted → verdict_of p ≡ Refused r i
      → read_text o p ≡ ascii "refused right " ++ number_at (number_of r) i ++ newline
  right_said r i e f = go o p e f
    where
      go : (q w : OutcomeOf OurRule) → verdict_of q ≡ Accepted → verdict_of w ≡ Refused r i
          → read_text q w ≡ ascii "refused right " ++ number_at (number_of r) i ++ newline
      go (refused s k) w g h = let z : ◌≡◌ {A = ℕ} 0 1 = cc in absurd (omega arith)
      go (accepted x) (accepted y) g h = let z : ◌≡◌ {A = ℕ} 0 1 = cc in absurd (omega arith)
      go (accepted x) (refused s k) g h =
          let same : record { reason = reason_from s; place = k } ≡ record { reason = r; place = i } = cc in
          let a = ap (λ (x : Refusal). number_of x.reason) same in
          let b = ap (λ (x : Refusal). x.place) same in
          ap₂ (λ (m n : ℕ). ascii "refused right " ++ number_at m n ++ newline) (sym (number_is s) ∙ a) b

  pub both_said : verdict_of o ≡ Accepted → verdict_of p ≡ Accepted → read_text o p ≡ listed_text (overlap_text (left_said o) (left_said p))
  both_said e f = go o p e f
    where
      go : (q w : OutcomeOf OurRule) → verdict_of q ≡ Accepted → verdict_of w ≡ Accepted → read_text q w ≡ listed_text (overlap_text (left_said q) (left_said w))
      go (refused s k) w g h = let z : ◌≡◌ {A = ℕ} 0 1 = cc in absurd (omega arith)
      go (accepted x) (refused s k) g h = let z : ◌≡◌ {A = ℕ} 0 1 = cc in absurd (omega arith)
      go (accepted x) (accepted y) g h = refl

  -- a text that is refused has no overlaps
  pub no_lines_left : (r : Reason) (i : ℕ) → verdict_of o ≡ Refused r i → lines_of (left_said o) (left_said p) ≡ []
  no_lines_left r i e = go o e
    where
      go : (q : OutcomeOf OurRule) → verdict_of q ≡ Refused r i → lines_of (left_said q) (left_said p) ≡ []
      go (refused s k) h = refl
      go (accepted x) h = let z : ◌≡◌ {A = ℕ} 0 1 = cc in absurd (omega arith)

  pub no_lines_right : (r : Reason) (i : ℕ) → verdict_of p ≡ Refused r i → lines_of (left_said o) (left_said p) ≡ []
  no_lines_right r i e = go p e
    where
      go : (q : OutcomeOf OurRule) → verdict_of q ≡ Refused r i → lines_of (left_said o) (left_said q) ≡ []
      go (refused s k) h = no_right (left_said o)
      go (accepted x) h = let z : ◌≡◌ {A = ℕ} 0 1 = cc in absurd (omega arith)
