-- What `book` prints is the answer to its lines: all of them are taken, and the pairs are those of their rules; or one is refused,
-- and whatever is behind it is not read. Assumes nothing.
use mathlib.Core.Path.{◌≡◌, refl, sym, ◌∙◌, ap, ap₂, subst, subst₂}
use mathlib.Core.Bool.{Bool, cond}
use mathlib.Core.Option.{some}
use mathlib.Core.List.{List, [], ◌∷◌, ◌++◌, map, append_assoc, append-nil}
use Prim.Native.Nat.{ℕ, suc, ◌+◌, ◌*◌, ◌≤◌, ◌<◌}
use native.Mathlib.Omega.{arith}
use native.Mathlib.Decide.{dec_lt}
use lib.Dec.{ltb}
use lib.ListN.{length, take}
use lib.Seq.{sets, length-take-le, take_all}
use borrow.Author.Tests.{le-leb, lt-leb}
use Rattle.base_limits.specs.Limits.{most_rules, most_rule_bytes, longest_rule}
use Rattle.text_grammar.specs.Told.{Told}
use Rattle.text_grammar.specs.Read.{number, OutcomeOf, refused, accepted}
use Rattle.text_grammar.specs.rules.Read.{OurRule, read_rule}
use Rattle.text_grammar.proofs.rules.Read.{long_rule}
use Rattle.text_grammar.proofs.rules.Accepted.{rule_bytes}
use Rattle.text_refusals.proofs.verdicts.Verdicts.{number_is}
use Rattle.text_read.specs.Answers.{left_said}
use Rattle.book_spec.specs.Books.{Book, book_text}
use Rattle.book_spec.specs.Reading.{BookRead, stopped, rules, book_full, with_rule, line_read, read_from, book_of}
use Rattle.book_rules.specs.declared.texts.Kept.{Kept}
use Rattle.book_rules.specs.declared.texts.Added.{Added}
use Rattle.book_rules.specs.declared.texts.Added.TheVariants as line
use Rattle.book_rules.specs.declared.texts.Adding.{Adding}
use Rattle.book_rules.specs.texts.Keeping.{book_bytes, no_texts, room_for, book_in, kept_more, kept_by, row_by, told, added_by, added_as, AddsLine}
use Rattle.book_spec.proofs.Reading.{in_room, no_room, one_accepted}
use Rattle.book_rules.proofs.texts.Keeping.{Stands, stands_none, stands_more}
use Rattle.print_book.specs.Book.{stop_text, answer_to, book_answer, refusal_text, added_text}
use Rattle.print_book.specs.Runs.{Takes}

-- ---- a line that is taken is a rule behind those before it; one that is not, stops the reading

-- what it says that a line is taken, and that it is not
module _ (n : ℕ) (o : OutcomeOf OurRule) where
  room_left : n < most_rules → added_as n most_rules o ≡ added_by o
  room_left h = ap (λ (b : Bool). cond b line.Full (added_by o)) (lt-leb most_rules n h)

  is_full : most_rules ≤ n → added_as n most_rules o ≡ line.Full
  is_full h = ap (λ (b : Bool). cond b line.Full (added_by o)) (le-leb most_rules n h)

  taken_of : added_as n most_rules o ≡ line.Taken → (n < most_rules) × ((x : OurRule) × (o ≡ accepted x))
  taken_of e = go (dec_lt n most_rules)
    where
      by_reading : (p : OutcomeOf OurRule) → added_by p ≡ line.Taken → (x : OurRule) × (p ≡ accepted x)
      by_reading (refused r q) e = let z : ◌≡◌ {A = ℕ} 0 1 = cc in absurd (omega arith)
      by_reading (accepted x) e = (x, refl)

      go : Dec (n < most_rules) → (n < most_rules) × ((x : OurRule) × (o ≡ accepted x))
      go (yes h) = (h, by_reading o (sym (room_left h) ∙ e))
      go (no h) =
          let f : line.Full ≡ line.Taken = sym (is_full (omega (arith, h))) ∙ e in
          let z : ◌≡◌ {A = ℕ} 0 1 = cc in
          absurd (omega arith)

module _ {n : ℕ} {B : Book} {kept : Kept} {row : List ℕ} (S : Stands n B kept row) (t : List ℕ) (a : Adding) (m : List ℕ) (adds : AddsLine kept t row a m)
  where
    said : a.added ≡ added_as n most_rules (read_rule t)
    said = adds.added ∙ ap₂ (λ (k r : ℕ). added_as k r (read_rule t)) S.count (ap room_for S.bytes)

    taken_stands : a.added ≡ line.Taken → (x : OurRule) × (read_rule t ≡ accepted x) × (n < most_rules) × Stands (suc n) (B ++ (x.0 ∷ [])) a.kept m
    taken_stands e =
        let w = taken_of n (read_rule t) (sym said ∙ e) in
        let x = w.1.0 in
        let is : read_rule t ≡ accepted x = w.1.1 in
        let k : a.kept ≡ kept_more kept t = adds.keeps ∙ ap (λ (y : Added). kept_by y kept t) e in
        let r : m ≡ sets row (kept.n * longest_rule) t = adds.bytes ∙ ap (λ (y : Added). row_by y kept t row) e in
        let s : n + 1 ≡ suc n = omega arith in (
          x,
          is,
          w.0,
          subst (λ (i : ℕ). Stands i (B ++ (x.0 ∷ [])) a.kept m) s
              (stands_more S w.0 t x.0 a.kept m (rule_bytes t x is) (ap left_said is) (k, r)),
        )

    -- where it is not taken it stops the reading, whatever lines are behind it
    stops : (a.added ≡ line.Taken → ⊥) → (us : List (List ℕ))
        → (N P : ℕ) × (told a.added ≡ record { number = some N; values = P ∷ [] }) × (read_from n (t ∷ us) ≡ stopped (suc n) N P)
    stops not_taken us = go (dec_lt n most_rules)
      where
        rest : BookRead
        rest = read_from (suc n) us

        by_reading : n < most_rules → (o : OutcomeOf OurRule) → read_rule t ≡ o → (added_by o ≡ line.Taken → ⊥)
            → (N P : ℕ) × (told (added_by o) ≡ record { number = some N; values = P ∷ [] }) × (line_read (suc n) o rest ≡ stopped (suc n) N P)
        by_reading h (refused r p) e k = (number r, p, ap (λ (i : ℕ). record { number = some i; values = p ∷ [] }) (number_is r), refl)
        by_reading h (accepted x) e k = absurd (k refl)

        go : Dec (n < most_rules) → (N P : ℕ) × (told a.added ≡ record { number = some N; values = P ∷ [] }) × (read_from n (t ∷ us) ≡ stopped (suc n) N P)
        go (yes h) =
            let added = said ∙ room_left n (read_rule t) h in
            let w = by_reading h (read_rule t) refl (λ e. not_taken (added ∙ e)) in (
              w.0,
              w.1,
              ap told added ∙ w.2,
              in_room n t us h ∙ w.3,
            )
        go (no h) = (
          book_full,
          0,
          ap told (said ∙ is_full n (read_rule t) (omega (arith, h))),
          no_room n t us (omega (arith, h)),
        )

-- ---- all lines

all_from : (ts : List (List ℕ)) (kept' : Kept) (row' : List ℕ) {n : ℕ} {B : Book} {kept : Kept} {row : List ℕ} → Stands n B kept row
    → Takes ts kept row kept' row' → (xs : List OurRule) × (read_from n ts ≡ rules xs) × (book_in kept' row' ≡ B ++ book_of xs)
all_from [] kept' row' {n} {B} S T = ([], refl, ap₂ book_in T.0 T.1 ∙ S.book ∙ sym (append-nil B))
all_from (t ∷ ts) kept' row' {n} {B} S T =
    let w = taken_stands S t T.0 T.1 T.2 T.3 in
    let x = w.0 in
    let r = all_from ts kept' row' w.3 T.4 in (
      x ∷ r.0,
      one_accepted n t ts x w.2 w.1 ∙ ap (with_rule x) r.1,
      r.2 ∙ append_assoc B (x.0 ∷ []) (book_of r.0),
    )

stops_from : (ts : List (List ℕ)) (kept' : Kept) (row' : List ℕ) {n : ℕ} {B : Book} {kept : Kept} {row : List ℕ} → Stands n B kept row
    → Takes ts kept row kept' row' → (t : List ℕ) (a : Adding) (m : List ℕ) → AddsLine kept' t row' a m → (a.added ≡ line.Taken → ⊥) → (us : List (List ℕ))
    → (N P : ℕ) × (told a.added ≡ record { number = some N; values = P ∷ [] }) × (read_from n (ts ++ (t ∷ us)) ≡ stopped (suc (n + length ts)) N P)
stops_from [] kept' row' {n} {B} {kept} {row} S T t a m adds not_taken us =
    let z : n ≡ n + 0 = omega arith in
    let w = stops (subst₂ (λ (k : Kept) (r : List ℕ). Stands n B k r) (sym T.0) (sym T.1) S) t a m adds not_taken us in
    (w.0, w.1, w.2, w.3 ∙ ap (λ (k : ℕ). stopped (suc k) w.0 w.1) z)
stops_from (u ∷ ts) kept' row' {n} S T t a m adds not_taken us =
    let w = taken_stands S u T.0 T.1 T.2 T.3 in
    let r = stops_from ts kept' row' w.3 T.4 t a m adds not_taken us in
    let z : suc n + length ts ≡ n + suc (length ts) = omega arith in (
      r.0,
      r.1,
      r.2,
      one_accepted n u (ts ++ (t ∷ us)) w.0 w.2 w.1 ∙ ap (with_rule w.0) r.3 ∙ ap (λ (k : ℕ). stopped (suc k) r.0 r.1) z,
    )

-- NO LINE IS REFUSED: the pairs of what is kept are printed, and these are the answer
pub run_all : (ts : List (List ℕ)) (row : List ℕ) (kept' : Kept) (row' : List ℕ) → length row ≡ book_bytes → Takes ts no_texts row kept' row'
    → book_text (book_in kept' row') ≡ book_answer ts
run_all ts row kept' row' e T =
    let r = all_from ts kept' row' (stands_none row e) T in
    ap book_text r.2 ∙ sym (ap answer_to r.1)

-- A LINE IS REFUSED behind those taken: what is said of it is the answer, whatever lines are behind it
pub run_stops : (ts : List (List ℕ)) (row : List ℕ) (kept' : Kept) (row' : List ℕ) → length row ≡ book_bytes → Takes ts no_texts row kept' row'
    → (t : List ℕ) (a : Adding) (m : List ℕ) → AddsLine kept' t row' a m → (a.added ≡ line.Taken → ⊥) → (us : List (List ℕ))
    → added_text (suc (length ts)) a.added ≡ book_answer (ts ++ (t ∷ us))
run_stops ts row kept' row' e T t a m adds not_taken us =
    let r = stops_from ts kept' row' (stands_none row e) T t a m adds not_taken us in
    let z : 0 + length ts ≡ length ts = omega arith in
    ap (λ (x : Told). refusal_text (suc (length ts)) x.number x.values) r.2
    ∙ sym (ap answer_to r.3 ∙ ap (λ (k : ℕ). stop_text (suc k) r.0 r.1) z)

-- ---- ONLY THE FIRST 4,097 BYTES of a line matter: a longer one is refused by 1 whatever it holds

cut_line : (n : ℕ) (t : List ℕ) → most_rule_bytes < n → read_rule (take n t) ≡ read_rule t
cut_line n t h = go (dec_lt n (length t))
  where
    go : Dec (n < length t) → read_rule (take n t) ≡ read_rule t
    go (yes l) = long_rule (take n t) (omega (arith, length-take-le n t (omega arith))) ∙ sym (long_rule t (omega arith))
    go (no l) = ap read_rule (take_all n t (omega arith))

cut_from : (n k : ℕ) (ts : List (List ℕ)) → most_rule_bytes < n → read_from k (map (take n) ts) ≡ read_from k ts
cut_from n k [] h = refl
cut_from n k (t ∷ ts) h =
    ap₂ (λ (o : OutcomeOf OurRule) (r : BookRead). cond (ltb k most_rules) (line_read (suc k) o r) (stopped (suc k) book_full 0))
    (cut_line n t h) (cut_from n (suc k) ts h)

pub cut_same : (n : ℕ) (ts : List (List ℕ)) → most_rule_bytes < n → book_answer (map (take n) ts) ≡ book_answer ts
cut_same n ts h = ap answer_to (cut_from n 0 ts h)
