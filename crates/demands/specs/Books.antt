-- A MAKER'S BOOK, document 02, E4: "A slip's rule is the first in the book that matches it. The shop wants to know whether the order in the
-- book matters."
-- Over what the contracts cite, for a book value b, a slip value s, kept texts, the lent bytes `old`, the answer r and the bytes `new`
-- afterwards:
--     book_rules::pick                 `PicksRule (counted_book b) (counted_slip s) r`
--     book_rules::write_pairs          `Writes (book_text (counted_book b)) old r new`
--     book_rules::texts::write_pairs   `Writes (book_text (book_in kept row)) old r new`
-- What `book` prints for its lines is said by `run_all`, `run_stops` and `cut_same` of print_book's proofs/Runs.
use Rattle.std.specs.Prelude.{◌≡◌, refl, ◌↔◌, Bool, true, false, cond, ℕ, suc, ◌<◌, leb, length, take, Result}
use Rattle.std.proofs.Common.{sym, ◌∙◌, ap, subst, inl, inr, arith, le-leb}
use Rattle.std.proofs.Math.Logic.Iff
use Rattle.std.proofs.Math.Option
use Rattle.std.proofs.Math.Option.{Option, none, some}
use mathlib.Core.List.{List, [], ◌∷◌, map, Memᴰ}
use Rattle.base_limits.specs.Limits.{most_rules}
use Rattle.base_lists.specs.Seqs.{IsNil, IsCons, all_of, all_mapped}
use Rattle.math_terms.specs.Seqs.{concat_map}
use Rattle.text_grammar.specs.Told.{Told, by_room}
use Rattle.text_grammar.specs.Terms.{SlipFields}
use Rattle.text_grammar.specs.Read.{OutcomeOf, refused, accepted}
use Rattle.text_grammar.specs.rules.Read.{OurRule, read_rule}
use Rattle.text_grammar.proofs.rules.Accepted.{rule_read_lem}
use Rattle.text_grammar.specs.constants.Matching.{constants, Matches}
use Rattle.overlap_spec.specs.Variables.{Rising}
use Rattle.overlap_spec.specs.Overlaps.{lines_of}
use Rattle.text_values.specs.declared.Rule.{Rule}
use Rattle.text_values.specs.Values.{Slip}
use Rattle.text_accepted.specs.rules.Rules.{accepted_rule}
use Rattle.text_accepted.specs.slips.Slips.{counted_slip}
use Rattle.text_read.specs.Answers.{left_said}
use Rattle.text_write.specs.declared.TooSmall.{TooSmall}
use Rattle.text_write.specs.Answers.{told, Writes}
use Rattle.apply_spec.specs.Rules.{Readable}
use Rattle.book_spec.specs.Picks.{IsOrder}
use Rattle.book_spec.specs.Books.{Book, Counted, IsBook, rule_at, pick_by, pick, Apart, Sorted, pairs_of, pair_text, book_text}
use Rattle.book_spec.proofs.Books.{order_free, order_matters, order_iff, pick_matches, none_matches}
use Rattle.book_spec.proofs.Pairs.{in_pairs, pairs_rising, apart_pairs, text_none}
use Rattle.book_rules.specs.declared.Book.{Book as BookValue}
use Rattle.book_rules.specs.Books.{Picked}
use Rattle.book_rules.specs.declared.texts.Kept.{Kept}
use Rattle.book_rules.specs.Books.{left_of, counted_book, shown, PicksRule}
use Rattle.book_rules.specs.texts.Keeping.{texts_in, said_by, book_in}
use Rattle.book_rules.proofs.Picks.{none_counted}
use Rattle.demands.specs.Overlaps.{is_left, not_counted}

-- ---- picks

-- the rule at position i has fields and matches the slip
abbrev pub MatchesAt : Book → ℕ → SlipFields → Type 0
MatchesAt B i w = IsCons (rule_at B i) × Matches (rule_at B i) w

-- the number k, from 1, is that of "the first in the book that matches it", and there is none exactly where none does
pub record FirstOf (B : Book) (w : SlipFields) (k : Option ℕ) : Type 0 where
  pub rule : (n : ℕ) → (k ≡ some n)
      ↔ ((i : ℕ) × (n ≡ suc i) × (i < length B) × MatchesAt B i w × ((j : ℕ) → j < i → MatchesAt B j w → ⊥))
  pub none : (k ≡ none) ↔ ((i : ℕ) → i < length B → MatchesAt B i w → ⊥)

pub record Picking (b : BookValue) (s : Slip) (r : Picked) : Type 0 where
  pub first : FirstOf (counted_book b) (map constants (counted_slip s)) (shown r)
  -- "A book value of more than 16 rules counts as an empty book"
  pub too_many : most_rules < b.n → shown r ≡ none

-- ---- whether the order matters

-- two orders of the book pick the same for the slip, by old position
abbrev pub SamePick : Book → List ℕ → List ℕ → SlipFields → Type 0
SamePick B p q w = IsOrder (length B) p → IsOrder (length B) q → pick_by B p w ≡ pick_by B q w

-- nothing was written, and nothing had to be
abbrev pub Nothing : Result ℕ TooSmall → Type 0
Nothing r = told r ≡ record { number = none; values = 0 ∷ [] }

-- WHAT IS WRITTEN of the book B, and what it says of its order
pub record Ordering (B : Book) (old : List ℕ) (r : Result ℕ TooSmall) (new : List ℕ) : Type 0 where
  -- "a line `I J` for each overlapping pair, lower number first, sorted by I, then by J, as numbers"
  pub pairs : List (ℕ × ℕ)
  pub written : Writes (concat_map pair_text pairs) old r new
  pub each : (i j : ℕ) → Memᴰ (i, j) pairs ↔ ((i < j) × (j < length B) × (lines_of (rule_at B i) (rule_at B j) ≡ [] → ⊥))
  pub sorted : Rising Sorted pairs
  -- "If all pairs of different positions have empty overlap lists, every reordering picks the same rule by its old position, or none, for
  -- every slip": of any length. It is then that nothing is written
  pub apart : Nothing r ↔ Apart B
  pub free : Nothing r → (p q : List ℕ) (w : SlipFields) → SamePick B p q w
  -- "If some such pair has an entry, a slip within the reading limits exists, and two orders, for which different positions are picked"
  pub matters : (i j : ℕ) → i < length B → j < length B → (i ≡ j → ⊥) → (lines_of (rule_at B i) (rule_at B j) ≡ [] → ⊥)
      → (w : SlipFields) × Readable w
      × ((p q : List ℕ) × IsOrder (length B) p × IsOrder (length B) q × (pick_by B p w ≡ some i) × (pick_by B q w ≡ some j))
  -- so for the shop: nothing is written exactly where no order changes the pick of a slip that can be read
  pub indifferent : Nothing r ↔ ((p q : List ℕ) (w : SlipFields) → Readable w → SamePick B p q w)

-- ---- that it holds

module _ (B : Book) (book : IsBook B) where
  first_of : (w : SlipFields) (k : Option ℕ) → k ≡ Option.map suc (pick B w) → FirstOf B w k
  first_of w k e = record { rule = λ n. (to n (pick B w) refl, from n); none = (none_to (pick B w) refl, none_from) }
    where
      to : (n : ℕ) (o : Option ℕ) → pick B w ≡ o → k ≡ some n
          → (i : ℕ) × (n ≡ suc i) × (i < length B) × MatchesAt B i w × ((j : ℕ) → j < i → MatchesAt B j w → ⊥)
      to n none p q =
          let f : ◌≡◌ {A = Option ℕ} none (some n) = sym (ap (Option.map suc) p) ∙ sym e ∙ q in
          let z : ◌≡◌ {A = ℕ} 0 1 = cc in
          absurd (omega arith)
      to n (some i) p q =
          let f : some (suc i) ≡ some n = sym (ap (Option.map suc) p) ∙ sym e ∙ q in
          let g : n ≡ suc i = cc in
          let m = (pick_matches B book w i).0 p in
          (i, g, m.0, m.1, m.2)

      from : (n : ℕ) → (i : ℕ) × (n ≡ suc i) × (i < length B) × MatchesAt B i w × ((j : ℕ) → j < i → MatchesAt B j w → ⊥) → k ≡ some n
      from n h = e ∙ ap (Option.map suc) ((pick_matches B book w h.0).1 (h.2, h.3, h.4)) ∙ ap some (sym h.1)

      none_to : (o : Option ℕ) → pick B w ≡ o → k ≡ none → (i : ℕ) → i < length B → MatchesAt B i w → ⊥
      none_to none p q = (none_matches B book w).0 p
      none_to (some i) p q =
          let f : ◌≡◌ {A = Option ℕ} (some (suc i)) none = sym (ap (Option.map suc) p) ∙ sym e ∙ q in
          let z : ◌≡◌ {A = ℕ} 0 1 = cc in
          absurd (omega arith)

      none_from : ((i : ℕ) → i < length B → MatchesAt B i w → ⊥) → k ≡ none
      none_from h = e ∙ ap (Option.map suc) ((none_matches B book w).1 h)

  module _ {old : List ℕ} {r : Result ℕ TooSmall} {new : List ℕ} (writes : Writes (book_text B) old r new) where
    nothing_iff : Nothing r ↔ (book_text B ≡ [])
    nothing_iff = (to (book_text B) refl, from)
      where
        to : (t : List ℕ) → book_text B ≡ t → Nothing r → t ≡ []
        to [] p e = refl
        to (x ∷ t) p e =
            let told_is : length (book_text B) ∷ [] ≡ 0 ∷ [] = ap (λ (a : Told). a.values) (sym writes.answer ∙ e) in
            let v : length (x ∷ t) ∷ [] ≡ 0 ∷ [] = ap (λ (s : List ℕ). length s ∷ []) (sym p) ∙ told_is in
            let n : suc (length t) ≡ 0 = cc in
            absurd (omega (arith, n))

        from : book_text B ≡ [] → Nothing r
        from e =
            writes.answer
            ∙ ap (λ (s : List ℕ). by_room (length s) (length old) (length s ∷ [])) e
            ∙ ap (λ (b : Bool). record { number = cond b none (some 8); values = 0 ∷ [] }) (le-leb 0 (length old) (omega arith))

    apart_iff : Nothing r ↔ Apart B
    apart_iff = Iff.trans nothing_iff (Iff.trans (text_none B) (apart_pairs B book))

    pub ordering : Ordering B old r new
    ordering =
        record {
          pairs = pairs_of B;
          written = writes;
          each = in_pairs B;
          sorted = pairs_rising B;
          apart = apart_iff;
          free = λ e p q w a b. order_free B book (apart_iff.0 e) p q a b w;
          matters = order_matters B book;
          indifferent = (
            λ e p q w h a b. order_free B book (apart_iff.0 e) p q a b w,
            λ h. apart_iff.1 ((order_iff B book).1 (λ p q a b w k. h p q w k a b)),
          );
        }

-- ---- of values

counted_rule_lem : (v : Rule) → Counted (left_of v)
counted_rule_lem v = go (accepted_rule v) refl
  where
    go : (b : Bool) → accepted_rule v ≡ b → Counted (left_of v)
    go true e = inr (is_left v e)
    go false e = inl (subst IsNil (sym (not_counted v e)) tt)

pub counted_book_lem : (b : BookValue) → IsBook (counted_book b)
counted_book_lem b = go (leb b.n most_rules)
  where
    go : (f : Bool) → IsBook (cond f (map left_of (take b.n b.rules)) [])
    go true = all_mapped Counted left_of (take b.n b.rules) (all_of (λ v. Counted (left_of v)) counted_rule_lem (take b.n b.rules))
    go false = tt

pub picking : (b : BookValue) (s : Slip) {r : Picked} → PicksRule (counted_book b) (counted_slip s) r → Picking b s r
picking b s {r} e =
    record {
      first = first_of (counted_book b) (counted_book_lem b) (map constants (counted_slip s)) (shown r) e;
      too_many = λ h. e ∙ ap (λ (B : Book). Option.map suc (pick B (map constants (counted_slip s)))) (none_counted b h);
    }

-- ---- of texts

said_counted : (t : List ℕ) → Counted (said_by t)
said_counted t = go (read_rule t) refl
  where
    go : (o : OutcomeOf OurRule) → read_rule t ≡ o → Counted (left_said o)
    go (refused r p) e = inl tt
    go (accepted x) e = inr (rule_read_lem t x e).0

pub texts_book : (kept : Kept) (row : List ℕ) → IsBook (book_in kept row)
texts_book kept row = all_mapped Counted said_by (texts_in kept row) (all_of (λ t. Counted (said_by t)) said_counted (texts_in kept row))
