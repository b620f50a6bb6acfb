-- The rules of a book value kept as texts, one after the other. Assumes nothing.
use mathlib.Core.Path.{◌≡◌, sym, ◌∙◌, ap, subst}
use mathlib.Core.List.{List, [], ◌∷◌, ◌++◌, map, map-append}
use Prim.Native.Nat.{ℕ, suc, ◌+◌, ◌≤◌, ◌<◌}
use native.Mathlib.Omega.{arith}
use lib.ListN.{length, take, get_or}
use lib.Seq.{take-suc}
use Rattle.base_limits.specs.Limits.{most_rules}
use Rattle.text_grammar.specs.Plain.{plain}
use Rattle.text_values.specs.declared.Rule.{Rule as RuleValue}
use Rattle.overlap_list.proofs.Texts.{rule_again, left_short}
use Rattle.book_spec.specs.Books.{Book}
use Rattle.book_rules.specs.declared.Book.{Book as BookValue}
use Rattle.book_rules.specs.declared.texts.Kept.{Kept}
use Rattle.book_rules.specs.Books.{left_of, counted_book}
use Rattle.book_rules.specs.texts.Keeping.{book_bytes, no_texts, room_for, book_in, Keeps}
use Rattle.book_rules.proofs.Picks.{counted_is, none_counted}
use Rattle.book_rules.proofs.texts.Keeping.{nothing_in, Stands, stands_none, stands_room, stands_more}

pub keeps_as : {t u : List ℕ} (kept : Kept) (old : List ℕ) {r : Kept} {new : List ℕ} → t ≡ u → Keeps kept t old r new → Keeps kept u old r new
keeps_as kept old {r} {new} e h = subst (λ (s : List ℕ). Keeps kept s old r new) e h

-- nothing is kept of a book of too many rules, which is empty
pub none_kept : (book : BookValue) (row : List ℕ) → most_rules < book.n → book_in no_texts row ≡ counted_book book
none_kept book row h = nothing_in row ∙ sym (none_counted book h)

module _ (book : BookValue) where
  -- the first i rules are kept
  pub record Holds (kept : Kept) (row : List ℕ) (i : ℕ) : Type 0 where
    pub few : book.n ≤ most_rules
    pub long : length book.rules ≡ most_rules
    pub within : i ≤ book.n
    pub stands : Stands i (map left_of (take i book.rules)) kept row

  pub holds_none : (kept : Kept) (row : List ℕ) → kept ≡ no_texts → length row ≡ book_bytes → book.n ≤ most_rules → length book.rules ≡ most_rules
      → Holds kept row 0
  holds_none kept row e l h k =
      record { few = h; long = k; within = omega arith; stands = subst (λ (x : Kept). Stands 0 [] x row) (sym e) (stands_none row l) }

  module _ (kept : Kept) (row : List ℕ) (i : ℕ) (H : Holds kept row i) (h : i < book.n) where
    below : i < most_rules
    below = omega (arith, H.few, h)

    pub holds_room : kept.n < room_for (length row)
    holds_room = stands_room H.stands below

    pub holds_more : (d : RuleValue) (next : Kept) (new : List ℕ) → Keeps kept (plain (left_of (get_or book.rules i d))) row next new
        → Holds next new (i + 1)
    holds_more d next new k =
        let r = get_or book.rules i d in
        let s : suc i ≡ i + 1 = omega arith in
        let all : map left_of (take i book.rules) ++ (left_of r ∷ []) ≡ map left_of (take (i + 1) book.rules) =
        sym (map-append left_of (take i book.rules) (r ∷ []))
        ∙ ap (map left_of) (sym (take-suc book.rules i d (omega (arith, H.long, below))) ∙ ap (λ (m : ℕ). take m book.rules) s) in
        record {
          few = H.few;
          long = H.long;
          within = omega (arith, h);
          stands =
              subst (λ (B : Book). Stands (i + 1) B next new) all
              (stands_more H.stands below (plain (left_of r)) (left_of r) next new (omega (arith, left_short r)) (rule_again r) k);
        }

  pub holds_all : (kept : Kept) (row : List ℕ) (i : ℕ) → Holds kept row i → book.n ≤ i → book_in kept row ≡ counted_book book
  holds_all kept row i H h =
      let e : i ≡ book.n = omega (arith, H.within, h) in
      H.stands.book ∙ ap (λ (m : ℕ). map left_of (take m book.rules)) e ∙ sym (counted_is book H.few)
