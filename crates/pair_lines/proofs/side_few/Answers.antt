use Rattle.std.proofs.Common.{rules, ℕ, zero, suc, List, Bool, true, false, ◌≡◌, ◌≤◌, ◌<◌, ◌&&◌, leb, length, arith, sym, refl}
use Rattle.std.specs.Bool.{MatchBool}
use Rattle.std.specs.List.{AllWithin, HoldsAt, range_with_len}
use Rattle.std.proofs.lemmas.Iterator.{YieldsList-from_range, cases_from_all}
use borrow.Author.Tests.{tests, le-leb, lt-leb}
use Rattle.base_limits.specs.Limits.{numbers_of_side}
use Rattle.pair_row.specs.Row.{top_in}
use Rattle.pair_lines.specs.Lines.{side_few}
use Rattle.pair_lines.proofs.side_few.Goals as goal

neither : (t : Bool) → (t && false) ≡ false
neither true = refl
neither false = refl

-- what a look at the four ranks says
ranks : (row : List ℕ) (right : Bool) (r : Bool) → let P : ℕ → Type 0 = λ k. top_in row right k ≤ numbers_of_side in
    let N : ℕ → Type 0 = λ k. numbers_of_side < top_in row right k in
    MatchBool r (AllWithin P (range_with_len 0 4) 0 (length (range_with_len 0 4)))
    ((i : ℕ) × (i < length (range_with_len 0 4)) × HoldsAt N (range_with_len 0 4) i) → r ≡ side_few row right
ranks row right true h =
    let n = numbers_of_side in
    sym (rw (
      le-leb (top_in row right 0) n (h 0 0 (omega arith) (omega arith)),
      le-leb (top_in row right 1) n (h 1 0 (omega arith) (omega arith)),
      le-leb (top_in row right 2) n (h 2 0 (omega arith) (omega arith)),
      le-leb (top_in row right 3) n (h 3 0 (omega arith) (omega arith)),
    ) refl)
ranks row right false (i, l, many) = sym (go i l many)
  where
    f : ℕ → Bool
    f k = leb (top_in row right k) numbers_of_side

    go : (i : ℕ) → i < 4 → HoldsAt (λ k. numbers_of_side < top_in row right k) (range_with_len 0 4) i → side_few row right ≡ false
    go zero l m = rw (lt-leb (top_in row right 0) numbers_of_side (m 0)) refl
    go (suc zero) l m = rw (lt-leb (top_in row right 1) numbers_of_side (m 0)) (neither (leb (top_in row right 0) numbers_of_side))
    go (suc (suc zero)) l m =
        rw (lt-leb (top_in row right 2) numbers_of_side (m 0), neither (leb (top_in row right 1) numbers_of_side)) (neither (leb (top_in row right 0) numbers_of_side))
    go (suc (suc (suc zero))) l m =
        rw (
          lt-leb (top_in row right 3) numbers_of_side (m 0),
          neither (leb (top_in row right 2) numbers_of_side),
          neither (leb (top_in row right 1) numbers_of_side),
        ) (neither (leb (top_in row right 0) numbers_of_side))
    go (suc (suc (suc (suc i)))) l m = absurd (omega arith)

pub returns : goal.returns
returns c =
    let z = c.args in
    ranks z.row.now z.right c.all.result
    (cases_from_all _ _ c.all.result (λ k. top_in z.row.now z.right k ≤ numbers_of_side) (λ k. numbers_of_side < top_in z.row.now z.right k) c.all.ensures.ran
    (YieldsList-from_range 0 4 4 refl (omega arith)) (λ x q k. search (rules, tests)) (λ x q k. search (rules, tests)))
