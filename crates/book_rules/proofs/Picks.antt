-- The rules of a book value one after the other, up to the first that matches. Assumes nothing.
use mathlib.Core.Path.{◌≡◌, refl, sym, ◌∙◌, ap}
use mathlib.Core.Bool.{Bool, true, false, cond}
use mathlib.Core.Option
use mathlib.Core.Option.{Option, none, some}
use mathlib.Core.List.{[], ◌∷◌, map}
use Prim.Native.Nat.{ℕ, suc, ◌+◌, ◌-◌, ◌≤◌, ◌<◌}
use native.Mathlib.Omega.{arith}
use lib.ListN.{length, take, get_or, length-map}
use lib.Seq.{length-take-le, get_or-take}
use borrow.Author.Tests.{le-leb, lt-leb, ne_eqb}
use Rattle.base_limits.specs.Limits.{most_rules}
use Rattle.base_lists.specs.Arrays.{mapped_at}
use Rattle.math_types.specs.Types.{Kind}
use Rattle.math_terms.specs.Fillings.{Filling}
use Rattle.text_grammar.specs.Terms.{OurFields, SlipFields}
use Rattle.text_grammar.specs.constants.Constants.{Con}
use Rattle.text_grammar.specs.constants.Matching.{constants, matcher}
use Rattle.text_values.specs.declared.Rule.{Rule as RuleValue}
use Rattle.overlap_spec.specs.Variables.{numbers_from}
use Rattle.match_rules.specs.declared.Match.{Match}
use Rattle.match_rules.specs.Answers.{found, match_of}
use Rattle.book_spec.specs.Picks.{pick_in}
use Rattle.book_spec.specs.Books.{Book, is_some, gives, rule_at, pick}
use Rattle.book_rules.specs.declared.Book.{Book as BookValue}
use Rattle.std.specs.Prelude.{Some, None}
use Rattle.book_rules.specs.Books.{left_of, counted_book, PicksRule}

-- ---- a yes of matching is what it is to give a slip

found_yes : (r : OurFields) (w : SlipFields) (o : Option (Filling Con Kind ℕ)) → (found r w o).yes ≡ is_some o
found_yes r w none = refl
found_yes r w (some φ) = refl

-- a slip with no fields is matched by none
no_items : (r : OurFields) → gives r [] ≡ false
no_items [] = refl
no_items (f ∷ r) = rw (ne_eqb (suc (length r)) 0 (λ e. omega (arith, e)))

pub yes_gives : (r s : OurFields) → (match_of r s).yes ≡ gives r (map constants s)
yes_gives [] s = refl
yes_gives (f ∷ r) [] = sym (no_items (f ∷ r))
yes_gives (f ∷ r) (w ∷ ws) = found_yes (f ∷ r) (map constants (w ∷ ws)) (matcher (f ∷ r) (map constants (w ∷ ws)))

-- ---- the book of a value

module _ (book : BookValue) where
  pub counted_is : book.n ≤ most_rules → counted_book book ≡ map left_of (take book.n book.rules)
  counted_is h = ap (λ (b : Bool). cond b (map left_of (take book.n book.rules)) []) (le-leb book.n most_rules h)

  -- more than 16 rules are an empty book
  pub none_counted : most_rules < book.n → counted_book book ≡ []
  none_counted h = ap (λ (b : Bool). cond b (map left_of (take book.n book.rules)) []) (lt-leb book.n most_rules h)

module _ (book : BookValue) (few : book.n ≤ most_rules) (long : length book.rules ≡ most_rules) where
  front_long : length (take book.n book.rules) ≡ book.n
  front_long = length-take-le book.n book.rules (omega (arith, long))

  pub counted_long : length (counted_book book) ≡ book.n
  counted_long = ap length (counted_is book few) ∙ length-map (take book.n book.rules) left_of ∙ front_long

  pub counted_at : (i : ℕ) (d : RuleValue) → i < book.n → rule_at (counted_book book) i ≡ left_of (get_or book.rules i d)
  counted_at i d h =
      ap (λ (B : Book). rule_at B i) (counted_is book few)
      ∙ mapped_at left_of (take book.n book.rules) i d [] (omega (arith, front_long))
      ∙ ap left_of (get_or-take book.n book.rules i d h)

-- ---- the first that matches

module _ (B : Book) (s : OurFields) where
  abbrev test : ℕ → Bool
  test i = gives (rule_at B i) (map constants s)

  -- none of the positions before i matches
  abbrev pub Passed : ℕ → ℕ → Type 0
  Passed n i = pick_in test (numbers_from (n - i) i) ≡ pick B (map constants s)

  pub passed_none : (n : ℕ) → n ≡ length B → Passed n 0
  passed_none n e = let z : n - 0 ≡ n = omega arith in ap (λ (m : ℕ). pick_in test (numbers_from m 0)) (z ∙ e)

  at_next : (n i : ℕ) → i < n → pick_in test (numbers_from (n - i) i) ≡ cond (test i) (some i) (pick_in test (numbers_from (n - (i + 1)) (i + 1)))
  at_next n i h =
      let e : n - i ≡ suc (n - (i + 1)) = omega arith in
      let z : suc i ≡ i + 1 = omega arith in
      ap (λ (m : ℕ). pick_in test (numbers_from m i)) e
      ∙ ap (λ (m : ℕ). cond (test i) (some i) (pick_in test (numbers_from (n - (i + 1)) m))) z

  module _ (n i : ℕ) (h : i < n) (p : Passed n i) (r : OurFields) (is-r : rule_at B i ≡ r) (m : Match) (is_m : m ≡ match_of r s) where
    tested : m.yes ≡ test i
    tested = ap (λ (x : Match). x.yes) is_m ∙ yes_gives r s ∙ ap (λ (x : OurFields). gives x (map constants s)) (sym is-r)

    goes : cond m.yes (some i) (pick_in test (numbers_from (n - (i + 1)) (i + 1))) ≡ pick B (map constants s)
    goes = ap (λ (b : Bool). cond b (some i) (pick_in test (numbers_from (n - (i + 1)) (i + 1)))) tested ∙ sym (at_next n i h) ∙ p

    pub passed_found : m.yes ≡ true → PicksRule B s (Some (i + 1))
    passed_found e =
        let z : i + 1 ≡ suc i = omega arith in
        ap some z
        ∙ ap (Option.map suc) (ap (λ (b : Bool). cond b (some i) (pick_in test (numbers_from (n - (i + 1)) (i + 1)))) (sym e) ∙ goes)

    pub passed_next : m.yes ≡ false → Passed n (i + 1)
    passed_next e = ap (λ (b : Bool). cond b (some i) (pick_in test (numbers_from (n - (i + 1)) (i + 1)))) (sym e) ∙ goes

  pub passed_all : (n i : ℕ) → n ≤ i → Passed n i → PicksRule B s None
  passed_all n i h p =
      let z : 0 ≡ n - i = omega arith in
      ap (Option.map suc) (ap (λ (m : ℕ). pick_in test (numbers_from m i)) z ∙ p)

pub too_many : (book : BookValue) (s : OurFields) → most_rules < book.n → PicksRule (counted_book book) s None
too_many book s h = ap (λ (B : Book). Option.map suc (pick B (map constants s))) (sym (none_counted book h))
