-- On the values of the search's fields, the failures are the search's. Assumes nothing.
use mathlib.Core.Path.{◌≡◌, refl, ap, ap₂, ◌∙◌}
use mathlib.Core.Logic.{ite}
use mathlib.Core.Bool.{Bool, true, false, ◌&&◌, ◌||◌, not}
use mathlib.Core.Option.{Option}
use mathlib.Core.List.{List, [], ◌∷◌}
use Prim.Native.Nat.{ℕ, ◌≤◌}
use lib.Dec.{eqb}
use lib.ListN.{length}
use borrow.Author.Tests.{eq-eqb, ne_eqb}
use Rattle.base_limits.specs.Limits.{pair_places}
use Rattle.base_lists.specs.Seqs.{All}
use Rattle.base_lists.specs.Truths.{decided}
use Rattle.math_types.specs.Order.{Full}
use Rattle.math_types.specs.Types.{Basic, basics, rank, entry, entry_is}
use Rattle.text_grammar.specs.constants.Constants.{Con, consts, con_eq}
use Rattle.math_overlaps.specs.Shapes.{fixed, free, fixed_once}
use Rattle.math_search.specs.Problems.{atomic, listvar, Tm, Field, field_eq, term_type, field_type}
use Rattle.math_search.specs.Rules as rules
use Rattle.math_search.proofs.Terms.{atomic_once}
use Rattle.math_codes.specs.Tables.{Made}
use Rattle.math_codes.specs.Lines.{OurAtom, our_vars, our_ranks}
use Rattle.search_spec.specs.Answers.{setting}
use Rattle.pair_row.specs.Row.{table_in}
use Rattle.search_items.specs.codes.Codes.{code_tm, codes_of, On}
use Rattle.search_items.proofs.codes.Codes.{code_tm_once}
use Rattle.search_items.specs.Items.{most_codes}
use Rattle.search_items.specs.Values.{items_value}
use Rattle.search_items.proofs.Agree.{items_of_lem, same_agree, occurs_agree}
use Rattle.search_rules.specs.declared.Head.{Head}
use Rattle.search_rules.specs.Fails as failing
use Rattle.search_rules.specs.Fails.{fails_by, fails_of, fails_value}
use Rattle.search_rules.proofs.Heads.{lists_behind, head_tm, head_agrees, whole_is}

-- ---- tests

undecided : {P : Type 0} (d : Dec P) → not (decided d) ≡ ite d false true
undecided (yes p) = refl
undecided (no n) = refl

apart_agrees : (j k : Full Basic) → (not (entry (rank j) (rank k)) && not (entry (rank k) (rank j))) ≡ rules.apart setting j k
apart_agrees j k = ap₂ (λ (p q : Bool). not p && not q) (entry_is j k) (entry_is k j)

-- ---- the failure rules

module _ (t : List (Option OurAtom)) (long : length t ≡ pair_places) where
  same_con : (c d : Con) → On t (atomic (fixed c)) → On t (atomic (fixed d))
      → eqb (code_tm t (atomic (fixed c))) (code_tm t (atomic (fixed d))) ≡ decided (con_eq c d)
  same_con c d h k = go (con_eq c d)
    where
      go : (e : Dec (c ≡ d)) → eqb (code_tm t (atomic (fixed c))) (code_tm t (atomic (fixed d))) ≡ decided e
      go (yes e) = eq-eqb (code_tm t (atomic (fixed c))) (code_tm t (atomic (fixed d))) (ap (λ (b : Con). code_tm t (atomic (fixed b))) e)
      go (no n) = ne_eqb (code_tm t (atomic (fixed c))) (code_tm t (atomic (fixed d)))
          (λ e. n (fixed_once (atomic_once (code_tm_once t long (atomic (fixed c)) (atomic (fixed d)) h k e))))

  occur_agrees : (L M : Field setting) → All (On t) L → All (On t) M
      → failing.occur (head_tm t L) (codes_of t L) (codes_of t M) ≡ rules.occur setting L M
  occur_agrees [] M h k = refl
  occur_agrees (atomic (fixed c) ∷ L) M h k = refl
  occur_agrees (atomic (free x) ∷ L) M h k = refl
  occur_agrees (listvar x ∷ []) M h k =
      ap₂ ◌&&◌ (occurs_agree t long (listvar x) M h.0 k)
      (ap not (same_agree t long M (listvar x ∷ []) k h) ∙ undecided (field_eq setting M (listvar x ∷ [])))
  occur_agrees (listvar x ∷ (u ∷ L)) M h k = refl

  clash1_agrees : (L M : Field setting) → All (On t) L → All (On t) M → failing.clash1 (head_tm t L) (head_tm t M) ≡ rules.clash1 setting L M
  clash1_agrees [] M h k = refl
  clash1_agrees (atomic (fixed c) ∷ L) [] h k = refl
  clash1_agrees (atomic (fixed c) ∷ L) (atomic (fixed d) ∷ M) h k = ap not (same_con c d h.0 k.0) ∙ undecided (con_eq c d)
  clash1_agrees (atomic (fixed c) ∷ L) (atomic (free y) ∷ M) h k = refl
  clash1_agrees (atomic (fixed c) ∷ L) (listvar y ∷ M) h k = refl
  clash1_agrees (atomic (free x) ∷ L) M h k = refl
  clash1_agrees (listvar x ∷ L) M h k = refl

  clash2_agrees : (L M : Field setting) → failing.clash2 (head_tm t L) (head_tm t M) ≡ rules.clash2 setting L M
  clash2_agrees [] M = refl
  clash2_agrees (atomic a ∷ L) [] = refl
  clash2_agrees (atomic a ∷ L) (u ∷ M) = refl
  clash2_agrees (listvar x ∷ L) M = refl

  clash3_agrees : (L M : Field setting) → failing.clash3 (head_tm t L) (head_tm t M) ≡ rules.clash3 setting L M
  clash3_agrees [] [] = refl
  clash3_agrees [] (atomic a ∷ M) = refl
  clash3_agrees [] (listvar y ∷ M) = refl
  clash3_agrees (u ∷ L) M = refl

  -- of a side with one variable
  apart_by : (x : Tm setting) (M : Field setting)
      → (not (entry (rank (term_type setting x)) (head_tm t M).whole) && not (entry (head_tm t M).whole (rank (term_type setting x))))
      ≡ rules.apart setting (term_type setting x) (field_type setting M)
  apart_by x M =
      ap (λ (j : ℕ). not (entry (rank (term_type setting x)) j) && not (entry j (rank (term_type setting x)))) (whole_is t M)
      ∙ apart_agrees (term_type setting x) (field_type setting M)

  clash4_agrees : (L M : Field setting) → failing.clash4 (head_tm t L) (head_tm t M) ≡ rules.clash4 setting L M
  clash4_agrees [] M = refl
  clash4_agrees (atomic (fixed c) ∷ L) M = refl
  clash4_agrees (atomic (free x) ∷ []) M = apart_by (atomic (free x)) M
  clash4_agrees (atomic (free x) ∷ (u ∷ L)) M = refl
  clash4_agrees (listvar x ∷ []) M = apart_by (listvar x) M
  clash4_agrees (listvar x ∷ (u ∷ L)) M = refl

  -- THE AGREEMENT of the failure rules
  pub fails_agrees : (row : List ℕ) → Made basics consts our_vars our_ranks (table_in row) t
      → (L M : Field setting) → All (On t) L → All (On t) M → length L ≤ most_codes → length M ≤ most_codes
      → fails_value (table_in row) (items_value t L) (items_value t M) ≡ rules.fails setting L M
  fails_agrees row m L M h k p q =
      let l = lists_behind row in
      let T = table_in row in
      ap₂ (fails_of T) (items_of_lem t L p) (items_of_lem t M q)
      ∙ ap₂ (λ (a b : Head). fails_by a b (codes_of t L) (codes_of t M)) (head_agrees t long T m l L h) (head_agrees t long T m l M k)
      ∙ ap₂ ◌||◌ (occur_agrees L M h k) (ap₂ ◌||◌ (clash1_agrees L M h k) (ap₂ ◌||◌ (clash2_agrees L M) (ap₂ ◌||◌ (clash3_agrees L M) (clash4_agrees L M))))
