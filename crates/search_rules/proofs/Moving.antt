-- On the values of the search's fields, the moves are the search's. Assumes nothing.
use mathlib.Core.Path.{◌≡◌, refl, ap, ap₂, ◌∙◌}
use mathlib.Core.Logic.{ite}
use mathlib.Core.Bool.{Bool, true, false, cond, ◌&&◌, not}
use mathlib.Core.Option.{Option, none, some}
use mathlib.Core.List.{List, [], ◌∷◌}
use Prim.Native.Nat.{ℕ, ◌+◌, ◌≤◌, ◌<◌}
use native.Mathlib.Nat.{mod-eq_of_lt}
use lib.Dec.{eqb}
use lib.ListN.{length, get_or}
use borrow.Author.Tests.{eq-eqb, ne_eqb}
use Rattle.base_limits.specs.Limits.{pair_places}
use Rattle.base_lists.specs.Seqs.{All}
use Rattle.base_lists.specs.Truths.{decided}
use Rattle.math_types.specs.Order.{Full, basic, list, full_le}
use Rattle.math_types.specs.Types.{Basic, basics, basic_eq, rank, entry, entry_is, same_basic, not_list, list_not}
use Rattle.text_grammar.specs.constants.Constants.{consts}
use Rattle.math_overlaps.specs.Shapes.{fixed, free, Variable, kind_in}
use Rattle.math_search.specs.Problems.{atomic, listvar, At, Tm, Field, at_eq, tm_eq, field_eq, term_type, field_type, put_in, solved, equation}
use Rattle.math_search.specs.Rules.{Rule, keep, bind, rule, Remove, Decomp1, Decomp1', Decomp2, Decomp2', Decomp3, Decomp4}
use Rattle.math_search.specs.Rules.{Subst1, Subst2, Subst3, Orient1, Orient2, Orient3, Orient4}
use Rattle.math_search.specs.Rules as rules
use Rattle.math_search.proofs.Terms.{atomic_once}
use Rattle.math_codes.specs.Tables.{Made}
use Rattle.math_codes.specs.Lines.{OurAtom, our_vars, our_ranks}
use Rattle.search_spec.specs.Answers.{setting}
use Rattle.pair_row.specs.Row.{table_in}
use Rattle.search_items.specs.codes.Codes.{code_tm, codes_of, On}
use Rattle.search_items.proofs.codes.Codes.{list_tm, code_tm_once, code_same, code_list}
use Rattle.search_items.specs.declared.Items.{Items}
use Rattle.search_items.specs.Items.{most_codes}
use Rattle.search_items.specs.Substitution.{same_codes, occurs_in}
use Rattle.search_items.specs.Values.{items_value}
use Rattle.search_items.proofs.Agree.{items_of_lem, put_in_agree, same_agree, occurs_agree}
use Rattle.search_rules.specs.declared.Head.{Head}
use Rattle.search_rules.specs.declared.Move.{Move}
use Rattle.search_rules.specs.Heads.{head_of}
use Rattle.search_rules.specs.Tests.{strictly, list_end, fresh_code}
use Rattle.search_rules.specs.Moves as values
use Rattle.search_rules.specs.Moves.{no_move, solved_move, solved_by, kept, bound, tests_by, made_by, move_by, move_value}
use Rattle.std.specs.Prelude as std
use Rattle.std.specs.Prelude.{Some}
use Rattle.search_rules.specs.Values.{number, move_code}
use Rattle.search_rules.proofs.Heads.{lists_behind, head_tm, head_agrees, whole_is}

pub below_agrees : (j k : Full Basic) → strictly (rank j) (rank k) ≡ rules.below setting j k
below_agrees j k = ap₂ (λ (p q : Bool). p && not q) (entry_is j k) (entry_is k j)

module _ (t : List (Option OurAtom)) (long : length t ≡ pair_places) where
  -- ---- tests

  -- a move made where a decision comes out so
  made_if : {P : Type 0} (d : Dec P) (m : rules.Move setting) → cond (decided d) (move_code t (some m)) no_move ≡ move_code t (ite d (some m) none)
  made_if (yes p) m = refl
  made_if (no n) m = refl

  made_by_lem : (b : Bool) (m : rules.Move setting) → cond b (move_code t (some m)) no_move ≡ move_code t (cond b (some m) none)
  made_by_lem true m = refl
  made_by_lem false m = refl

  made_unless : {P : Type 0} (d : Dec P) (b : Bool) (m : rules.Move setting)
      → cond (not (decided d) && b) (move_code t (some m)) no_move ≡ move_code t (ite d none (cond b (some m) none))
  made_unless (yes p) b m = refl
  made_unless (no n) true m = refl
  made_unless (no n) false m = refl

  made_both : (a b : Bool) (m : rules.Move setting) → cond (a && not b) (move_code t (some m)) no_move ≡ move_code t (cond a (cond b none (some m)) none)
  made_both true true m = refl
  made_both true false m = refl
  made_both false b m = refl

  same_at : (a b : At setting) → On t (atomic a) → On t (atomic b) → eqb (code_tm t (atomic a)) (code_tm t (atomic b)) ≡ decided (at_eq setting a b)
  same_at a b h k = go (at_eq setting a b)
    where
      go : (d : Dec (a ≡ b)) → eqb (code_tm t (atomic a)) (code_tm t (atomic b)) ≡ decided d
      go (yes e) = eq-eqb (code_tm t (atomic a)) (code_tm t (atomic b)) (ap (λ (c : At setting). code_tm t (atomic c)) e)
      go (no n) = ne_eqb (code_tm t (atomic a)) (code_tm t (atomic b)) (λ e. n (atomic_once (code_tm_once t long (atomic a) (atomic b) h k e)))

  -- x ↦ a, of an atom variable x
  bind_atom_lem : (x : Variable _ ℕ) (a : At setting) (n : _) → On t (atomic (free x)) → On t (atomic a)
      → cond (not (eqb (code_tm t (atomic a)) (code_tm t (atomic (free x)))) && entry (rank (term_type setting (atomic a))) (rank (basic (kind_in x))))
      (move_code t (some (bind (atomic (free x)) (atomic a ∷ []) [] n))) no_move
      ≡ move_code t (rules.bind_atom setting x a n)
  bind_atom_lem x a n h k =
      ap₂ (λ (p q : Bool). cond (not p && q) (move_code t (some (bind (atomic (free x)) (atomic a ∷ []) [] n))) no_move)
      (same_at a (free x) k h) (entry_is (term_type setting (atomic a)) (basic (kind_in x)))
      ∙ made_unless (at_eq setting a (free x)) (full_le basics (term_type setting (atomic a)) (basic (kind_in x))) (bind (atomic (free x)) (atomic a ∷ []) [] n)

  -- a term and a list variable
  abbrev ends_tm : Field setting → Bool
  ends_tm [] = false
  ends_tm (x ∷ []) = false
  ends_tm (x ∷ (y ∷ [])) = list_tm y
  ends_tm (x ∷ (y ∷ (z ∷ L))) = false

  list_end_lem : (L : Field setting) → All (On t) L → list_end (codes_of t L) ≡ ends_tm L
  list_end_lem [] h = refl
  list_end_lem (x ∷ []) h = refl
  list_end_lem (x ∷ (y ∷ [])) h = code_list t long y h.1.0
  list_end_lem (x ∷ (y ∷ (z ∷ L))) h = refl

  -- ---- the rules

  -- what a rule makes, where its test comes out so
  abbrev tried_any : Bool → std.Option Move → std.Option Move
  tried_any b m = cond b m no_move

  abbrev tried : Bool → Move → std.Option Move
  tried b m = tried_any b (Some m)

  module _ (f : ℕ) where
    remove_agrees : (L M : Field setting) → All (On t) L → All (On t) M
        → tried (same_codes (codes_of t L) (codes_of t M)) solved_move ≡ move_code t (rules.remove setting L M)
    remove_agrees L M h k =
        ap (λ (b : Bool). cond b (move_code t (some (keep solved))) no_move) (same_agree t long L M h k) ∙ made_if (field_eq setting L M) (keep solved)

    decomp1_agrees : (L M : Field setting)
        → tried (values.decomp1? (head_tm t L) (head_tm t M)) (values.decomp1 (head_tm t L).first (head_tm t M).first (codes_of t L) (codes_of t M))
        ≡ move_code t (rules.decomp1 setting L M)
    decomp1_agrees [] M = refl
    decomp1_agrees (atomic a ∷ L) M = refl
    decomp1_agrees (listvar x ∷ []) M = refl
    decomp1_agrees (listvar x ∷ (w ∷ L)) [] = refl
    decomp1_agrees (listvar x ∷ (w ∷ L)) (s ∷ M) = refl

    decomp1'_agrees : (L M : Field setting) → All (On t) L → All (On t) M
        → tried (values.decomp1'? (head_tm t L) (head_tm t M)) (values.decomp1' (head_tm t L).first (head_tm t M).first (codes_of t L) (codes_of t M))
        ≡ move_code t (rules.decomp1' setting L M)
    decomp1'_agrees [] M h k = refl
    decomp1'_agrees (atomic (fixed c) ∷ L) M h k = refl
    decomp1'_agrees (atomic (free x) ∷ []) M h k = refl
    decomp1'_agrees (atomic (free x) ∷ (w ∷ L)) [] h k = refl
    decomp1'_agrees (atomic (free x) ∷ (w ∷ L)) (atomic a ∷ M) h k =
        let X = atomic (free x) in
        let p = not (eqb (code_tm t (atomic a)) (code_tm t X)) in
        let q = entry (rank (term_type setting (atomic a))) (rank (basic (kind_in x))) in
        ap₂ (λ (l m : Items). cond (p && q) (Some (bound false (code_tm t X) (items_value t (atomic a ∷ [])) l m)) no_move)
        (put_in_agree t long X (atomic a ∷ []) (w ∷ L) h.0 h.1) (put_in_agree t long X (atomic a ∷ []) M h.0 k.1)
        ∙ bind_atom_lem x a (equation (put_in setting X (atomic a ∷ []) (w ∷ L)) (put_in setting X (atomic a ∷ []) M)) h.0 k.0
    decomp1'_agrees (atomic (free x) ∷ (w ∷ L)) (listvar y ∷ M) h k = refl
    decomp1'_agrees (listvar x ∷ L) M h k = refl

    decomp2_agrees : (L M : Field setting)
        → tried (values.decomp2? (head_tm t L) (head_tm t M))
        (values.decomp2 (head_tm t L).first (head_tm t M).first (codes_of t L) (codes_of t M) (pair_places + f))
        ≡ move_code t (rules.decomp2 setting L M f)
    decomp2_agrees [] M = refl
    decomp2_agrees (atomic a ∷ L) M = refl
    decomp2_agrees (listvar x ∷ []) M = refl
    decomp2_agrees (listvar x ∷ (w ∷ L)) [] = refl
    decomp2_agrees (listvar x ∷ (w ∷ L)) (atomic a ∷ M) = refl
    decomp2_agrees (listvar x ∷ (w ∷ L)) (listvar y ∷ M) = refl

    decomp2'_agrees : (L M : Field setting)
        → tried (values.decomp2? (head_tm t L) (head_tm t M))
        (values.decomp2' (head_tm t L).first (head_tm t M).first (codes_of t L) (codes_of t M) (pair_places + f))
        ≡ move_code t (rules.decomp2' setting L M f)
    decomp2'_agrees [] M = refl
    decomp2'_agrees (atomic a ∷ L) M = refl
    decomp2'_agrees (listvar x ∷ []) M = refl
    decomp2'_agrees (listvar x ∷ (w ∷ L)) [] = refl
    decomp2'_agrees (listvar x ∷ (w ∷ L)) (atomic a ∷ M) = refl
    decomp2'_agrees (listvar x ∷ (w ∷ L)) (listvar y ∷ M) = refl

    decomp3_agrees : (L M : Field setting) → All (On t) L → All (On t) M
        → tried (values.decomp3? (head_tm t L) (head_tm t M)) (values.decomp3 (codes_of t L) (codes_of t M)) ≡ move_code t (rules.decomp3 setting L M)
    decomp3_agrees [] M h k = refl
    decomp3_agrees (s ∷ L) [] h k = refl
    decomp3_agrees (s ∷ L) (w ∷ M) h k =
        ap (λ (b : Bool). cond b (move_code t (some (keep (equation L M)))) no_move) (code_same t long s w h.0 k.0)
        ∙ made_if (tm_eq setting s w) (keep (equation L M))

    decomp4_agrees : (L M : Field setting) → All (On t) L → All (On t) M
        → tried (values.decomp4? (head_tm t L) (head_tm t M) (ends_tm M)) (values.decomp4 (head_tm t L).first (head_tm t M).first (codes_of t M))
        ≡ move_code t (rules.decomp4 setting L M)
    decomp4_agrees [] M h k = refl
    decomp4_agrees (atomic (fixed c) ∷ L) M h k = refl
    decomp4_agrees (atomic (free x) ∷ []) [] h k = refl
    decomp4_agrees (atomic (free x) ∷ []) (atomic a ∷ []) h k = refl
    decomp4_agrees (atomic (free x) ∷ []) (atomic a ∷ (atomic b ∷ [])) h k = refl
    decomp4_agrees (atomic (free x) ∷ []) (atomic a ∷ (atomic b ∷ (w ∷ M))) h k = refl
    decomp4_agrees (atomic (free x) ∷ []) (atomic a ∷ (listvar y ∷ [])) h k = bind_atom_lem x a (equation [] (listvar y ∷ [])) h.0 k.0
    decomp4_agrees (atomic (free x) ∷ []) (atomic a ∷ (listvar y ∷ (w ∷ M))) h k = refl
    decomp4_agrees (atomic (free x) ∷ []) (listvar y ∷ []) h k = refl
    decomp4_agrees (atomic (free x) ∷ []) (listvar y ∷ (atomic b ∷ [])) h k = refl
    decomp4_agrees (atomic (free x) ∷ []) (listvar y ∷ (atomic b ∷ (w ∷ M))) h k = refl
    decomp4_agrees (atomic (free x) ∷ []) (listvar y ∷ (listvar z ∷ [])) h k = refl
    decomp4_agrees (atomic (free x) ∷ []) (listvar y ∷ (listvar z ∷ (w ∷ M))) h k = refl
    decomp4_agrees (atomic (free x) ∷ (w ∷ L)) M h k = refl
    decomp4_agrees (listvar x ∷ L) M h k = refl

    -- x ↦ L, of any variable x
    solve_by_lem : (x : Tm setting) (M : Field setting) → (On t) x → All (On t) M
        → cond (entry (head_tm t M).whole (rank (term_type setting x)) && not (occurs_in (code_tm t x) (codes_of t M)))
        (move_code t (some (bind x M [] solved))) no_move
        ≡ move_code t (rules.solve_by setting x M)
    solve_by_lem x M h k =
        ap₂ (λ (p q : Bool). cond (p && not q) (move_code t (some (bind x M [] solved))) no_move)
        (ap (λ (j : ℕ). entry j (rank (term_type setting x))) (whole_is t M) ∙ entry_is (field_type setting M) (term_type setting x))
        (occurs_agree t long x M h k)
        ∙ made_both (full_le basics (field_type setting M) (term_type setting x)) (rules.occurs setting x M) (bind x M [] solved)

    subst1_agrees : (L M : Field setting) → All (On t) L → All (On t) M
        → tried (values.subst1? (head_tm t L) (head_tm t M) (codes_of t M)) (solved_by (head_tm t L).first (items_value t M)) ≡ move_code t (rules.subst1 setting L M)
    subst1_agrees [] M h k = refl
    subst1_agrees (atomic (fixed c) ∷ L) M h k = refl
    subst1_agrees (atomic (free x) ∷ []) M h k = solve_by_lem (atomic (free x)) M h.0 k
    subst1_agrees (atomic (free x) ∷ (w ∷ L)) M h k = refl
    subst1_agrees (listvar x ∷ []) M h k = solve_by_lem (listvar x) M h.0 k
    subst1_agrees (listvar x ∷ (w ∷ L)) M h k = refl

    subst2_agrees : (L M : Field setting) → tried (values.subst2? (head_tm t L)) (values.subst2 (head_tm t L).first (items_value t M) (codes_of t L))
        ≡ move_code t (rules.subst2 setting L M)
    subst2_agrees [] M = refl
    subst2_agrees (atomic a ∷ L) M = refl
    subst2_agrees (listvar x ∷ []) M = refl
    subst2_agrees (listvar x ∷ (w ∷ L)) M = refl

    subst3_agrees : (L M : Field setting)
        → tried (values.subst3? (head_tm t L) (head_tm t M)) (values.decomp2 (head_tm t L).first (head_tm t M).first (codes_of t L) (codes_of t M) (pair_places + f))
        ≡ move_code t (rules.subst3 setting L M f)
    subst3_agrees [] M = refl
    subst3_agrees (atomic a ∷ L) M = refl
    subst3_agrees (listvar x ∷ []) M = refl
    subst3_agrees (listvar x ∷ (w ∷ L)) [] = refl
    subst3_agrees (listvar x ∷ (w ∷ L)) (atomic a ∷ M) = refl
    subst3_agrees (listvar x ∷ (w ∷ L)) (listvar y ∷ M) = refl

    orient1_agrees : (L M : Field setting) → tried (values.orient1? (head_tm t L) (head_tm t M)) (kept (items_value t M) (items_value t L))
        ≡ move_code t (rules.orient1 setting L M)
    orient1_agrees [] M = refl
    orient1_agrees (atomic (fixed c) ∷ L) [] = refl
    orient1_agrees (atomic (fixed c) ∷ L) (atomic (fixed d) ∷ M) = refl
    orient1_agrees (atomic (fixed c) ∷ L) (atomic (free y) ∷ M) = refl
    orient1_agrees (atomic (fixed c) ∷ L) (listvar y ∷ M) = refl
    orient1_agrees (atomic (free x) ∷ L) M = refl
    orient1_agrees (listvar x ∷ L) M = refl

    -- turned round, where a test of the types comes out so
    abbrev turned_if : Field setting → Field setting → Bool → std.Option Move
    turned_if L M b = cond b (move_code t (some (keep (equation M L)))) no_move

    orient2_agrees : (L M : Field setting)
        → tried (values.orient2? (head_tm t L) (head_tm t M)) (kept (items_value t M) (items_value t L)) ≡ move_code t (rules.orient2 setting L M)
    orient2_agrees [] M = refl
    orient2_agrees (atomic (fixed c) ∷ []) M = refl
    orient2_agrees (atomic (free x) ∷ []) M = refl
    orient2_agrees (listvar x ∷ []) M = refl
    orient2_agrees (atomic (fixed c) ∷ (u ∷ L)) [] = refl
    orient2_agrees (atomic (free x) ∷ (u ∷ L)) [] = refl
    orient2_agrees (listvar x ∷ (u ∷ L)) [] = refl
    orient2_agrees (atomic (fixed c) ∷ (u ∷ L)) (s ∷ []) = refl
    orient2_agrees (atomic (free x) ∷ (u ∷ L)) (atomic (fixed d) ∷ []) = refl
    orient2_agrees (atomic (free x) ∷ (u ∷ L)) (atomic (free y) ∷ []) =
        let T = atomic (free x) ∷ (u ∷ L) in
        let S = atomic (free y) ∷ [] in
        ap (turned_if T S) (same_basic (kind_in x) (kind_in y)) ∙ made_if (basic_eq (kind_in x) (kind_in y)) (keep (equation S T))
    orient2_agrees (atomic (free x) ∷ (u ∷ L)) (listvar y ∷ []) = ap (turned_if (atomic (free x) ∷ (u ∷ L)) (listvar y ∷ [])) (not_list (kind_in x))
    orient2_agrees (listvar x ∷ (u ∷ L)) (atomic (fixed d) ∷ []) = refl
    orient2_agrees (listvar x ∷ (u ∷ L)) (atomic (free y) ∷ []) = ap (turned_if (listvar x ∷ (u ∷ L)) (atomic (free y) ∷ [])) (list_not (kind_in y))
    orient2_agrees (listvar x ∷ (u ∷ L)) (listvar y ∷ []) = refl
    orient2_agrees (atomic (fixed c) ∷ (u ∷ L)) (s ∷ (v ∷ M)) = refl
    orient2_agrees (atomic (free x) ∷ (u ∷ L)) (atomic (fixed d) ∷ (v ∷ M)) = refl
    orient2_agrees (atomic (free x) ∷ (u ∷ L)) (atomic (free y) ∷ (v ∷ M)) = refl
    orient2_agrees (atomic (free x) ∷ (u ∷ L)) (listvar y ∷ (v ∷ M)) = refl
    orient2_agrees (listvar x ∷ (u ∷ L)) (atomic (fixed d) ∷ (v ∷ M)) = refl
    orient2_agrees (listvar x ∷ (u ∷ L)) (atomic (free y) ∷ (v ∷ M)) = refl
    orient2_agrees (listvar x ∷ (u ∷ L)) (listvar y ∷ (v ∷ M)) = refl

    orient3_agrees : (L M : Field setting)
        → tried (values.orient3? (head_tm t L) (head_tm t M)) (kept (items_value t M) (items_value t L)) ≡ move_code t (rules.orient3 setting L M)
    orient3_agrees [] M = refl
    orient3_agrees (atomic (fixed c) ∷ L) M = refl
    orient3_agrees (atomic (free x) ∷ L) [] = refl
    orient3_agrees (atomic (free x) ∷ L) (atomic (fixed d) ∷ M) = refl
    orient3_agrees (atomic (free x) ∷ L) (atomic (free y) ∷ M) =
        let T = atomic (free x) ∷ L in
        let S = atomic (free y) ∷ M in
        ap (turned_if T S) (below_agrees (basic (kind_in x)) (basic (kind_in y)))
        ∙ made_by_lem (rules.below setting (basic (kind_in x)) (basic (kind_in y))) (keep (equation S T))
    orient3_agrees (atomic (free x) ∷ L) (listvar y ∷ M) = ap (turned_if (atomic (free x) ∷ L) (listvar y ∷ M)) (below_agrees (basic (kind_in x)) list)
    orient3_agrees (listvar x ∷ L) [] = refl
    orient3_agrees (listvar x ∷ L) (atomic (fixed d) ∷ M) = refl
    orient3_agrees (listvar x ∷ L) (atomic (free y) ∷ M) = ap (turned_if (listvar x ∷ L) (atomic (free y) ∷ M)) (below_agrees list (basic (kind_in y)))
    orient3_agrees (listvar x ∷ L) (listvar y ∷ M) = refl

    orient4_agrees : (L M : Field setting) → tried (values.orient4? (head_tm t L) (head_tm t M)) (kept (items_value t M) (items_value t L))
        ≡ move_code t (rules.orient4 setting L M)
    orient4_agrees [] [] = refl
    orient4_agrees [] (atomic a ∷ M) = refl
    orient4_agrees [] (listvar y ∷ M) = refl
    orient4_agrees (w ∷ L) M = refl

    -- of the heads
    rule_agrees : (r : Rule) (L M : Field setting) → All (On t) L → All (On t) M
        → tried_any (get_or (tests_by (head_tm t L) (head_tm t M) (ends_tm M) (codes_of t L) (codes_of t M)) (number r) false)
        (get_or (made_by (head_tm t L).first (head_tm t M).first (items_value t L) (items_value t M) (codes_of t L) (codes_of t M) (pair_places + f)) (number r)
        no_move)
        ≡ move_code t (rule setting r L M f)
    rule_agrees Remove L M h k = remove_agrees L M h k
    rule_agrees Decomp1 L M h k = decomp1_agrees L M
    rule_agrees Decomp1' L M h k = decomp1'_agrees L M h k
    rule_agrees Decomp2 L M h k = decomp2_agrees L M
    rule_agrees Decomp2' L M h k = decomp2'_agrees L M
    rule_agrees Decomp3 L M h k = decomp3_agrees L M h k
    rule_agrees Decomp4 L M h k = decomp4_agrees L M h k
    rule_agrees Subst1 L M h k = subst1_agrees L M h k
    rule_agrees Subst2 L M h k = subst2_agrees L M
    rule_agrees Subst3 L M h k = subst3_agrees L M
    rule_agrees Orient1 L M h k = orient1_agrees L M
    rule_agrees Orient2 L M h k = orient2_agrees L M
    rule_agrees Orient3 L M h k = orient3_agrees L M
    rule_agrees Orient4 L M h k = orient4_agrees L M

  -- THE AGREEMENT of the rules
  pub move_agrees : (row : List ℕ) → Made basics consts our_vars our_ranks (table_in row) t
      → (r : Rule) (L M : Field setting) (f : ℕ) → All (On t) L → All (On t) M → length L ≤ most_codes → length M ≤ most_codes → f < pair_places
      → move_value (table_in row) (number r) (items_value t L) (items_value t M) f ≡ move_code t (rule setting r L M f)
  move_agrees row made r L M f h k p q small =
      let l = items_value t L in
      let m = items_value t M in
      let ls = codes_of t L in
      let ms = codes_of t M in
      let T = table_in row in
      let z = lists_behind row in
      ap₂ (λ (s w : List ℕ). move_by (head_of T s) (head_of T w) l m s w (fresh_code f) (number r)) (items_of_lem t L p) (items_of_lem t M q)
      ∙ ap (λ (n : ℕ). move_by (head_of T ls) (head_of T ms) l m ls ms (pair_places + n) (number r)) (mod-eq_of_lt small)
      ∙ ap₂ (λ (a b : Head). move_by a b l m ls ms (pair_places + f) (number r)) (head_agrees t long T made z L h) (head_agrees t long T made z M k)
      ∙ ap (λ (e : Bool). tried_any (get_or (tests_by (head_tm t L) (head_tm t M) e ls ms) (number r) false)
      (get_or (made_by (head_tm t L).first (head_tm t M).first l m ls ms (pair_places + f)) (number r) no_move)) (list_end_lem M k)
      ∙ rule_agrees f r L M h k
