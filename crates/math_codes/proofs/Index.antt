-- The values of a line by an index and tops are those of the rule's variables in their order, so the list made with them is the overlap list.
use mathlib.Core.Path.{◌≡◌, refl, sym, ap, ap₂, ◌∙◌, subst}
use mathlib.Core.Bool.{Bool, true, false, cond}
use mathlib.Core.List.{List, [], ◌∷◌, ◌++◌, map, Memᴰ}
use Prim.Native.Nat.{ℕ, zero, suc, ◌+◌, ◌-◌, ◌/◌, ◌%◌, ◌≤◌, ◌<◌}
use native.Mathlib.Omega.{arith}
use borrow.Author.Tests.{lt-ltb}
use lib.ListN.{get_or}
use Rattle.base_limits.specs.Limits.{largest_number, numbers_of_side, field_places, rule_places, pair_places, pair_items}
use Rattle.base_lists.specs.Seqs.{All}
use Rattle.math_types.specs.Order.{basic, list}
use Rattle.math_types.specs.Types.{Kind, kinds, basics, entry, rank, rank_basic, rank_kinds, kind_at, atom_kinds, kind_at_rank}
use Rattle.math_terms.specs.Seqs.{concat_map}
use Rattle.math_terms.proofs.Seqs.{concat_mapped, concat_map_twice}
use Rattle.text_grammar.specs.Limits.{TermIn, IsLeft}
use Rattle.text_grammar.specs.Terms.{OurTerm}
use Rattle.text_grammar.specs.constants.Constants.{consts}
use Rattle.math_overlaps.specs.Shapes.{free, Side, left, right, of}
use Rattle.math_overlaps.specs.Candidates.{range}
use Rattle.overlap_spec.specs.Lines.{line_text, left_tag, right_tag}
use Rattle.overlap_spec.specs.Overlaps.{lines_of}
use Rattle.overlap_spec.specs.Variables.{Variable, numbers_from, numbers, of_kind, occurs, keep, every, variables}
use Rattle.overlap_spec.proofs.Variables.{every_mem, occurs_is, in_variables}
use Rattle.overlap_spec.proofs.Rising.{keep_mem}
use Rattle.math_codes.specs.Tables.{code_of, Table, same}
use Rattle.math_codes.specs.Names.{no_names, name_fields}
use Rattle.math_codes.specs.Lines.{fields_text, value_text, values_text, our_vars, our_row, OurTables, our_table, our_texts}
use Rattle.math_codes.specs.Spots.{Spot}
use Rattle.math_codes.specs.Walks.{walk_on}
use Rattle.math_codes.specs.Whole.{spots_of, items_from, run_on, value_on, line_items, line_spots}
use Rattle.math_codes.specs.Index.{slot, Right, Indexes, Tops, is_there, has, indexed_value, every_value, has_at, value_at, bound_text}
use Rattle.math_codes.specs.Index.{indexed_values, listed_values, indexed_items, indexed_line, indexed_list, code_in, index_at, our_index, our_tops}
use Rattle.math_codes.proofs.Lists.{our_tables}
use Rattle.math_codes.proofs.Whole.{concat_same, concat_single, walk_same, spots_agree}

-- ---- a loop over all that passes over some

module _ {A B : Type 0} (p : A → Bool) (f g : A → List B) where
  kept : (l : List A) → ((v : A) → Memᴰ v l → (p v ≡ true → f v ≡ g v) × (p v ≡ false → [] ≡ g v)) → concat_map f (keep p l) ≡ concat_map g l
  kept [] h = refl
  kept (v ∷ l) h = go (p v) refl (kept l (λ w i. h w (Memᴰ.tail i)))
    where
      go : (b : Bool) → p v ≡ b → concat_map f (keep p l) ≡ concat_map g l → concat_map f (cond b (v ∷ keep p l) (keep p l)) ≡ g v ++ concat_map g l
      go true e rec = ap₂ (λ (x y : List B). x ++ y) ((h v (Memᴰ.head refl)).0 e) rec
      go false e rec = ap₂ (λ (x y : List B). x ++ y) ((h v (Memᴰ.head refl)).1 e) rec

-- ---- loops within loops

module _ {B : Type 0} (f : ℕ → List B) where
  -- numbers from the top on that give nothing
  below_top : (m t a : ℕ) → t ≤ m → ((n : ℕ) → a + t ≤ n → n < a + m → f n ≡ []) → concat_map f (numbers_from m a) ≡ concat_map f (range a t)
  below_top zero zero a h k = refl
  below_top zero (suc t) a h k = absurd (omega arith)
  below_top (suc m) zero a h k = ap₂ (λ (s t : List B). s ++ t) (k a (omega arith) (omega arith))
      (below_top m zero (suc a) (omega arith) (λ n l u. k n (omega arith) (omega arith)))
  below_top (suc m) (suc t) a h k = ap (λ (s : List B). f a ++ s) (below_top m t (suc a) (omega arith) (λ n l u. k n (omega arith) (omega arith)))

-- ---- the values of a rule's variables in their order, by an index

pub there : (v : ℕ) → (v ≡ 0 → ⊥) → is_there v ≡ true
there zero h = absurd (h refl)
there (suc v) h = refl

module _ (r₁ r₂ : List (List OurTerm)) (d : Side) (r : List (List OurTerm)) (x : ℕ → ℕ) (ix : Indexes r₁ r₂ d r x) (atoms : List ℕ)
    (runs : ℕ → List ℕ) where
  right_there : (k : Kind) (n v : ℕ) → Right r₁ r₂ d k n v → is_there v ≡ true
  right_there (basic k) n v e = ap is_there e
  right_there list n v h = there v (λ e. omega arith)

  value_there : (k : Kind) (n : ℕ) → Right r₁ r₂ d k n (x (slot k n)) → value_on r₁ r₂ d atoms runs k n ≡ indexed_value x atoms runs k n
  value_there (basic k) n e =
      ap (λ (c : ℕ). get_or atoms c 0 ∷ [])
      (let z : code_of (same basics consts our_vars) (our_row r₁ r₂) (free (of d k n)) ≡ x (slot (basic k) n) - 1 = omega (arith, e) in z)
  value_there list n e = refl

  -- whatever is made of a variable and its value, over all variables
  module _ {B : Type 0} (show : Variable → List ℕ → List B) where
    abbrev shown_by : Variable → List B
    shown_by v = cond (has x v) (show v (indexed_value x atoms runs v.0 v.1)) []

    by_shown : (v : Variable) → v.1 ≤ largest_number → occurs v.0 v.1 r ≡ true → show v (value_on r₁ r₂ d atoms runs v.0 v.1) ≡ shown_by v
    by_shown v l o =
        let e = ix.present v.0 v.1 l o in
        rw (right_there v.0 v.1 (x (slot v.0 v.1)) e) (ap (show v) (value_there v.0 v.1 e))

    by_hidden : (v : Variable) → v.1 ≤ largest_number → occurs v.0 v.1 r ≡ false → [] ≡ shown_by v
    by_hidden v l o = rw (ix.absent v.0 v.1 l o)

    by_index : concat_map (λ v. show v (value_on r₁ r₂ d atoms runs v.0 v.1)) (variables r) ≡ concat_map shown_by every
    by_index =
        kept (λ v. occurs v.0 v.1 r) (λ v. show v (value_on r₁ r₂ d atoms runs v.0 v.1)) shown_by every
        (λ v i. (by_shown v ((every_mem v.0 v.1).0 i), by_hidden v ((every_mem v.0 v.1).0 i)))

    -- by rank and number
    module _ (tops : ℕ → ℕ) (tp : Tops r tops) (showAt : ℕ → ℕ → List ℕ → List B)
        (same : (k : Kind) (n : ℕ) (cs : List ℕ) → show (k, n) cs ≡ showAt (rank k) n cs) where
      abbrev shown_at : ℕ → ℕ → List B
      shown_at k n = cond (has_at x k n) (showAt k n (value_at x atoms runs k n)) []

      value_rank : (k : Kind) (n : ℕ) → indexed_value x atoms runs k n ≡ value_at x atoms runs (rank k) n
      value_rank (basic k) n = rw (lt-ltb (rank (basic k)) atom_kinds (rank_basic k))
      value_rank list n = refl

      -- the same for a variable
      at_rank : (k : Kind) (n : ℕ) → shown_by (k, n) ≡ shown_at (rank k) n
      at_rank k n =
          ap (λ (l : List B). cond (has x (k, n)) l [])
          (same k n (indexed_value x atoms runs k n) ∙ ap (showAt (rank k) n) (value_rank k n))

      -- nothing from the top on
      past_top : (k : Kind) (n : ℕ) → n ≤ largest_number → tops (rank k) ≤ n → shown_at (rank k) n ≡ []
      past_top k n l h = go (occurs k n r) refl
        where
          go : (b : Bool) → occurs k n r ≡ b → shown_at (rank k) n ≡ []
          go true e = absurd (let m = tp.above k n e in omega arith)
          go false e = rw (ix.absent k n l e)

      kind_loop : (k : Kind) → concat_map shown_by (of_kind k) ≡ concat_map (shown_at (rank k)) (range 0 (tops (rank k)))
      kind_loop k =
          concat_mapped shown_by (λ (n : ℕ). (k, n)) numbers
          ∙ concat_same (λ n. shown_by (k, n)) (shown_at (rank k)) numbers (λ n i. at_rank k n)
          ∙ below_top (shown_at (rank k)) numbers_of_side (tops (rank k)) 0 (tp.within (rank k) (rank_kinds k))
          (λ n l m. past_top k n (omega arith) (omega arith))

      by_rank : concat_map shown_by every ≡ concat_map (λ k. concat_map (shown_at k) (range 0 (tops k))) (range 0 4)
      by_rank =
          concat_map_twice shown_by of_kind kinds
          ∙ concat_same (λ k. concat_map shown_by (of_kind k)) (λ k. concat_map (shown_at (rank k)) (range 0 (tops (rank k)))) kinds (λ k i. kind_loop k)

  -- THE VALUES in a line
  module _ (T : Table) (texts : ℕ → List ℕ) (ns : List ℕ) (tag : ℕ) where
    pub values_indexed : values_text T texts ns tag (λ v. value_on r₁ r₂ d atoms runs v.0 v.1) (variables r)
        ≡ every_value T texts ns tag x atoms runs
    values_indexed = by_index (value_text T texts ns tag)

    name_ranked : (k : Kind) (n : ℕ) (cs : List ℕ) → value_text T texts ns tag (k, n) cs ≡ bound_text T texts ns tag (rank k) n cs
    name_ranked k n cs = refl

    -- THE LOOPS write the same
    pub values_ranked : (tops : ℕ → ℕ) → Tops r tops → every_value T texts ns tag x atoms runs ≡ indexed_values T texts ns tag x tops atoms runs
    values_ranked tops tp = by_rank (value_text T texts ns tag) tops tp (bound_text T texts ns tag) name_ranked

  -- THE VALUES alone
  pub values_listed : (tops : ℕ → ℕ) → Tops r tops → listed_values x tops atoms runs ≡ map (λ v. value_on r₁ r₂ d atoms runs v.0 v.1) (variables r)
  values_listed tops tp =
      sym (by_index (λ v cs. cs ∷ []) ∙ by_rank (λ v cs. cs ∷ []) tops tp (λ k n cs. cs ∷ []) (λ k n cs. refl))
      ∙ concat_single (λ v. value_on r₁ r₂ d atoms runs v.0 v.1) (variables r)

-- ---- the list

module _ (r₁ r₂ : List (List OurTerm)) (T : Table) (texts : ℕ → List ℕ) (ot : OurTables r₁ r₂ T texts) (ok₁ : IsLeft r₁) (ok₂ : IsLeft r₂)
    (x₁ t₁ x₂ t₂ : ℕ → ℕ) (ix₁ : Indexes r₁ r₂ left r₁ x₁) (ix₂ : Indexes r₁ r₂ right r₂ x₂) (tp₁ : Tops r₁ t₁) (tp₂ : Tops r₂ t₂) where
  line_indexed : (Ps Qs : List (Spot ℕ)) (is : List (List ℕ)) (last : List ℕ)
      → indexed_items T texts x₁ t₁ x₂ t₂ Ps Qs last is (name_fields T (no_names pair_items 4) is).numbers ≡ line_items r₁ r₂ T texts Ps Qs last is
  line_indexed Ps Qs is last =
      let ns = (name_fields T (no_names pair_items 4) is).numbers in
      sym (ap₂ (λ (a b : List ℕ). fields_text T texts ns is ++ (a ++ (b ++ 10 ∷ [])))
      (values_indexed r₁ r₂ left r₁ x₁ ix₁ last (run_on Ps is) T texts ns left_tag
      ∙ values_ranked r₁ r₂ left r₁ x₁ ix₁ last (run_on Ps is) T texts ns left_tag t₁ tp₁)
      (values_indexed r₁ r₂ right r₂ x₂ ix₂ last (run_on Qs is) T texts ns right_tag
      ∙ values_ranked r₁ r₂ right r₂ x₂ ix₂ last (run_on Qs is) T texts ns right_tag t₂ tp₂))

  -- THE LIST as the code makes it
  pub lines_agree : walk_on entry T (spots_of field_places 0 r₁) (spots_of field_places rule_places r₂) T.first
      (λ cs last. indexed_line T texts x₁ t₁ x₂ t₂ (spots_of field_places 0 r₁) (spots_of field_places rule_places r₂) cs last ∷ [])
      ≡ map line_text (lines_of r₁ r₂)
  lines_agree =
      let Ps = spots_of field_places 0 r₁ in
      let Qs = spots_of field_places rule_places r₂ in
      walk_same entry T Ps Qs T.first (λ cs last. indexed_line T texts x₁ t₁ x₂ t₂ Ps Qs cs last ∷ [])
      (λ cs last. line_spots r₁ r₂ T texts Ps Qs cs last ∷ [])
      (λ cs last h. ap (λ (l : List ℕ). l ∷ []) (line_indexed Ps Qs (items_from last pair_places 0 Ps Qs cs) last))
      ∙ spots_agree r₁ r₂ T texts ot ok₁ ok₂

-- ---- there are such indexes and tops

module _ (r₁ r₂ : List (List OurTerm)) (d : Side) (r : List (List OurTerm)) where
  at_slot : (k : Kind) (n : ℕ) → n ≤ largest_number → our_index r₁ r₂ d r (slot k n) ≡ index_at r₁ r₂ d r k n
  at_slot k n l =
      let e : slot k n / numbers_of_side ≡ rank k = omega arith in
      let m : slot k n % numbers_of_side ≡ n = omega arith in
      ap₂ (λ (q : ℕ) (i : ℕ). index_at r₁ r₂ d r (kind_at q) i) e m ∙ ap (λ (q : Kind). index_at r₁ r₂ d r q n) (kind_at_rank k)

  index_right : (k : Kind) (n : ℕ) → Right r₁ r₂ d k n (suc (code_in r₁ r₂ d k n))
  index_right (basic k) n = refl
  index_right list n = omega arith

  pub our_index_lem : Indexes r₁ r₂ d r (our_index r₁ r₂ d r)
  our_index_lem =
      record {
        absent = λ k n l e. at_slot k n l ∙ ap (λ (b : Bool). cond b (suc (code_in r₁ r₂ d k n)) 0) e;
        present = λ k n l e. subst (Right r₁ r₂ d k n) (sym (at_slot k n l ∙ ap (λ (b : Bool). cond b (suc (code_in r₁ r₂ d k n)) 0) e)) (index_right k n);
      }

pub our_tops_lem : (r : List (List OurTerm)) → All (All TermIn) r → Tops r our_tops
our_tops_lem r i =
    record {
      within = λ k l. omega arith;
      above = λ k n e.
          let m = (in_variables r i k n).1 ((occurs_is k n r).0 e) in
          let l = (every_mem k n).0 ((keep_mem (λ (v : Variable). occurs v.0 v.1 r) (k, n) every).0 m).0 in
          omega arith;
    }

-- so the list can be made by numbers alone
pub lines_text_lem : (r₁ r₂ : List (List OurTerm)) → IsLeft r₁ → IsLeft r₂
    → indexed_list (our_table r₁ r₂) (our_texts r₁ r₂) r₁ r₂ (our_index r₁ r₂ left r₁) our_tops (our_index r₁ r₂ right r₂) our_tops
    ≡ map line_text (lines_of r₁ r₂)
lines_text_lem r₁ r₂ ok₁ ok₂ =
    lines_agree r₁ r₂ (our_table r₁ r₂) (our_texts r₁ r₂) (our_tables r₁ r₂) ok₁ ok₂ (our_index r₁ r₂ left r₁) our_tops (our_index r₁ r₂ right r₂) our_tops
    (our_index_lem r₁ r₂ left r₁) (our_index_lem r₁ r₂ right r₂) (our_tops_lem r₁ ok₁.0.3) (our_tops_lem r₂ ok₂.0.3)
