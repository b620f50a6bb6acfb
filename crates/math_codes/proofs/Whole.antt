-- The list by numbers alone is the overlap list, line by line.
use mathlib.Core.Path.{◌≡◌, refl, sym, ap, ap₂, ◌∙◌, subst}
use mathlib.Core.Logic.{ite}
use mathlib.Core.Bool.{Bool}
use mathlib.Core.Option.{Option, none, some, none-ne-some, some-injective}
use mathlib.Core.List.{List, [], ◌∷◌, ◌++◌, map, Memᴰ}
use Prim.Native.Nat.{ℕ, suc, ◌+◌, ◌-◌}
use native.Mathlib.Decide.{ℕ_discrete}
use lib.ListN.{length, get_or, take, drop}
use Rattle.base_limits.specs.Limits.{field_places, rule_places, pair_places, pair_items}
use Rattle.math_types.specs.Order.{Full, basic, list}
use Rattle.math_types.specs.Types.{Kind, basics, entry}
use Rattle.math_terms.specs.Terms.{Term}
use Rattle.math_terms.specs.Seqs.{concat_map}
use Rattle.text_grammar.specs.Limits.{IsLeft}
use Rattle.text_grammar.specs.Terms.{OurTerm}
use Rattle.text_grammar.specs.constants.Constants.{consts}
use Rattle.math_overlaps.specs.Shapes.{Side, left, right, Shape, both}
use Rattle.math_overlaps.specs.Candidates.{Cand}
use Rattle.math_overlaps.specs.Entries.{fields_for}
use Rattle.math_overlaps.specs.Overlaps.{map_shape, run_of}
use Rattle.math_overlaps.proofs.Candidates.{range_length}
use Rattle.overlap_spec.specs.Lines.{line_text, left_tag, right_tag}
use Rattle.overlap_spec.specs.Variables.{Variable, variables}
use Rattle.overlap_spec.specs.Overlaps.{entries_of, lines_of}
use Rattle.math_codes.specs.Tables.{Table}
use Rattle.math_codes.specs.Entries.{place_shape, place_shapes, entries_on}
use Rattle.math_codes.specs.Names.{no_names, name_fields}
use Rattle.math_codes.specs.Items.{items_of, entry_items, value_items}
use Rattle.math_codes.specs.Lines.{fields_text, value_text, values_text, our_row, OurTables, line_on, listed_on, our_table, our_texts}
use Rattle.math_codes.specs.Spots.{Spot, shape_from, spot_shape, spot_cands}
use Rattle.math_codes.specs.Walks.{or_nothing, joins_on, walk_on}
use Rattle.math_codes.specs.Whole.{spots_of, items_from, run_in, run_on, value_on, line_by, line_items, line_spots, list_spots}
use Rattle.math_codes.specs.Makers.{some_on}
use Rattle.math_codes.proofs.Spots.{scan_agrees, spot_cands_lem}
use Rattle.math_codes.proofs.Walks.{or_same, walk_agrees, items_agree}
use Rattle.math_codes.proofs.Lists.{list_agrees, our_tables, has_places, same_some}
use Rattle.math_codes.proofs.Makers.{has_some, some_agrees}

-- ---- the scans

module _ {S : Type 0} where
  both_some : (o : Option S) (q : Option (List S)) (Ps : List S) → both o q ≡ some Ps → (P : S) × (Qs : List S) × (o ≡ some P) × (q ≡ some Qs) × (Ps ≡ P ∷ Qs)
  both_some none q Ps e = absurd (none-ne-some Ps e)
  both_some (some P) none Ps e = absurd (none-ne-some Ps e)
  both_some (some P) (some Qs) Ps e = (P, Qs, refl, refl, sym (some-injective (P ∷ Qs) Ps e))

scans_agree : {C K A : Type 0} (w b : ℕ) (r : List (List (Term C (Full K) A))) (Ps : List (Shape ℕ A)) → place_shapes w b r ≡ some Ps
    → map spot_shape (spots_of w b r) ≡ Ps
scans_agree w b [] Ps e = some-injective [] Ps e
scans_agree w b (f ∷ r) Ps e =
    let q = both_some (place_shape b f) (place_shapes w (b + w) r) Ps e in
    ap₂ (λ x y. x ∷ y) (scan_agrees b f q.0 q.2) (scans_agree w (b + w) r q.1 q.3) ∙ sym q.4

-- ---- choices

module _ {L M : Type 0} where
  -- one candidate of each pair of fields
  abbrev pub Chosen : List (Spot L) → List (Spot M) → List Cand → Type 0
  Chosen [] [] [] = Unit {0}
  Chosen [] [] (c ∷ cs) = ⊥
  Chosen [] (Q ∷ Qs) cs = ⊥
  Chosen (P ∷ Ps) [] cs = ⊥
  Chosen (P ∷ Ps) (Q ∷ Qs) [] = ⊥
  Chosen (P ∷ Ps) (Q ∷ Qs) (c ∷ cs) = Memᴰ c (spot_cands P Q) × Chosen Ps Qs cs

pub concat_same : {A B : Type 0} (f g : A → List B) (s : List A) → ((x : A) → Memᴰ x s → f x ≡ g x) → concat_map f s ≡ concat_map g s
concat_same f g [] h = refl
concat_same {A} {B} f g (x ∷ s) h = ap₂ (λ (a b : List B). a ++ b) (h x (Memᴰ.head refl)) (concat_same f g s (λ y i. h y (Memᴰ.tail i)))

module _ (below : ℕ → ℕ → Bool) (T : Table) {L M : Type 0} where
  -- it does not matter what would be written of other choices
  pub walk_same : {X : Type 0} (Ps : List (Spot L)) (Qs : List (Spot M)) (atoms : List ℕ) (w v : List Cand → List ℕ → List X)
      → ((cs : List Cand) (last : List ℕ) → Chosen Ps Qs cs → w cs last ≡ v cs last)
      → walk_on below T Ps Qs atoms w ≡ walk_on below T Ps Qs atoms v
  walk_same [] [] atoms w v h = h [] atoms tt
  walk_same [] (Q ∷ Qs) atoms w v h = refl
  walk_same (P ∷ Ps) [] atoms w v h = refl
  walk_same (P ∷ Ps) (Q ∷ Qs) atoms w v h =
      concat_same (λ c. or_nothing (joins_on below T P Q c atoms) (λ next. walk_on below T Ps Qs next (λ cs last. w (c ∷ cs) last)))
      (λ c. or_nothing (joins_on below T P Q c atoms) (λ next. walk_on below T Ps Qs next (λ cs last. v (c ∷ cs) last))) (spot_cands P Q)
      (λ c i. or_same (joins_on below T P Q c atoms) (λ next. walk_on below T Ps Qs next (λ cs last. w (c ∷ cs) last))
      (λ next. walk_on below T Ps Qs next (λ cs last. v (c ∷ cs) last))
      (λ next. walk_same Ps Qs next (λ cs last. w (c ∷ cs) last) (λ cs last. v (c ∷ cs) last) (λ cs last k. h (c ∷ cs) last (i, k))))

-- one line of each
pub concat_single : {A B : Type 0} (f : A → B) (s : List A) → concat_map (λ x. f x ∷ []) s ≡ map f s
concat_single f [] = refl
concat_single f (x ∷ s) = ap (λ l. f x ∷ l) (concat_single f s)

-- ---- items and runs

module _ {L M : Type 0} (atoms : List ℕ) (n : ℕ) where
  items_from_lem : (g : ℕ) (Ps : List (Spot L)) (Qs : List (Spot M)) (cs : List Cand) → Chosen Ps Qs cs
      → map (items_of n) (map (map_shape (λ p. get_or atoms p 0)) (fields_for g (map spot_shape Ps) (map spot_shape Qs) cs)) ≡ items_from atoms n g Ps Qs cs
  items_from_lem g [] Qs cs h = refl
  items_from_lem g (P ∷ Ps) [] cs h = refl
  items_from_lem g (P ∷ Ps) (Q ∷ Qs) [] h = refl
  items_from_lem g (P ∷ Ps) (Q ∷ Qs) (c ∷ cs) h =
      ap₂ (λ (x : List ℕ) (y : List (List ℕ)). x ∷ y)
      (items_agree atoms P Q n g c (subst (λ (l : List Cand). Memᴰ c l) (sym (spot_cands_lem P Q)) h.0))
      (items_from_lem (suc g) Ps Qs cs h.1)

run_from : (b h t : ℕ) (o : Option ℕ) (Ps : List (Shape ℕ ℕ)) (w : List ℕ) (is : List (List ℕ)) (l : ℕ)
    → run_of ℕ_discrete (shape_from b h t o ∷ Ps) (w ∷ is) l ≡ run_in o h t w l (run_of ℕ_discrete Ps is l)
run_from b h t none Ps w is l = refl
run_from b h t (some m) Ps w is l =
    ap₂ (λ (x y : ℕ). ite (ℕ_discrete l m) (take (length w - (x + y)) (drop x w)) (run_of ℕ_discrete Ps is l)) (range_length b h) (range_length (suc (b + h)) t)

run_agrees : (Ps : List (Spot ℕ)) (is : List (List ℕ)) (l : ℕ) → run_of ℕ_discrete (map spot_shape Ps) is l ≡ run_on Ps is l
run_agrees [] is l = refl
run_agrees (P ∷ Ps) [] l = refl
run_agrees (P ∷ Ps) (w ∷ is) l =
    run_from P.base P.head P.tail P.name (map spot_shape Ps) w is l ∙ ap (run_in P.name P.head P.tail w l) (run_agrees Ps is l)

-- ---- lines and the list

module _ (r₁ r₂ : List (List OurTerm)) (T : Table) (texts : ℕ → List ℕ) where
  value_agrees : (d : Side) (Ps : List (Spot ℕ)) (atoms : List ℕ) (is : List (List ℕ)) (k : Kind) (a : ℕ)
      → value_items basics consts ℕ_discrete (our_row r₁ r₂) d (map spot_shape Ps) atoms is k a ≡ value_on r₁ r₂ d atoms (run_on Ps is) k a
  value_agrees d Ps atoms is (basic k) a = refl
  value_agrees d Ps atoms is list a = run_agrees Ps is a

  values_same : (ns : List ℕ) (tag : ℕ) (f g : Variable → List ℕ) → ((k : Kind) (a : ℕ) → f (k, a) ≡ g (k, a)) → (vs : List Variable)
      → values_text T texts ns tag f vs ≡ values_text T texts ns tag g vs
  values_same ns tag f g h vs = concat_same (λ v. value_text T texts ns tag v (f v)) (λ v. value_text T texts ns tag v (g v)) vs
      (λ v i. ap (value_text T texts ns tag v) (h v.0 v.1))

  line_spots_lem : (Ps Qs : List (Spot ℕ)) (cs : List Cand) (atoms : List ℕ) → Chosen Ps Qs cs
      → line_spots r₁ r₂ T texts Ps Qs cs atoms ≡ line_on r₁ r₂ T texts pair_places pair_items (map spot_shape Ps) (map spot_shape Qs) (cs, atoms)
  line_spots_lem Ps Qs cs atoms h =
      ap (line_items r₁ r₂ T texts Ps Qs atoms) (sym (items_from_lem atoms pair_places 0 Ps Qs cs h))
      ∙ same (entry_items pair_places (map spot_shape Ps) (map spot_shape Qs) (cs, atoms))
    where
      same : (is : List (List ℕ)) → line_items r₁ r₂ T texts Ps Qs atoms is
          ≡ line_by r₁ r₂ T texts (name_fields T (no_names pair_items 4) is).numbers is
          (λ v. value_items basics consts ℕ_discrete (our_row r₁ r₂) left (map spot_shape Ps) atoms is v.0 v.1)
          (λ v. value_items basics consts ℕ_discrete (our_row r₁ r₂) right (map spot_shape Qs) atoms is v.0 v.1)
      same is =
          let ns = (name_fields T (no_names pair_items 4) is).numbers in
          ap₂ (λ (a b : List ℕ). fields_text T texts ns is ++ (a ++ (b ++ 10 ∷ [])))
          (values_same ns left_tag (λ v. value_on r₁ r₂ left atoms (run_on Ps is) v.0 v.1)
          (λ v. value_items basics consts ℕ_discrete (our_row r₁ r₂) left (map spot_shape Ps) atoms is v.0 v.1)
          (λ k a. sym (value_agrees left Ps atoms is k a)) (variables r₁))
          (values_same ns right_tag (λ v. value_on r₁ r₂ right atoms (run_on Qs is) v.0 v.1)
          (λ v. value_items basics consts ℕ_discrete (our_row r₁ r₂) right (map spot_shape Qs) atoms is v.0 v.1)
          (λ k a. sym (value_agrees right Qs atoms is k a)) (variables r₂))

  module _ (ot : OurTables r₁ r₂ T texts) (ok₁ : IsLeft r₁) (ok₂ : IsLeft r₂) where
    -- THE LIST by numbers alone
    pub spots_agree : list_spots r₁ r₂ T texts ≡ map line_text (lines_of r₁ r₂)
    spots_agree =
        let Ps = spots_of field_places 0 r₁ in
        let Qs = spots_of field_places rule_places r₂ in
        let P = (has_places r₁ r₂ T texts ot ok₁ ok₂).0 in
        let Q = (has_places r₁ r₂ T texts ot ok₁ ok₂).1 in
        let line : List Cand × List ℕ → List ℕ = line_on r₁ r₂ T texts pair_places pair_items (map spot_shape Ps) (map spot_shape Qs) in
        walk_same entry T Ps Qs T.first (λ cs last. line_spots r₁ r₂ T texts Ps Qs cs last ∷ []) (λ cs last. line (cs, last) ∷ [])
        (λ cs last h. ap (λ (l : List ℕ). l ∷ []) (line_spots_lem Ps Qs cs last h))
        ∙ sym (walk_agrees entry T Ps Qs T.first (λ cs last. line (cs, last) ∷ []))
        ∙ concat_single line (entries_on entry T ℕ ℕ (map spot_shape Ps) (map spot_shape Qs) T.first)
        ∙ ap₂ (λ (x y : List (Shape ℕ ℕ)). listed_on r₁ r₂ T texts (some x) (some y)) (scans_agree field_places 0 r₁ P.0 P.1)
        (scans_agree field_places rule_places r₂ Q.0 Q.1)
        ∙ sym (ap₂ (listed_on r₁ r₂ T texts) P.1 Q.1)
        ∙ list_agrees r₁ r₂ T texts ot ok₁ ok₂

    -- and whether there is an entry
    pub some_entry : some_on entry T (spots_of field_places 0 r₁) (spots_of field_places rule_places r₂) T.first ≡ has_some (entries_of r₁ r₂)
    some_entry =
        let P = (has_places r₁ r₂ T texts ot ok₁ ok₂).0 in
        let Q = (has_places r₁ r₂ T texts ot ok₁ ok₂).1 in
        sym (some_agrees entry T (spots_of field_places 0 r₁) (spots_of field_places rule_places r₂) T.first)
        ∙ ap₂ (λ (x y : List (Shape ℕ ℕ)). has_some (entries_on entry T ℕ ℕ x y T.first)) (scans_agree field_places 0 r₁ P.0 P.1)
        (scans_agree field_places rule_places r₂ Q.0 Q.1)
        ∙ same_some r₁ r₂ T texts ot ok₁ ok₂ P.0 Q.0 P.1 Q.1

-- there are tables for every two rules
pub spots_text : (r₁ r₂ : List (List OurTerm)) → IsLeft r₁ → IsLeft r₂ → list_spots r₁ r₂ (our_table r₁ r₂) (our_texts r₁ r₂) ≡ map line_text (lines_of r₁ r₂)
spots_text r₁ r₂ ok₁ ok₂ = spots_agree r₁ r₂ (our_table r₁ r₂) (our_texts r₁ r₂) (our_tables r₁ r₂) ok₁ ok₂
