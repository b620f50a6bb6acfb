-- The lines on the tables of two rules are those of the overlap list; rules with different field counts have none.
use mathlib.Core.Path.{◌≡◌, refl, sym, ◌∙◌, ap, ap₂}
use mathlib.Core.Logic.{◌≢◌}
use mathlib.Core.Bool.{true, false}
use mathlib.Core.Option.{Option, none, some}
use mathlib.Core.List.{List, [], ◌∷◌, ◌++◌, map}
use Prim.Native.Nat.{ℕ, suc}
use native.Mathlib.Decide.{ℕ_discrete}
use lib.ListN.{length}
use Rattle.base_limits.specs.Limits.{field_places, rule_places}
use Rattle.math_types.specs.Types.{basics, entry}
use Rattle.text_grammar.specs.Terms.{OurFields}
use Rattle.text_grammar.specs.Limits.{IsLeft}
use Rattle.text_grammar.specs.constants.Constants.{consts}
use Rattle.math_overlaps.specs.Shapes.{left, right, shapes_of}
use Rattle.math_overlaps.specs.Candidates.{Cand, cands}
use Rattle.math_overlaps.specs.Joins.{joins, start}
use Rattle.math_overlaps.specs.Entries.{equations, chosen, branch, entries}
use Rattle.math_overlaps.specs.Overlaps.{PairShape, PairState, shown, listed}
use Rattle.math_overlaps.proofs.Linear.{shapes_count}
use Rattle.overlap_spec.specs.Lines.{line_text}
use Rattle.overlap_spec.specs.Overlaps.{line_of, lines_of}
use Rattle.math_codes.specs.Lines.{our_vars, OurTables}
use Rattle.math_codes.specs.Spots.{Spot}
use Rattle.math_codes.specs.Walks.{walk_on}
use Rattle.math_codes.specs.Whole.{spots_of}
use Rattle.math_codes.specs.Index.{Indexes, Tops, indexed_line}
use Rattle.math_codes.proofs.Whole.{Chosen, walk_same}
use Rattle.math_codes.proofs.Index.{lines_agree}
use Rattle.pair_row.specs.Row.{table_in, text_in, index_in, top_in}
use Rattle.overlap_entries.specs.Entries.{no_choice}
use Rattle.pair_lines.specs.Lines.{spots_in, line_in}
use Rattle.pair_lines.specs.Lines.{chosen_by}
use Rattle.overlap_list.specs.Listing.{all_lines}
use Rattle.overlap_list.proofs.Walk.{walk_lines}

-- ---- the list

module _ (row texts : List ℕ) (n : ℕ) where
  -- the line by the tables of the row
  abbrev pub indexed_by : List (Spot ℕ) → List (Spot ℕ) → List Cand → List ℕ → List ℕ
  indexed_by Ps Qs cs last =
      indexed_line (table_in row) (text_in row texts) (index_in row false) (top_in row false) (index_in row true) (top_in row true) Ps Qs cs last

  -- the choice that code makes gives the line of its candidates
  abbrev pub LineIs : Type 0
  LineIs =
      (cs : List Cand) (last : List ℕ) → Chosen (spots_in row false n) (spots_in row true n) cs
      → line_in row texts n (chosen_by no_choice 0 (spots_in row false n) (spots_in row true n) cs) last
      ≡ indexed_by (spots_in row false n) (spots_in row true n) cs last

  pub all_lines_lem : (r₁ r₂ : OurFields) → IsLeft r₁ → IsLeft r₂ → spots_in row false n ≡ spots_of field_places 0 r₁
      → spots_in row true n ≡ spots_of field_places rule_places r₂
      → OurTables r₁ r₂ (table_in row) (text_in row texts) → Indexes r₁ r₂ left r₁ (index_in row false) → Indexes r₁ r₂ right r₂ (index_in row true)
      → Tops r₁ (top_in row false) → Tops r₂ (top_in row true) → LineIs
      → all_lines row texts n ≡ map line_text (lines_of r₁ r₂)
  all_lines_lem r₁ r₂ ok₁ ok₂ is_left is_right tables x₁ x₂ t₁ t₂ line_is =
      let Ps = spots_in row false n in
      let Qs = spots_in row true n in
      walk_lines row texts n
      ∙ walk_same entry (table_in row) Ps Qs (table_in row).first (λ cs last. line_in row texts n (chosen_by no_choice 0 Ps Qs cs) last ∷ [])
      (λ cs last. indexed_by Ps Qs cs last ∷ []) (λ cs last h. ap (λ (l : List ℕ). l ∷ []) (line_is cs last h))
      ∙ ap₂ (λ (X Y : List (Spot ℕ)). walk_on entry (table_in row) X Y (table_in row).first (λ cs last. indexed_by X Y cs last ∷ [])) is_left is_right
      ∙ lines_agree r₁ r₂ (table_in row) (text_in row texts) tables ok₁ ok₂ (index_in row false) (top_in row false) (index_in row true) (top_in row true) x₁ x₂ t₁ t₂

-- ---- document 01: "Rules with different field counts have no entries."

abbrev OurShape : Type 0
OurShape = PairShape basics consts ℕ_discrete

abbrev OurState : Type 0
OurState = PairState basics consts ℕ_discrete

abbrev Raw : Type 0
Raw = List Cand × OurState

branch_none : (cs : List Cand) (j : Cand → Option OurState) (k : OurState → List Raw) → ((s : OurState) → k s ≡ []) → branch cs j k ≡ []
branch_none [] j k h = refl
branch_none (c ∷ cs) j k h = ap₂ (λ (a b : List Raw). a ++ b) (go (j c)) (branch_none cs j k h)
  where
    go : (o : Option OurState) → chosen c o k ≡ []
    go none = refl
    go (some s) = ap (map (λ (e : Raw). (c ∷ e.0, e.1))) (h s)

raw_none : (Ss Ts : List OurShape) (s : OurState) → length Ss ≢ length Ts → entries basics consts our_vars ℕ ℕ Ss Ts s ≡ []
raw_none [] [] s n = absurd (n refl)
raw_none [] (T ∷ Ts) s n = refl
raw_none (S ∷ Ss) [] s n = refl
raw_none (S ∷ Ss) (T ∷ Ts) s n =
    branch_none (cands S T) (λ c. joins basics consts our_vars (equations S T c) s) (λ s'. entries basics consts our_vars ℕ ℕ Ss Ts s')
    (λ s'. raw_none Ss Ts s' (λ e. n (ap suc e)))

listed_none : (o p : Option (List OurShape)) → ((Ss Ts : List OurShape) → o ≡ some Ss → p ≡ some Ts → length Ss ≢ length Ts)
    → listed basics consts ℕ_discrete o p ≡ []
listed_none none p h = refl
listed_none (some Ss) none h = refl
listed_none (some Ss) (some Ts) h = ap (map (shown basics consts ℕ_discrete Ss Ts)) (raw_none Ss Ts (start basics consts our_vars) (h Ss Ts refl refl))

pub lines_none : (r₁ r₂ : OurFields) → length r₁ ≢ length r₂ → lines_of r₁ r₂ ≡ []
lines_none [] r₂ n = refl
lines_none (f ∷ r₁) r₂ n =
    ap (map (line_of (f ∷ r₁) r₂)) (listed_none (shapes_of left (f ∷ r₁)) (shapes_of right r₂)
    (λ Ss Ts a b e. n (sym (shapes_count left (f ∷ r₁) Ss a) ∙ e ∙ shapes_count right r₂ Ts b)))
