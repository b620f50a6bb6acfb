-- THE LIST made on codes is the overlap list, line by line, and there are tables for every two rules.
use mathlib.Core.Path.{◌≡◌, refl, sym, ap, ap₂, ◌∙◌}
use mathlib.Core.Option.{some, some-injective}
use mathlib.Core.List.{List, [], ◌∷◌, map, map-map}
use Prim.Native.Nat.{ℕ, ◌+◌, ◌*◌, ◌≤◌}
use native.Mathlib.Omega.{arith}
use native.Mathlib.Decide.{ℕ_discrete}
use lib.ListN.{length, length-append, length-map}
use Rattle.base_limits.specs.Limits.{most_fields, field_places, rule_places, pair_places, list_items, pair_items}
use Rattle.math_types.specs.Order.{list}
use Rattle.math_types.specs.Types.{basics, entry, rank}
use Rattle.math_terms.specs.Terms.{var}
use Rattle.math_terms.specs.Seqs.{Distinct}
use Rattle.text_grammar.specs.Limits.{IsLeft}
use Rattle.text_grammar.specs.Terms.{OurTerm}
use Rattle.text_grammar.specs.constants.Constants.{consts}
use Rattle.text_grammar.proofs.constants.Linear.{left_linear}
use Rattle.math_overlaps.specs.Shapes.{fixed, free, left, right, of, Shape, shapes_of}
use Rattle.math_overlaps.specs.Candidates.{Cand, range}
use Rattle.math_overlaps.specs.Joins.{start}
use Rattle.math_overlaps.specs.Entries.{entries}
use Rattle.math_overlaps.specs.Overlaps.{place, term_of, PairShape, shown, listed}
use Rattle.math_overlaps.proofs.Linear.{linear_shapes}
use Rattle.math_overlaps.proofs.Named.{gaps}
use Rattle.overlap_spec.specs.Lines.{line_text}
use Rattle.overlap_spec.specs.Overlaps.{entries_of, line_of, lines_of}
use Rattle.overlap_spec.proofs.Exact.{entries_cons}
use Rattle.math_codes.specs.Tables.{Table, kind_a, is_free}
use Rattle.math_codes.specs.Entries.{place_shapes, entries_on}
use Rattle.math_codes.specs.Items.{shown_at}
use Rattle.math_codes.specs.Lines.{our_vars, OurAtom, our_ranks, our_row, our_terms, OurTables, rank_term, var_term, text_term, our_table, our_texts}
use Rattle.math_codes.specs.Lines.{line_on, listed_on, list_on}
use Rattle.math_codes.proofs.Tables.{made}
use Rattle.math_codes.proofs.Seqs.{Each, OnShape}
use Rattle.math_codes.proofs.Entries.{OnEntry, At-place, entries_are}
use Rattle.math_codes.proofs.Places.{left_stand, right_stand, left_places, right_places, pair_long}
use Rattle.math_codes.proofs.Items.{atom_there}
use Rattle.math_codes.proofs.Makers.{has_some, some_map}
use Rattle.math_codes.proofs.Lines.{line_agrees, each_text, some_there}

each_some_same : {A B : Type 0} (R : A → B → Type 0) (xs : List A) (ys : List B) → Each R xs ys → has_some xs ≡ has_some ys
each_some_same R [] [] h = refl
each_some_same R [] (y ∷ ys) h = absurd h
each_some_same R (x ∷ xs) [] h = absurd h
each_some_same R (x ∷ xs) (y ∷ ys) h = refl

module _ (r₁ r₂ : List (List OurTerm)) (T : Table) (texts : ℕ → List ℕ) (ot : OurTables r₁ r₂ T texts) (ok₁ : IsLeft r₁) (ok₂ : IsLeft r₂) where
  few₁ : length r₁ * field_places ≤ rule_places
  few₁ = omega (arith, ok₁.0.1)

  few₂ : length r₂ * field_places ≤ rule_places
  few₂ = omega (arith, ok₂.0.1)

  pub row_long : length (our_row r₁ r₂) ≡ pair_places
  row_long = pair_long field_places most_fields r₁ r₂ ok₁.0.2 ok₂.0.2 few₁ few₂

  pub terms_long : length (our_terms r₁ r₂) ≡ pair_items
  terms_long =
      length-append (map shown_at (our_row r₁ r₂)) (map (λ g. some (var list (place g))) (range 0 list_items))
      ∙ ap (λ (n : ℕ). n + list_items) (length-map (our_row r₁ r₂) shown_at ∙ row_long)

  module _ (Ps Qs : List (Shape ℕ ℕ)) (Ss Ts : List (PairShape basics consts ℕ_discrete))
      (i : Each (OnShape (At-place basics consts our_vars (our_row r₁ r₂))) Ps Ss) (j : Each (OnShape (At-place basics consts our_vars (our_row r₁ r₂))) Qs Ts)
      (is₁ : shapes_of left r₁ ≡ some Ss) (is₂ : shapes_of right r₂ ≡ some Ts) (lin₁ : Distinct (gaps Ss)) (lin₂ : Distinct (gaps Ts)) where
    lines_same : map (line_on r₁ r₂ T texts pair_places pair_items Ps Qs) (entries_on entry T ℕ ℕ Ps Qs T.first)
        ≡ map (λ f. line_text (line_of r₁ r₂ (shown basics consts ℕ_discrete Ss Ts f)))
        (entries basics consts our_vars ℕ ℕ Ss Ts (start basics consts our_vars))
    lines_same =
        each_text (OnEntry basics consts our_vars (our_row r₁ r₂)) (line_on r₁ r₂ T texts pair_places pair_items Ps Qs)
        (λ f. line_text (line_of r₁ r₂ (shown basics consts ℕ_discrete Ss Ts f)))
        (entries_on entry T ℕ ℕ Ps Qs T.first) (entries basics consts our_vars ℕ ℕ Ss Ts (start basics consts our_vars))
        (entries_are basics consts our_vars (our_row r₁ r₂) our_ranks T ot.atoms ℕ ℕ Ps Ss Qs Ts i j)
        (λ e f m r.
        ap₂ (λ (n k : ℕ). line_on r₁ r₂ T texts n k Ps Qs e) (sym row_long) (sym terms_long)
        ∙ ap (λ (cs : List Cand). line_on r₁ r₂ T texts (length (our_row r₁ r₂)) (length (our_terms r₁ r₂)) Ps Qs (cs, e.1)) r.0
        ∙ line_agrees r₁ r₂ T texts ot
        (left_stand field_places most_fields r₁ r₂ ok₁.0.2 ok₂.0.2 few₁) (right_stand field_places most_fields r₁ r₂ ok₁.0.2 ok₂.0.2 few₁) ok₁ ok₂
        Ps Qs Ss Ts i j is₁ is₂ lin₁ lin₂ f.0 e.1 f.1 r.1 m)

    all_agree : listed_on r₁ r₂ T texts (some Ps) (some Qs) ≡ map line_text (lines_of r₁ r₂)
    all_agree =
        lines_same
        ∙ sym (map-map (λ e. line_text (line_of r₁ r₂ e)) (shown basics consts ℕ_discrete Ss Ts)
        (entries basics consts our_vars ℕ ℕ Ss Ts (start basics consts our_vars)))
        ∙ sym (map-map line_text (line_of r₁ r₂) (map (shown basics consts ℕ_discrete Ss Ts)
        (entries basics consts our_vars ℕ ℕ Ss Ts (start basics consts our_vars))))
        ∙ sym (ap (λ es. map line_text (map (line_of r₁ r₂) es)) (entries_cons r₁ r₂ ok₁.0.0 ∙ ap₂ (listed basics consts ℕ_discrete) is₁ is₂))

  -- the rules have shapes over places
  pub has_places : ((Ps : List (Shape ℕ ℕ)) × (place_shapes field_places 0 r₁ ≡ some Ps))
      × ((Qs : List (Shape ℕ ℕ)) × (place_shapes field_places rule_places r₂ ≡ some Qs))
  has_places =
      let S = linear_shapes left r₁ (left_linear r₁ ok₁.1) in
      let U = linear_shapes right r₂ (left_linear r₂ ok₂.1) in
      let R = Each (OnShape (At-place basics consts our_vars (our_row r₁ r₂))) in
      let P = some_there R (place_shapes field_places 0 r₁) (shapes_of left r₁) S.0 (left_places field_places most_fields r₁ r₂ ok₁.0.2 ok₂.0.2 few₁)
      S.1 in
      let Q = some_there R (place_shapes field_places rule_places r₂) (shapes_of right r₂) U.0
      (right_places field_places most_fields r₁ r₂ ok₁.0.2 ok₂.0.2 few₁) U.1 in
      ((P.0, P.1), (Q.0, Q.1))

  -- an entry on codes where there is one
  pub same_some : (Ps Qs : List (Shape ℕ ℕ)) → place_shapes field_places 0 r₁ ≡ some Ps → place_shapes field_places rule_places r₂ ≡ some Qs
      → has_some (entries_on entry T ℕ ℕ Ps Qs T.first) ≡ has_some (entries_of r₁ r₂)
  same_some Ps Qs e₁ e₂ =
      let S = linear_shapes left r₁ (left_linear r₁ ok₁.1) in
      let U = linear_shapes right r₂ (left_linear r₂ ok₂.1) in
      let R = Each (OnShape (At-place basics consts our_vars (our_row r₁ r₂))) in
      let P = some_there R (place_shapes field_places 0 r₁) (shapes_of left r₁) S.0 (left_places field_places most_fields r₁ r₂ ok₁.0.2 ok₂.0.2 few₁)
      S.1 in
      let Q = some_there R (place_shapes field_places rule_places r₂) (shapes_of right r₂) U.0
      (right_places field_places most_fields r₁ r₂ ok₁.0.2 ok₂.0.2 few₁) U.1 in
      ap₂ (λ (x y : List (Shape ℕ ℕ)). has_some (entries_on entry T ℕ ℕ x y T.first))
      (some-injective Ps P.0 (sym e₁ ∙ P.1)) (some-injective Qs Q.0 (sym e₂ ∙ Q.1))
      ∙ each_some_same (OnEntry basics consts our_vars (our_row r₁ r₂)) (entries_on entry T ℕ ℕ P.0 Q.0 T.first)
      (entries basics consts our_vars ℕ ℕ S.0 U.0 (start basics consts our_vars))
      (entries_are basics consts our_vars (our_row r₁ r₂) our_ranks T ot.atoms ℕ ℕ P.0 S.0 Q.0 U.0 P.2 Q.2)
      ∙ sym (some_map (shown basics consts ℕ_discrete S.0 U.0) (entries basics consts our_vars ℕ ℕ S.0 U.0 (start basics consts our_vars)))
      ∙ sym (ap has_some (entries_cons r₁ r₂ ok₁.0.0 ∙ ap₂ (listed basics consts ℕ_discrete) S.1 U.1))

  -- THE LIST
  pub list_agrees : list_on r₁ r₂ T texts ≡ map line_text (lines_of r₁ r₂)
  list_agrees =
      let S = linear_shapes left r₁ (left_linear r₁ ok₁.1) in
      let U = linear_shapes right r₂ (left_linear r₂ ok₂.1) in
      let P = some_there (Each (OnShape (At-place basics consts our_vars (our_row r₁ r₂)))) (place_shapes field_places 0 r₁) (shapes_of left r₁) S.0
      (left_places field_places most_fields r₁ r₂ ok₁.0.2 ok₂.0.2 few₁) S.1 in
      let Q = some_there (Each (OnShape (At-place basics consts our_vars (our_row r₁ r₂)))) (place_shapes field_places rule_places r₂) (shapes_of right r₂) U.0
      (right_places field_places most_fields r₁ r₂ ok₁.0.2 ok₂.0.2 few₁) U.1 in
      ap₂ (listed_on r₁ r₂ T texts) P.1 Q.1
      ∙ all_agree P.0 Q.0 S.0 U.0 P.2 Q.2 S.1 U.1 S.2 U.2

-- ---- there are such tables

module _ (r₁ r₂ : List (List OurTerm)) where
  rank_term_lem : (a : OurAtom) → rank_term (some (term_of a)) ≡ our_ranks.rank (kind_a basics consts our_vars a)
  rank_term_lem (fixed c) = refl
  rank_term_lem (free (of s k n)) = refl

  var_term_lem : (a : OurAtom) → var_term (some (term_of a)) ≡ is_free basics consts our_vars a
  var_term_lem (fixed c) = refl
  var_term_lem (free (of s k n)) = refl

  pub our_tables : OurTables r₁ r₂ (our_table r₁ r₂) (our_texts r₁ r₂)
  our_tables =
      let m = made basics consts our_vars our_ranks (our_row r₁ r₂) in
      record {
        atoms =
            record {
              long = m.long;
              firsts = m.firsts;
              kinds = λ p a h. ap rank_term (atom_there (our_row r₁ r₂) list_items p a h) ∙ rank_term_lem a;
              variables = λ p a h. ap var_term (atom_there (our_row r₁ r₂) list_items p a h) ∙ var_term_lem a;
            };
        terms =
            record {
              kinds = λ c k b h. ap rank_term h;
              variables = λ c u h. ap var_term h;
            };
        plain = λ c d h. ap text_term h;
      }

  -- so the list can be made on codes alone
  pub list_text_lem : IsLeft r₁ → IsLeft r₂ → list_on r₁ r₂ (our_table r₁ r₂) (our_texts r₁ r₂) ≡ map line_text (lines_of r₁ r₂)
  list_text_lem ok₁ ok₂ = list_agrees r₁ r₂ (our_table r₁ r₂) (our_texts r₁ r₂) our_tables ok₁ ok₂
