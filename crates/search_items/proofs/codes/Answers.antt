-- An answer's line on codes is its text: the values of the variables as items, their numbers, and the bindings written with them.
use mathlib.Core.Path.{◌≡◌, sym, ap, ap₂, ◌∙◌, subst}
use mathlib.Core.Logic.{◌⊎◌, inl, inr}
use mathlib.Core.List.Memᴰ
use mathlib.Core.List.{List, [], ◌∷◌, ◌++◌, map, Memᴰ}
use Prim.Native.Nat.{ℕ, ◌+◌}
use native.Mathlib.Omega.{arith}
use lib.ListN.{length, get_or, drop}
use Rattle.base_limits.specs.Limits.{most_fields, numbers_of_side, field_places, rule_places, pair_places, list_items, pair_items}
use Rattle.base_lists.specs.Seqs.{All, Any, all_mem}
use Rattle.math_types.specs.Order.{basic, list}
use Rattle.math_types.specs.Types.{Basic, Kind, basics}
use Rattle.math_terms.specs.Fillings.{Occurs}
use Rattle.text_grammar.specs.Limits.{IsLeft}
use Rattle.text_grammar.specs.Terms.{OurTerm, OurFields}
use Rattle.text_grammar.specs.constants.Constants.{consts}
use Rattle.math_overlaps.specs.Shapes.{free, Side, left, right, Variable, of}
use Rattle.math_overlaps.specs.Joins.{State}
use Rattle.overlap_spec.specs.Lines.{left_tag, right_tag, bindings_text}
use Rattle.overlap_spec.specs.Overlaps.{bindings_of}
use Rattle.overlap_spec.specs.Variables as listed
use Rattle.overlap_spec.specs.Variables.{variables}
use Rattle.overlap_spec.proofs.Variables.{in_variables}
use Rattle.math_search.specs.Problems.{atomic, listvar, Tm, Field, Bindings}
use Rattle.math_search.specs.Pairs.{sixteen_above}
use Rattle.math_codes.specs.Tables.{IsCode, Table, code_of, same}
use Rattle.math_codes.specs.Names.{no_names, name_fields}
use Rattle.math_codes.specs.Lines.{our_vars, OurOriginTerm, values_text, our_row, our_terms, OurTables}
use Rattle.math_codes.specs.Whole.{value_on}
use Rattle.math_codes.specs.Index.{Indexes, Tops, indexed_values, listed_values, indexed_answer}
use Rattle.math_codes.proofs.Tables.{code_holds, is_code}
use Rattle.math_codes.proofs.Seqs.{Each, each_append, each_image}
use Rattle.math_codes.proofs.Joins.{Represents}
use Rattle.math_codes.proofs.Places.{StandAll, left_stand, right_stand}
use Rattle.math_codes.proofs.Items.{atom_item, list_item, there}
use Rattle.math_codes.proofs.Lines.{Met, met_fields, origin_term_eq, values_text_lem}
use Rattle.math_codes.proofs.Lists.{row_long, terms_long}
use Rattle.math_codes.proofs.Index.{values_indexed, values_ranked, values_listed}
use Rattle.search_spec.specs.Answers.{setting, origin_of, value_of, values_on, values_of, shown_on, answer_text}
use Rattle.search_items.specs.codes.Codes.{code_tm, codes_of, On}

module _ (f g : List OurTerm) (T : Table) (texts : ℕ → List ℕ) (ot : OurTables (f ∷ []) (g ∷ []) T texts) (ok₁ : IsLeft (f ∷ []))
    (ok₂ : IsLeft (g ∷ [])) (σ : Bindings setting) (s : State basics consts our_vars)
    (one : (x : Variable Basic ℕ) → σ (atomic (free x)) ≡ atomic (s x) ∷ [])
    (atoms : List ℕ) (rep : Represents basics consts our_vars (our_row (f ∷ []) (g ∷ [])) atoms s) where
  abbrev r₁ : OurFields
  r₁ = f ∷ []

  abbrev r₂ : OurFields
  r₂ = g ∷ []

  abbrev Item : ℕ → OurOriginTerm → Type 0
  Item c u = IsCode origin_term_eq (our_terms r₁ r₂) c u

  long : length (our_row r₁ r₂) ≡ pair_places
  long = row_long r₁ r₂ T texts ot ok₁ ok₂

  -- ---- a term's code is its item

  term_item : (u : Tm setting) → On (our_row r₁ r₂) u → Item (code_tm (our_row r₁ r₂) u) (origin_of u)
  term_item (atomic a) h =
      atom_item (our_row r₁ r₂) list_items (same basics consts our_vars) origin_term_eq (code_of (same basics consts our_vars) (our_row r₁ r₂) a) a
      (is_code (same basics consts our_vars) (our_row r₁ r₂) h.0 a h.1)
  term_item (listvar n) h =
      subst (λ (b : ℕ). Item (b + n) (origin_of (listvar n))) long (list_item (our_row r₁ r₂) list_items (same basics consts our_vars) origin_term_eq n h)

  field_items_lem : (us : Field setting) → All (On (our_row r₁ r₂)) us → Each Item (codes_of (our_row r₁ r₂) us) (map origin_of us)
  field_items_lem [] h = tt
  field_items_lem (u ∷ us) h = (term_item u h.0, field_items_lem us h.1)

  -- ---- the values of the field on a side

  module _ (d : Side) (e : List OurTerm) (ok : IsLeft (e ∷ [])) (b : ℕ) (st : StandAll (our_row r₁ r₂) d field_places b (e ∷ [])) (x tops : ℕ → ℕ)
      (ix : Indexes r₁ r₂ d (e ∷ []) x) (tp : Tops (e ∷ []) tops) (runs : ℕ → List ℕ)
      (known : (n : ℕ) → Occurs list n e
      → (runs n ≡ codes_of (our_row r₁ r₂) (σ (listvar (sixteen_above d n)))) × All (On (our_row r₁ r₂)) (σ (listvar (sixteen_above d n)))) where
    abbrev value : listed.Variable → List ℕ
    value v = value_on r₁ r₂ d atoms runs v.0 v.1

    only : {P : Type 0} → P ⊎ ⊥ → P
    only (inl p) = p
    only (inr z) = absurd z

    value_items_lem : (k : Kind) (n : ℕ) → Any (Occurs k n) (e ∷ []) → Each Item (value (k, n)) (value_of d σ k n)
    value_items_lem (basic k) n o =
        let p = there (our_row r₁ r₂) d k n field_places b (e ∷ []) st o in
        let x = free (of d k n) in
        let c = code_of (same basics consts our_vars) (our_row r₁ r₂) x in
        subst (λ (us : Field setting). Each Item (value (basic k, n)) (map origin_of us)) (sym (one (of d k n))) (
          atom_item (our_row r₁ r₂) list_items (same basics consts our_vars) origin_term_eq (get_or atoms c 0) (s (of d k n))
              (rep.held c x (code_holds (same basics consts our_vars) (our_row r₁ r₂) p.0 x p.1)),
          tt,
        )
    value_items_lem list n o =
        let q = known n (only o) in
        subst (λ (cs : List ℕ). Each Item cs (value_of d σ list n)) (sym q.0) (field_items_lem (σ (listvar (sixteen_above d n))) q.1)

    listed_items : Each (Each Item) (listed_values x tops atoms runs) (values_on d e σ)
    listed_items =
        subst (λ (is : List (List ℕ)). Each (Each Item) is (values_on d e σ)) (sym (values_listed r₁ r₂ d (e ∷ []) x ix atoms runs tops tp))
        (each_image (Each Item) value (λ v. value_of d σ v.0 v.1) (variables (e ∷ []))
        (λ v i. value_items_lem v.0 v.1 ((in_variables (e ∷ []) ok.0.3 v.0 v.1).0 i)))

    -- the bindings written, with the numbers of values among which these are
    module _ (is : List (List ℕ)) (h : Each (Each Item) is (values_of f g σ))
        (among : (v : listed.Variable) → Memᴰ v (variables (e ∷ [])) → Memᴰ (value_of d σ v.0 v.1) (values_of f g σ)) (tag : ℕ) where
      side_text : indexed_values T texts (name_fields T (no_names pair_items 4) is).numbers tag x tops atoms runs
          ≡ bindings_text tag (bindings_of (e ∷ []) (shown_on d f g σ))
      side_text =
          let ns = (name_fields T (no_names pair_items 4) is).numbers in
          let fs = values_of f g σ in
          sym (values_indexed r₁ r₂ d (e ∷ []) x ix atoms runs T texts ns tag ∙ values_ranked r₁ r₂ d (e ∷ []) x ix atoms runs T texts ns tag tops tp)
          ∙ ap (λ (n : ℕ). values_text T texts (name_fields T (no_names n 4) is).numbers tag value (variables (e ∷ [])))
          (sym (terms_long r₁ r₂ T texts ot ok₁ ok₂))
          ∙ values_text_lem r₁ r₂ T texts ot is fs h tag value (value_of d σ) (variables (e ∷ []))
          (λ k n i. (
            value_items_lem k n ((in_variables (e ∷ []) ok.0.3 k n).0 i),
            all_mem (All (Met fs)) fs (met_fields fs fs (λ k b o. o)) (value_of d σ k n) (among (k, n) i),
          ))

  -- THE LINE
  module _ (x₁ t₁ x₂ t₂ : ℕ → ℕ) (ix₁ : Indexes r₁ r₂ left r₁ x₁) (ix₂ : Indexes r₁ r₂ right r₂ x₂) (tp₁ : Tops r₁ t₁) (tp₂ : Tops r₂ t₂)
      (runs₁ runs₂ : ℕ → List ℕ)
      (known₁ : (n : ℕ) → Occurs list n f
      → (runs₁ n ≡ codes_of (our_row r₁ r₂) (σ (listvar n))) × All (On (our_row r₁ r₂)) (σ (listvar n)))
      (known₂ : (n : ℕ) → Occurs list n g
      → (runs₂ n ≡ codes_of (our_row r₁ r₂) (σ (listvar (numbers_of_side + n)))) × All (On (our_row r₁ r₂)) (σ (listvar (numbers_of_side + n)))) where
    pub answer_agrees : indexed_answer T texts x₁ t₁ runs₁ x₂ t₂ runs₂ atoms ≡ answer_text f g σ
    answer_agrees =
        let st₁ = left_stand field_places most_fields r₁ r₂ ok₁.0.2 ok₂.0.2 (omega (arith, ok₁.0.1)) in
        let st₂ = right_stand field_places most_fields r₁ r₂ ok₁.0.2 ok₂.0.2 (omega (arith, ok₁.0.1)) in
        let is = listed_values x₁ t₁ atoms runs₁ ++ listed_values x₂ t₂ atoms runs₂ in
        let h = each_append (Each Item) (listed_values x₁ t₁ atoms runs₁) (listed_values x₂ t₂ atoms runs₂) (values_on left f σ) (values_on right g σ)
        (listed_items left f ok₁ 0 st₁ x₁ t₁ ix₁ tp₁ runs₁ known₁)
        (listed_items right g ok₂ rule_places st₂ x₂ t₂ ix₂ tp₂ runs₂ known₂) in
        ap₂ (λ (a b : List ℕ). drop 1 (a ++ b) ++ 10 ∷ [])
        (side_text left f ok₁ 0 st₁ x₁ t₁ ix₁ tp₁ runs₁ known₁ is h
        (λ v i. Memᴰ.append_left (values_on right g σ) (Memᴰ.map (λ (v : listed.Variable). value_of left σ v.0 v.1) i)) left_tag)
        (side_text right g ok₂ rule_places st₂ x₂ t₂ ix₂ tp₂ runs₂ known₂ is h
        (λ v i. Memᴰ.append_right (values_on left f σ) (Memᴰ.map (λ (v : listed.Variable). value_of right σ v.0 v.1) i)) right_tag)
