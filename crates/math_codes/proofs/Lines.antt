-- The list made on codes is the overlap list's text, for rules that reading returns.
use mathlib.Core.Path.{◌≡◌, refl, ap, ap₂, ◌∙◌, subst}
use mathlib.Core.Logic.{inl, inr}
use mathlib.Core.Option.{Option, none, some}
use mathlib.Core.List.{List, [], ◌∷◌, ◌++◌, map, Memᴰ}
use Prim.Native.Nat.{ℕ, ◌-◌, ◌≤◌}
use native.Mathlib.Omega.{arith}
use native.Mathlib.Decide.{ℕ_discrete}
use lib.ListN.{length}
use Rattle.base_limits.specs.Limits.{field_places, rule_places, list_items}
use Rattle.base_lists.specs.Seqs.{All, Any}
use Rattle.math_types.specs.Order.{basic, list, full-eq}
use Rattle.math_types.specs.Types.{Kind, basic_eq, basics, rank, rank_kinds, rank_once}
use Rattle.math_terms.specs.Terms.{Term, con, var, term-eq}
use Rattle.math_terms.specs.Fillings.{Occurs}
use Rattle.math_terms.specs.Seqs.{concat_map, Distinct}
use Rattle.text_grammar.specs.Letters.{letter}
use Rattle.text_grammar.specs.Grammar.{colons, bars}
use Rattle.text_grammar.specs.Numbers.{digits_of}
use Rattle.text_grammar.specs.Limits.{IsLeft}
use Rattle.text_grammar.specs.Plain.{raw_of, raw_field, term_text, field_text, plain}
use Rattle.text_grammar.specs.Terms.{OurTerm}
use Rattle.text_grammar.specs.constants.Constants.{con_eq, consts}
use Rattle.math_overlaps.specs.Shapes.{Side, left, right, side-eq, Shape, shapes_of}
use Rattle.math_overlaps.specs.Candidates.{Cand}
use Rattle.math_overlaps.specs.Substitutions.{substitute}
use Rattle.math_overlaps.specs.Overlaps.{origin-eq, rename, numbers_of, PairShape, PairState, origin_fields, origin_value, shown}
use Rattle.math_overlaps.proofs.Linear.{shapes_count}
use Rattle.math_overlaps.proofs.Named.{gaps}
use Rattle.math_overlaps.proofs.Listed.{raw, original_left, original_right}
use Rattle.math_overlaps.proofs.Parts.{part_of_rule, part_occurs}
use Rattle.overlap_spec.specs.Lines.{name_text, binding_text, bindings_text, line_text, left_tag, right_tag}
use Rattle.overlap_spec.specs.Variables.{Variable, variables}
use Rattle.overlap_spec.specs.Overlaps.{bindings_of, line_of}
use Rattle.overlap_spec.proofs.Variables.{in_variables}
use Rattle.math_codes.specs.Tables.{IsCode, Table}
use Rattle.math_codes.specs.Names.{no_names, name_fields}
use Rattle.math_codes.specs.Items.{entry_items, value_items}
use Rattle.math_codes.specs.Lines.{item_text, colon_texts, items_text, bar_texts, fields_text, values_text, our_vars, OurOriginTerm, our_row, our_terms, OurTables}
use Rattle.math_codes.specs.Lines.{values_on, line_on}
use Rattle.math_codes.proofs.Seqs.{Each, Perhaps, OnShape}
use Rattle.math_codes.proofs.Joins.{Represents}
use Rattle.math_codes.proofs.Entries.{At-place}
use Rattle.math_codes.proofs.Places.{StandAll}
use Rattle.math_codes.proofs.Names.{number_agrees}
use Rattle.math_codes.proofs.Items.{Items, entry_items_lem, atom_value_lem, list_value, there}

-- ---- variables that stand in fields

module _ {C K B : Type 0} where
  -- a term that can be shown: a constant, or a variable of the fields
  abbrev pub Met : List (List (Term C K B)) → Term C K B → Type 0
  Met fs (con c) = Unit {0}
  Met fs (var k b) = Any (Occurs k b) fs

  met_terms : (fs : List (List (Term C K B))) (f : List (Term C K B)) → ((k : K) (b : B) → Occurs k b f → Any (Occurs k b) fs) → All (Met fs) f
  met_terms fs [] h = tt
  met_terms fs (con c ∷ f) h = (tt, met_terms fs f h)
  met_terms fs (var j a ∷ f) h = (h j a (inl (refl, refl)), met_terms fs f (λ k b o. h k b (inr o)))

  pub met_fields : (fs gs : List (List (Term C K B))) → ((k : K) (b : B) → Any (Occurs k b) gs → Any (Occurs k b) fs) → All (All (Met fs)) gs
  met_fields fs [] h = tt
  met_fields fs (f ∷ gs) h = (met_terms fs f (λ k b o. h k b (inl o)), met_fields fs gs (λ k b o. h k b (inr o)))

-- ---- texts

abbrev pub origin_term_eq : Discrete OurOriginTerm
origin_term_eq = term-eq con_eq (full-eq basic_eq) (origin-eq side-eq ℕ_discrete ℕ_discrete)

module _ (r₁ r₂ : List (List OurTerm)) (T : Table) (texts : ℕ → List ℕ) (ot : OurTables r₁ r₂ T texts)
    (is : List (List ℕ)) (fs : List (List OurOriginTerm)) where
  abbrev Is : ℕ → OurOriginTerm → Type 0
  Is c u = IsCode origin_term_eq (our_terms r₁ r₂) c u

  abbrev pub numbers : List ℕ
  numbers = (name_fields T (no_names (length (our_terms r₁ r₂)) 4) is).numbers

  abbrev pub ν : OurOriginTerm → OurTerm
  ν u = rename (numbers_of basics consts ℕ_discrete fs) u

  module _ (h : Each (Each Is) is fs) where
    item_text_lem : (c : ℕ) (u : OurOriginTerm) → Is c u → Met fs u → item_text T texts numbers c ≡ term_text (ν u)
    item_text_lem c (con d) i m = rw (ot.terms.variables c (con d) i.0) (ot.plain c d i.0)
    item_text_lem c (var k b) i m =
        rw (ot.terms.variables c (var k b) i.0, ot.terms.kinds c k b i.0)
        (ap (λ (n : ℕ). letter k ∷ digits_of n)
        (ap (λ (n : ℕ). n - 1) (number_agrees (full-eq basic_eq) (origin-eq side-eq ℕ_discrete ℕ_discrete) origin_term_eq rank 4 rank_kinds rank_once
        (our_terms r₁ r₂) T ot.terms is fs h c k b i m)
        ∙ omega arith))

    colon_texts_lem : (cs : List ℕ) (f : List OurOriginTerm) → Each Is cs f → All (Met fs) f → colon_texts T texts numbers cs ≡ colons (map raw_of (map ν f))
    colon_texts_lem [] [] i m = refl
    colon_texts_lem [] (u ∷ f) i m = absurd i
    colon_texts_lem (c ∷ cs) [] i m = absurd i
    colon_texts_lem (c ∷ cs) (u ∷ f) i m = ap₂ (λ (s t : List ℕ). 58 ∷ (s ++ t)) (item_text_lem c u i.0 m.0) (colon_texts_lem cs f i.1 m.1)

    -- a field's text
    items_text_lem : (cs : List ℕ) (f : List OurOriginTerm) → Each Is cs f → All (Met fs) f → items_text T texts numbers cs ≡ field_text (map ν f)
    items_text_lem [] [] i m = refl
    items_text_lem [] (u ∷ f) i m = absurd i
    items_text_lem (c ∷ cs) [] i m = absurd i
    items_text_lem (c ∷ cs) (u ∷ f) i m = ap₂ (λ (s t : List ℕ). s ++ t) (item_text_lem c u i.0 m.0) (colon_texts_lem cs f i.1 m.1)

    bar_texts_lem : (js : List (List ℕ)) (gs : List (List OurOriginTerm)) → Each (Each Is) js gs → All (All (Met fs)) gs → bar_texts T texts numbers js
        ≡ bars (map raw_field (map (map ν) gs))
    bar_texts_lem [] [] i m = refl
    bar_texts_lem [] (g ∷ gs) i m = absurd i
    bar_texts_lem (j ∷ js) [] i m = absurd i
    bar_texts_lem (j ∷ js) (g ∷ gs) i m = ap₂ (λ (s t : List ℕ). 124 ∷ (s ++ t)) (items_text_lem j g i.0 m.0) (bar_texts_lem js gs i.1 m.1)

    fields_text_lem : (js : List (List ℕ)) (gs : List (List OurOriginTerm)) → Each (Each Is) js gs → All (All (Met fs)) gs → fields_text T texts numbers js
        ≡ plain (map (map ν) gs)
    fields_text_lem [] [] i m = refl
    fields_text_lem [] (g ∷ gs) i m = absurd i
    fields_text_lem (j ∷ js) [] i m = absurd i
    fields_text_lem (j ∷ js) (g ∷ gs) i m = ap₂ (λ (s t : List ℕ). s ++ t) (items_text_lem j g i.0 m.0) (bar_texts_lem js gs i.1 m.1)

    -- the values of variables
    pub values_text_lem : (tag : ℕ) (value : Variable → List ℕ) (σ : Kind → ℕ → List OurOriginTerm) (vs : List Variable)
        → ((k : Kind) (n : ℕ) → Memᴰ (k, n) vs → Each Is (value (k, n)) (σ k n) × All (Met fs) (σ k n))
        → values_text T texts numbers tag value vs ≡ concat_map (binding_text tag)
        (map (λ v. record { kind = v.0; number = v.1; value = map ν (σ v.0 v.1) }) vs)
    values_text_lem tag value σ [] k = refl
    values_text_lem tag value σ (v ∷ vs) k =
        let q = k v.0 v.1 (Memᴰ.head refl) in
        ap₂ (λ (s t : List ℕ). (32 ∷ (tag ∷ (name_text v.0 v.1 ++ 61 ∷ s))) ++ t)
        (items_text_lem (value v) (σ v.0 v.1) q.0 q.1)
        (values_text_lem tag value σ vs (λ j n i. k j n (Memᴰ.tail i)))

-- ---- lines

module _ (r₁ r₂ : List (List OurTerm)) (T : Table) (texts : ℕ → List ℕ) (ot : OurTables r₁ r₂ T texts)
    (st₁ : StandAll (our_row r₁ r₂) left field_places 0 r₁) (st₂ : StandAll (our_row r₁ r₂) right field_places rule_places r₂) (ok₁ : IsLeft r₁) (ok₂ : IsLeft r₂)
    (Ps Qs : List (Shape ℕ ℕ)) (Ss Ts : List (PairShape basics consts ℕ_discrete))
    (i : Each (OnShape (At-place basics consts our_vars (our_row r₁ r₂))) Ps Ss) (j : Each (OnShape (At-place basics consts our_vars (our_row r₁ r₂))) Qs Ts)
    (is₁ : shapes_of left r₁ ≡ some Ss) (is₂ : shapes_of right r₂ ≡ some Ts) (lin₁ : Distinct (gaps Ss)) (lin₂ : Distinct (gaps Ts)) where
  few : length Ss ≤ list_items
  few = omega (arith, shapes_count left r₁ Ss is₁, ok₁.0.1)

  module _ (cs : List Cand) (array : List ℕ) (s : PairState basics consts ℕ_discrete) (rep : Represents basics consts our_vars (our_row r₁ r₂) array s)
      (m : Memᴰ (cs, s) (raw basics consts ℕ_discrete Ss Ts)) where
    abbrev fs : List (List OurOriginTerm)
    fs = origin_fields basics consts ℕ_discrete Ss Ts (cs, s)

    abbrev js : List (List ℕ)
    js = entry_items (length (our_row r₁ r₂)) Ps Qs (cs, array)

    here : Each (Each (Items basics consts ℕ_discrete origin_term_eq (our_row r₁ r₂) list_items)) js fs
    here = entry_items_lem basics consts ℕ_discrete origin_term_eq (our_row r₁ r₂) list_items Ps Ss Qs Ts i j few cs array s rep

    -- a value of a variable of the rule on a side
    module _ (d : Side) (r : List (List OurTerm)) (b : ℕ) (st : StandAll (our_row r₁ r₂) d field_places b r)
        (Ws : List (Shape ℕ ℕ)) (Us : List (PairShape basics consts ℕ_discrete)) (k : Each (OnShape (At-place basics consts our_vars (our_row r₁ r₂))) Ws Us)
        (solves : map (substitute (origin_value basics consts ℕ_discrete d Us s fs)) r ≡ fs) where
      value_items_lem : (q : Kind) (n : ℕ) → Any (Occurs q n) r
          → Each (Items basics consts ℕ_discrete origin_term_eq (our_row r₁ r₂) list_items) (value_items basics consts ℕ_discrete (our_row r₁ r₂) d Ws array js q n)
          (origin_value basics consts ℕ_discrete d Us s fs q n)
      value_items_lem (basic q) n o =
          let p = there (our_row r₁ r₂) d q n field_places b r st o in
          atom_value_lem basics consts ℕ_discrete origin_term_eq (our_row r₁ r₂) list_items Ps Ss Qs Ts i j few cs array s rep d Ws Us k q n p.0 p.1
      value_items_lem list n o = list_value basics consts ℕ_discrete origin_term_eq (our_row r₁ r₂) list_items Ps Ss Qs Ts i j few cs array s rep d Ws Us k n

      value_met : (q : Kind) (n : ℕ) → Any (Occurs q n) r → All (Met fs) (origin_value basics consts ℕ_discrete d Us s fs q n)
      value_met q n o =
          let σ = origin_value basics consts ℕ_discrete d Us s fs in
          met_terms fs (σ q n) (λ k b p. subst (Any (Occurs k b)) solves (part_occurs k b (σ q n) p (map (substitute σ) r) (part_of_rule σ q n r o)))

      side_text : (tag : ℕ) → IsLeft r
          → values_on r₁ r₂ T texts (numbers r₁ r₂ T texts ot js fs) tag d r Ws array js
          ≡ bindings_text tag (bindings_of r (λ q n. map (ν r₁ r₂ T texts ot js fs) (origin_value basics consts ℕ_discrete d Us s fs q n)))
      side_text tag ok =
          values_text_lem r₁ r₂ T texts ot js fs here tag (λ v. value_items basics consts ℕ_discrete (our_row r₁ r₂) d Ws array js v.0 v.1)
          (origin_value basics consts ℕ_discrete d Us s fs) (variables r)
          (λ q n z. let o = (in_variables r ok.0.3 q n).0 z in (value_items_lem q n o, value_met q n o))

    -- THE LINE of an entry
    pub line_agrees : line_on r₁ r₂ T texts (length (our_row r₁ r₂)) (length (our_terms r₁ r₂)) Ps Qs (cs, array)
        ≡ line_text (line_of r₁ r₂ (shown basics consts ℕ_discrete Ss Ts (cs, s)))
    line_agrees =
        ap₂ (λ (a b : List ℕ). a ++ b) (fields_text_lem r₁ r₂ T texts ot js fs here js fs here (met_fields fs fs (λ k b o. o)))
        (ap₂ (λ (a b : List ℕ). a ++ b)
        (side_text left r₁ 0 st₁ Ps Ss i (original_left basics consts ℕ_discrete Ss Ts r₁ r₂ is₁ is₂ lin₁ lin₂ (cs, s) m) left_tag ok₁)
        (ap (λ (a : List ℕ). a ++ 10 ∷ [])
        (side_text right r₂ rule_places st₂ Qs Ts j (original_right basics consts ℕ_discrete Ss Ts r₁ r₂ is₁ is₂ lin₁ lin₂ (cs, s) m) right_tag ok₂)))

-- ---- the list

module _ {A B D : Type 0} (R : A → B → Type 0) (f : A → D) (g : B → D) where
  -- related members with the same line
  pub each_text : (xs : List A) (ys : List B) → Each R xs ys → ((x : A) (y : B) → Memᴰ y ys → R x y → f x ≡ g y) → map f xs ≡ map g ys
  each_text [] [] h k = refl
  each_text [] (y ∷ ys) h k = absurd h
  each_text (x ∷ xs) [] h k = absurd h
  each_text (x ∷ xs) (y ∷ ys) h k = ap₂ (λ (a : D) (l : List D). a ∷ l) (k x y (Memᴰ.head refl) h.0)
      (each_text xs ys h.1 (λ x y i r. k x y (Memᴰ.tail i) r))

-- an option that is related to one with a member
pub some_there : {A B : Type 0} (R : A → B → Type 0) (o : Option A) (q : Option B) (y : B) → Perhaps R o q → q ≡ some y → (x : A) × (o ≡ some x) × R x y
some_there R none none y h e = let z : ◌≡◌ {A = ℕ} 0 1 = cc in absurd (omega arith)
some_there R none (some b) y h e = absurd h
some_there R (some a) none y h e = absurd h
some_there R (some a) (some b) y h e = (a, refl, subst (R a) (let z : b ≡ y = cc in z) h)
