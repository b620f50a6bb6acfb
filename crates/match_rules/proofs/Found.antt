-- What the tests and the runs give on values is the answer: the matcher's filling, as a value.
use mathlib.Core.Path.{◌≡◌, refl, sym, ◌∙◌, ap, ap₂, subst}
use mathlib.Core.Logic.{◌≢◌}
use mathlib.Core.Bool.{Bool, true, false, cond}
use borrow.Author.Tests.{eq-eqb, ne_eqb, eqb-true, eqb-false}
use mathlib.Core.Option.{Option, none, some}
use Rattle.std.specs.Prelude.{Result, Ok, Err}
use mathlib.Core.List.{List, [], ◌∷◌, map, cons≢nil}
use Prim.Native.Nat.{ℕ, ◌+◌, ◌-◌, ◌*◌, ◌/◌, ◌%◌, ◌<◌, ◌≤◌}
use native.Mathlib.Omega.{arith}
use native.Mathlib.Decide.{ℕ_discrete}
use lib.Dec.{eqb}
use lib.ListN.{length, get_or, set, length-map}
use Rattle.base_limits.specs.Limits.{largest_number, numbers_of_side, atom_places}
use Rattle.base_lists.specs.Seqs.{All, tabulated}
use Rattle.math_types.specs.Order.{basic, list}
use Rattle.math_types.specs.Types.{Kind, basics, kind_at, basic_at}
use Rattle.math_types.specs.Values.{kind_of_from}
use Rattle.math_terms.specs.Terms.{con, var}
use Rattle.math_terms.specs.Fillings.{Filling}
use Rattle.math_terms.specs.Matcher.{atoms, blank, match_fields}
use Rattle.math_terms.specs.Linear.{lists, OneList}
use Rattle.math_terms.proofs.Compared.{compared_none, compared_walked}
use Rattle.text_grammar.specs.Terms.{OurTerm, OurFields, SlipFields}
use Rattle.text_grammar.specs.constants.Constants.{Con, consts}
use Rattle.text_grammar.specs.Limits.{TermIn}
use Rattle.text_grammar.specs.constants.Matching.{matcher, compared}
use Rattle.text_values.specs.declared.Term.{Term as TermValue}
use Rattle.text_values.specs.Values.{Field, SlipField}
use Rattle.text_values.specs.Values.{blank_term, encode_term, encode_field}
use Rattle.match_fields.specs.declared.bindings.Values.{Values}
use Rattle.match_fields.specs.declared.bindings.Run.{Run}
use Rattle.match_fields.proofs.Shapes.{atoms_lists}
use Rattle.match_rules.specs.declared.Match.{Match}
use Rattle.match_rules.specs.declared.Comparison.{Comparison}
use Rattle.match_rules.specs.Tests.{no_values, fields_tested, no_runs, runs_over, runs_in, runs_all}
use Rattle.match_rules.specs.Answers.{is_known, value_term, encode_values, runs_field, runs_from}
use Rattle.match_rules.specs.Answers.{no_match, found, no_comparison, found_by, comparison_by, comparison_on}
use Rattle.match_rules.proofs.Counts.{fields_counts}
use Rattle.match_rules.proofs.Agree.{Held, Holds, holds_none, Agrees, enc, terms_of_lem, encode_items, items_of_lem, fields_agree}

-- ---- the values of the atom variables

held_known : (l : List Con) (b : Bool) (t : TermValue) → Held l b t → b ≡ is_known l
held_known [] b t h = h.0
held_known (c ∷ l) b t h = h.0

held_term : (l : List Con) (b : Bool) (t : TermValue) → Held l b t → t ≡ value_term l
held_term [] b t h = h.1
held_term (c ∷ l) b t h = h.1

module _ (v : Values) (φ : Filling Con Kind ℕ) (h : Holds v φ) where
  held_at : (q r : ℕ) → q ≤ 2 → r ≤ largest_number
      → Held (φ (kind_at q) r) (get_or v.known (numbers_of_side * q + r) false) (get_or v.terms (numbers_of_side * q + r) blank_term)
  held_at q r p l =
      let b = basic_at q (omega arith) in
      subst (λ (k : Kind). Held (φ k r) (get_or v.known (numbers_of_side * q + r) false) (get_or v.terms (numbers_of_side * q + r) blank_term)) (sym b.1)
      (subst (λ (x : ℕ). Held (φ (basic b.0) r) (get_or v.known (numbers_of_side * x + r) false) (get_or v.terms (numbers_of_side * x + r) blank_term)) b.2
      (h.held b.0 r l))

  split : (i : ℕ) → i ≡ numbers_of_side * (i / numbers_of_side) + i % numbers_of_side
  split i = omega arith

  known_at : (i : ℕ) → i < atom_places → get_or v.known i false ≡ is_known (φ (kind_at (i / numbers_of_side)) (i % numbers_of_side))
  known_at i p =
      ap (λ (j : ℕ). get_or v.known j false) (split i)
      ∙ held_known (φ (kind_at (i / numbers_of_side)) (i % numbers_of_side)) (get_or v.known (numbers_of_side * (i / numbers_of_side) + i % numbers_of_side) false)
      (get_or v.terms (numbers_of_side * (i / numbers_of_side) + i % numbers_of_side) blank_term)
      (held_at (i / numbers_of_side) (i % numbers_of_side) (omega arith) (omega arith))

  term_at_lem : (i : ℕ) → i < atom_places → get_or v.terms i blank_term ≡ value_term (φ (kind_at (i / numbers_of_side)) (i % numbers_of_side))
  term_at_lem i p =
      ap (λ (j : ℕ). get_or v.terms j blank_term) (split i)
      ∙ held_term (φ (kind_at (i / numbers_of_side)) (i % numbers_of_side)) (get_or v.known (numbers_of_side * (i / numbers_of_side) + i % numbers_of_side) false)
      (get_or v.terms (numbers_of_side * (i / numbers_of_side) + i % numbers_of_side) blank_term)
      (held_at (i / numbers_of_side) (i % numbers_of_side) (omega arith) (omega arith))

  pub values_are : v ≡ encode_values φ
  values_are =
      ap₂ (λ (k : List Bool) (t : List TermValue). record { known = k; terms = t })
      (tabulated atom_places v.known (λ i. is_known (φ (kind_at (i / numbers_of_side)) (i % numbers_of_side))) false h.known_long known_at)
      (tabulated atom_places v.terms (λ i. value_term (φ (kind_at (i / numbers_of_side)) (i % numbers_of_side))) blank_term h.terms_long term_at_lem)

-- ---- the runs of the list variables

-- a field without list variables sets no run
pub none_set : (j gap i : ℕ) (f : List OurTerm) (rs : List Run) → lists f ≡ [] → runs_field j gap i f rs ≡ rs
none_set j gap i [] rs e = refl
none_set j gap i (con c ∷ f) rs e = none_set j gap (i + 1) f rs e
none_set j gap i (var (basic k) m ∷ f) rs e = none_set j gap (i + 1) f rs e
none_set j gap i (var list m ∷ f) rs e = absurd (cons≢nil e)

runs_over_lem : (j gap i : ℕ) (f : List OurTerm) (rs : List Run) → runs_over j gap i (map encode_term f) rs ≡ runs_field j gap i f rs
runs_over_lem j gap i [] rs = refl
runs_over_lem j gap i (con c ∷ f) rs = runs_over_lem j gap (i + 1) f rs
runs_over_lem j gap i (var (basic k) n ∷ f) rs = rw (kind_of_from (basic k), runs_over) (runs_over_lem j gap (i + 1) f rs)
runs_over_lem j gap i (var list n ∷ f) rs = runs_over_lem j gap (i + 1) f (set rs n (record { field = j; start = i; count = gap }))

-- the other terms of a field with a list variable are its atoms, and a field without one has no run
one_gap : (j : ℕ) (f : List OurTerm) (n : ℕ) (rs : List Run) → OneList f → runs_field j (n + 1 - length f) 0 f rs ≡ runs_field j (n - atoms f) 0 f rs
one_gap j f n rs o = go (lists f) refl o
  where
    go : (l : List ℕ) → lists f ≡ l → length l ≤ 1 → runs_field j (n + 1 - length f) 0 f rs ≡ runs_field j (n - atoms f) 0 f rs
    go [] e h = none_set j (n + 1 - length f) 0 f rs e ∙ sym (none_set j (n - atoms f) 0 f rs e)
    go (a ∷ l) e h =
        let c = atoms_lists f ∙ ap (λ (l : List ℕ). atoms f + length l) e in
        ap (λ (g : ℕ). runs_field j g 0 f rs) (let z : n + 1 - length f ≡ n - atoms f = omega arith in z)

runs_in_lem : (j : ℕ) (f : List OurTerm) (w : List Con) (rs : List Run) → OneList f
    → runs_in j (encode_field f) (encode_items w) rs ≡ runs_field j (length w - atoms f) 0 f rs
runs_in_lem j f w rs o =
    ap₂ (λ (a b : List TermValue). runs_over j (length b + 1 - length a) 0 a rs) (terms_of_lem f) (items_of_lem w)
    ∙ ap₂ (λ (m n : ℕ). runs_over j (m + 1 - n) 0 (map encode_term f) rs) (length-map w enc) (length-map f encode_term)
    ∙ runs_over_lem j (length w + 1 - length f) 0 f rs
    ∙ one_gap j f (length w) rs o

runs_all_lem : (j : ℕ) (fs : OurFields) (ws : SlipFields) (rs : List Run) → All OneList fs
    → runs_all j (map encode_field fs) (map encode_items ws) rs ≡ runs_from j fs ws rs
runs_all_lem j [] ws rs o = refl
runs_all_lem j (f ∷ fs) [] rs o = refl
runs_all_lem j (f ∷ fs) (w ∷ ws) rs o =
    ap (runs_all (j + 1) (map encode_field fs) (map encode_items ws)) (runs_in_lem j f w rs o.0)
    ∙ runs_all_lem (j + 1) fs ws (runs_field j (length w - atoms f) 0 f rs) o.1

-- ---- the answer

pub answer_counts : (fs : OurFields) (ws : SlipFields) → length fs ≢ length ws → no_match ≡ found fs ws (matcher fs ws)
answer_counts fs ws n =
    sym (ap (λ (b : Bool). found fs ws (cond b (match_fields basics consts ℕ_discrete fs ws blank) none)) (ne_eqb (length fs) (length ws) n))

-- what the tests come to is what the matcher finds
found_agrees : (fs : OurFields) (ws : SlipFields) (t : Result Values Values) (m : Option (Filling Con Kind ℕ)) → Agrees t m → All OneList fs
    → found_by (map encode_field fs) (map encode_items ws) t ≡ found fs ws m
found_agrees fs ws (Err v) none a o = refl
found_agrees fs ws (Err v) (some φ) a o = absurd a
found_agrees fs ws (Ok v) none a o = absurd a
found_agrees fs ws (Ok v) (some φ) a o =
    ap₂ (λ (x : Values) (rs : List Run). record { yes = true; filling = record { values = x; runs = rs } }) (values_are v φ a)
    (runs_all_lem 0 fs ws no_runs o)

-- ---- THE COMPARISON on values is that of the rule and the slip

module _ (fs : OurFields) (ws : SlipFields) (i : All (All TermIn) fs) (o : All OneList fs) where
  abbrev rule_values : List Field
  rule_values = map encode_field fs

  abbrev slip_values : List SlipField
  slip_values = map encode_items ws

  found_is : length fs ≡ length ws → found_by rule_values slip_values (fields_tested rule_values slip_values no_values) ≡ found fs ws (matcher fs ws)
  found_is same =
      found_agrees fs ws (fields_tested rule_values slip_values no_values) (matcher fs ws)
      (rw (eq-eqb (length fs) (length ws) same) (fields_agree fs ws no_values blank i o holds_none)) o

  pub answer_no : length fs ≡ length ws → (v : Values) → fields_tested rule_values slip_values no_values ≡ Err v → no_match ≡ found fs ws (matcher fs ws)
  answer_no same v e = ap (found_by rule_values slip_values) (sym e) ∙ found_is same

  pub answer_yes : length fs ≡ length ws → (v : Values) → fields_tested rule_values slip_values no_values ≡ Ok v
      → record { yes = true; filling = record { values = v; runs = runs_all 0 rule_values slip_values no_runs } } ≡ found fs ws (matcher fs ws)
  answer_yes same v e = ap (found_by rule_values slip_values) (sym e) ∙ found_is same

  pub comparison_on_lem : comparison_on rule_values slip_values ≡ record { found = found fs ws (matcher fs ws); compared = compared fs ws }
  comparison_on_lem =
      ap₂ (λ (a b : ℕ). cond (eqb a b) (comparison_by rule_values slip_values) no_comparison) (length-map fs encode_field) (length-map ws encode_items)
      ∙ go (eqb (length fs) (length ws)) refl
    where
      both : (m n : Match) (a b : ℕ) → m ≡ n → a ≡ b → ◌≡◌ {A = Comparison} (record { found = m; compared = a }) (record { found = n; compared = b })
      both m n a b p q = ap₂ (λ (x : Match) (k : ℕ). record { found = x; compared = k }) p q

      go : (b : Bool) → eqb (length fs) (length ws) ≡ b
          → cond b (comparison_by rule_values slip_values) no_comparison ≡ record { found = found fs ws (matcher fs ws); compared = compared fs ws }
      go true e =
          let same = eqb-true (length fs) (length ws) e in
          both _ _ _ _ (found_is same) (fields_counts fs ws no_values blank i o holds_none ∙ sym (compared_walked basics consts ℕ_discrete fs ws same))
      go false e =
          let other = eqb-false (length fs) (length ws) e in
          both _ _ _ _ (answer_counts fs ws other) (sym (compared_none basics consts ℕ_discrete fs ws other))
