-- Which variables a rule has, noted term by term and field by field. Assumes nothing.
use mathlib.Core.Path.{◌≡◌, refl, sym, ap, ap₂, ◌∙◌}
use mathlib.Core.Bool.{Bool, true, false, ◌&&◌, ◌||◌}
use mathlib.Core.List.{List, [], ◌∷◌, map}
use Prim.Native.Nat.{ℕ, ◌+◌, ◌<◌, ◌≤◌}
use native.Mathlib.Numerals.{add-one}
use native.Mathlib.Omega.{arith}
use native.Mathlib.Decide.{ℕ_discrete}
use borrow.Author.Tests.{eq-eqb, ne_eqb}
use lib.Dec.{eqb}
use lib.ListN.{length, get_or, set, drop, replicate, drop_of_length-le, get_or-replicate}
use lib.Seq.{drop-cons, get_or-set_same, get_or-set_other}
use Rattle.base_limits.specs.Limits.{largest_number, numbers_of_side, variable_places}
use Rattle.base_lists.specs.Seqs.{tabulate_long, tabulate_at}
use Rattle.math_types.specs.declared.Kind.{Kind as KindValue}
use Rattle.math_types.specs.Types.{Kind, rank, rank_kinds, same}
use Rattle.math_types.specs.Values.{kind_of}
use Rattle.math_terms.specs.Terms.{con}
use Rattle.text_grammar.specs.Terms.{OurTerm}
use Rattle.text_grammar.specs.constants.Constants.{Con}
use Rattle.text_values.specs.declared.Form.{Form}
use Rattle.text_values.specs.declared.Form.TheVariants.{Var}
use Rattle.text_values.specs.declared.Term.{Term}
use Rattle.text_values.specs.Values.{Field}
use Rattle.text_values.specs.Values.{blank_field, view_form, view_term, view_field}
use Rattle.match_fields.specs.bindings.Values.{slot}
use Rattle.overlap_spec.specs.Variables.{is_variable, in_field, occurs}
use Rattle.std.specs.List.{list_any}
use Rattle.text_accepted.proofs.variables.Members.{some_term, some_field}
use Rattle.text_passes.specs.Fields.{field_count, side_field}
use Rattle.match_rules.specs.texts.Texts.{side_fields}
use Rattle.print_matches.specs.answers.Values.{Noted}

-- ---- a term

module _ (v : List Bool) (f : Form) (s : List ℕ) where
  -- with a term of this form
  abbrev pub With : List Bool → Type 0
  With w = Noted w (λ (k : Kind) (n : ℕ). is_variable k n (view_form f s) || get_or v (slot k n) false)

  pub with_con : (c : Con) → view_form f s ≡ con c → With v
  with_con c e k n h = ap (λ (t : OurTerm). is_variable k n t || get_or v (slot k n) false) (sym e)

  module _ (j : KindValue) (m : ℕ) (is_f : f ≡ Var j m) where
    -- by whether it is this variable
    by : (k : Kind) (n : ℕ) (a b : Bool) → same k (kind_of j) ≡ a → eqb n m ≡ b
        → (a && b) || get_or v (slot k n) false ≡ is_variable k n (view_form f s) || get_or v (slot k n) false
    by k n a b e q =
        ap₂ (λ (x y : Bool). (x && y) || get_or v (slot k n) false) (sym e) (sym q)
        ∙ ap (λ (g : Form). is_variable k n (view_form g s) || get_or v (slot k n) false) (sym is_f)

    other_number : (k : Kind) (n : ℕ) → eqb n m ≡ false → get_or v (slot k n) false ≡ is_variable k n (view_form f s) || get_or v (slot k n) false
    other_number k n q = go (same k (kind_of j)) refl
      where
        go : (a : Bool) → same k (kind_of j) ≡ a → get_or v (slot k n) false ≡ is_variable k n (view_form f s) || get_or v (slot k n) false
        go true e = by k n true false e q
        go false e = by k n false false e q

    pub with_high : numbers_of_side ≤ m → With v
    with_high h k n l = other_number k n (ne_eqb n m (λ e. omega arith))

    pub place_below : m < numbers_of_side → (i : ℕ) → i ≡ slot (kind_of j) m → i < variable_places
    place_below h i e = omega (arith, e, rank_kinds (kind_of j))

    pub with_variable : m < numbers_of_side → (i : ℕ) → i ≡ slot (kind_of j) m → length v ≡ variable_places → With (set v i true)
    with_variable h i e long k n l = go (ℕ_discrete (rank k) (rank (kind_of j))) (ℕ_discrete n m)
      where
        apart : (slot k n ≡ i → ⊥) → get_or (set v i true) (slot k n) false ≡ get_or v (slot k n) false
        apart z = get_or-set_other v i (slot k n) true false z

        go : Dec (rank k ≡ rank (kind_of j)) → Dec (n ≡ m) → get_or (set v i true) (slot k n) false ≡ is_variable k n (view_form f s) || get_or v (slot k n) false
        go (yes p) (yes q) =
            let here : i ≡ slot k n = omega (arith, e, p, q) in
            ap (λ (d : ℕ). get_or (set v d true) (slot k n) false) here
            ∙ get_or-set_same v (slot k n) true false (omega (arith, rank_kinds k, long))
            ∙ by k n true true (eq-eqb (rank k) (rank (kind_of j)) p) (eq-eqb n m q)
        go (yes p) (no q) = apart (λ z. q (omega (arith, e, p, z))) ∙ by k n true false (eq-eqb (rank k) (rank (kind_of j)) p) (ne_eqb n m q)
        go (no p) (yes q) = apart (λ z. p (omega (arith, e, q, z))) ∙ by k n false true (ne_eqb (rank k) (rank (kind_of j)) p) (eq-eqb n m q)
        go (no p) (no q) = apart (λ z. p (omega (arith, e, z, l, h))) ∙ by k n false false (ne_eqb (rank k) (rank (kind_of j)) p) (ne_eqb n m q)

-- ---- one after the other

swap : (a b c : Bool) → b || (a || c) ≡ (a || b) || c
swap true true c = refl
swap true false c = refl
swap false b c = refl

module _ {A : Type 0} (test : Kind → ℕ → A → Bool) (v : List Bool) (all : List A) where
  -- with `rest` noted too, all of them are noted
  abbrev pub Open : List A → List Bool → Type 0
  Open rest w = (k : Kind) (n : ℕ) → n ≤ largest_number → list_any (test k n) rest || get_or w (slot k n) false ≡ list_any (test k n) all || get_or v (slot k n) false

  pub open_next : (a : A) (l rest : List A) (w u : List Bool) → l ≡ a ∷ rest → Open l w
      → Noted u (λ (k : Kind) (n : ℕ). test k n a || get_or w (slot k n) false) → Open rest u
  open_next a l rest w u e o q k n h =
      ap (λ (b : Bool). list_any (test k n) rest || b) (q k n h)
      ∙ swap (test k n a) (list_any (test k n) rest) (get_or w (slot k n) false)
      ∙ ap (λ (m : List A). list_any (test k n) m || get_or w (slot k n) false) (sym e)
      ∙ o k n h

  pub open_none : (l : List A) (w : List Bool) → l ≡ [] → Open l w → Noted w (λ (k : Kind) (n : ℕ). list_any (test k n) all || get_or v (slot k n) false)
  open_none l w e o k n h = ap (λ (m : List A). list_any (test k n) m || get_or w (slot k n) false) (sym e) ∙ o k n h

-- the terms of a field
abbrev pub is_term : Kind → ℕ → Term → Bool
is_term k n t = is_variable k n (view_term t)

-- the fields of a side
abbrev pub is_in : Kind → ℕ → Field → Bool
is_in k n f = in_field k n (view_field f)

pub field_noted : (v w : List Bool) (l : List Term) → Noted w (λ (k : Kind) (n : ℕ). list_any (is_term k n) l || get_or v (slot k n) false)
    → Noted w (λ (k : Kind) (n : ℕ). in_field k n (map view_term l) || get_or v (slot k n) false)
field_noted v w l q k n h = q k n h ∙ ap (λ (b : Bool). b || get_or v (slot k n) false) (sym (some_term k n l))

or_false : (b : Bool) → b || false ≡ b
or_false true = refl
or_false false = refl

pub side_noted_lem : (w : List Bool) (l : List Field) → Noted w (λ (k : Kind) (n : ℕ). list_any (is_in k n) l || get_or (replicate variable_places false) (slot k n) false)
    → Noted w (λ (k : Kind) (n : ℕ). occurs k n (map view_field l))
side_noted_lem w l q k n h =
    q k n h
    ∙ ap (λ (b : Bool). list_any (is_in k n) l || b) (get_or-replicate variable_places (slot k n) false false (omega (arith, rank_kinds k)))
    ∙ or_false (list_any (is_in k n) l)
    ∙ sym (some_field k n l)

-- field j of a text, and those behind it
pub side_here : (t : List ℕ) (j : ℕ) (f : Field) → f ≡ side_field t j → j < field_count t → drop j (side_fields t) ≡ f ∷ drop (j + 1) (side_fields t)
side_here t j f e h =
    let long = tabulate_long (field_count t) (side_field t) in
    let at = tabulate_at (field_count t) (side_field t) j blank_field h in
    drop-cons (side_fields t) j blank_field (omega (arith, long))
    ∙ ap₂ (λ (g : Field) (i : ℕ). g ∷ drop i (side_fields t)) (at ∙ sym e) (sym (add-one j))

pub side_end : (t : List ℕ) (j : ℕ) → field_count t ≤ j → drop j (side_fields t) ≡ []
side_end t j h = drop_of_length-le (side_fields t) {i = j} (omega (arith, tabulate_long (field_count t) (side_field t)))
