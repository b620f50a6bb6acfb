-- Matching texts: going through their fields together, and what it comes to for texts that are accepted. Assumes nothing.
use mathlib.Core.Path.{◌≡◌, sym, ◌∙◌, ap, ap₂}
use mathlib.Core.Logic.{◌≢◌}
use mathlib.Core.Bool.{Bool, cond}
use mathlib.Core.List.{List, [], ◌∷◌, map}
use Prim.Native.Nat.{ℕ, suc, ◌+◌, ◌<◌, ◌≤◌}
use native.Mathlib.Omega.{arith}
use borrow.Author.Tests.{eq-eqb, ne_eqb}
use lib.ListN.{length, drop, drop_of_length-le, length-map}
use lib.Seq.{drop-cons}
use native.Mathlib.Numerals.{add-one}
use Rattle.base_lists.specs.Seqs.{All, all_map, tabulate, tabulate_long, tabulate_at, tabulated}
use Rattle.text_grammar.specs.Terms.{OurFields}
use Rattle.text_grammar.specs.Limits.{TermIn}
use Rattle.text_grammar.specs.Read.{accepted, read_side, read_slip}
use Rattle.text_grammar.proofs.Accepted.{rule_read_lem, slip_read_lem}
use Rattle.text_grammar.specs.constants.Matching.{constants, compared}
use Rattle.text_grammar.proofs.constants.Linear.{left_linear}
use Rattle.text_values.specs.Values.{blank_field, blank_slip_field, encode_field, encode_slip_field}
use Rattle.text_accepted.proofs.Accepted.{FieldIn, rule_is}
use Rattle.text_accepted.proofs.slips.Slips.{slip_is}
use Rattle.match_rules.specs.declared.Match.{Match}
use Rattle.match_rules.specs.Answers.{no_comparison, comparison, comparison_by, comparison_on}
use Rattle.match_rules.proofs.Accept.{fields_again, with_fields}
use Rattle.match_rules.proofs.Found.{comparison_on_lem}
use Rattle.text_passes.specs.Fields.{field_count, side_field, slip_field}
use Rattle.text_passes.proofs.Fields.{side_fields_lem, slip_fields_lem}
use Rattle.match_rules.specs.texts.Texts.{side_fields, slip_fields}

-- ---- the fields of a text

-- the one at j, and those behind it
module _ {A : Type 0} (n : ℕ) (f : ℕ → A) where
  here : (j : ℕ) → j < n → drop j (tabulate n f) ≡ f j ∷ drop (j + 1) (tabulate n f)
  here j h =
      let l : j < length (tabulate n f) = omega (arith, tabulate_long n f) in
      rw (add-one, drop-cons (tabulate n f) j (f j) l) (ap (λ (x : A). x ∷ drop (suc j) (tabulate n f)) (tabulate_at n f j (f j) h))

  behind : (j : ℕ) → n ≤ j → drop j (tabulate n f) ≡ []
  behind j h = drop_of_length-le (tabulate n f) {i = j} (omega (arith, tabulate_long n f))

pub side_here : (t : List ℕ) (j : ℕ) → j < field_count t → drop j (side_fields t) ≡ side_field t j ∷ drop (j + 1) (side_fields t)
side_here t j h = here (field_count t) (side_field t) j h

pub slip_here : (u : List ℕ) (j : ℕ) → j < field_count u → drop j (slip_fields u) ≡ slip_field u j ∷ drop (j + 1) (slip_fields u)
slip_here u j h = here (field_count u) (slip_field u) j h

pub side_behind : (t : List ℕ) (j : ℕ) → field_count t ≤ j → drop j (side_fields t) ≡ []
side_behind t j h = behind (field_count t) (side_field t) j h

pub slip_behind : (u : List ℕ) (j : ℕ) → field_count u ≤ j → drop j (slip_fields u) ≡ []
slip_behind u j h = behind (field_count u) (slip_field u) j h

-- the comparison is by the tests of the fields where there are as many
pub same_counts : (t u : List ℕ) → field_count u ≡ field_count t
    → comparison_on (side_fields t) (slip_fields u) ≡ comparison_by (side_fields t) (slip_fields u)
same_counts t u e =
    let a = tabulate_long (field_count t) (side_field t) in
    let b = tabulate_long (field_count u) (slip_field u) in
    ap (λ (c : Bool). cond c (comparison_by (side_fields t) (slip_fields u)) no_comparison)
    (eq-eqb (length (side_fields t)) (length (slip_fields u)) (a ∙ sym e ∙ sym b))

pub other_counts : (t u : List ℕ) → field_count u ≢ field_count t → comparison_on (side_fields t) (slip_fields u) ≡ no_comparison
other_counts t u h =
    let a = tabulate_long (field_count t) (side_field t) in
    let b = tabulate_long (field_count u) (slip_field u) in
    ap (λ (c : Bool). cond c (comparison_by (side_fields t) (slip_fields u)) no_comparison)
    (ne_eqb (length (side_fields t)) (length (slip_fields u)) (λ z. h (sym b ∙ sym z ∙ a)))

pub ruleset text_fields = (side_here, slip_here, side_behind, slip_behind, same_counts, other_counts)

-- ---- TEXTS THAT ARE ACCEPTED

pub sides_said : (t : List ℕ) (x : OurFields) → read_side t ≡ accepted x → side_fields t ≡ map encode_field x
sides_said t x is =
    let s = side_fields_lem t x is in
    sym (tabulated (field_count t) (map encode_field x) (side_field t) blank_field (length-map x encode_field ∙ sym s.0) (λ j h. sym (s.1 j)))

pub slips_said : (u : List ℕ) (y : OurFields) → read_slip u ≡ accepted y → slip_fields u ≡ map encode_slip_field y
slips_said u y is =
    let s = slip_fields_lem u y is in
    sym (tabulated (field_count u) (map encode_slip_field y) (slip_field u) blank_slip_field (length-map y encode_slip_field ∙ sym s.0) (λ j h. sym (s.1 j)))

-- the comparison of the texts is that of what they say
pub compared_texts : (t u : List ℕ) (x y : OurFields) → read_side t ≡ accepted x → read_slip u ≡ accepted y
    → comparison_on (side_fields t) (slip_fields u) ≡ comparison x y
compared_texts t u x y is_x is_y =
    let h = rule_read_lem t x is_x in
    let k = slip_read_lem u y is_y in
    ap₂ comparison_on (sides_said t x is_x) (slips_said u y is_y ∙ fields_again y k.1)
    ∙ comparison_on_lem x (map constants y) (all_map FieldIn (All TermIn) (λ f z. z.1) x ((rule_is x).0 h).1.1) (left_linear x h.1).1
    ∙ ap (λ (m : Match). record { found = m; compared = compared x (map constants y) }) (sym (with_fields x y ((rule_is x).0 h).0 ((slip_is y).0 k).0))
