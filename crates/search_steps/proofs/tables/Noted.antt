-- The tables of two fields that stand on accepted rules' left sides are those of the rules of these fields. Assumes nothing.
use Rattle.std.proofs.Common.{◌≡◌, ℕ, Bool, true, false, cond, List, [], ◌∷◌, sym, ap, ◌∙◌, subst, arith}
use Rattle.text_grammar.specs.Terms.{OurTerm, OurFields}
use Rattle.text_grammar.specs.Plain.{plain}
use Rattle.text_grammar.specs.Limits.{IsLeft}
use Rattle.text_grammar.specs.Read.{read_side, accepted}
use Rattle.text_grammar.proofs.Accepted.{rule_plain}
use Rattle.text_values.specs.Values.{Field}
use Rattle.text_values.specs.Values.{view_side, encode_field, one_field}
use Rattle.text_accepted.specs.Accepted.{counted_field}
use Rattle.text_accepted.proofs.Accepted.{encode_accepted_field, view_encode_rule}
use Rattle.text_plain.proofs.Lengths.{plain_short}
use Rattle.pair_table.specs.Notes.{side_noted, blank_rows}
use Rattle.pair_table.specs.Pairs.{PairIn}
use Rattle.pair_table.proofs.Pairs.{pair_noted}
use Rattle.text_passes.specs.Passes.{too_long}
use Rattle.text_passes.specs.Notes.{noted_in}
use Rattle.text_passes.proofs.Passes.{is_short}
use Rattle.search_steps.specs.tables.Tables.{text_of, rows_in}

abbrev Rows : Type 0
Rows = List ℕ × List ℕ

short : (f : Field) → too_long (text_of f) ≡ false
short f = is_short (text_of f) (omega (arith, plain_short (one_field f)))

-- no text is too long
pub rows_noted : (f g : Field) → rows_in f g ≡ side_noted true (text_of g) (side_noted false (text_of f) blank_rows)
rows_noted f g =
    ap (λ (b : Bool). cond b (x.0, x.1) (side_noted true (text_of g) (x.0, x.1))) (short g)
    ∙ ap (λ (z : Rows). side_noted true (text_of g) (z.0, z.1))
    (ap (λ (b : Bool). cond b (blank_rows.0, blank_rows.1) (side_noted false (text_of f) blank_rows)) (short f))
  where
    x : Rows
    x = noted_in false (text_of f) blank_rows.0 blank_rows.1

-- THE TABLES of two fields
pub tables_hold : (f g : List OurTerm) → IsLeft (f ∷ []) → IsLeft (g ∷ [])
    → PairIn (f ∷ []) (g ∷ []) (rows_in (encode_field f) (encode_field g)).0 (rows_in (encode_field f) (encode_field g)).1
tables_hold f g is_f is-g =
    subst (λ (x : Rows). PairIn (f ∷ []) (g ∷ []) x.0 x.1) (sym (rows_noted (encode_field f) (encode_field g)))
    (pair_noted (text_of (encode_field f)) (text_of (encode_field g)) (f ∷ []) (g ∷ []) (reads f is_f) (reads g is-g))
  where
    said : (h : List OurTerm) → IsLeft (h ∷ []) → counted_field (encode_field h) ≡ h ∷ []
    said h i =
        ap (λ (b : Bool). cond b (view_side (one_field (encode_field h))) []) (encode_accepted_field h i) ∙ view_encode_rule (h ∷ []) i

    reads : (h : List OurTerm) → IsLeft (h ∷ []) → read_side (text_of (encode_field h)) ≡ accepted (h ∷ [])
    reads h i = ap (λ (r : OurFields). read_side (plain r)) (said h i) ∙ rule_plain (h ∷ []) i
