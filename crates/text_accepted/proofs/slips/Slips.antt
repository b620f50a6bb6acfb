-- The accepted slips are exactly those that some text is read as, one for each slip.
-- `view_encode-..`: a value stands for what it was made of. `accepted_slip_lem`: an accepted value is the one of what it stands for, within the limits.
-- `slip_value_iff`: the theorem.
use mathlib.Core.Path.{◌≡◌, refl, ap, ◌∙◌}
use mathlib.Core.Logic.{◌↔◌}
use mathlib.Core.Bool.{Bool, true, ◌&&◌, cond}
use mathlib.Core.List.{List, []}
use Prim.Native.Nat.{ℕ, ◌≤◌}
use lib.Dec.{eqb, ltb}
use lib.ListN.{length}
use Rattle.base_limits.specs.Limits.{most_fields}
use Rattle.base_lists.specs.Seqs.{All, IsCons, all_map}
use Rattle.base_lists.specs.Truths.{both_is}
use Rattle.text_grammar.specs.Terms.{OurTerm, OurFields}
use Rattle.text_grammar.specs.Read.{slip, accepted, read_slip}
use Rattle.text_grammar.specs.Limits.{TermIn, IsCon, IsSlip}
use Rattle.text_grammar.proofs.Accepted.{slip_iff}
use Rattle.text_values.specs.Values.{Slip}
use Rattle.text_values.specs.Values.{view_slip_field, view_slip, blank_slip_field, blank_slip, encode_slip_field, encode_slip}
use Rattle.text_values.specs.canonical.Filled.{filled_to}
use Rattle.text_values.proofs.canonical.Arrays.{Stands, encode_one, counted}
use Rattle.text_values.proofs.canonical.Terms.{item_stands, ItemIn}
use Rattle.text_accepted.proofs.Accepted.{terms_parts, fields_parts, all_both, within_is, count_is, value_iff}
use Rattle.text_accepted.specs.slips.Slips.{slip_field_ok, slip_field_blank, accepted_slip, counted_slip}

-- a field's terms, a slip's fields: not too many, each within its limits
abbrev pub SlipFieldIn : List OurTerm → Type 0
SlipFieldIn f = (length f ≤ slip.width) × All ItemIn f

abbrev pub SlipIn : OurFields → Type 0
SlipIn r = (length r ≤ most_fields) × All SlipFieldIn r

abbrev pub slip_ok : Slip → Bool
slip_ok s = filled_to most_fields slip_field_ok slip_field_blank s.n s.fields

pub slip_field_stands : Stands view_slip_field encode_slip_field slip_field_ok slip_field_blank blank_slip_field SlipFieldIn
slip_field_stands = counted terms_parts slip.width item_stands

pub slip_stands : Stands view_slip encode_slip slip_ok (λ s. eqb s.n 0 && slip_ok s) blank_slip SlipIn
slip_stands = counted fields_parts most_fields slip_field_stands

-- ---- the limits of document 01
slip_fields_are : (r : OurFields) → (All (λ f. (length f ≤ slip.width) × All TermIn f) r × All (All IsCon) r) ↔ All SlipFieldIn r
slip_fields_are r =
    let b = all_both Plain (All IsCon) r in (
      λ h. all_map (λ f. Plain f × All IsCon f) SlipFieldIn (λ f k. (k.0.0, (all_both TermIn IsCon f).1 (k.0.1, k.1))) r (b.1 h),
      λ h. b.0 (all_map SlipFieldIn (λ f. Plain f × All IsCon f) (λ f k. let i = (all_both TermIn IsCon f).0 k.1 in ((k.0, i.0), i.1)) r h),
    )
  where
    Plain : List OurTerm → Type 0
    Plain f = (length f ≤ slip.width) × All TermIn f

pub slip_is : (r : OurFields) → IsSlip r ↔ (IsCons r × SlipIn r)
slip_is r =
    let i = within_is slip.width r in
    let s = slip_fields_are r in (
      λ h. let j = i.0 h.0 in (j.0, (j.1, s.0 (j.2, h.1))),
      λ h. let j = s.1 h.1.1 in (i.1 (h.0, h.1.0, j.0), j.1),
    )

-- ---- there and back
pub view_encode_slip_field : (ts : List OurTerm) → length ts ≤ slip.width → All TermIn ts → All IsCon ts → view_slip_field (encode_slip_field ts) ≡ ts
view_encode_slip_field ts k h c = slip_field_stands.view_encode ts (k, (all_both TermIn IsCon ts).1 (h, c))

pub view_encode_slip : (r : OurFields) → IsSlip r → view_slip (encode_slip r) ≡ r
view_encode_slip r h = slip_stands.view_encode r ((slip_is r).0 h).1

-- THERE IS ONE VALUE for one slip
pub encode_slip_one : (r s : OurFields) → IsSlip r → IsSlip s → encode_slip r ≡ encode_slip s → r ≡ s
encode_slip_one r s h k e = encode_one slip_stands r s ((slip_is r).0 h).1 ((slip_is s).0 k).1 e

-- ---- accepted
pub encode_accepted_slip : (r : OurFields) → IsSlip r → accepted_slip (encode_slip r) ≡ true
encode_accepted_slip r h =
    let i = (slip_is r).0 h in
    (both_is (ltb 0 (length r)) (slip_ok (encode_slip r))).1 ((count_is (length r) r refl).1 i.0, slip_stands.encode_good r i.1)

pub accepted_slip_lem : (v : Slip) → accepted_slip v ≡ true → IsSlip (view_slip v) × (encode_slip (view_slip v) ≡ v)
accepted_slip_lem v h =
    let p = (both_is (ltb 0 v.n) (slip_ok v)).0 h in
    let e = slip_stands.encode_view v p.1 in
    let c = (count_is v.n (view_slip v) (ap (λ (s : Slip). s.n) e)).0 p.0 in
    ((slip_is (view_slip v)).1 (c, slip_stands.view_in v p.1), e)

-- ---- as what a slip counts
pub counted_accepted : (s : Slip) → accepted_slip s ≡ true → counted_slip s ≡ view_slip s
counted_accepted s h = ap (λ (b : Bool). cond b (view_slip s) []) h

pub counted_slip_lem : (r : OurFields) → IsSlip r → counted_slip (encode_slip r) ≡ r
counted_slip_lem r h = counted_accepted (encode_slip r) (encode_accepted_slip r h) ∙ view_encode_slip r h

-- ---- THE ACCEPTED SLIPS are those that some text is read as
pub slip_value_iff : (v : Slip) → (accepted_slip v ≡ true) ↔ ((t : List ℕ) × (r : OurFields) × (read_slip t ≡ accepted r) × (v ≡ encode_slip r))
slip_value_iff = value_iff accepted_slip view_slip encode_slip read_slip IsSlip slip_iff accepted_slip_lem encode_accepted_slip
