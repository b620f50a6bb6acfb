-- Slips that reading returns, by their constants.
use mathlib.Core.Logic.{◌↔◌}
use mathlib.Core.List.{List, [], ◌∷◌, map}
use Prim.Native.Nat.{◌≤◌}
use native.Mathlib.Omega.{arith}
use lib.ListN.{length, length-map}
use Rattle.base_limits.specs.Limits.{most_fields, most_items}
use Rattle.base_lists.specs.Seqs.{All, IsCons, all_map, cons_map}
use Rattle.math_terms.specs.Terms.{con, var}
use Rattle.text_grammar.specs.Terms.{OurTerm, OurFields, SlipFields}
use Rattle.text_grammar.specs.constants.Constants.{Con}
use Rattle.text_grammar.specs.Limits.{TermIn, IsCon}
use Rattle.text_grammar.specs.Read.{slip}
use Rattle.math_overlaps.specs.Constants.{ConstantIn}
use Rattle.overlap_spec.specs.Fits.{OurCon}
use Rattle.apply_spec.specs.Carrying.{Short}
use Rattle.apply_spec.specs.Rules.{Readable}

-- the limit of results is the limit of reading
widths_con : (s : SlipFields) → Short most_items s ↔ All (λ f. length f ≤ slip.width) (map (map {B = OurTerm} con) s)
widths_con [] = (λ h. tt, λ h. tt)
widths_con (f ∷ s) =
    let r = widths_con s in
    let l = length-map {B = OurTerm} f con in
    (λ h. (omega (arith, h.0), r.0 h.1), λ h. (omega (arith, h.0), r.1 h.1))

item_con : (f : List Con) → All OurCon f ↔ All TermIn (map con f)
item_con [] = (λ h. tt, λ h. tt)
item_con (c ∷ f) = let r = item_con f in (λ h. (h.0, r.0 h.1), λ h. (h.0, r.1 h.1))

items_con : (s : SlipFields) → All (All OurCon) s ↔ All (All TermIn) (map (map con) s)
items_con [] = (λ h. tt, λ h. tt)
items_con (f ∷ s) = let r = items_con s in (λ h. ((item_con f).0 h.0, r.0 h.1), λ h. ((item_con f).1 h.0, r.1 h.1))

all_con : (f : List Con) → All IsCon (map con f)
all_con [] = tt
all_con (c ∷ f) = (tt, all_con f)

alls_con : (s : SlipFields) → All (All IsCon) (map (map con) s)
alls_con [] = tt
alls_con (f ∷ s) = (all_con f, alls_con s)

-- one field at least and four at most, 64 items each, all of them document 01's constants
pub readable : (s : SlipFields) → IsCons s → length s ≤ most_fields → Short most_items s → All (All OurCon) s → Readable s
readable s c n l i =
    let m = length-map {B = List OurTerm} s (map con) in
    ((cons_map (map con) s c, omega arith, (widths_con s).0 l, (items_con s).0 i), alls_con s)

pub readable_short : (s : SlipFields) → Readable s → Short most_items s
readable_short s h = (widths_con s).1 h.0.2

pub readable_ours : (s : SlipFields) → Readable s → All (All OurCon) s
readable_ours s h = (items_con s).1 h.0.3

constant_in : (t : OurTerm) → TermIn t → ConstantIn OurCon t
constant_in (con c) h = h
constant_in (var k n) h = tt

-- the constants of fields within their limits
pub terms_ours : (r : OurFields) → All (All TermIn) r → All (All (ConstantIn OurCon)) r
terms_ours r h = all_map (All TermIn) (All (ConstantIn OurCon)) (λ f k. all_map TermIn (ConstantIn OurCon) constant_in f k) r h
