-- The loops over a field's terms and over a side's fields. Assumes nothing.
use mathlib.Core.Path.{◌≡◌, refl, sym, ap, ap₂, ◌∙◌}
use mathlib.Core.Bool.{Bool, true, ◌&&◌, cond}
use mathlib.Core.List.{List, [], ◌∷◌, ◌++◌, map, map-append}
use Prim.Native.Nat.{ℕ, ◌+◌, ◌<◌, ◌≤◌, min}
use native.Mathlib.Omega.{arith}
use native.Mathlib.Numerals.{add-one}
use lib.Dec.{leb}
use lib.ListN.{length, get_or, set, take, drop, length-take, length-map, drop_of_length-le}
use lib.Seq.{take-add, take_all, drop-cons}
use Rattle.std.specs.Prelude.{Option, Some, None, option_and_then}
use Rattle.base_limits.specs.Limits.{most_fields, most_items}
use Rattle.base_lists.specs.Arrays.{map_drop}
use Rattle.math_terms.specs.Seqs.{concat_map}
use Rattle.text_values.specs.declared.Term.{Term}
use Rattle.text_values.specs.Values.{Field, SlipField, Slip}
use Rattle.text_values.specs.canonical.Filled.{pad}
use Rattle.text_values.specs.Values.{blank_slip_field}
use Rattle.text_values.proofs.Pads.{pad_set}
use Rattle.apply_rules.specs.filling.Filled.{all_short, slip_field, slip_of, filled_as}
use Rattle.apply_rules.specs.filling.Pushes.{pushed_all, collected}
use Rattle.apply_rules.proofs.filling.Collected.{pushed_each, short_by, long_by}

-- ---- terms one after the other: what those from i on come to is what all come to

module _ {B : Type 0} (g : B → List Term) (s : List B) (whole : Option SlipField) (i : ℕ) (w : SlipField) (d : B)
    (v : whole ≡ pushed_all w (concat_map g (drop i s))) (h : i < length s) where
  onward : whole ≡ option_and_then (λ x. pushed_all x (concat_map g (drop (i + 1) s))) (pushed_all w (g (get_or s i d)))
  onward =
      v
      ∙ ap (λ (l : List B). pushed_all w (concat_map g l)) (let e : drop i s ≡ get_or s i d ∷ drop (i + 1) s = rw (add-one, drop-cons s i d h) in e)
      ∙ pushed_each g w (get_or s i d) (drop (i + 1) s)

  pub pushing_one : (x : SlipField) → pushed_all w (g (get_or s i d)) ≡ Some x → whole ≡ pushed_all x (concat_map g (drop (i + 1) s))
  pushing_one x e = onward ∙ ap (option_and_then (λ (y : SlipField). pushed_all y (concat_map g (drop (i + 1) s)))) e

  pub pushing_none : pushed_all w (g (get_or s i d)) ≡ None → whole ≡ None
  pushing_none e = onward ∙ ap (option_and_then (λ (y : SlipField). pushed_all y (concat_map g (drop (i + 1) s)))) e

-- ---- the fields of a side: those before i are short and stand in their places

module _ (g : Field → List Term) (s : List Field) where
  abbrev fs : List (List Term)
  fs = map g s

  pub record Standing (i : ℕ) (out : Slip) : Type 0 where
    pub few : length s ≤ most_fields
    pub within : i ≤ length s
    pub count : out.n ≡ length s
    pub standing : out.fields ≡ pad most_fields blank_slip_field (map slip_field (take i (map g s)))
    pub left : all_short (map g s) ≡ all_short (drop i (map g s))

  long : length fs ≡ length s
  long = length-map s g

  module _ (i : ℕ) (out : Slip) (d : Field) (v : Standing i out) (h : i < length s) where
    abbrev ts : List Term
    ts = g (get_or s i d)

    step : drop i s ≡ get_or s i d ∷ drop (i + 1) s
    step = rw (add-one, drop-cons s i d h)

    next : drop i fs ≡ ts ∷ drop (i + 1) fs
    next =
        sym (map_drop g i s)
        ∙ ap (map g) step
        ∙ ap (λ (l : List (List Term)). ts ∷ l) (map_drop g (i + 1) s)

    all_next : all_short fs ≡ leb (length ts) most_items && all_short (drop (i + 1) fs)
    all_next = v.left ∙ ap all_short next

    one_more : take (i + 1) fs ≡ take i fs ++ ts ∷ []
    one_more = take-add i 1 fs ∙ ap (λ (l : List (List Term)). take i fs ++ take 1 l) next

    place : length (map slip_field (take i fs)) ≡ i
    place = length-map (take i fs) slip_field ∙ length-take i fs ∙ (let e : min i (length fs) ≡ i = omega (arith, long) in e)

    pub standing_one : (f : SlipField) → collected ts ≡ Some f → Standing (i + 1) (record { n = out.n; fields = set out.fields i f })
    standing_one f e =
        let b = short_by ts f e in
        let few = v.few in
        record {
          few = v.few;
          within = omega arith;
          count = v.count;
          standing = ap₂ (λ (l : List SlipField) (x : SlipField). set l i x) v.standing b.1
              ∙ ap (λ (j : ℕ). set (pad most_fields blank_slip_field (map slip_field (take i fs))) j (slip_field ts)) (sym place)
              ∙ pad_set most_fields blank_slip_field (map slip_field (take i fs)) (slip_field ts) (omega (arith, place))
              ∙ ap (pad most_fields blank_slip_field) (sym (map-append slip_field (take i fs) (ts ∷ [])))
              ∙ ap (λ (l : List (List Term)). pad most_fields blank_slip_field (map slip_field l)) (sym one_more);
          left = all_next ∙ ap (λ (x : Bool). x && all_short (drop (i + 1) fs)) b.0;
        }

    pub standing_long : collected ts ≡ None → None ≡ filled_as fs
    standing_long e =
        sym (ap (λ (b : Bool). cond b (Some (slip_of fs)) None) (all_next ∙ ap (λ (x : Bool). x && all_short (drop (i + 1) fs)) (long_by ts e)))

  pub standing_none : (b : Slip) → length s ≤ most_fields → b.n ≡ length s → b.fields ≡ pad most_fields blank_slip_field [] → Standing 0 b
  standing_none b h e q = record { few = h; within = omega arith; count = e; standing = q; left = refl }

  pub standing_all : (i : ℕ) (out : Slip) → Standing i out → length s ≤ i → Some out ≡ filled_as fs
  standing_all i out v h =
      let short : all_short fs ≡ true = v.left ∙ ap all_short (drop_of_length-le fs {i = i} (omega (arith, long))) in
      ap₂ (λ (m : ℕ) (l : List SlipField). Some (record { n = m; fields = l })) (v.count ∙ sym long)
      (v.standing ∙ ap (λ (l : List (List Term)). pad most_fields blank_slip_field (map slip_field l)) (take_all i fs (omega (arith, long))))
      ∙ sym (ap (λ (b : Bool). cond b (Some (slip_of fs)) None) short)
