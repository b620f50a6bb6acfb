-- A field made term by term: up to 64 terms it is the field of these terms, and with more there is none. Assumes nothing.
use mathlib.Core.Path.{◌≡◌, refl, sym, ap, ap₂, ◌∙◌}
use mathlib.Core.Bool.{true, false}
use mathlib.Core.List.{List, [], ◌∷◌, ◌++◌, append-nil, append_assoc}
use Prim.Native.Nat.{ℕ, ◌+◌, ◌<◌, ◌≤◌}
use native.Mathlib.Omega.{arith}
use native.Mathlib.Decide.{dec_le}
use borrow.Author.Tests.{le-leb, lt-leb}
use lib.Dec.{leb}
use lib.ListN.{length, length-append}
use Rattle.std.specs.Prelude.{Option, Some, None, option_and_then}
use Rattle.base_limits.specs.Limits.{most_items}
use Rattle.math_terms.specs.Seqs.{concat_map}
use Rattle.text_values.specs.declared.Term.{Term}
use Rattle.text_values.specs.Values.{SlipField}
use Rattle.text_values.specs.Values.{blank_term}
use Rattle.text_values.proofs.Pads.{pad_set}
use Rattle.apply_rules.specs.filling.Filled.{slip_field}
use Rattle.apply_rules.specs.filling.Pushes.{pushed, pushed_all, collected}

-- ---- terms behind terms

chained : (a b : List Term) (o : Option SlipField)
    → ((x : SlipField) → pushed_all x (a ++ b) ≡ option_and_then (λ y. pushed_all y b) (pushed_all x a))
    → option_and_then (λ x. pushed_all x (a ++ b)) o ≡ option_and_then (λ x. pushed_all x b) (option_and_then (λ x. pushed_all x a) o)
chained a b None h = refl
chained a b (Some x) h = h x

pushed_append : (a b : List Term) (w : SlipField) → pushed_all w (a ++ b) ≡ option_and_then (λ x. pushed_all x b) (pushed_all w a)
pushed_append [] b w = refl
pushed_append (t ∷ a) b w = chained a b (pushed w t) (λ x. pushed_append a b x)

-- what one term becomes, and then what the terms behind it become
pub pushed_each : {B : Type 0} (g : B → List Term) (w : SlipField) (b : B) (s : List B)
    → pushed_all w (concat_map g (b ∷ s)) ≡ option_and_then (λ x. pushed_all x (concat_map g s)) (pushed_all w (g b))
pushed_each g w b s = pushed_append (g b) (concat_map g s) w

-- ---- the field of these terms

push_short : (s : List Term) (t : Term) → length s < most_items → pushed (slip_field s) t ≡ Some (slip_field (s ++ t ∷ []))
push_short s t h =
    rw (lt-leb most_items (length s) h)
    (ap₂ (λ (n : ℕ) (l : List Term). Some (record { n = n; terms = l })) (sym (length-append s (t ∷ []))) (pad_set most_items blank_term s t h))

all_short : (ts s : List Term) → length s + length ts ≤ most_items → pushed_all (slip_field s) ts ≡ Some (slip_field (s ++ ts))
all_short [] s h = ap (λ (l : List Term). Some (slip_field l)) (sym (append-nil s))
all_short (t ∷ ts) s h =
    ap (option_and_then (λ (w : SlipField). pushed_all w ts)) (push_short s t (omega arith))
    ∙ all_short ts (s ++ t ∷ []) (omega (arith, length-append s (t ∷ [])))
    ∙ ap (λ (l : List Term). Some (slip_field l)) (append_assoc s (t ∷ []) ts)

too_many : (ts s : List Term) → length s ≤ most_items → most_items < length s + length ts → pushed_all (slip_field s) ts ≡ None
too_many [] s h k = absurd (omega arith)
too_many (t ∷ ts) s h k =
    let l = length-append s (t ∷ []) in
    go (dec_le most_items (length s)) (λ e. too_many ts (s ++ t ∷ []) (omega arith) (omega arith))
  where
    go : Dec (most_items ≤ length s) → (length s < most_items → pushed_all (slip_field (s ++ t ∷ [])) ts ≡ None) → pushed_all (slip_field s) (t ∷ ts) ≡ None
    go (yes e) r = rw (le-leb most_items (length s) e)
    go (no e) r = ap (option_and_then (λ (w : SlipField). pushed_all w ts)) (push_short s t (omega arith)) ∙ r (omega arith)

pub collected_short : (ts : List Term) → length ts ≤ most_items → collected ts ≡ Some (slip_field ts)
collected_short ts h = all_short ts [] (omega arith)

pub collected_long : (ts : List Term) → most_items < length ts → collected ts ≡ None
collected_long ts h = too_many ts [] (omega arith) (omega arith)

-- ---- what it tells

pub short_by : (ts : List Term) (f : SlipField) → collected ts ≡ Some f → (leb (length ts) most_items ≡ true) × (f ≡ slip_field ts)
short_by ts f e = go (dec_le (length ts) most_items)
  where
    go : Dec (length ts ≤ most_items) → (leb (length ts) most_items ≡ true) × (f ≡ slip_field ts)
    go (yes h) = let s = collected_short ts h in (le-leb (length ts) most_items h, cc)
    go (no h) = let l = collected_long ts (omega arith) in cc

pub long_by : (ts : List Term) → collected ts ≡ None → leb (length ts) most_items ≡ false
long_by ts e = go (dec_le (length ts) most_items)
  where
    go : Dec (length ts ≤ most_items) → leb (length ts) most_items ≡ false
    go (yes h) = let s = collected_short ts h in cc
    go (no h) = lt-leb (length ts) most_items (omega arith)
