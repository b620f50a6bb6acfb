-- What the code says of a rule text, case by case, is reading: `judge_is` of text_grammar/proofs/rules has reading side by side.
use mathlib.Core.Path.{◌≡◌, refl, sym, ◌∙◌, ap, ap₂, subst}
use mathlib.Core.Logic.{inl, inr, if_neg}
use mathlib.Core.Bool.{Bool, true, false, cond}
use mathlib.Core.Option.{Option, none, some, map}
use mathlib.Core.List.{[], List, ◌∷◌}
use Prim.Native.Nat.{ℕ, ◌+◌, ◌-◌, ◌<◌, ◌≤◌}
use native.Mathlib.Omega.{arith, by_contra}
use native.Mathlib.Decide.{dec_lt}
use lib.Dec.{ltb}
use lib.ListN.{length, take, drop, length-drop}
use Rattle.base_limits.specs.Limits.{largest_number}
use Rattle.base_lists.specs.Seqs.{All}
use Rattle.math_terms.specs.Terms.{con, var}
use Rattle.math_terms.specs.Fillings.{Occurs}
use Rattle.text_grammar.specs.Terms.{OurTerm, OurFields, fields_of}
use Rattle.text_grammar.specs.Limits.{TermIn, IsLeft}
use Rattle.text_grammar.specs.Read.{long, grammar, fields, terms, limits, linear, variable, unknown, number, rule, slip, said}
use Rattle.text_grammar.specs.Read.{OutcomeOf, Outcome, refused, accepted, tell, read_side}
use Rattle.text_grammar.specs.Grammar.{Raw, Says}
use Rattle.text_grammar.specs.Walk.{walked}
use Rattle.text_grammar.proofs.Refused.{rule_place}
use Rattle.text_grammar.proofs.Accepted.{Base, in_grammar, said_is, rule_read_lem}
use Rattle.text_grammar.proofs.Theorems.{rule_accepted, rule_refused}
use Rattle.text_grammar.proofs.Walk.{walk_says}
use Rattle.text_grammar.specs.rules.Place.{cut, place_rule}
use Rattle.text_grammar.specs.rules.Read.{OurRule, read_rule}
use Rattle.text_grammar.specs.rules.Judge.{as_rule, right_told, lower, lacking_at, known, judge_two, judge_parts}
use Rattle.text_grammar.proofs.rules.Judge.{judge_is}
use Rattle.text_grammar.proofs.rules.Read.{long_rule}
use Rattle.text_grammar.proofs.rules.Sharp as rules
use Rattle.std.specs.Prelude as found
use Rattle.text_scan.specs.Places.{found_of}
use Rattle.text_scan.specs.declared.split.Split.TheVariants as split
use Rattle.text_scan.specs.split.Splits.{split_of}
use lib.Seq.{length-take-le, take_all}
use Rattle.text_scan.proofs.split.Splits.{stops_place, one_cut, TwoSides, two_sides}
use Rattle.std.specs.Prelude.{Ok, Err}
use Rattle.text_refusals.specs.verdicts.Verdicts.{Verdict, Accepted, Refused}
use Rattle.text_refusals.specs.verdicts.Verdicts.{reason_from, number_of, verdict_of, first_of}
use Rattle.text_refusals.proofs.verdicts.Verdicts.{number_is}
use Rattle.text_values.specs.Values.{RuleSide}
use Rattle.text_values.specs.Values.{view_side, encode_side}
use Rattle.text_accepted.proofs.Accepted.{view_encode_rule}
use Rattle.text_refusals.proofs.unknown.Unknown.{NumbersIn}
use Rattle.text_refusals.specs.declared.Sort.TheVariants as kind
use Rattle.text_refusals.specs.declared.Survey.{Survey}
use Rattle.text_passes.specs.Build.{built_side}
use Rattle.text_passes.specs.Passes.{survey_in, side_in, unknown_in}
use Rattle.text_passes.proofs.Build.{rule_built}
use Rattle.text_passes.proofs.Passes.{is_short}
use Rattle.text_passes.proofs.Unknown.{unknown_says}
use Rattle.text_passes.proofs.Fields.{fits}
use Rattle.text_read.proofs.Verdicts.{accepted_out, surveyed_is}
use Rattle.text_read.specs.Sides.{right_of, unknown_of, PlacedIn, FoundIn}

-- ---- verdicts of outcomes

right_verdict : (d : ℕ) (o : Outcome) → verdict_of (right_told d o) ≡ right_of d (verdict_of o)
right_verdict d (refused long p) = refl
right_verdict d (refused grammar p) = refl
right_verdict d (refused fields p) = refl
right_verdict d (refused terms p) = refl
right_verdict d (refused limits p) = refl
right_verdict d (refused linear p) = refl
right_verdict d (refused variable p) = refl
right_verdict d (refused unknown p) = refl
right_verdict d (accepted y) = refl

-- a text without an arrow
pub as_rule_lem : (o : Outcome) → verdict_of (as_rule o) ≡ verdict_of o
as_rule_lem (refused r p) = refl
as_rule_lem (accepted x) = refl

-- a refusal, or else what v says
abbrev pub or_else : Verdict → Verdict → Verdict
or_else (Ok u) v = v
or_else (Err e) v = Err e

lower_verdict : (a b : Outcome) (o : OutcomeOf OurRule) → verdict_of (lower a b o) ≡ or_else (first_of (verdict_of a) (verdict_of b)) (verdict_of o)
lower_verdict (refused r p) (refused q k) o =
    go (ltb (number q) (number r))
    ∙ ap₂ (λ (i j : ℕ). or_else (cond (ltb i j) (Refused (reason_from q) k) (Refused (reason_from r) p)) (verdict_of o)) (sym (number_is q)) (sym (number_is r))
  where
    go : (c : Bool) → verdict_of {X = OurRule} (cond c (refused q k) (refused r p))
        ≡ or_else (cond c (Refused (reason_from q) k) (Refused (reason_from r) p)) (verdict_of o)
    go true = refl
    go false = refl
lower_verdict (refused r p) (accepted y) o = refl
lower_verdict (accepted x) (refused q k) o = refl
lower_verdict (accepted x) (accepted y) o = refl

-- ---- where the code is

module _ (t : List ℕ) where
  pub judged_long : rule.bytes < length t → Refused (reason_from long) rule.bytes ≡ verdict_of (read_rule t)
  judged_long h = sym (ap verdict_of (long_rule t h))

  module _ (short : length t ≤ rule.bytes) where
    short_read : read_rule t ≡ tell grammar (place_rule t) (judge_parts t (cut t))
    short_read =
        judge_is t
        ∙ ap (λ (o : Option ℕ). tell long o (tell grammar (place_rule t) (judge_parts t (cut t))))
        (if_neg (dec_lt rule.bytes (length t)) (λ k. omega arith) (some rule.bytes) none)

    pub judged_stops : (p : ℕ) → split_of t ≡ split.Stops p → Refused (reason_from grammar) p ≡ verdict_of (read_rule t)
    judged_stops p e = sym (ap verdict_of (short_read ∙ ap (λ (o : Option ℕ). tell grammar o (judge_parts t (cut t))) (stops_place t p e)))

    pub one_read : split_of t ≡ split.One → read_rule t ≡ as_rule (read_side t)
    one_read e =
        let c = one_cut t e in
        short_read ∙ ap₂ (λ (o : Option ℕ) (d : Option (List ℕ × List ℕ)). tell grammar o (judge_parts t d)) c.0 c.1

    pub judged_one : split_of t ≡ split.One → verdict_of (read_side t) ≡ verdict_of (read_rule t)
    judged_one e = sym (ap verdict_of (one_read e) ∙ as_rule_lem (read_side t))

    pub two_read : (c : List ℕ × List ℕ) → place_rule t ≡ none → cut t ≡ some c → read_rule t ≡ judge_two c.0 c.1
    two_read c e k = short_read ∙ ap₂ (λ (o : Option ℕ) (d : Option (List ℕ × List ℕ)). tell grammar o (judge_parts t d)) e k

-- ---- what the sides say

first_accepted : (v w : Verdict) → first_of v w ≡ Accepted → (v ≡ Accepted) × (w ≡ Accepted)
first_accepted (Ok u) w e = (refl, e)
first_accepted (Err x) (Ok u) e = let z : ◌≡◌ {A = ℕ} 0 1 = cc in absurd (omega arith)
first_accepted (Err x) (Err y) e = absurd (go (ltb (number_of y.reason) (number_of x.reason)) e)
  where
    go : (c : Bool) → cond c (Err y) (Err x) ≡ Accepted → ⊥
    go true e = let z : ◌≡◌ {A = ℕ} 0 1 = cc in omega arith
    go false e = let z : ◌≡◌ {A = ℕ} 0 1 = cc in omega arith

-- so reading goes on with what is behind both
pub both_fine : (d : ℕ) (o w : Outcome) (z : OutcomeOf OurRule) → first_of (verdict_of o) (right_of d (verdict_of w)) ≡ Accepted → lower o (right_told d w) z ≡ z
both_fine d o w z e = let h = first_accepted (verdict_of o) (right_of d (verdict_of w)) e in go o (right_told d w) h.0 (right_verdict d w ∙ h.1)
  where
    go : (o w : Outcome) → verdict_of o ≡ Accepted → verdict_of w ≡ Accepted → lower o w z ≡ z
    go (refused r p) w e k = let z : ◌≡◌ {A = ℕ} 0 1 = cc in absurd (omega arith)
    go (accepted x) (refused r p) e k = let z : ◌≡◌ {A = ℕ} 0 1 = cc in absurd (omega arith)
    go (accepted x) (accepted y) e k = refl

-- a text that is refused for none of 1 to 5
pub accepted_base : (t : List ℕ) → Accepted ≡ verdict_of (read_side t) → Base rule t
accepted_base t e =
    let a = accepted_out (read_side t) e in
    let n = ((rule_accepted t a.0).0 a.1).0 in
    (n.0, n.1.0, n.1.1.0, n.1.1.1.0, n.1.1.1.1.0)

-- an accepted text is read as what it says
pub accepted_said : (t : List ℕ) → Accepted ≡ verdict_of (read_side t) → read_side t ≡ accepted (fields_of (said t))
accepted_said t e =
    let o = accepted_out (read_side t) e in
    let g = ((rule_accepted t o.0).0 o.1).1 in
    o.1 ∙ ap accepted (sym g.2 ∙ ap fields_of (sym (said_is t g.0 g.1)))

linear_base : (t : List ℕ) (p : ℕ) → read_side t ≡ refused linear p → Base rule t
linear_base t p e = let n = ((rule_refused linear (λ k. linear≢variable k) t p).0 e).0 in (n.0, n.1.0, n.1.1.0, n.1.1.1.0, n.1.1.1.1.0)
  where
    linear≢variable : linear ≡ variable → ⊥
    linear≢variable k = let z : ◌≡◌ {A = ℕ} 0 1 = cc in omega arith

right_base : (d : ℕ) (t : List ℕ) → right_of d (verdict_of (read_side t)) ≡ Accepted → Base rule t
right_base d t e = go (read_side t) refl e
  where
    go : (o : Outcome) → read_side t ≡ o → right_of d (verdict_of o) ≡ Accepted → Base rule t
    go (refused long p) q e = let z : ◌≡◌ {A = ℕ} 0 1 = cc in absurd (omega arith)
    go (refused grammar p) q e = let z : ◌≡◌ {A = ℕ} 0 1 = cc in absurd (omega arith)
    go (refused fields p) q e = let z : ◌≡◌ {A = ℕ} 0 1 = cc in absurd (omega arith)
    go (refused terms p) q e = let z : ◌≡◌ {A = ℕ} 0 1 = cc in absurd (omega arith)
    go (refused limits p) q e = let z : ◌≡◌ {A = ℕ} 0 1 = cc in absurd (omega arith)
    go (refused linear p) q e = linear_base t p q
    go (refused variable p) q e = let z : ◌≡◌ {A = ℕ} 0 1 = cc in absurd (omega arith)
    go (refused unknown p) q e = let z : ◌≡◌ {A = ℕ} 0 1 = cc in absurd (omega arith)
    go (accepted x) q e = accepted_base t (sym (ap verdict_of q))

-- building gives its fields
module _ (t : List ℕ) (base : Base rule t) where
  base_short : length t ≤ rule.bytes
  base_short = by_contra (length t) rule.bytes (λ h. base.0 rule.bytes (h, refl))

  base_says : (x : List (List Raw)) × Says t x
  base_says = in_grammar t base.1

  built_side_lem : built_side (walked t) ≡ encode_side (fields_of (said t))
  built_side_lem =
      let g = base_says in
      ap built_side (walk_says t g.0 g.1)
      ∙ rule_built g.0 g.1.0 (fits rule t base g.0 g.1)
      ∙ ap (λ (y : List (List Raw)). encode_side (fields_of y)) (sym (said_is t g.0 g.1))

  pub side_built : side_in t ≡ encode_side (fields_of (said t))
  side_built =
      let w : side_in t ≡ built_side (walked t) = rw (is_short t (let b = base_short in omega arith)) in
      w ∙ built_side_lem

-- the variables of a left side have numbers within their limit
numbers_in : (x : OurFields) → All (All TermIn) x → NumbersIn x
numbers_in (f ∷ x) h k n (inl o) = in_field f h.0 o
  where
    in_field : (f : List OurTerm) → All TermIn f → Occurs k n f → n ≤ largest_number
    in_field (con c ∷ f) h o = in_field f h.1 o
    in_field (var j m ∷ f) h (inl e) = omega (arith, h.0, e.1)
    in_field (var j m ∷ f) h (inr o) = in_field f h.1 o
    in_field [] h o = elim o [ ]
numbers_in (f ∷ x) h k n (inr o) = numbers_in x h.1 k n o
numbers_in [] h k n x3 = elim x3 [ ]

-- ---- two sides

module _ (t : List ℕ) (short : length t ≤ rule.bytes) (p : ℕ) (e : split_of t ≡ split.Two p) where
  abbrev pub a : List ℕ
  a = take p t

  abbrev pub u : List ℕ
  u = drop (p + 2) t

  pub sides : TwoSides t p
  sides = two_sides t p e

  start : length a + 2 ≡ p + 2
  start = ap (λ (n : ℕ). n + 2) (length-take-le p t (omega (arith, sides.inside)))

  pub two_is : read_rule t ≡ lower (read_side a) (right_told (p + 2) (read_side u)) (known (p + 2) (said a) (said u))
  two_is =
      two_read t short (a, u) sides.place sides.parts
      ∙ ap (λ (d : ℕ). lower (read_side a) (right_told d (read_side u)) (known d (said a) (said u))) start

  abbrev pub first : Verdict
  first = first_of (verdict_of (read_side a)) (right_of (p + 2) (verdict_of (read_side u)))

  pub two_verdict : verdict_of (read_rule t) ≡ or_else first (verdict_of (known (p + 2) (said a) (said u)))
  two_verdict =
      ap verdict_of two_is
      ∙ lower_verdict (read_side a) (right_told (p + 2) (read_side u)) (known (p + 2) (said a) (said u))
      ∙ ap (λ (v : Verdict). or_else (first_of (verdict_of (read_side a)) v) (verdict_of (known (p + 2) (said a) (said u)))) (right_verdict (p + 2) (read_side u))

  -- refused for what one side alone is refused for
  pub judged_first : (v : Verdict) (r : _) (k : ℕ) → v ≡ first → v ≡ Refused r k → v ≡ verdict_of (read_rule t)
  judged_first v r k is-v q =
      q ∙ sym (two_verdict ∙ ap (λ (x : Verdict). or_else x (verdict_of (known (p + 2) (said a) (said u)))) (sym is-v ∙ q))

  known_verdict : (o : Option ℕ) → verdict_of {X = OurRule} (tell unknown (map (λ q. p + 2 + q) o) (accepted (fields_of (said a), fields_of (said u))))
      ≡ unknown_of (p + 2) (found_of o)
  known_verdict none = refl
  known_verdict (some q) = refl

  -- else 10, or none
  pub judged_unknown : (v : Verdict) → v ≡ first → v ≡ Accepted → unknown_of (p + 2) (found_of (lacking_at (fields_of (said a)) (said u))) ≡ verdict_of (read_rule t)
  judged_unknown v is-v q =
      sym (two_verdict ∙ ap (λ (x : Verdict). or_else x (verdict_of (known (p + 2) (said a) (said u)))) (sym is-v ∙ q)
      ∙ known_verdict (lacking_at (fields_of (said a)) (said u)))

  -- ---- what the passes say of the sides

  -- the slice behind the arrow
  abbrev pub slice : List ℕ
  slice = take (length t - (p + 2)) (drop (p + 2) t)

  pub slice_is : slice ≡ u
  slice_is = take_all (length t - (p + 2)) u (omega (arith, length-drop (p + 2) t))

  left_short : length a ≤ rule.bytes
  left_short = omega (arith, short, sides.inside, length-take-le p t (omega (arith, sides.inside)))

  right_short : length u ≤ rule.bytes
  right_short = omega (arith, short, length-drop (p + 2) t)

  pub left_surveyed : (y : Survey) → y ≡ survey_in kind.Rule a → y.verdict ≡ verdict_of (read_side a)
  left_surveyed y is_y = ap (λ (x : Survey). x.verdict) is_y ∙ surveyed_is kind.Rule a left_short sides.left

  pub right_surveyed : (y : Survey) → y ≡ survey_in kind.Rule slice → y.verdict ≡ verdict_of (read_side u)
  right_surveyed y is_y = ap (λ (x : Survey). x.verdict) (is_y ∙ ap (survey_in kind.Rule) slice_is) ∙ surveyed_is kind.Rule u right_short sides.right

  pub right_placed : (v : Verdict) → v ≡ verdict_of (read_side u) → PlacedIn slip.bytes v
  right_placed v e = subst (PlacedIn slip.bytes) (sym e) (go (read_side u) refl)
    where
      go : (o : Outcome) → read_side u ≡ o → PlacedIn slip.bytes (verdict_of o)
      go (refused r k) q = let h = rule_place u r k q in omega arith
      go (accepted x) q = tt

  -- so the first refusal of both, as the code has it
  pub first_found : (x y : Survey) (w f : Verdict) → x ≡ survey_in kind.Rule a → y ≡ survey_in kind.Rule slice → w ≡ right_of (p + 2) y.verdict
      → f ≡ first_of x.verdict w → f ≡ first
  first_found x y w f is_x is_y is-w is_f =
      is_f ∙ ap₂ first_of (left_surveyed x is_x) (is-w ∙ ap (right_of (p + 2)) (right_surveyed y is_y))

  -- ---- both sides are refused for nothing that is tried before 10
  module _ (fine : first ≡ Accepted) where
    pub left_base : Base rule a
    left_base = accepted_base a (sym (first_accepted (verdict_of (read_side a)) (right_of (p + 2) (verdict_of (read_side u))) fine).0)

    pub right_fine : Base rule u
    right_fine = right_base (p + 2) u (first_accepted (verdict_of (read_side a)) (right_of (p + 2) (verdict_of (read_side u))) fine).1

    pub left_accepted : read_side a ≡ accepted (fields_of (said a))
    left_accepted = accepted_said a (sym (first_accepted (verdict_of (read_side a)) (right_of (p + 2) (verdict_of (read_side u))) fine).0)

    is_left : IsLeft (fields_of (said a))
    is_left = rule_read_lem a (fields_of (said a)) left_accepted

    -- 10 as the pass finds it
    pub unknown_found : (s : RuleSide) (f : found.Option ℕ) → s ≡ side_in a → f ≡ unknown_in (view_side s) slice → f ≡ found_of (lacking_at (fields_of (said a)) (said u))
    unknown_found s f is-s is_f =
        let g = base_says u right_fine in
        let view : view_side s ≡ fields_of (said a) = ap view_side (is-s ∙ side_built a left_base) ∙ view_encode_rule (fields_of (said a)) is_left in
        let says : Says u (said u) = subst (Says u) (sym (said_is u g.0 g.1)) g.1 in
        let numbers = numbers_in (fields_of (said a)) is_left.0.3 in
        is_f ∙ ap₂ unknown_in view slice_is ∙ unknown_says (fields_of (said a)) u (said u) numbers says (let h = right_short in omega arith)

    pub unknown_placed : (f : found.Option ℕ) → f ≡ found_of (lacking_at (fields_of (said a)) (said u)) → FoundIn slip.bytes f
    unknown_placed f is_f = subst (FoundIn slip.bytes) (sym is_f) (go (lacking_at (fields_of (said a)) (said u)) refl)
      where
        go : (o : Option ℕ) → lacking_at (fields_of (said a)) (said u) ≡ o → FoundIn slip.bytes (found_of o)
        go none q = tt
        go (some k) q =
            let r : read_rule t ≡ refused unknown (p + 2 + k) = ten k q in
            let h = (rules.rule_place t unknown (p + 2 + k) r).0 in
            omega (arith, h, short)
          where
            ten : (k : ℕ) → lacking_at (fields_of (said a)) (said u) ≡ some k → read_rule t ≡ refused unknown (p + 2 + k)
            ten k q =
                two_is
                ∙ both_fine (p + 2) (read_side a) (read_side u) (known (p + 2) (said a) (said u)) fine
                ∙ ap (λ (o : Option ℕ). tell unknown (map (λ i. p + 2 + i) o) (accepted (fields_of (said a), fields_of (said u)))) q
