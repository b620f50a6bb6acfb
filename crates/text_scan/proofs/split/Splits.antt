-- What the code finds, case by case, is how the text is split.
use mathlib.Core.Path.{◌≡◌, refl, sym, ◌∙◌, ap, ap₂, subst}
use mathlib.Core.Logic.{◌⊎◌, inl, inr, if_neg}
use mathlib.Core.Option.{Option, none, some, map, none-ne-some}
use mathlib.Core.List.{List, ◌∷◌}
use Prim.Native.Nat.{ℕ, suc, ◌+◌, ◌-◌, ◌<◌, ◌≤◌}
use native.Mathlib.Omega.{arith}
use native.Mathlib.Decide.{ℕ_discrete}
use lib.ListN.{length, take, drop, get_or, length-drop}
use lib.Seq.{drop-cons, drop-drop, length-take-le, take_all}
use Rattle.text_grammar.specs.Grammar.{Grammar}
use Rattle.text_grammar.specs.Place.{Answers, Stops, Viable}
use Rattle.text_grammar.specs.Machine.{place2}
use Rattle.text_grammar.proofs.Place.{place2_is, place2_none}
use Rattle.text_grammar.specs.rules.Place.{arrow1, arrow2, cut_parts, cut_at, cut, place61, place62, place_at, place_on, place_rule}
use Rattle.text_grammar.proofs.rules.Place.{place_rule_none}
use Rattle.text_grammar.proofs.rules.Parse.{cut_none, arrow_behind}
use Rattle.std.specs.Prelude as found
use Rattle.text_scan.specs.Places.{found_of}
use Rattle.text_scan.specs.declared.split.Split.{Split}
use Rattle.text_scan.specs.declared.split.Split.TheVariants as split
use Rattle.text_scan.specs.split.Splits.{split_by, split_of}

-- ---- what was found

pub found_at : (o : Option ℕ) (f : found.Option ℕ) (p : ℕ) → f ≡ found_of o → f ≡ found.Some p → o ≡ some p
found_at none f p e q = let z : ◌≡◌ {A = ℕ} 0 1 = cc in absurd (omega arith)
found_at (some n) f p e q = let z : n ≡ p = cc in ap some z

pub found_none : (o : Option ℕ) (f : found.Option ℕ) → f ≡ found_of o → f ≡ found.None → o ≡ none
found_none none f e q = refl
found_none (some n) f e q = let z : ◌≡◌ {A = ℕ} 0 1 = cc in absurd (omega arith)

-- the place of refusal 2 is in the text or at its end
pub place_in : (t : List ℕ) (p : ℕ) → place2 t ≡ some p → p ≤ length t
place_in t p e = go (subst (Answers (Stops t)) e (place2_is t)).0.1
  where
    go : ((p ≡ length t) × (Grammar t → ⊥)) ⊎ ((p < length t) × (Viable (take (suc p) t) → ⊥)) → p ≤ length t
    go (inl h) = omega (arith, h.0)
    go (inr h) = omega (arith, h.0)

-- ---- one side

pub is_one : (t : List ℕ) → place2 t ≡ none → split.One ≡ split_of t
is_one t e = sym (ap (λ (o : Option ℕ). split_by (place_on t o) (cut_at t o)) e)

-- ---- the machine of one side stops at p

module _ (t : List ℕ) (p : ℕ) (stops : place2 t ≡ some p) where
  abbrev before : Option ℕ
  before = place2 (take p t)

  abbrev by : Option ℕ → List ℕ → Split
  by o r = split_by (place_at p o r) (cut_parts (take p t) o (arrow1 r))

  split_is : split_of t ≡ by before (drop p t)
  split_is = ap (λ (o : Option ℕ). split_by (place_on t o) (cut_at t o)) stops

  -- behind what is no side
  pub stops_inside : (q : ℕ) → before ≡ some q → split.Stops p ≡ split_of t
  stops_inside q e = sym (split_is ∙ ap (λ (o : Option ℕ). by o (drop p t)) e)

  -- behind a side, on `=`
  module _ (inside : p < length t) (equal : get_or t p 0 ≡ 61) (side : before ≡ none) where
    abbrev then : List ℕ → Split
    then r = split_by (place62 (suc p) r) (cut_parts (take p t) none (arrow2 r))

    here : drop p t ≡ 61 ∷ drop (suc p) t
    here = drop-cons t p 0 inside ∙ ap (λ (b : ℕ). b ∷ drop (suc p) t) equal

    split_then : split_of t ≡ then (drop (suc p) t)
    unfolding ℕ_discrete
    split_then = split_is ∙ ap₂ by side here

    then_other : (b : ℕ) (r : List ℕ) → (b ≡ 62 → ⊥) → then (b ∷ r) ≡ split.Stops (suc p)
    then_other b r n =
        ap (λ (x : Option ℕ). split_by x (cut_parts (take p t) none (arrow2 (b ∷ r))))
        (if_neg (ℕ_discrete b 62) n (map (λ q. suc (suc p) + q) (place2 r)) (some (suc p)))

    pub equal_other : p + 1 < length t → (get_or t (p + 1) 0 ≡ 62 → ⊥) → split.Stops (p + 1) ≡ split_of t
    equal_other h n =
        let k : suc p < length t = omega arith in
        let at : p + 1 ≡ suc p = omega arith in
        let other : get_or t (suc p) 0 ≡ 62 → ⊥ = λ e. n (ap (λ (i : ℕ). get_or t i 0) at ∙ e) in
        sym (split_then ∙ ap then (drop-cons t (suc p) 0 k) ∙ then_other (get_or t (suc p) 0) (drop (suc (suc p)) t) other ∙ ap split.Stops (sym at))

    -- behind the arrow
    module _ (two : p + 1 < length t) (arrow : get_or t (p + 1) 0 ≡ 62) where
      -- the slice from p + 2 on
      abbrev right : List ℕ
      right = take (length t - (p + 2)) (drop (p + 2) t)

      right_is : right ≡ drop (p + 2) t
      right_is = take_all (length t - (p + 2)) (drop (p + 2) t) (omega (arith, length-drop (p + 2) t))

      there : drop (suc p) t ≡ 62 ∷ right
      there =
          let k : suc p < length t = omega arith in
          let at : p + 1 ≡ suc p = omega arith in
          let next : suc (suc p) ≡ p + 2 = omega arith in
          drop-cons t (suc p) 0 k ∙ ap₂ (λ (b i : ℕ). b ∷ drop i t) (ap (λ (i : ℕ). get_or t i 0) (sym at) ∙ arrow) next
          ∙ ap (λ (r : List ℕ). 62 ∷ r) (sym right_is)

      split_right : split_of t ≡ split_by (map (λ q. suc (suc p) + q) (place2 right)) (some (take p t, right))
      unfolding ℕ_discrete
      split_right = split_then ∙ ap then there

      pub right_stops : (q : ℕ) → place2 right ≡ some q → split.Stops (p + 2 + q) ≡ split_of t
      right_stops q e =
          sym (split_right ∙ ap (λ (o : Option ℕ). split_by (map (λ i. suc (suc p) + i) o) (some (take p t, right))) e ∙ ap split.Stops (omega arith))

      pub right_in : (q : ℕ) → place2 right ≡ some q → p + 2 + q ≤ length t
      right_in q e = let h = place_in right q e in let l = length-drop (p + 2) t in omega (arith, ap length right_is)

-- ---- what a split says

-- the text stops being a rule's where the grammar says so
pub stops_place : (t : List ℕ) (p : ℕ) → split_of t ≡ split.Stops p → place_rule t ≡ some p
stops_place t p e = go (place_rule t) (cut t) e
  where
    go : (o : Option ℕ) (c : Option (List ℕ × List ℕ)) → split_by o c ≡ split.Stops p → o ≡ some p
    go (some q) c e = let z : q ≡ p = cc in ap some z
    go none none e = let z : ◌≡◌ {A = ℕ} 0 1 = cc in absurd (omega arith)
    go none (some d) e = let z : ◌≡◌ {A = ℕ} 0 1 = cc in absurd (omega arith)

pub one_cut : (t : List ℕ) → split_of t ≡ split.One → (place_rule t ≡ none) × (cut t ≡ none)
one_cut t e = go (place_rule t) (cut t) e
  where
    go : (o : Option ℕ) (c : Option (List ℕ × List ℕ)) → split_by o c ≡ split.One → (o ≡ none) × (c ≡ none)
    go (some q) c e = let z : ◌≡◌ {A = ℕ} 0 1 = cc in absurd (omega arith)
    go none none e = (refl, refl)
    go none (some d) e = let z : ◌≡◌ {A = ℕ} 0 1 = cc in absurd (omega arith)

-- the two sides: the bytes before the arrow and those behind it, each of the grammar of one side
pub record TwoSides (t : List ℕ) (p : ℕ) : Type 0 where
  pub place : place_rule t ≡ none
  pub parts : cut t ≡ some (take p t, drop (p + 2) t)
  pub left : place2 (take p t) ≡ none
  pub right : place2 (drop (p + 2) t) ≡ none
  pub inside : p + 2 ≤ length t

no_two : (o : Option ℕ) (p : ℕ) → split_by o none ≡ split.Two p → ⊥
no_two none p e = let z : ◌≡◌ {A = ℕ} 0 1 = cc in omega arith
no_two (some q) p e = let z : ◌≡◌ {A = ℕ} 0 1 = cc in omega arith

two_is : (o : Option ℕ) (c : List ℕ × List ℕ) (p : ℕ) → split_by o (some c) ≡ split.Two p → (o ≡ none) × (length c.0 ≡ p)
two_is none c p e = let z : length c.0 ≡ p = cc in (refl, z)
two_is (some q) c p e = let z : ◌≡◌ {A = ℕ} 0 1 = cc in absurd (omega arith)

map_none : (f : ℕ → ℕ) (o : Option ℕ) → map f o ≡ none → o ≡ none
map_none f none e = refl
map_none f (some n) e = absurd (none-ne-some (f n) (sym e))

behind_arrow : (n : ℕ) (u : List ℕ) → place61 n (61 ∷ (62 ∷ u)) ≡ map (λ q. suc (suc n) + q) (place2 u)
unfolding ℕ_discrete
behind_arrow n u = refl

module _ (t : List ℕ) (p n : ℕ) (stops : place2 t ≡ some n) (e : split_of t ≡ split.Two p) where
  inside_side : (q : ℕ) → place2 (take n t) ≡ some q → ⊥
  inside_side q k = let z = sym e ∙ sym (stops_inside t n stops q k) in let o : ◌≡◌ {A = ℕ} 0 1 = cc in omega arith

  module _ (side : place2 (take n t) ≡ none) where
    now : split_by (place61 n (drop n t)) (cut_parts (take n t) none (arrow1 (drop n t))) ≡ split.Two p
    now = sym (split_is t n stops ∙ ap (λ (o : Option ℕ). by t n stops o (drop n t)) side) ∙ e

    no_arrow : arrow1 (drop n t) ≡ none → ⊥
    no_arrow k = no_two (place61 n (drop n t)) p (ap (λ (w : Option (List ℕ)). split_by (place61 n (drop n t)) (cut_parts (take n t) none w)) (sym k) ∙ now)

    with_arrow : (u : List ℕ) → arrow1 (drop n t) ≡ some u → TwoSides t p
    with_arrow u k =
        let r = arrow_behind (drop n t) u k in
        let with = ap (λ (w : Option (List ℕ)). split_by (place61 n (drop n t)) (cut_parts (take n t) none w)) (sym k) ∙ now in
        let d = two_is (place61 n (drop n t)) (take n t, u) p with in
        let l = length-drop n t in
        let is_p : n ≡ p = sym (length-take-le n t (place_in t n stops)) ∙ d.1 in
        let is_u : u ≡ drop (n + 2) t = sym (ap (drop 2) r) ∙ drop-drop 2 n t in
        let fine : place2 u ≡ none = map_none (λ q. suc (suc n) + q) (place2 u) (sym (behind_arrow n u) ∙ sym (ap (place61 n) r) ∙ d.0) in
        subst (TwoSides t) is_p record {
          place = ap (place_on t) stops ∙ ap (λ (o : Option ℕ). place_at n o (drop n t)) side ∙ d.0;
          parts = ap (cut_at t) stops ∙ ap₂ (cut_parts (take n t)) side k ∙ ap (λ (w : List ℕ). some (take n t, w)) is_u;
          left = side;
          right = ap place2 (sym is_u) ∙ fine;
          inside = omega (arith, ap length r);
        }

pub two_sides : (t : List ℕ) (p : ℕ) → split_of t ≡ split.Two p → TwoSides t p
two_sides t p e = from (place2 t) refl
  where
    arrow : (n : ℕ) (stops : place2 t ≡ some n) → place2 (take n t) ≡ none → (w : Option (List ℕ)) → arrow1 (drop n t) ≡ w → TwoSides t p
    arrow n stops side none k = absurd (no_arrow t p n stops e side k)
    arrow n stops side (some u) k = with_arrow t p n stops e side u k

    before_arrow : (n : ℕ) → place2 t ≡ some n → (o : Option ℕ) → place2 (take n t) ≡ o → TwoSides t p
    before_arrow n stops none q = arrow n stops q (arrow1 (drop n t)) refl
    before_arrow n stops (some k) q = absurd (inside_side t p n stops e k q)

    from : (o : Option ℕ) → place2 t ≡ o → TwoSides t p
    from none q = let z = sym e ∙ sym (is_one t q) in let o : ◌≡◌ {A = ℕ} 0 1 = cc in absurd (omega arith)
    from (some n) q = before_arrow n q (place2 (take n t)) refl

-- a text of one side is of its grammar
pub one_side : (t : List ℕ) → split_of t ≡ split.One → place2 t ≡ none
one_side t e =
    let c = one_cut t e in
    let g = (place_rule_none t).1 c.0 in
    let n = cut_none t c.1 g.0 g.1 in
    (place2_none t).0 (n.0, n.2)
