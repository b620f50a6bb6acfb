-- A rule text is cut at its arrow in one way, says one thing, and is parsed as it.
use mathlib.Core.Path.{◌≡◌, refl, sym, ◌∙◌, ap, ap₂, subst}
use mathlib.Core.Logic.{◌↔◌, ite}
use mathlib.Core.Option.{Option, none, some, map, none-ne-some, some-injective}
use mathlib.Core.List.{List, [], ◌∷◌, ◌++◌}
use Prim.Native.Nat.{ℕ}
use native.Mathlib.Decide.{ℕ_discrete}
use lib.ListN.{length, take, drop, take-append-drop}
use lib.Seq.{take-append_seam, drop-append_seam}
use Rattle.text_grammar.specs.Grammar.{Raw, spell_t, Says, Grammar}
use Rattle.text_grammar.specs.Place.{Stops}
use Rattle.text_grammar.specs.Machine.{place2, parse}
use Rattle.text_grammar.proofs.Place.{place2_is, place2_none}
use Rattle.text_grammar.proofs.Parse.{Parsed, parsed, parse_complete}
use Rattle.text_grammar.specs.rules.Sides.{Sides, one, two, joined, SaysRule}
use Rattle.text_grammar.specs.rules.Place.{arrow1, arrow2, cut_parts, cut_at, cut, both_sides, parse_parts, parse_rule}
use Rattle.text_grammar.proofs.rules.Splits.{equals, grammar_viable, no_viable}
use Rattle.text_grammar.proofs.rules.Stops.{answer_is, stops_at}

-- ---- THE CUT

-- the machine of one side stops on `=` behind a side
pub stops_equal : (a w : List ℕ) → Grammar a → place2 (a ++ 61 ∷ w) ≡ some (length a)
stops_equal a w g =
    answer_is (Stops (a ++ 61 ∷ w)) (place2 (a ++ 61 ∷ w)) (length a) (place2_is (a ++ 61 ∷ w))
    (stops_at Grammar a (61 ∷ w) (grammar_viable a g) (λ v. no_viable 61 equals a [] g v))

arrow_is : (u : List ℕ) → arrow1 (61 ∷ (62 ∷ u)) ≡ some u
unfolding ℕ_discrete
arrow_is u = refl

pub cut_joined : (a u : List ℕ) → Grammar a → cut (joined a u) ≡ some (a, u)
cut_joined a u g =
    ap (cut_at (joined a u)) (stops_equal a (62 ∷ u) g)
    ∙ ap₂ (λ (l m : List ℕ). cut_parts l (place2 l) (arrow1 m)) (take-append_seam a (61 ∷ (62 ∷ u))) (drop-append_seam a (61 ∷ (62 ∷ u)))
    ∙ ap₂ (cut_parts a) ((place2_none a).0 g) (arrow_is u)

-- what stands at the arrow
pub arrow_behind : (r u : List ℕ) → arrow1 r ≡ some u → r ≡ 61 ∷ (62 ∷ u)
arrow_behind [] u e = absurd (none-ne-some u e)
arrow_behind (b ∷ r) u e = first (ℕ_discrete b 61) e
  where
    second : (r : List ℕ) → arrow2 r ≡ some u → r ≡ 62 ∷ u
    second [] e = absurd (none-ne-some u e)
    second (c ∷ v) e = go (ℕ_discrete c 62) e
      where
        go : (d : Dec (c ≡ 62)) → ite d (some v) none ≡ some u → c ∷ v ≡ 62 ∷ u
        go (yes d) e = ap₂ (λ (x : ℕ) (l : List ℕ). x ∷ l) d (some-injective v u e)
        go (no n) e = absurd (none-ne-some u e)

    first : (d : Dec (b ≡ 61)) → ite d (arrow2 r) none ≡ some u → b ∷ r ≡ 61 ∷ (62 ∷ u)
    first (yes d) e = ap₂ (λ (x : ℕ) (l : List ℕ). x ∷ l) d (second r e)
    first (no n) e = absurd (none-ne-some u e)

cut_sound : (t : List ℕ) (c : List ℕ × List ℕ) → cut t ≡ some c → Grammar c.0 × (t ≡ joined c.0 c.1)
cut_sound t c e = go (place2 t) e
  where
    on : (a z : List ℕ) → t ≡ a ++ z → (o : Option ℕ) → place2 a ≡ o → (r : Option (List ℕ)) → arrow1 z ≡ r → cut_parts a o r ≡ some c
        → Grammar c.0 × (t ≡ joined c.0 c.1)
    on a z s (some q) f r h e = absurd (none-ne-some c e)
    on a z s none f none h e = absurd (none-ne-some c e)
    on a z s none f (some u) h e =
        let same = some-injective (a, u) c e in
        subst (λ (k : List ℕ × List ℕ). Grammar k.0 × (t ≡ joined k.0 k.1)) same
        ((place2_none a).1 f, s ∙ ap (λ (l : List ℕ). a ++ l) (arrow_behind z u h))

    go : (o : Option ℕ) → cut_at t o ≡ some c → Grammar c.0 × (t ≡ joined c.0 c.1)
    go none e = absurd (none-ne-some c e)
    go (some p) e = on (take p t) (drop p t) (sym (take-append-drop p t)) (place2 (take p t)) refl (arrow1 (drop p t)) refl e

-- ONE CUT: behind a text of the grammar, before `=>`
pub cut_iff : (t a u : List ℕ) → (cut t ≡ some (a, u)) ↔ (Grammar a × (t ≡ joined a u))
cut_iff t a u = (cut_sound t (a, u), λ h. ap cut h.1 ∙ cut_joined a u h.0)

-- a text of one side has none
pub cut_one : (t : List ℕ) → Grammar t → cut t ≡ none
cut_one t g = ap (cut_at t) ((place2_none t).0 g)

-- ---- PARSING

pub parse_rule_complete : (t : List ℕ) (s : Sides) → SaysRule t s → parse_rule t ≡ some s
parse_rule_complete t (one x) h = ap (parse_parts t) (cut_one t (x, h)) ∙ ap (map one) (parse_complete t x h)
parse_rule_complete t (two x y) h =
    ap (parse_parts t) ((cut_iff t (spell_t x) (spell_t y)).1 ((x, (h.0.0, refl)), h.1))
    ∙ ap₂ both_sides (parse_complete (spell_t x) x (h.0.0, refl)) (parse_complete (spell_t y) y (h.0.1, refl))

abbrev pub ParsedRule : List ℕ → Option Sides → Type 0
ParsedRule t none = (s : Sides) → SaysRule t s → ⊥
ParsedRule t (some s) = SaysRule t s

parse_rule_sound : (t : List ℕ) (s : Sides) → parse_rule t ≡ some s → SaysRule t s
parse_rule_sound t s e = go (cut t) refl e
  where
    alone : (o : Option (List (List Raw))) → Parsed t o → map one o ≡ some s → SaysRule t s
    alone none h e = absurd (none-ne-some s e)
    alone (some x) h e = subst (SaysRule t) (some-injective (one x) s e) h

    both : (a u : List ℕ) → t ≡ joined a u → (o r : Option (List (List Raw))) → Parsed a o → Parsed u r → both_sides o r ≡ some s → SaysRule t s
    both a u f none r h k e = absurd (none-ne-some s e)
    both a u f (some x) none h k e = absurd (none-ne-some s e)
    both a u f (some x) (some y) h k e = subst (SaysRule t) (some-injective (two x y) s e) ((h.0, k.0), f ∙ ap₂ joined h.1 k.1)

    go : (c : Option (List ℕ × List ℕ)) → cut t ≡ c → parse_parts t c ≡ some s → SaysRule t s
    go none f e = alone (parse t) (parsed t) e
    go (some c) f e = both c.0 c.1 (cut_sound t c f).1 (parse c.0) (parse c.1) (parsed c.0) (parsed c.1) e

pub parse_rule_iff : (t : List ℕ) (s : Sides) → (parse_rule t ≡ some s) ↔ SaysRule t s
parse_rule_iff t s = (parse_rule_sound t s, parse_rule_complete t s)

pub parsed_rule : (t : List ℕ) → ParsedRule t (parse_rule t)
parsed_rule t = go (parse_rule t) refl
  where
    go : (o : Option Sides) → parse_rule t ≡ o → ParsedRule t o
    go none e = λ s h. none-ne-some s (sym e ∙ parse_rule_complete t s h)
    go (some s) e = parse_rule_sound t s e

-- SAYS ONE THING
pub says_rule_one : (t : List ℕ) (s z : Sides) → SaysRule t s → SaysRule t z → s ≡ z
says_rule_one t s z h k = some-injective s z (sym (parse_rule_complete t s h) ∙ parse_rule_complete t z k)

-- there is a cut exactly where the text goes on with `=>` behind a side; so a text without one says one side or nothing
pub cut_none : (t : List ℕ) → cut t ≡ none → (s : Sides) → SaysRule t s → (x : List (List Raw)) × (s ≡ one x) × Says t x
cut_none t e (one x) h = (x, refl, h)
cut_none t e (two x y) h = absurd (none-ne-some (spell_t x, spell_t y) (sym e ∙ (cut_iff t (spell_t x) (spell_t y)).1 ((x, (h.0.0, refl)), h.1)))
