-- What begins a rule text: a beginning of a side; a side and `=`; a side, `=>`, and a beginning of a side.
use mathlib.Core.Path.{◌≡◌, refl, sym, ◌∙◌, ap, ap₂, subst}
use mathlib.Core.Bool.{true, false}
use mathlib.Core.Logic.{◌⊎◌, inl, inr}
use mathlib.Core.List.{List, [], ◌∷◌, ◌++◌, append_assoc, append-nil, nil≢cons, head-eq_of_cons-eq, tail-eq_of_cons-eq}
use Prim.Native.Nat.{ℕ}
use native.Mathlib.Omega.{arith}
use Rattle.text_grammar.specs.Grammar.{spell_t, Grammar, raw_con}
use Rattle.text_grammar.specs.constants.Constants.{raw_int}
use Rattle.text_grammar.specs.Place.{ViableOf, Viable}
use Rattle.text_grammar.specs.rules.Sides.{one, two, joined, RuleGrammar}
use Rattle.text_grammar.proofs.rules.Splits.{equals, grammar_viable, no_viable, grammar_split}

-- ---- two texts, and a text in two parts

pub join_grammar : (a u : List ℕ) → Grammar a → Grammar u → RuleGrammar (joined a u)
join_grammar a u g h = (two g.0 h.0, ((g.1.0, h.1.0), ap₂ joined g.1.1 h.1.1))

pub one_grammar : (t : List ℕ) → Grammar t → RuleGrammar t
one_grammar t g = (one g.0, g.1)

-- a rule text is a text of one side, or two joined
pub rule_parts : (t : List ℕ) → RuleGrammar t → Grammar t ⊎ ((a u : List ℕ) × Grammar a × Grammar u × (t ≡ joined a u))
rule_parts t (one x, h) = inl (x, h)
rule_parts t (two x y, h) = inr (spell_t x, spell_t y, (x, (h.0.0, refl)), (y, (h.0.1, refl)), h.1)

divide : (p r a z : List ℕ) → p ++ r ≡ a ++ z → ((u : List ℕ) × (a ≡ p ++ u)) ⊎ ((u : List ℕ) × (p ≡ a ++ u) × (u ++ r ≡ z))
divide [] r a z e = inl (a, refl)
divide (b ∷ p) r [] z e = inr (b ∷ p, refl, e)
divide (b ∷ p) r (c ∷ a) z e = go (divide p r a z (tail-eq_of_cons-eq e))
  where
    same : b ≡ c
    same = head-eq_of_cons-eq e

    go : ((u : List ℕ) × (a ≡ p ++ u)) ⊎ ((u : List ℕ) × (p ≡ a ++ u) × (u ++ r ≡ z))
        → ((u : List ℕ) × (c ∷ a ≡ (b ∷ p) ++ u)) ⊎ ((u : List ℕ) × (b ∷ p ≡ (c ∷ a) ++ u) × (u ++ r ≡ z))
    go (inl h) = inl (h.0, ap₂ (λ (x : ℕ) (l : List ℕ). x ∷ l) (sym same) h.1)
    go (inr h) = inr (h.0, ap₂ (λ (x : ℕ) (l : List ℕ). x ∷ l) same h.1, h.2)

-- ---- THE THREE SHAPES

pub data Shape (p : List ℕ) : Type 0 where
  in_left : Viable p → Shape p
  at_equal : (a : List ℕ) → Grammar a → p ≡ a ++ 61 ∷ [] → Shape p
  in_right : (a u : List ℕ) → Grammar a → Viable u → p ≡ joined a u → Shape p

zero_text : Grammar (48 ∷ [])
zero_text = ((raw_con (raw_int false (48 ∷ [])) ∷ []) ∷ [], ((tt, ((tt, ((tt, ((omega arith, omega arith), tt)), tt)), tt)), refl))

pub shape_viable : (p : List ℕ) → Shape p → ViableOf RuleGrammar p
shape_viable p (in_left v) = (v.0, one_grammar (p ++ v.0) v.1)
shape_viable p (at_equal a g e) =
    let z : List ℕ = 62 ∷ (48 ∷ []) in
    (z, subst RuleGrammar (sym (append_assoc a (61 ∷ []) z) ∙ ap (λ (l : List ℕ). l ++ z) (sym e)) (join_grammar a (48 ∷ []) g zero_text))
shape_viable p (in_right a u g v e) =
    (v.0, subst RuleGrammar (sym (append_assoc a (61 ∷ (62 ∷ u)) v.0) ∙ ap (λ (l : List ℕ). l ++ v.0) (sym e)) (join_grammar a (u ++ v.0) g v.1))

pub viable_shape : (p : List ℕ) → ViableOf RuleGrammar p → Shape p
viable_shape p v = go (rule_parts (p ++ v.0) v.1)
  where
    behind : (a w u : List ℕ) → Grammar a → Grammar w → p ≡ a ++ u → u ++ v.0 ≡ 61 ∷ (62 ∷ w) → Shape p
    behind a w [] g h e d = in_left (subst Viable (sym (e ∙ append-nil a)) (grammar_viable a g))
    behind a w (b ∷ []) g h e d = at_equal a g (e ∙ ap (λ (x : ℕ). a ++ x ∷ []) (head-eq_of_cons-eq d))
    behind a w (b ∷ (c ∷ u)) g h e d =
        let f = tail-eq_of_cons-eq d in
        in_right a u g (v.0, subst Grammar (sym (tail-eq_of_cons-eq f)) h)
        (e ∙ ap₂ (λ (x y : ℕ). a ++ x ∷ (y ∷ u)) (head-eq_of_cons-eq d) (head-eq_of_cons-eq f))

    on : (a w : List ℕ) → Grammar a → Grammar w → ((u : List ℕ) × (a ≡ p ++ u)) ⊎ ((u : List ℕ) × (p ≡ a ++ u) × (u ++ v.0 ≡ 61 ∷ (62 ∷ w))) → Shape p
    on a w g h (inl d) = in_left (d.0, subst Grammar d.1 g)
    on a w g h (inr d) = behind a w d.0 g h d.1 d.2

    go : Grammar (p ++ v.0) ⊎ ((a u : List ℕ) × Grammar a × Grammar u × (p ++ v.0 ≡ joined a u)) → Shape p
    go (inl g) = in_left (v.0, g)
    go (inr h) = on h.0 h.1 h.2 h.3 (divide p v.0 h.0 (61 ∷ (62 ∷ h.1)) h.4)

-- ---- one byte behind a beginning of a side

short_nil : {X : Type 0} (b c d : ℕ) (u : List ℕ) → b ∷ [] ≡ c ∷ (d ∷ u) → X
short_nil b c d u e = absurd (nil≢cons (tail-eq_of_cons-eq e))

last_of : (p : List ℕ) (b : ℕ) (a : List ℕ) (c : ℕ) → p ++ b ∷ [] ≡ a ++ c ∷ [] → (p ≡ a) × (b ≡ c)
last_of [] b [] c e = (refl, head-eq_of_cons-eq e)
last_of [] b (x ∷ []) c e = short_nil b x c [] e
last_of [] b (x ∷ (y ∷ a)) c e = short_nil b x y (a ++ c ∷ []) e
last_of (x ∷ []) b [] c e = short_nil c x b [] (sym e)
last_of (x ∷ (y ∷ p)) b [] c e = short_nil c x y (p ++ b ∷ []) (sym e)
last_of (x ∷ p) b (y ∷ a) c e =
    let r = last_of p b a c (tail-eq_of_cons-eq e) in
    (ap₂ (λ (z : ℕ) (l : List ℕ). z ∷ l) (head-eq_of_cons-eq e) r.0, r.1)

before_last : (p : List ℕ) (b : ℕ) (a : List ℕ) (c d : ℕ) (u : List ℕ) → p ++ b ∷ [] ≡ a ++ c ∷ (d ∷ u) → (z : List ℕ) × (p ≡ a ++ c ∷ z)
before_last [] b [] c d u e = short_nil b c d u e
before_last [] b (x ∷ []) c d u e = short_nil b x c (d ∷ u) e
before_last [] b (x ∷ (y ∷ a)) c d u e = short_nil b x y (a ++ c ∷ (d ∷ u)) e
before_last (x ∷ p) b [] c d u e = (p, ap (λ (z : ℕ). z ∷ p) (head-eq_of_cons-eq e))
before_last (x ∷ p) b (y ∷ a) c d u e =
    let r = before_last p b a c d u (tail-eq_of_cons-eq e) in
    (r.0, ap₂ (λ (z : ℕ) (l : List ℕ). z ∷ l) (head-eq_of_cons-eq e) r.1)

-- behind a beginning of a side, a rule text goes on as the side does, or with `=` behind a side
pub one_more : (p : List ℕ) (b : ℕ) → Viable p → ViableOf RuleGrammar (p ++ b ∷ []) → Viable (p ++ b ∷ []) ⊎ (Grammar p × (b ≡ 61))
one_more p b v w = go (viable_shape (p ++ b ∷ []) w)
  where
    go : Shape (p ++ b ∷ []) → Viable (p ++ b ∷ []) ⊎ (Grammar p × (b ≡ 61))
    go (in_left h) = inl h
    go (at_equal a g e) = let r = last_of p b a 61 e in inr (subst Grammar (sym r.0) g, r.1)
    go (in_right a u g h e) = let r = before_last p b a 61 62 u e in absurd (no_viable 61 equals a r.0 g (subst Viable r.1 v))

-- a beginning of a side that is a rule text is a side
pub side_itself : (p : List ℕ) → Viable p → RuleGrammar p → Grammar p
side_itself p v g = go (rule_parts p g)
  where
    go : Grammar p ⊎ ((a u : List ℕ) × Grammar a × Grammar u × (p ≡ joined a u)) → Grammar p
    go (inl h) = h
    go (inr h) = absurd (no_viable 61 equals h.0 (62 ∷ h.1) h.2 (subst Viable h.4 v))

-- ---- behind a side and `=`

module _ (a : List ℕ) (g : Grammar a) where
  pub equal_text : (w : List ℕ) → RuleGrammar (a ++ 61 ∷ w) → (u : List ℕ) × (w ≡ 62 ∷ u) × Grammar u
  equal_text w h = go (rule_parts (a ++ 61 ∷ w) h)
    where
      go : Grammar (a ++ 61 ∷ w) ⊎ ((z u : List ℕ) × Grammar z × Grammar u × (a ++ 61 ∷ w ≡ joined z u)) → (u : List ℕ) × (w ≡ 62 ∷ u) × Grammar u
      go (inl k) = absurd (no_viable 61 equals a w g (grammar_viable (a ++ 61 ∷ w) k))
      go (inr k) = (k.1, (grammar_split 61 equals a k.0 w (62 ∷ k.1) g k.2 k.4).1, k.3)

  pub equal_viable : (w : List ℕ) → ViableOf RuleGrammar (a ++ 61 ∷ w) → (w ≡ []) ⊎ ((u : List ℕ) × (w ≡ 62 ∷ u) × Viable u)
  equal_viable w h = go (viable_shape (a ++ 61 ∷ w) h)
    where
      go : Shape (a ++ 61 ∷ w) → (w ≡ []) ⊎ ((u : List ℕ) × (w ≡ 62 ∷ u) × Viable u)
      go (in_left v) = absurd (no_viable 61 equals a w g v)
      go (at_equal z k e) = inl (grammar_split 61 equals a z w [] g k e).1
      go (in_right z u k v e) = inr (u, (grammar_split 61 equals a z w (62 ∷ u) g k e).1, v)
