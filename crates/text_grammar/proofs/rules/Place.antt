-- The place of refusal 2 of a rule text, computed by the machine of one side, is the grammar's own; there is none exactly in the grammar.
use mathlib.Core.Path.{◌≡◌, refl, sym, ◌∙◌, ap, subst}
use mathlib.Core.Logic.{◌≢◌, ◌↔◌, ◌⊎◌, inl, inr, ite}
use mathlib.Core.Option.{Option, none, some, map, none-ne-some}
use mathlib.Core.List.{List, [], ◌∷◌, ◌++◌, append_assoc, nil≢cons, cons≢nil, head-eq_of_cons-eq, tail-eq_of_cons-eq}
use Prim.Native.Nat.{ℕ, suc, ◌+◌}
use native.Mathlib.Omega.{arith}
use native.Mathlib.Decide.{ℕ_discrete}
use lib.ListN.{length, take, drop, take-append-drop, length-append}
use lib.Seq.{length-take-le}
use Rattle.text_grammar.specs.Grammar.{Grammar}
use Rattle.text_grammar.specs.Place.{ViableOf, StopsOf, Viable, Answers, Stops}
use Rattle.text_grammar.specs.Machine.{place2}
use Rattle.text_grammar.proofs.Place.{place2_is, place2_none}
use Rattle.text_grammar.specs.rules.Sides.{joined, RuleGrammar}
use Rattle.text_grammar.specs.rules.Place.{place62, place_at, place_on, place_rule}
use Rattle.text_grammar.proofs.rules.Stops.{answer_is, Right, right_answers, Ends, stops_at, stops_ends, stops_in, stops_never}
use Rattle.text_grammar.proofs.rules.Shapes.{in_left, at_equal, in_right, shape_viable, join_grammar, one_grammar}
use Rattle.text_grammar.proofs.rules.Shapes.{one_more, side_itself, equal_text, equal_viable}

-- a text may be named in another way
moved : (t z : List ℕ) (p q : ℕ) → t ≡ z → p ≡ q → StopsOf RuleGrammar t p → StopsOf RuleGrammar z q
moved t z p q e f s = subst (λ (l : List ℕ). StopsOf RuleGrammar l q) e (subst (StopsOf RuleGrammar t) f s)

-- ---- behind a side and `=`

module _ (a : List ℕ) (g : Grammar a) where
  -- `=` is the last byte
  equal_ends : Right RuleGrammar (a ++ 61 ∷ []) (some (suc (length a)))
  equal_ends =
      moved ((a ++ 61 ∷ []) ++ []) (a ++ 61 ∷ []) (length (a ++ 61 ∷ [])) (suc (length a))
      (append_assoc a (61 ∷ []) []) (omega (arith, length-append a (61 ∷ [])))
      (stops_at RuleGrammar (a ++ 61 ∷ []) [] (shape_viable (a ++ 61 ∷ []) (at_equal a g refl)) (λ h. nil≢cons (equal_text a g [] h).1))

  -- another byte than `>` follows
  equal_other : (c : ℕ) (u : List ℕ) → c ≢ 62 → Right RuleGrammar (a ++ 61 ∷ (c ∷ u)) (some (suc (length a)))
  equal_other c u n =
      moved ((a ++ 61 ∷ []) ++ c ∷ u) (a ++ 61 ∷ (c ∷ u)) (length (a ++ 61 ∷ [])) (suc (length a))
      (append_assoc a (61 ∷ []) (c ∷ u)) (omega (arith, length-append a (61 ∷ [])))
      (stops_at RuleGrammar (a ++ 61 ∷ []) (c ∷ u) (shape_viable (a ++ 61 ∷ []) (at_equal a g refl)) dead)
    where
      on : (c ∷ [] ≡ []) ⊎ ((v : List ℕ) × (c ∷ [] ≡ 62 ∷ v) × Viable v) → ⊥
      on (inl e) = cons≢nil e
      on (inr e) = n (head-eq_of_cons-eq e.1)

      dead : ViableOf RuleGrammar ((a ++ 61 ∷ []) ++ c ∷ []) → ⊥
      dead v = on (equal_viable a g (c ∷ []) (subst (ViableOf RuleGrammar) (append_assoc a (61 ∷ []) (c ∷ [])) v))

  -- a beginning of the right side, and what follows it
  right_stops : (u z : List ℕ) → Viable u → Ends Grammar u z → StopsOf RuleGrammar (joined a (u ++ z)) (suc (suc (length a)) + length u)
  right_stops u z v n =
      moved (joined a u ++ z) (joined a (u ++ z)) (length (joined a u)) (suc (suc (length a)) + length u)
      (append_assoc a (61 ∷ (62 ∷ u)) z) (omega (arith, length-append a (61 ∷ (62 ∷ u))))
      (stops_at RuleGrammar (joined a u) z (shape_viable (joined a u) (in_right a u g v refl)) (ends z n))
    where
      same : (w : List ℕ) → (u' : List ℕ) × (62 ∷ w ≡ 62 ∷ u') × Viable u' → Viable w
      same w h = subst Viable (sym (tail-eq_of_cons-eq h.1)) h.2

      on : (w : List ℕ) → (62 ∷ w ≡ []) ⊎ ((u' : List ℕ) × (62 ∷ w ≡ 62 ∷ u') × Viable u') → Viable w
      on w (inl e) = absurd (cons≢nil e)
      on w (inr h) = same w h

      ends : (z : List ℕ) → Ends Grammar u z → Ends RuleGrammar (joined a u) z
      ends [] n = λ h. let k = equal_text a g (62 ∷ u) h in n (subst Grammar (sym (tail-eq_of_cons-eq k.1)) k.2)
      ends (b ∷ r) n =
          λ h. n (on (u ++ b ∷ []) (equal_viable a g (62 ∷ (u ++ b ∷ [])) (subst (ViableOf RuleGrammar) (append_assoc a (61 ∷ (62 ∷ u)) (b ∷ [])) h)))

  right_place_lem : (u : List ℕ) → Right RuleGrammar (joined a u) (map (λ q. suc (suc (length a)) + q) (place2 u))
  right_place_lem u = go (place2 u) refl (place2_is u)
    where
      go : (o : Option ℕ) → place2 u ≡ o → Answers (Stops u) o → Right RuleGrammar (joined a u) (map (λ q. suc (suc (length a)) + q) o)
      go none e h = join_grammar a u g ((place2_none u).1 e)
      go (some q) e h =
          let l = length-take-le q u (stops_in Grammar u q h.0) in
          moved (joined a (take q u ++ drop q u)) (joined a u) (suc (suc (length a)) + length (take q u)) (suc (suc (length a)) + q)
          (ap (joined a) (take-append-drop q u)) (omega arith)
          (right_stops (take q u) (drop q u) h.0.0 (stops_ends Grammar u q h.0))

  behind_equal : (r : List ℕ) → Right RuleGrammar (a ++ 61 ∷ r) (place62 (suc (length a)) r)
  behind_equal [] = equal_ends
  behind_equal (c ∷ u) = go (ℕ_discrete c 62)
    where
      go : (d : Dec (c ≡ 62)) → Right RuleGrammar (a ++ 61 ∷ (c ∷ u)) (ite d (map (λ q. suc (suc (length a)) + q) (place2 u)) (some (suc (length a))))
      go (yes e) = subst (λ (x : ℕ). Right RuleGrammar (a ++ 61 ∷ (x ∷ u)) (map (λ q. suc (suc (length a)) + q) (place2 u))) (sym e) (right_place_lem u)
      go (no n) = equal_other c u n

-- ---- where the machine of one side stops

module _ (a : List ℕ) (v : Viable a) where
  -- the rule text stops there too, but where `=` follows a side
  stops_too : (z : List ℕ) → Ends Grammar a z → ((b : ℕ) (r : List ℕ) → z ≡ b ∷ r → Grammar a → b ≡ 61 → ⊥) → StopsOf RuleGrammar (a ++ z) (length a)
  stops_too z n k = stops_at RuleGrammar a z (shape_viable a (in_left v)) (ends z n k)
    where
      ends : (z : List ℕ) → Ends Grammar a z → ((b : ℕ) (r : List ℕ) → z ≡ b ∷ r → Grammar a → b ≡ 61 → ⊥) → Ends RuleGrammar a z
      ends [] n k = λ h. n (side_itself a v h)
      ends (b ∷ r) n k = λ h. on (one_more a b v h)
        where
          on : Viable (a ++ b ∷ []) ⊎ (Grammar a × (b ≡ 61)) → ⊥
          on (inl w) = n w
          on (inr w) = k b r refl w.0 w.1

  stopped : (z : List ℕ) → Ends Grammar a z → (o : Option ℕ) → place2 a ≡ o → Right RuleGrammar (a ++ z) (place_at (length a) o z)
  stopped z n (some q) e = stops_too z n (λ b r i g d. none-ne-some q (sym ((place2_none a).0 g) ∙ e))
  stopped [] n none e = absurd (n ((place2_none a).1 e))
  stopped (b ∷ r) n none e = go (ℕ_discrete b 61)
    where
      go : (d : Dec (b ≡ 61)) → Right RuleGrammar (a ++ b ∷ r) (ite d (place62 (suc (length a)) r) (some (length a)))
      go (yes d) = subst (λ (x : ℕ). Right RuleGrammar (a ++ x ∷ r) (place62 (suc (length a)) r)) (sym d) (behind_equal a ((place2_none a).1 e) r)
      go (no k) = stops_too (b ∷ r) n (λ c u i g d. k (head-eq_of_cons-eq i ∙ d))

pub place_right : (t : List ℕ) → Right RuleGrammar t (place_rule t)
place_right t = go (place2 t) refl (place2_is t)
  where
    go : (o : Option ℕ) → place2 t ≡ o → Answers (Stops t) o → Right RuleGrammar t (place_on t o)
    go none e h = one_grammar t ((place2_none t).1 e)
    go (some p) e h =
        let l : length (take p t) ≡ p = length-take-le p t (stops_in Grammar t p h.0) in
        subst (λ (x : List ℕ). Right RuleGrammar x (place_at p (place2 (take p t)) (drop p t))) (take-append-drop p t)
        (subst (λ (n : ℕ). Right RuleGrammar (take p t ++ drop p t) (place_at n (place2 (take p t)) (drop p t))) l
        (stopped (take p t) h.0.0 (drop p t) (stops_ends Grammar t p h.0) (place2 (take p t)) refl))

-- THE PLACE of refusal 2 is the declarative one
pub place_rule_is : (t : List ℕ) → Answers (StopsOf RuleGrammar t) (place_rule t)
place_rule_is t = right_answers RuleGrammar t (place_rule t) (place_right t)

-- and there is none exactly in the grammar
pub place_rule_none : (t : List ℕ) → RuleGrammar t ↔ (place_rule t ≡ none)
place_rule_none t = (λ g. to (place_rule t) (place_right t) g, λ e. subst (Right RuleGrammar t) e (place_right t))
  where
    to : (o : Option ℕ) → Right RuleGrammar t o → RuleGrammar t → o ≡ none
    to none h g = refl
    to (some p) h g = absurd (stops_never RuleGrammar t g p h)

-- `=` behind a side and no `>` behind it: refusal 2 behind the `=`, one byte later than where the grammar of one side stops
pub equal_later : (a w : List ℕ) → Grammar a → ((u : List ℕ) → w ≡ 62 ∷ u → ⊥) → place_rule (a ++ 61 ∷ w) ≡ some (suc (length a))
equal_later a w g n = answer_is (StopsOf RuleGrammar (a ++ 61 ∷ w)) (place_rule (a ++ 61 ∷ w)) (suc (length a)) (place_rule_is (a ++ 61 ∷ w)) (go w n)
  where
    go : (w : List ℕ) → ((u : List ℕ) → w ≡ 62 ∷ u → ⊥) → StopsOf RuleGrammar (a ++ 61 ∷ w) (suc (length a))
    go [] n = equal_ends a g
    go (c ∷ u) n = equal_other a g c u (λ e. n u (ap (λ (x : ℕ). x ∷ u) e))
