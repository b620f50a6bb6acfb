-- CARRYING OUT IS WELL DEFINED: the result is the right side filled by any filling that makes the left side the slip.
--     same-result   fillings that make the left side the same slip make the right side the same
--     carried-by    the answer by any filling that matches; carried_none without one; carried-own by the matcher's filling as it is
--     yes_iff, over-iff, no_iff   when each of the three answers is given
use mathlib.Core.Path.{◌≡◌, refl, sym, ◌∙◌, ap, subst}
use mathlib.Core.Logic.{◌↔◌, inl, inr, ite, if_pos, if_neg}
use mathlib.Core.Option.{Option, none, some}
use mathlib.Core.List.{List, [], ◌∷◌, map}
use Prim.Native.Nat.{ℕ, ◌≤◌}
use native.Mathlib.Omega.{arith}
use native.Mathlib.Decide.{dec_le}
use lib.ListN.{length}
use Rattle.base_lists.specs.Seqs.{IsCons}
use Rattle.math_types.specs.Order.{Order}
use Rattle.math_terms.specs.Constants.{Consts}
use Rattle.math_terms.specs.Fillings.{FillingOver, Typed, fill}
use Rattle.math_terms.specs.Matching.{Matches}
use Rattle.math_terms.specs.Linear.{LeftLinear}
use Rattle.math_terms.specs.Matcher.{matcher, complete}
use Rattle.math_terms.proofs.Fillings.{fills_agree}
use Rattle.math_terms.proofs.Matching.{match_unique}
use Rattle.math_terms.proofs.Matcher.{match_no, match_is, match_yes}
use Rattle.apply_spec.specs.Carrying.{RuleOver, SlipOver, VarsIn, Short, Over, short?, Carried, result, unmatched, too_long, limited, carried_by, carried}

-- ---- the three answers differ

module _ {S : Type 0} where
  pub result_once : {s t : S} → result s ≡ result t → s ≡ t
  result_once e = cc

  pub over≢result : {s : S} → too_long ≡ result s → ⊥
  over≢result {s} e = let o : ◌≡◌ {A = ℕ} 0 1 = cc in omega arith

  pub unmatched≢result : {s : S} → unmatched ≡ result s → ⊥
  unmatched≢result {s} e = let o : ◌≡◌ {A = ℕ} 0 1 = cc in omega arith

  pub unmatched≢over : ◌≡◌ {A = Carried S} unmatched too_long → ⊥
  unmatched≢over e = let o : ◌≡◌ {A = ℕ} 0 1 = cc in omega arith

-- ---- the limit

module _ {X : Type 0} (most : ℕ) where
  pub over_not_short : (s : List (List X)) → Over most s → Short most s → ⊥
  over_not_short (f ∷ s) (inl h) k = omega (arith, k.0)
  over_not_short (f ∷ s) (inr h) k = over_not_short s h k.1
  over_not_short [] x'' k = elim x'' [ ]

  pub not_short_over : (s : List (List X)) → (Short most s → ⊥) → Over most s
  not_short_over [] n = absurd (n tt)
  not_short_over (f ∷ s) n = go (dec_le (length f) most) (λ m. not_short_over s m)
    where
      go : Dec (length f ≤ most) → ((Short most s → ⊥) → Over most s) → Over most (f ∷ s)
      go (yes h) rec = inr (rec (λ k. n (h, k)))
      go (no h) rec = inl (omega (arith, h))

  pub limited_short : (s : List (List X)) → Short most s → limited most s ≡ result s
  limited_short s h = if_pos (short? most s) h _ _

  pub limited_over : (s : List (List X)) → Over most s → limited most s ≡ too_long
  limited_over s h = if_neg (short? most s) (over_not_short s h) _ _

  pub limited_result : (s t : List (List X)) → limited most s ≡ result t → (s ≡ t) × Short most s
  limited_result s t e = go (short? most s) e
    where
      go : (d : Dec (Short most s)) → ite d (result s) too_long ≡ result t → (s ≡ t) × Short most s
      go (yes h) q = (result_once q, h)
      go (no n) q = absurd (over≢result q)

  pub limited_too_long : (s : List (List X)) → limited most s ≡ too_long → Over most s
  limited_too_long s e = go (short? most s) e
    where
      go : (d : Dec (Short most s)) → ite d (result s) too_long ≡ too_long → Over most s
      go (yes h) q = absurd (over≢result (sym q))
      go (no n) q = not_short_over s n

  pub limited_matched : (s : List (List X)) → limited most s ≡ unmatched → ⊥
  limited_matched s e = go (short? most s) e
    where
      go : (d : Dec (Short most s)) → ite d (result s) too_long ≡ unmatched → ⊥
      go (yes h) q = unmatched≢result (sym q)
      go (no n) q = unmatched≢over (sym q)

-- ---- the theorems

module _ (O : Order) (C : Consts O) {A : Type 0} (name_eq : Discrete A) (x : RuleOver O C A) (lin : LeftLinear x) (w : SlipOver O C) where
  -- the matcher decides
  pub matches? : Dec (Matches O C x w)
  matches? = go (matcher O C name_eq x w) refl
    where
      go : (o : Option (FillingOver O C A)) → matcher O C name_eq x w ≡ o → Dec (Matches O C x w)
      go none q = no (match_no O C name_eq x lin w q)
      go (some φ) q = let m = match_yes O C name_eq x lin w φ q in yes (complete O C φ, m.0, m.1)

module _ (O : Order) (C : Consts O) {A : Type 0} (x y : RuleOver O C A) (lin : LeftLinear x) (known : VarsIn O C y x) where
  -- two fillings that make x the same slip make y the same
  pub same_result : (θ χ : FillingOver O C A) → Typed O C θ → Typed O C χ → map (fill θ) x ≡ map (fill χ) x → map (fill θ) y ≡ map (fill χ) y
  same_result θ χ t u e = fills_agree θ χ y (λ j a i. match_unique O C θ χ t u x lin.1 e j a (known j a i))

module _ (O : Order) (C : Consts O) {A : Type 0} (name_eq : Discrete A) (most : ℕ) (x : RuleOver O C A) (w : SlipOver O C) where
  -- without a right side it is a no
  pub no_right : (y : RuleOver O C A) → (IsCons y → ⊥) → carried O C name_eq most x y w ≡ unmatched
  no_right [] n = refl
  no_right (g ∷ y) n = absurd (n tt)

  -- with one it is what the matcher's answer gives
  pub with_right : (y : RuleOver O C A) → IsCons y → carried O C name_eq most x y w ≡ carried_by O C name_eq most y (matcher O C name_eq x w)
  with_right [] h = absurd h
  with_right (g ∷ y) h = refl

  -- where the matcher finds none, it is a no, whatever the right side
  pub carried_no : (y : RuleOver O C A) → matcher O C name_eq x w ≡ none → carried O C name_eq most x y w ≡ unmatched
  carried_no [] e = refl
  carried_no (g ∷ y) e = ap (carried_by O C name_eq most (g ∷ y)) e

module _ (O : Order) (C : Consts O) {A : Type 0} (name_eq : Discrete A) (most : ℕ) (x y : RuleOver O C A)
    (lin : LeftLinear x) (known : VarsIn O C y x) (right : IsCons y) (w : SlipOver O C) where
  -- THE RESULT is y filled by EVERY typed filling that makes x the slip
  pub carried_by_lem : (θ : FillingOver O C A) → Typed O C θ → map (fill θ) x ≡ w → carried O C name_eq most x y w ≡ limited most (map (fill θ) y)
  carried_by_lem θ t e = with_right O C name_eq most x w y right ∙ go (matcher O C name_eq x w) refl
    where
      go : (o : Option (FillingOver O C A)) → matcher O C name_eq x w ≡ o → carried_by O C name_eq most y o ≡ limited most (map (fill θ) y)
      go none q = absurd (match_no O C name_eq x lin w q (θ, t, e))
      go (some φ) q =
          let m = match_yes O C name_eq x lin w φ q in
          ap (limited most) (same_result O C x y lin known (complete O C φ) θ m.0 t (m.1 ∙ sym e))

  -- without a filling the answer is no
  pub carried_none : (Matches O C x w → ⊥) → carried O C name_eq most x y w ≡ unmatched
  carried_none n = with_right O C name_eq most x w y right ∙ go (matcher O C name_eq x w) refl
    where
      go : (o : Option (FillingOver O C A)) → matcher O C name_eq x w ≡ o → carried_by O C name_eq most y o ≡ unmatched
      go none q = refl
      go (some φ) q = let m = match_yes O C name_eq x lin w φ q in absurd (n (complete O C φ, m.0, m.1))

  -- the matcher's filling, which has nothing for the variables that x lacks, needs no completing: y has no others
  pub carried_own : (φ : FillingOver O C A) → matcher O C name_eq x w ≡ some φ → carried O C name_eq most x y w ≡ limited most (map (fill φ) y)
  carried_own φ q =
      let m = match_yes O C name_eq x lin w φ q in
      let a = (match_is O C name_eq x lin w φ q (complete O C φ) m.0).0 m.1 in
      carried_by_lem (complete O C φ) m.0 m.1 ∙ ap (limited most) (fills_agree (complete O C φ) φ y (λ k b i. a k b (known k b i)))

  -- YES with s exactly when some typed filling makes x the slip and y s, and no field of s is over
  pub yes_iff : (s : SlipOver O C) → (carried O C name_eq most x y w ≡ result s)
      ↔ ((θ : FillingOver O C A) × Typed O C θ × (map (fill θ) x ≡ w) × (map (fill θ) y ≡ s) × Short most s)
  yes_iff s = (λ e. to e (matches? O C name_eq x lin w), λ h. carried_by_lem h.0 h.1 h.2 ∙ ap (limited most) h.3 ∙ limited_short most s h.4)
    where
      to : carried O C name_eq most x y w ≡ result s → Dec (Matches O C x w)
          → (θ : FillingOver O C A) × Typed O C θ × (map (fill θ) x ≡ w) × (map (fill θ) y ≡ s) × Short most s
      to e (no n) = absurd (unmatched≢result (sym (carried_none n) ∙ e))
      to e (yes m) =
          let l = limited_result most (map (fill m.0) y) s (sym (carried_by_lem m.0 m.1 m.2) ∙ e) in
          (m.0, m.1, m.2, l.0, subst (Short most) l.0 l.1)

  -- REFUSAL 11 exactly when some typed filling makes x the slip, and a field of what it makes y is over
  pub over_iff : (carried O C name_eq most x y w ≡ too_long) ↔ ((θ : FillingOver O C A) × Typed O C θ × (map (fill θ) x ≡ w) × Over most (map (fill θ) y))
  over_iff = (λ e. to e (matches? O C name_eq x lin w), λ h. carried_by_lem h.0 h.1 h.2 ∙ limited_over most (map (fill h.0) y) h.3)
    where
      to : carried O C name_eq most x y w ≡ too_long → Dec (Matches O C x w)
          → (θ : FillingOver O C A) × Typed O C θ × (map (fill θ) x ≡ w) × Over most (map (fill θ) y)
      to e (no n) = absurd (unmatched≢over (sym (carried_none n) ∙ e))
      to e (yes m) = (m.0, m.1, m.2, limited_too_long most (map (fill m.0) y) (sym (carried_by_lem m.0 m.1 m.2) ∙ e))

  -- NO exactly when no filling matches
  pub no_iff : (carried O C name_eq most x y w ≡ unmatched) ↔ (Matches O C x w → ⊥)
  no_iff = (λ e m. limited_matched most (map (fill m.0) y) (sym (carried_by_lem m.0 m.1 m.2) ∙ e), carried_none)
