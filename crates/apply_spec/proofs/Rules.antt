-- Carrying out the rules that reading returns: the laws of Carrying at document 01's constants, and a result is a slip that reading returns.
use mathlib.Core.Path.{◌≡◌, sym, ◌∙◌, subst}
use mathlib.Core.Logic.{◌↔◌}
use mathlib.Core.Option.{none, some}
use mathlib.Core.List.{[], ◌∷◌, map}
use Prim.Native.Nat.{ℕ}
use native.Mathlib.Omega.{arith}
use native.Mathlib.Decide.{ℕ_discrete}
use lib.ListN.{length-map}
use Rattle.base_limits.specs.Limits.{most_items}
use Rattle.base_lists.specs.Seqs.{All, IsCons, cons_map}
use Rattle.math_types.specs.Types.{Kind, basics}
use Rattle.math_terms.specs.Fillings.{Filling, Typed, fill}
use Rattle.math_terms.specs.Linear.{LeftLinear}
use Rattle.text_grammar.specs.Terms.{OurFields, SlipFields}
use Rattle.text_grammar.specs.constants.Constants.{Con, consts}
use Rattle.text_grammar.specs.constants.Matching.{Matches, matcher}
use Rattle.text_grammar.proofs.constants.Linear.{left_linear}
use Rattle.overlap_spec.specs.Fits.{OurCon}
use Rattle.text_grammar.specs.rules.Read.{OurRule}
use Rattle.text_grammar.specs.rules.Limits.{IsRule}
use Rattle.apply_spec.specs.Carrying.{Short, Over, result, unmatched, too_long, limited}
use Rattle.apply_spec.specs.Rules.{Readable, carried}
use Rattle.apply_spec.proofs.Fills.{values_in_lem, fills_in}
use Rattle.apply_spec.proofs.Slips.{readable, readable_ours, terms_ours}
use Rattle.apply_spec.proofs.Carrying as theory

-- ---- of any rule

-- without a right side it is a no
pub no_right : (r : OurRule) (w : SlipFields) → (IsCons r.1 → ⊥) → carried r w ≡ unmatched
no_right r w n = theory.no_right basics consts ℕ_discrete most_items r.0 w r.1 n

-- where the matcher finds no filling, it is a no
pub carried_no : (r : OurRule) (w : SlipFields) → matcher r.0 w ≡ none → carried r w ≡ unmatched
carried_no r w e = theory.carried_no basics consts ℕ_discrete most_items r.0 w r.1 e

module _ (r : OurRule) (w : SlipFields) where
  -- what is no no tells that there is a right side
  right_there : (carried r w ≡ unmatched → ⊥) → IsCons r.1
  right_there h = go r.1 (no_right r w)
    where
      go : (y : OurFields) → ((IsCons y → ⊥) → carried r w ≡ unmatched) → IsCons y
      go [] n = absurd (h (n (λ i. i)))
      go (f ∷ y) n = tt

  -- a yes does
  pub yes_right : (s : SlipFields) → carried r w ≡ result s → IsCons r.1
  yes_right s e = right_there (λ n. theory.unmatched≢result (sym n ∙ e))

  -- so does an 11
  pub over_right : carried r w ≡ too_long → IsCons r.1
  over_right e = right_there (λ n. theory.unmatched≢over (sym n ∙ e))

-- ---- of a rule that reading returns

linear_of : (r : OurRule) → IsRule r → LeftLinear r.0
linear_of r is = left_linear r.0 is.0.1

pub matches? : (r : OurRule) → IsRule r → (w : SlipFields) → Dec (Matches r.0 w)
matches? r is w = theory.matches? basics consts ℕ_discrete r.0 (linear_of r is) w

-- two fillings that make the left side the same make the right side the same
pub same_result : (r : OurRule) → IsRule r → (θ χ : Filling Con Kind ℕ) → Typed basics consts θ → Typed basics consts χ
    → map (fill θ) r.0 ≡ map (fill χ) r.0 → map (fill θ) r.1 ≡ map (fill χ) r.1
same_result r is = theory.same_result basics consts r.0 r.1 (linear_of r is) is.2

module _ (r : OurRule) (is : IsRule r) (right : IsCons r.1) (w : SlipFields) where
  -- the answer is the right side filled by ANY typed filling that makes the left side the slip
  pub carried_by_lem : (θ : Filling Con Kind ℕ) → Typed basics consts θ → map (fill θ) r.0 ≡ w → carried r w ≡ limited most_items (map (fill θ) r.1)
  carried_by_lem = theory.carried_by_lem basics consts ℕ_discrete most_items r.0 r.1 (linear_of r is) is.2 right w

  -- so by the matcher's, as it is
  pub carried_own : (φ : Filling Con Kind ℕ) → matcher r.0 w ≡ some φ → carried r w ≡ limited most_items (map (fill φ) r.1)
  carried_own = theory.carried_own basics consts ℕ_discrete most_items r.0 r.1 (linear_of r is) is.2 right w

  pub yes_iff : (s : SlipFields) → (carried r w ≡ result s)
      ↔ ((θ : Filling Con Kind ℕ) × Typed basics consts θ × (map (fill θ) r.0 ≡ w) × (map (fill θ) r.1 ≡ s) × Short most_items s)
  yes_iff = theory.yes_iff basics consts ℕ_discrete most_items r.0 r.1 (linear_of r is) is.2 right w

  pub over_iff : (carried r w ≡ too_long)
      ↔ ((θ : Filling Con Kind ℕ) × Typed basics consts θ × (map (fill θ) r.0 ≡ w) × Over most_items (map (fill θ) r.1))
  over_iff = theory.over_iff basics consts ℕ_discrete most_items r.0 r.1 (linear_of r is) is.2 right w

  pub no_iff : (carried r w ≡ unmatched) ↔ (Matches r.0 w → ⊥)
  no_iff = theory.no_iff basics consts ℕ_discrete most_items r.0 r.1 (linear_of r is) is.2 right w

module _ (r : OurRule) (is : IsRule r) (w : SlipFields) where
  -- A RESULT IS A SLIP that reading returns: carrying out can go on with it
  pub result_readable : Readable w → (s : SlipFields) → carried r w ≡ result s → Readable s
  result_readable h s e =
      let right = yes_right r w s e in
      let f = (yes_iff r is right w s).0 e in
      let n = length-map r.1 (fill f.0) in
      subst Readable f.3
      (readable (map (fill f.0) r.1) (cons_map (fill f.0) r.1 right) (omega (arith, is.1.0)) (subst (Short most_items) (sym f.3) f.4)
      (fills_in OurCon f.0 r.1 (terms_ours r.1 is.1.2)
      (λ k a o. values_in_lem OurCon f.0 k a r.0 (subst (All (All OurCon)) (sym f.2) (readable_ours w h)) (is.2 k a o))))

-- a rule that reading returns makes nothing of a slip with no fields: such is a slip value that no reading returns
pub no_slip : (r : OurRule) → IsRule r → carried r [] ≡ unmatched
no_slip r is = go r.1 (no_right r []) (λ h. (no_iff r is h []).1)
  where
    fields : (x : OurFields) → IsCons x → Matches x [] → ⊥
    fields [] h m = h
    fields (f ∷ x) h m = let o : ◌≡◌ {A = ℕ} 0 1 = let e = m.2 in cc in omega arith

    go : (y : OurFields) → ((IsCons y → ⊥) → carried r [] ≡ unmatched) → (IsCons y → (Matches r.0 [] → ⊥) → carried r [] ≡ unmatched)
        → carried r [] ≡ unmatched
    go [] a b = a (λ h. h)
    go (f ∷ y) a b = b tt (fields r.0 is.0.0.0)
