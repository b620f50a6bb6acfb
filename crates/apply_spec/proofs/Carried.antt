-- `carries_out`: what CarriesOut says holds of `carried r w`, and by `carries_one` of no other answer.
use mathlib.Core.Path.{◌≡◌, sym, ◌∙◌, subst}
use mathlib.Core.Logic.{◌↔◌}
use mathlib.Core.List.{List, [], ◌∷◌, map}
use Prim.Native.Nat.{ℕ}
use Rattle.base_lists.specs.Seqs.{IsCons}
use Rattle.math_types.specs.Types.{Kind, basics}
use Rattle.math_terms.specs.Fillings.{Filling, Typed, fill}
use Rattle.text_grammar.specs.Terms.{SlipFields}
use Rattle.text_grammar.specs.constants.Constants.{consts}
use Rattle.text_grammar.specs.constants.Matching.{Matches}
use Rattle.text_grammar.specs.rules.Read.{OurRule}
use Rattle.text_grammar.specs.rules.Limits.{IsRule}
use Rattle.apply_spec.specs.Carrying.{Carried, result, unmatched, too_long, limited, Short, Over}
use Rattle.apply_spec.specs.Rules.{carried}
use Rattle.apply_spec.specs.Carried.{CarriesOut}
use Rattle.apply_spec.proofs.Rules.{no_right, matches?, carried_by_lem, yes_iff, over_iff, no_iff, yes_right, over_right, result_readable}

cons? : {X : Type 0} (l : List X) → Dec (IsCons l)
cons? [] = no (λ h. h)
cons? (x ∷ l) = yes tt

module _ (r : OurRule) (w : SlipFields) (is : IsRule r) where
  -- a no needs no more than one of the two
  no_given : (IsCons r.1 × Matches r.0 w → ⊥) → carried r w ≡ unmatched
  no_given n = go (cons? r.1)
    where
      go : Dec (IsCons r.1) → carried r w ≡ unmatched
      go (yes h) = (no_iff r is h w).1 (λ m. n (h, m))
      go (no m) = no_right r w m

  carries : CarriesOut r w (carried r w)
  carries = record {
    yes = λ s. (λ e. let h = yes_right r w s e in (h, (yes_iff r is h w s).0 e), λ h. (yes_iff r is h.0 w s).1 h.1);
    over = (λ e. let h = over_right r w e in (h, (over_iff r is h w).0 e), λ h. (over_iff r is h.0 w).1 h.1);
    no = (λ e h. (no_iff r is h.0 w).0 e h.1, no_given);
    any_filling = λ h θ t e. carried_by_lem r is h w θ t e;
    readable = result_readable r is w;
  }

-- THE THEOREM
pub carries_out : (r : OurRule) (w : SlipFields) → IsRule r → (answer : Carried SlipFields) → answer ≡ carried r w → CarriesOut r w answer
carries_out r w is answer e = subst (CarriesOut r w) (sym e) (carries r w is)

-- it says which answer is given
pub carries_one : (r : OurRule) (w : SlipFields) → IsRule r → (answer : Carried SlipFields) → CarriesOut r w answer → answer ≡ carried r w
carries_one r w is answer c = go (cons? r.1) (matches? r is w)
  where
    go : Dec (IsCons r.1) → Dec (Matches r.0 w) → answer ≡ carried r w
    go (no n) d = c.no.1 (λ h. n h.0) ∙ sym (no_right r w n)
    go (yes h) (no n) = c.no.1 (λ k. n k.1) ∙ sym ((no_iff r is h w).1 n)
    go (yes h) (yes m) = c.any_filling h m.0 m.1 m.2 ∙ sym (carried_by_lem r is h w m.0 m.1 m.2)
