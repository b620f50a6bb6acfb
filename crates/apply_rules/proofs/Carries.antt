-- What carrying out promises holds of what the contract answers. Assumes nothing.
use mathlib.Core.Path.{◌≡◌, refl, sym, ap, ap₂, ◌∙◌, subst}
use mathlib.Core.Bool.{Bool, true, false, cond}
use mathlib.Core.Option.{some}
use mathlib.Core.List.{List, [], ◌∷◌, map}
use Prim.Native.Nat.{ℕ}
use native.Mathlib.Omega.{arith}
use Rattle.base_limits.specs.Limits.{most_items}
use Rattle.base_lists.specs.Seqs.{All}
use Rattle.math_types.specs.Types.{Kind}
use Rattle.math_terms.specs.Terms.{con}
use Rattle.math_terms.specs.Fillings.{Filling, fill}
use Rattle.text_grammar.specs.Terms.{OurTerm, OurFields, SlipFields}
use Rattle.text_grammar.specs.constants.Constants.{Con}
use Rattle.text_grammar.specs.Limits.{IsCon, IsSlip}
use Rattle.text_grammar.specs.constants.Matching.{constants}
use Rattle.text_grammar.proofs.constants.Matching.{constants_are}
use Rattle.text_grammar.specs.rules.Read.{OurRule}
use Rattle.text_grammar.specs.rules.Limits.{IsRule}
use Rattle.apply_spec.specs.Carrying.{Short, Carried, result, unmatched, too_long}
use Rattle.apply_spec.specs.Rules.{Readable, carried}
use Rattle.apply_spec.specs.Carried.{CarriesOut}
use Rattle.apply_spec.proofs.Carrying.{limited_result}
use Rattle.apply_spec.proofs.Carried.{carries_out}
use Rattle.apply_spec.proofs.Rules.{carried_no, result_readable}
use Rattle.text_values.specs.declared.Rule.{Rule}
use Rattle.text_values.specs.Values.{Slip}
use Rattle.text_values.specs.Values.{view_side, view_rule, view_slip, encode_slip}
use Rattle.text_accepted.proofs.Accepted.{rule_is}
use Rattle.text_accepted.specs.rules.Rules.{accepted_rule, counted_rule}
use Rattle.text_accepted.proofs.rules.Rules.{accepted_rule_lem, counted_yes}
use Rattle.text_accepted.specs.slips.Slips.{accepted_slip, counted_slip}
use Rattle.text_accepted.proofs.slips.Slips.{accepted_slip_lem, encode_accepted_slip}
use Rattle.apply_rules.specs.declared.Carry.TheVariants.{Yes, No}
use Rattle.apply_rules.specs.declared.Carried.{Carried as CarriedValue}
use Rattle.apply_rules.specs.Answers.{told, answer_of, carried_of}
use Rattle.apply_rules.specs.Carries.{Makes, CarriesOn, Carries}
use Rattle.apply_rules.proofs.Answers.{none_matches, not_rule}

-- ---- an answer's value tells the answer

module _ (s : Slip) where
  yes_is : (a : Carried SlipFields) → (answer_of s a).answer ≡ Yes → (u : SlipFields) × (a ≡ result u)
  yes_is (result u) e = (u, refl)
  yes_is unmatched e = let z : ◌≡◌ {A = ℕ} 0 1 = cc in absurd (omega arith)
  yes_is too_long e = let z : ◌≡◌ {A = ℕ} 0 1 = cc in absurd (omega arith)

  no_is : (a : Carried SlipFields) → (answer_of s a).answer ≡ No → a ≡ unmatched
  no_is (result u) e = let z : ◌≡◌ {A = ℕ} 0 1 = cc in absurd (omega arith)
  no_is unmatched e = refl
  no_is too_long e = let z : ◌≡◌ {A = ℕ} 0 1 = cc in absurd (omega arith)

  number_is : (a : Carried SlipFields) (n : ℕ) → (told (answer_of s a).answer).number ≡ some n → (a ≡ too_long) × (n ≡ 11)
  number_is (result u) n e = let z : ◌≡◌ {A = ℕ} 0 1 = cc in absurd (omega arith)
  number_is unmatched n e = let z : ◌≡◌ {A = ℕ} 0 1 = cc in absurd (omega arith)
  number_is too_long n e = (refl, cc)

  kept_is : (a : Carried SlipFields) → ((answer_of s a).answer ≡ Yes → ⊥) → (answer_of s a).slip ≡ s
  kept_is (result u) n = absurd (n refl)
  kept_is unmatched n = refl
  kept_is too_long n = refl

-- a slip's constants, as terms again
pub terms_again : (y : OurFields) → All (All IsCon) y → map (map con) (map constants y) ≡ y
terms_again [] h = refl
terms_again (f ∷ y) h = ap₂ (λ (g : List OurTerm) (l : OurFields). g ∷ l) (constants_are f h.0) (terms_again y h.1)

-- what is made of a slip that reading returns is one, as terms
pub result_slip : (x : OurRule) (y : OurFields) → IsRule x → IsSlip y
    → (u : SlipFields) → carried x (map constants y) ≡ result u → IsSlip (map (map con) u)
result_slip x y is_rule is_slip u e =
    result_readable x is_rule (map constants y) (subst IsSlip (sym (terms_again y is_slip.1)) is_slip) u e

-- ---- values that reading returns

module _ (v : Rule) (s : Slip) (read-v : accepted_rule v ≡ true) (read-s : accepted_slip s ≡ true) where
  abbrev x : OurFields
  x = view_side v.left

  abbrev y : OurFields
  y = view_side v.right

  abbrev w : SlipFields
  w = map constants (view_slip s)

  abbrev a : Carried SlipFields
  a = carried (view_rule v) w

  is_answer : carried_of v s ≡ answer_of s a
  is_answer =
      ap₂ (λ (r : OurRule) (l : OurFields). answer_of s (carried r (map constants l))) (counted_yes v read-v)
      (ap (λ (b : Bool). cond b (view_slip s) []) read-s)

  out : CarriesOut (view_rule v) w a
  out = carries_out (view_rule v) w (accepted_rule_lem v read-v).0 a refl

  is_slip : IsSlip (view_slip s)
  is_slip = (accepted_slip_lem s read-s).0

  readable_w : Readable w
  readable_w = subst IsSlip (sym (terms_again (view_slip s) is_slip.1)) is_slip

  same_result : (θ : Filling Con Kind ℕ) → Makes x w θ → (u : SlipFields) → a ≡ result u → map (fill θ) y ≡ u
  same_result θ m u e = (limited_result most_items (map (fill θ) y) u (sym (out.any_filling ((out.yes u).0 e).0 θ m.0 m.1) ∙ e)).0

  on_answer : CarriesOn x y w (answer_of s a)
  on_answer = record {
    yes = (
      λ e. let q = yes_is s a e in
          let h = (out.yes q.0).0 q.1 in
          (h.0, (h.1.0, (h.1.1, h.1.2), subst (Short most_items) (sym h.1.3) h.1.4)),
      λ h. ap (λ (b : Carried SlipFields). (answer_of s b).answer)
          ((out.yes (map (fill h.1.0) y)).1 (h.0, (h.1.0, h.1.1.0, h.1.1.1, refl, h.1.2))),
    );
    result = λ e θ m.
        let q = yes_is s a e in
        ap (λ (b : Carried SlipFields). (answer_of s b).slip) q.1
        ∙ ap (λ (l : SlipFields). encode_slip (map (map con) l)) (sym (same_result θ m q.0 q.1));
    readable = read_again a refl;
    no = (λ e. out.no.0 (no_is s a e), λ n. ap (λ (b : Carried SlipFields). (answer_of s b).answer) (out.no.1 n));
    eleven = (
      λ e. let h = out.over.0 (number_is s a 11 e).0 in (h.0, (h.1.0, (h.1.1, h.1.2), h.1.3)),
      λ h. ap (λ (b : Carried SlipFields). (told (answer_of s b).answer).number) (out.over.1 (h.0, (h.1.0, h.1.1.0, h.1.1.1, h.1.2))),
    );
  }
    where
      read_again : (b : Carried SlipFields) → a ≡ b → accepted_slip (answer_of s b).slip ≡ true
      read_again (result u) e = encode_accepted_slip (map (map con) u) (out.readable readable_w u e)
      read_again unmatched e = read-s
      read_again too_long e = read-s

  pub on_read : CarriesOn x y w (carried_of v s)
  on_read = subst (CarriesOn x y w) (sym is_answer) on_answer

-- ---- a slip that no reading returns has no fields, and no rule matches it

not_slip : (v : Rule) (s : Slip) → accepted_slip s ≡ false → carried_of v s ≡ record { answer = No; slip = s }
not_slip v s e = go (accepted_rule v) refl
  where
    go : (b : Bool) → accepted_rule v ≡ b → carried_of v s ≡ record { answer = No; slip = s }
    go true h =
        ap₂ (λ (r : OurRule) (l : OurFields). answer_of s (carried r (map constants l))) (counted_yes v h)
        (ap (λ (b : Bool). cond b (view_slip s) []) e)
        ∙ ap (answer_of s) (carried_no (view_rule v) [] (none_matches (view_side v.left) ((rule_is (view_side v.left)).0 (accepted_rule_lem v h).0.0).0))
    go false h = sym (not_rule v s h)

-- THE PROMISE
pub carries : (v : Rule) (s : Slip) (c : CarriedValue) → c ≡ carried_of v s → Carries v s c
carries v s c e = subst (Carries v s) (sym e) record {
  carried = on_read v s;
  kept = kept_is s (carried (counted_rule v) (map constants (counted_slip s)));
  only_eleven = λ n q. (number_is s (carried (counted_rule v) (map constants (counted_slip s))) n q).1;
  unread_rule = λ h. sym (not_rule v s h);
  unread_slip = not_slip v s;
}
