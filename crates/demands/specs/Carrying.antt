-- CARRYING OUT, document 02: "Carrying out a rule on a slip it matches gives the right side with the filling put in; on a slip it doesn't
-- match, or without a right side, the slip unchanged and a no", and "refusal 11 (a result field over 64 terms) is the only one of carrying
-- out; it leaves the slip as given".
-- Over the definition that the contract cites, for a rule value v and a slip value s:
--     apply_rules::carry_out   answers `carried_of v s`
-- `Carries` of apply_rules/specs says it of the values; here it is tied to texts and to matching.
use Rattle.std.specs.Prelude.{◌≡◌, refl, ◌↔◌, Bool, true, false, cond, List, [], map, ℕ}
use Rattle.std.proofs.Common.{sym, ◌∙◌, ap, subst}
use Rattle.std.proofs.lemmas.Bool.{false≢true}
use Rattle.base_limits.specs.Limits.{most_items}
use Rattle.base_lists.specs.Seqs.{IsCons}
use Rattle.math_types.specs.Types.{Kind}
use Rattle.math_terms.specs.Terms.{con}
use Rattle.math_terms.specs.Fillings.{Filling, fill}
use Rattle.text_grammar.specs.Terms.{OurFields, terms_of, SlipFields}
use Rattle.text_grammar.specs.constants.Constants.{Con}
use Rattle.text_grammar.specs.Limits.{IsSlip}
use Rattle.text_grammar.specs.Read.{Reason, refused, accepted, read_slip}
use Rattle.text_grammar.proofs.Accepted.{slip_read_lem}
use Rattle.text_grammar.specs.rules.Read.{OurRule, read_rule}
use Rattle.text_grammar.specs.rules.Limits.{IsRule}
use Rattle.text_grammar.proofs.rules.Accepted.{rule_read_lem}
use Rattle.text_grammar.specs.constants.Matching.{constants}
use Rattle.apply_spec.specs.Carrying.{result}
use Rattle.apply_spec.specs.Rules.{carried}
use Rattle.apply_spec.specs.Carried.{CarriesOut}
use Rattle.apply_spec.proofs.Carrying.{limited_result}
use Rattle.apply_spec.proofs.Carried.{carries_out}
use Rattle.text_values.specs.declared.Rule.{Rule}
use Rattle.text_values.specs.Values.{Slip}
use Rattle.text_values.specs.Values.{view_side, view_rule, view_slip, blank_rule, blank_slip, encode_rule, encode_slip}
use Rattle.text_accepted.specs.rules.Rules.{accepted_rule, counted_rule}
use Rattle.text_accepted.proofs.rules.Rules.{accepted_rule_lem, rule_accepts, view_encode_rule, counted_yes}
use Rattle.text_accepted.specs.slips.Slips.{accepted_slip, counted_slip}
use Rattle.text_accepted.proofs.slips.Slips.{accepted_slip_lem, encode_accepted_slip, view_encode_slip}
use Rattle.text_read.specs.declared.RuleRead.{RuleRead}
use Rattle.text_read.specs.declared.SlipRead.{SlipRead}
use Rattle.text_read.specs.Answers.{rule_read, slip_read, ReadsRule, ReadsSlip}
use Rattle.match_rules.specs.declared.Match.{Match}
use Rattle.match_rules.specs.Answers.{match_of, no_match}
use Rattle.apply_rules.specs.declared.Carry.TheVariants.{Yes, No}
use Rattle.apply_rules.specs.declared.Carried.{Carried}
use Rattle.apply_rules.specs.Answers.{carried_of}
use Rattle.apply_rules.specs.Carries.{Makes, CarriesOn, Carries}
use Rattle.apply_rules.proofs.Carries.{carries, terms_again}
use Rattle.demands.specs.Matching.{Matching, matching}

-- the answer "the slip unchanged and a no"
abbrev pub refusing : Slip → Carried
refusing s = record { answer = No; slip = s }

-- what is answered of two texts t and u, with the values that reading them returns
pub record CarriesTexts (t u : List ℕ) (s : Slip) (c : Carried) : Type 0 where
  -- of a text that is read as the rule w, with its two sides, and one that is read as the slip y
  pub read : (w : OurRule) (y : OurFields) → read_rule t ≡ accepted w → read_slip u ≡ accepted y
      → CarriesOn w.0 w.1 (map constants y) c
  -- where one of them is refused, the value with no fields stands for it: "the slip unchanged and a no"
  pub rule_refused : (o : Reason) (p : ℕ) → read_rule t ≡ refused o p → c ≡ refusing s
  pub slip_refused : (o : Reason) (p : ℕ) → read_slip u ≡ refused o p → c ≡ refusing s

-- a no comes exactly where there is no right side or matching answers no
abbrev pub NoExactly : Rule → Match → Carried → Type 0
NoExactly v m c = (c.answer ≡ No) ↔ (IsCons (counted_rule v).1 × (m.yes ≡ true) → ⊥)

-- WHAT CARRYING OUT ANSWERS of a rule value v and a slip value s
pub record Carrying (v : Rule) (s : Slip) (c : Carried) : Type 0 where
  -- document 02's sentences, whatever values they are
  pub values : Carries v s c
  -- the same of texts that are read as the two
  pub texts : (t u : List ℕ) (r : RuleRead) (q : SlipRead) → ReadsRule t r → ReadsSlip u q → r.rule ≡ v → q.slip ≡ s
      → CarriesTexts t u s c
  -- "a slip it matches" is demand 2's
  pub matches : (m : Match) → m ≡ match_of (counted_rule v).0 (counted_slip s) → NoExactly v m c
  -- the slip that is returned stands for "the right side with the filling put in", term for term
  pub shows : accepted_rule v ≡ true → accepted_slip s ≡ true → c.answer ≡ Yes
      → (θ : Filling Con Kind ℕ) → Makes (view_side v.left) (map constants (view_slip s)) θ
      → counted_slip c.slip ≡ map (map con) (map (fill θ) (terms_of (view_side v.right)))

-- ---- that it holds

-- a text that is refused returns a value that no reading returns
blank_rule_no : accepted_rule blank_rule ≡ false
blank_rule_no = refl

blank_slip_no : accepted_slip blank_slip ≡ false
blank_slip_no = refl

module _ (v : Rule) (s : Slip) (c : Carried) (h : Carries v s c) where
  of_texts : (t u : List ℕ) (r : RuleRead) (q : SlipRead) → ReadsRule t r → ReadsSlip u q → r.rule ≡ v → q.slip ≡ s
      → CarriesTexts t u s c
  of_texts t u r q reads-t reads-u is-v is-s =
      record {
        read = λ w y e f. both w y (rule_read_lem t w e) (slip_read_lem u y f)
            (rule_of_lem ∙ ap (λ o. (rule_read o).rule) e) (slip_of_lem ∙ ap (λ o. (slip_read o).slip) f);
        rule_refused = λ o p e. h.unread_rule (ap accepted_rule (rule_of_lem ∙ ap (λ o. (rule_read o).rule) e) ∙ blank_rule_no);
        slip_refused = λ o p e. h.unread_slip (ap accepted_slip (slip_of_lem ∙ ap (λ o. (slip_read o).slip) e) ∙ blank_slip_no);
      }
    where
      rule_of_lem : v ≡ (rule_read (read_rule t)).rule
      rule_of_lem = sym is-v ∙ ap (λ (a : RuleRead). a.rule) reads-t

      slip_of_lem : s ≡ (slip_read (read_slip u)).slip
      slip_of_lem = sym is-s ∙ ap (λ (a : SlipRead). a.slip) reads-u

      both : (w : OurRule) (y : OurFields) → IsRule w → IsSlip y → v ≡ encode_rule w → s ≡ encode_slip y
          → CarriesOn w.0 w.1 (map constants y) c
      both w y i j e f =
          let a : view_rule v ≡ w = ap view_rule e ∙ view_encode_rule w i in
          let b : view_slip s ≡ y = ap view_slip f ∙ view_encode_slip y j in
          let k = h.carried (ap accepted_rule e ∙ rule_accepts w i) (ap accepted_slip f ∙ encode_accepted_slip y j) in
          subst (λ (x : OurRule). CarriesOn x.0 x.1 (map constants y) c) a
          (subst (λ (l : OurFields). CarriesOn (view_side v.left) (view_side v.right) (map constants l) c) b k)

  -- by what matching answers of the same values
  of_matching : (m : Match) → m ≡ match_of (counted_rule v).0 (counted_slip s) → NoExactly v m c
  of_matching m is = go (accepted_rule v) refl (accepted_slip s) refl
    where
      M : Matching v s m
      M = matching v s m is

      unread : c ≡ refusing s → m ≡ no_match → NoExactly v m c
      unread e n = (λ f k. false≢true (sym (ap (λ (x : Match). x.yes) n) ∙ k.1), λ f. ap (λ (x : Carried). x.answer) e)

      go : (a : Bool) → accepted_rule v ≡ a → (b : Bool) → accepted_slip s ≡ b → NoExactly v m c
      go false e b f = unread (h.unread_rule e) (M.unread_rule e)
      go true e false f = unread (h.unread_slip f) (M.unread_slip f)
      go true e true f =
          let n = (h.carried e f).no in
          let o = M.on_terms e f in
          let same : (counted_rule v).1 ≡ view_side v.right = ap (λ (w : OurRule). w.1) (counted_yes v e) in (
            λ d k. n.0 d (subst IsCons same k.0, o.0 k.1),
            λ d. n.1 (λ k. d (subst IsCons (sym same) k.0, o.1 k.1)),
          )

  of_result : accepted_rule v ≡ true → accepted_slip s ≡ true → c.answer ≡ Yes
      → (θ : Filling Con Kind ℕ) → Makes (view_side v.left) (map constants (view_slip s)) θ
      → counted_slip c.slip ≡ map (map con) (map (fill θ) (terms_of (view_side v.right)))
  of_result e f is-yes θ m =
      ap (λ (b : Bool). cond b (view_slip c.slip) []) on.readable
      ∙ ap view_slip (on.result is-yes θ m)
      ∙ view_encode_slip (map (map con) u) in_limits
    where
      w : SlipFields
      w = map constants (view_slip s)

      u : SlipFields
      u = map (fill θ) (terms_of (view_side v.right))

      on : CarriesOn (view_side v.left) (view_side v.right) w c
      on = h.carried e f

      out : CarriesOut (view_rule v) w (carried (view_rule v) w)
      out = carries_out (view_rule v) w (accepted_rule_lem v e).0 (carried (view_rule v) w) refl

      is_slip : IsSlip (view_slip s)
      is_slip = (accepted_slip_lem s f).0

      -- the filling that is found gives what every filling that matches gives
      found : carried (view_rule v) w ≡ result u
      found =
          let k = on.yes.0 is-yes in
          let z = map (fill k.1.0) (terms_of (view_side v.right)) in
          let a = (out.yes z).1 (k.0, (k.1.0, k.1.1.0, k.1.1.1, refl, k.1.2)) in
          a ∙ ap result (sym (limited_result most_items u z (sym (out.any_filling k.0 θ m.0 m.1) ∙ a)).0)

      in_limits : IsSlip (map (map con) u)
      in_limits = out.readable (subst IsSlip (sym (terms_again (view_slip s) is_slip.1)) is_slip) u found

-- CARRYING OUT, of what the contract answers
pub carrying : (v : Rule) (s : Slip) (c : Carried) → c ≡ carried_of v s → Carrying v s c
carrying v s c is =
    let h = carries v s c is in
    record { values = h; texts = of_texts v s c h; matches = of_matching v s c h; shows = of_result v s c h }
