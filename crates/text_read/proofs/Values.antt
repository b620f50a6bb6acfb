-- What is built from a rule text that is accepted is what reading returns: the rule, and where its left side ends.
use mathlib.Core.Path.{◌≡◌, refl, sym, ◌∙◌, ap, ap₂, subst}
use mathlib.Core.Option.{Option, none, some, map}
use mathlib.Core.List.{List, []}
use Prim.Native.Nat.{ℕ, ◌+◌, ◌-◌, ◌≤◌}
use native.Mathlib.Omega.{arith, by_contra}
use native.Mathlib.Decide.{dec_lt}
use lib.ListN.{length, take, drop}
use lib.Seq.{take_all}
use Rattle.text_grammar.specs.Terms.{OurFields, fields_of}
use Rattle.text_grammar.specs.Read.{rule, said, unknown, OutcomeOf, refused, accepted, tell, read_side}
use Rattle.text_grammar.specs.rules.Read.{OurRule, read_rule}
use Rattle.text_grammar.specs.rules.Judge.{as_rule, lacking_at, known}
use Rattle.text_values.specs.Values.{RuleSide}
use Rattle.text_values.specs.declared.Rule.{Rule}
use Rattle.text_values.specs.Values.{blank_side, blank_rule}
use Rattle.text_scan.specs.declared.split.Split.{Split}
use Rattle.text_scan.specs.declared.split.Split.TheVariants as split
use Rattle.text_scan.specs.split.Splits.{split_of}
use Rattle.std.specs.Prelude.{Ok, Err}
use Rattle.text_refusals.specs.verdicts.Verdicts.{Verdict, Accepted, Refused}
use Rattle.text_refusals.specs.verdicts.Verdicts.{verdict_of}
use Rattle.text_passes.specs.Passes.{side_in}
use Rattle.text_read.specs.Sides.{end_of}
use Rattle.text_read.specs.Answers.{rule_read, side_said, left_said, left_end, JudgesLeft}
use Rattle.text_read.proofs.Rules.{judged_long, judged_stops, one_read, or_else, accepted_base, accepted_said}
use Rattle.text_read.proofs.Rules.{side_built, both_fine}
use Rattle.text_read.proofs.Rules.{first, two_verdict, two_is, slice_is, left_base, right_fine, left_accepted, sides, as_rule_lem}

refused≢accepted : {r : _} {p : ℕ} → Refused r p ≡ Accepted → ⊥
refused≢accepted {r} {p} e = let z : ◌≡◌ {A = ℕ} 0 1 = cc in omega arith

-- ---- a text that is accepted

module _ (t : List ℕ) (fine : verdict_of (read_rule t) ≡ Accepted) where
  short : length t ≤ rule.bytes
  short = by_contra (length t) rule.bytes (λ h. refused≢accepted (judged_long t h ∙ fine))

  pub not_stopped : (p : ℕ) → split_of t ≡ split.Stops p → ⊥
  not_stopped p e = refused≢accepted (judged_stops t short p e ∙ fine)

  -- of one side
  module _ (e : split_of t ≡ split.One) where
    one_verdict : Accepted ≡ verdict_of (read_side t)
    one_verdict = sym fine ∙ ap verdict_of (one_read t short e) ∙ as_rule_lem (read_side t)

    one_says : read_rule t ≡ accepted (fields_of (said t), [])
    one_says = one_read t short e ∙ ap as_rule (accepted_said t one_verdict)

    pub one_rule : (s r : RuleSide) → s ≡ side_in t → r ≡ blank_side → record { left = s; right = r } ≡ (rule_read (read_rule t)).rule
    one_rule s r is-s is-r =
        ap₂ (λ (x y : RuleSide). record { left = x; right = y }) (is-s ∙ side_built t (accepted_base t one_verdict)) is-r
        ∙ sym (ap (λ (o : OutcomeOf OurRule). (rule_read o).rule) one_says)

  -- of two
  module _ (p : ℕ) (e : split_of t ≡ split.Two p) where
    abbrev a : List ℕ
    a = take p t

    abbrev u : List ℕ
    u = drop (p + 2) t

    both : first t short p e ≡ Accepted
    both = go (first t short p e) _ (sym (two_verdict t short p e) ∙ fine)
      where
        go : (v w : Verdict) → or_else v w ≡ Accepted → v ≡ Accepted
        go (Ok u) w h = refl
        go (Err x) w h = h

    two_says : read_rule t ≡ accepted (fields_of (said a), fields_of (said u))
    two_says = known_is ∙ go (lacking_at (fields_of (said a)) (said u)) (sym (ap verdict_of known_is) ∙ fine)
      where
        known_is : read_rule t ≡ known (p + 2) (said a) (said u)
        known_is = two_is t short p e ∙ both_fine (p + 2) (read_side a) (read_side u) (known (p + 2) (said a) (said u)) both

        go : (o : Option ℕ)
            → verdict_of {X = OurRule} (tell unknown (map (λ q. p + 2 + q) o) (accepted (fields_of (said a), fields_of (said u)))) ≡ Accepted
            → ◌≡◌ {A = OutcomeOf OurRule} (tell unknown (map (λ q. p + 2 + q) o) (accepted (fields_of (said a), fields_of (said u))))
            (accepted (fields_of (said a), fields_of (said u)))
        go none h = refl
        go (some k) h = absurd (refused≢accepted h)

    pub two_rule : (s r : RuleSide) → s ≡ side_in a → r ≡ side_in (take (length t - (p + 2)) (drop (p + 2) t))
        → record { left = s; right = r } ≡ (rule_read (read_rule t)).rule
    two_rule s r is-s is-r =
        ap₂ (λ (x y : RuleSide). record { left = x; right = y })
        (is-s ∙ side_built a (left_base t short p e both))
        (is-r ∙ ap side_in (slice_is t short p e) ∙ side_built u (right_fine t short p e both))
        ∙ sym (ap (λ (o : OutcomeOf OurRule). (rule_read o).rule) two_says)

-- ---- the answers

pub rule_verdict : (o : OutcomeOf OurRule) → (rule_read o).verdict ≡ verdict_of o
rule_verdict (refused r p) = refl
rule_verdict (accepted w) = refl

module _ (t : List ℕ) where
  refused_out : (o : OutcomeOf OurRule) {r : _} {p : ℕ} → verdict_of o ≡ Refused r p → ((rule_read o).rule ≡ blank_rule) × (left_said o ≡ [])
  refused_out (refused q k) e = (refl, refl)
  refused_out (accepted w) e = absurd (refused≢accepted (sym e))

  whole : (o : OutcomeOf OurRule) → record { verdict = (rule_read o).verdict; rule = (rule_read o).rule } ≡ rule_read o
  whole (refused q k) = refl
  whole (accepted w) = refl

  pub rule_yes : (v : Verdict) (r : Rule) → v ≡ verdict_of (read_rule t) → r ≡ (rule_read (read_rule t)).rule
      → record { verdict = v; rule = r } ≡ rule_read (read_rule t)
  rule_yes v r is-v is-r =
      ap₂ (λ (x : Verdict) (y : Rule). record { verdict = x; rule = y }) (is-v ∙ sym (rule_verdict (read_rule t))) is-r ∙ whole (read_rule t)

  pub rule_no : (v : Verdict) (r : Rule) (k : _) (p : ℕ) → v ≡ verdict_of (read_rule t) → v ≡ Refused k p → r ≡ blank_rule
      → record { verdict = v; rule = r } ≡ rule_read (read_rule t)
  rule_no v r k p is-v q is-r = rule_yes v r is-v (is-r ∙ sym (refused_out (read_rule t) (sym is-v ∙ q)).0)

  -- ---- where the left side ends

  left_said_lem : (o : OutcomeOf OurRule) (x y : OurFields) → o ≡ accepted (x, y) → left_said o ≡ x
  left_said_lem o x y e = ap left_said e

  module _ (v : Verdict) (is-v : v ≡ verdict_of (read_rule t)) where
    ends : (n : ℕ) → n ≡ left_end v t → n ≤ length t → read_side (take n t) ≡ accepted (fields_of (said (take n t)))
        → left_said (read_rule t) ≡ fields_of (said (take n t)) → JudgesLeft t (record { verdict = v; end = n })
    ends n at inside says left = record { verdict = is-v; ends = at; inside = inside; left = ap side_said says ∙ sym left }

    -- the end by the split, where the text is accepted
    end_by : (s : Split) → s ≡ split_of t → v ≡ Accepted → end_of (length t) s ≡ left_end v t
    end_by s e q = ap (end_of (length t)) e ∙ sym (ap (λ (w : Verdict). left_end w t) q)

    pub left_yes : (s : Split) (n : ℕ) → s ≡ split_of t → n ≡ end_of (length t) s → v ≡ Accepted → JudgesLeft t (record { verdict = v; end = n })
    left_yes (split.Stops p) n is-s is_n q = absurd (not_stopped t (sym is-v ∙ q) p (sym is-s))
    left_yes split.One n is-s is_n q =
        let fine = sym is-v ∙ q in
        let all : take n t ≡ t = take_all n t (omega arith) in
        ends n (is_n ∙ end_by split.One is-s q) (omega arith)
        (subst (λ (z : List ℕ). read_side z ≡ accepted (fields_of (said z))) (sym all) (accepted_said t (one_verdict t fine (sym is-s))))
        (left_said_lem (read_rule t) (fields_of (said t)) [] (one_says t fine (sym is-s)) ∙ ap (λ (z : List ℕ). fields_of (said z)) (sym all))
    left_yes (split.Two p) n is-s is_n q =
        let fine = sym is-v ∙ q in
        let e = sym is-s in
        let inside = (sides t (short t fine) p e).inside in
        subst (λ (i : ℕ). JudgesLeft t (record { verdict = v; end = i })) (sym is_n)
        (ends p (end_by (split.Two p) is-s q) (omega arith) (left_accepted t (short t fine) p e (both t fine p e))
        (left_said_lem (read_rule t) _ _ (two_says t fine p e)))

    pub left_no : (k : _) (p : ℕ) → v ≡ Refused k p → JudgesLeft t (record { verdict = v; end = 0 })
    unfolding dec_lt
    left_no k p q = record {
      verdict = is-v;
      ends = sym (ap (λ (w : Verdict). left_end w t) q);
      inside = omega arith;
      left = sym (refused_out (read_rule t) (sym is-v ∙ q)).1;
    }
