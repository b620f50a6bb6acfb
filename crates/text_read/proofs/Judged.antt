-- What a verdict says of the text that was judged: the text is accepted, and then as what; or it is refused, and then by which number and where.
use mathlib.Core.Path.{◌≡◌, refl, sym, ◌∙◌, ap, subst}
use mathlib.Core.List.{List}
use Prim.Native.Nat.{ℕ}
use native.Mathlib.Omega.{arith}
use lib.ListN.{take}
use Rattle.base_lists.specs.Seqs.{IsCons}
use Rattle.text_grammar.specs.Terms.{OurFields}
use Rattle.text_grammar.specs.Read.{Reason, number, OutcomeOf, Outcome, refused, accepted, read_side}
use Rattle.text_grammar.specs.rules.Read.{OurRule, read_rule}
use Rattle.text_grammar.proofs.rules.Accepted.{rule_read_lem}
use Rattle.text_refusals.specs.declared.verdicts.Reason as values
use Rattle.text_refusals.specs.declared.verdicts.Refusal.{Refusal}
use Rattle.text_refusals.specs.verdicts.Verdicts.{Verdict, Accepted, Refused}
use Rattle.text_refusals.specs.verdicts.Verdicts.{reason_from, number_of, verdict_of}
use Rattle.text_refusals.proofs.verdicts.Verdicts.{number_is}
use Rattle.text_read.specs.declared.LeftJudged.{LeftJudged}
use Rattle.text_read.specs.Answers.{side_said, left_said, JudgesLeft}

-- ---- verdicts

module _ {X : Type 0} where
  accepted_of : (o : OutcomeOf X) (v : Verdict) → v ≡ verdict_of o → v ≡ Accepted → (x : X) × (o ≡ accepted x)
  accepted_of (refused s k) v e q = let z : ◌≡◌ {A = ℕ} 0 1 = cc in absurd (omega arith)
  accepted_of (accepted x) v e q = (x, refl)

  refused_of : (o : OutcomeOf X) (v : Verdict) (q : values.Reason) (p : ℕ) → v ≡ verdict_of o → v ≡ Refused q p
      → (s : Reason) × (o ≡ refused s p) × (number_of q ≡ number s)
  refused_of (refused s k) v q p e h =
      let both : Refused q p ≡ Refused (reason_from s) k = sym h ∙ e in
      let same : record { reason = reason_from s; place = k } ≡ record { reason = q; place = p } = cc in
      (s, ap (λ (x : Refusal). refused s x.place) same, ap (λ (x : Refusal). number_of x.reason) (sym same) ∙ number_is s)
  refused_of (accepted x) v q p e h = let z : ◌≡◌ {A = ℕ} 0 1 = cc in absurd (omega arith)

-- ---- rules

-- a side that says at least one field is accepted: a refused one says none
said_accepted : (o : Outcome) (x : OurFields) → IsCons x → side_said o ≡ x → o ≡ accepted x
said_accepted (refused s k) x some e = absurd (subst IsCons (sym e) some)
said_accepted (accepted y) x some e = ap accepted e

module _ (t : List ℕ) (r : LeftJudged) (judged : JudgesLeft t r) where
  pub judged_accepted : r.verdict ≡ Accepted → (w : OurRule) × (read_rule t ≡ accepted w) × (read_side (take r.end t) ≡ accepted w.0)
  judged_accepted q =
      let a = accepted_of (read_rule t) r.verdict judged.verdict q in
      let some = (rule_read_lem t a.0 a.1).0.0.0 in
      (a.0, a.1, said_accepted (read_side (take r.end t)) a.0.0 some (judged.left ∙ ap left_said a.1))

  pub judged_refused : (q : values.Reason) (p : ℕ) → r.verdict ≡ Refused q p → (s : Reason) × (read_rule t ≡ refused s p) × (number_of q ≡ number s)
  judged_refused q p h = refused_of (read_rule t) r.verdict q p judged.verdict h
