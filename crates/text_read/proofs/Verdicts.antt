-- What the code does case by case is reading.
use mathlib.Core.Path.{◌≡◌, refl, sym, ◌∙◌, ap, ap₂}
use mathlib.Core.Logic.{if_pos, if_neg}
use mathlib.Core.Option.{Option, none, some}
use mathlib.Core.List.{List, ◌∷◌, foldl}
use Prim.Native.Nat.{ℕ, ◌<◌, ◌≤◌}
use native.Mathlib.Omega.{arith}
use native.Mathlib.Decide.{dec_lt}
use lib.ListN.{length}
use Rattle.text_grammar.specs.Grammar.{Raw}
use Rattle.text_grammar.specs.Machine.{place2}
use Rattle.text_grammar.specs.Tokens.{Token}
use Rattle.text_grammar.specs.Terms.{OurFields, fields_of}
use Rattle.text_grammar.specs.Walk.{walked}
use Rattle.text_grammar.specs.Read.{Reason, long, grammar, Sort, slip, said, first_bad, place_of, Outcome, refused, accepted, tell, chain, read, read_slip}
use Rattle.text_grammar.proofs.Place.{place2_none}
use Rattle.text_grammar.proofs.Walk.{walk_says}
use Rattle.text_grammar.proofs.Read.{read_accepted}
use Rattle.text_grammar.proofs.Accepted.{Base, in_grammar, said_is}
use Rattle.text_values.specs.Values.{Slip}
use Rattle.text_values.specs.Values.{blank_slip}
use Rattle.std.specs.Prelude as found
use Rattle.text_scan.specs.Places.{found_of}
use Rattle.text_scan.proofs.split.Splits.{found_at, found_none}
use Rattle.text_refusals.specs.verdicts.Verdicts.{Verdict, Accepted, Refused}
use Rattle.text_refusals.specs.declared.Sort as kind
use Rattle.text_refusals.specs.declared.Sort.TheVariants as kinds
use Rattle.text_refusals.specs.declared.Survey.{Survey}
use Rattle.text_passes.specs.Build.{built_slip}
use Rattle.text_passes.specs.Passes.{survey_in, slip_in}
use Rattle.text_refusals.specs.verdicts.Verdicts.{sort_of, reason_from, verdict_of}
use Rattle.text_refusals.specs.Refusals.{survey_token, nothing_yet}
use Rattle.text_refusals.proofs.Refusals.{reasons, survey_is}
use Rattle.text_read.specs.Answers.{slip_read}
use Rattle.text_passes.proofs.Build.{slip_built}
use Rattle.text_passes.proofs.Fields.{fits}
use Rattle.text_passes.proofs.Passes.{is_short}

-- ---- the verdict, refusal by refusal

-- both sorts try the reasons of the survey behind 1 and 2
order_is : (s : kind.Sort) → (sort_of s).order ≡ long ∷ grammar ∷ reasons s
order_is kinds.Slip = refl
order_is kinds.Rule = refl

module _ (s : kind.Sort) (t : List ℕ) where
  abbrev S : Sort
  S = sort_of s

  abbrev rest : Outcome
  rest = chain (place_of S t) (reasons s) (fields_of (said t))

  read_as : read S t ≡ tell long (place_of S t long) (tell grammar (place2 t) rest)
  read_as = ap (λ (rs : List Reason). chain (place_of S t) rs (fields_of (said t))) (order_is s)

  read_long : S.bytes < length t → read S t ≡ refused long S.bytes
  read_long h = read_as ∙ ap (λ (p : Option ℕ). tell long p (tell grammar (place2 t) rest)) (if_pos (dec_lt S.bytes (length t)) h (some S.bytes) none)

  short : length t ≤ S.bytes → read S t ≡ tell grammar (place2 t) rest
  short h =
      read_as
      ∙ ap (λ (p : Option ℕ). tell long p (tell grammar (place2 t) rest)) (if_neg (dec_lt S.bytes (length t)) (λ k. omega arith) (some S.bytes) none)

  read_grammar : (p : ℕ) → length t ≤ S.bytes → place2 t ≡ some p → read S t ≡ refused grammar p
  read_grammar p h e = short h ∙ ap (λ (q : Option ℕ). tell grammar q rest) e

  -- in one pass, where the text is of the grammar
  read_survey : length t ≤ S.bytes → place2 t ≡ none → (foldl (survey_token s S.width) nothing_yet (walked t)).verdict ≡ verdict_of (read S t)
  read_survey h e =
      let g = (place2_none t).1 e in
      let x = g.0 in
      ap (λ (ms : List Token). (foldl (survey_token s S.width) nothing_yet ms).verdict) (walk_says t x g.1)
      ∙ survey_is s S.width x (fields_of (said t)) g.1.0.1
      ∙ ap (λ (y : List (List Raw)). verdict_of (chain (λ (r : Reason). first_bad S.width r y) (reasons s) (fields_of (said t)))) (sym (said_is t x g.1))
      ∙ ap verdict_of (sym (short h ∙ ap (λ (q : Option ℕ). tell grammar q rest) e ∙ chained s))
    where
      chained : (s : kind.Sort)
          → chain (place_of (sort_of s) t) (reasons s) (fields_of (said t))
          ≡ chain (λ (r : Reason). first_bad (sort_of s).width r (said t)) (reasons s) (fields_of (said t))
      chained kinds.Slip = refl
      chained kinds.Rule = refl

-- ---- from outcomes to answers

slip_refused : (o : Outcome) (v : Verdict) (r : _) (p : ℕ) → v ≡ verdict_of o → v ≡ Refused r p → slip_read o ≡ record { verdict = v; slip = blank_slip }
slip_refused (refused r p) v r' p' e q = ap (λ (z : Verdict). record { verdict = z; slip = blank_slip }) (sym e)
slip_refused (accepted x) v r' p' e q = let z : ◌≡◌ {A = ℕ} 0 1 = cc in absurd (omega arith)

pub accepted_out : (o : Outcome) → Accepted ≡ verdict_of o → (x : OurFields) × (o ≡ accepted x)
accepted_out (refused r p) e = let z : ◌≡◌ {A = ℕ} 0 1 = cc in absurd (omega arith)
accepted_out (accepted x) e = (x, refl)

-- what is accepted is what was built
slip_accepted : (t : List ℕ) → Accepted ≡ verdict_of (read_slip t) → record { verdict = Accepted; slip = built_slip (walked t) } ≡ slip_read (read_slip t)
slip_accepted t e =
    let a = accepted_out (read_slip t) e in
    let r = (read_accepted slip t a.0).0 a.1 in
    let n = r.0 in
    let g = in_grammar t n.1.0 in
    let b : Base slip t = (n.0, n.1.0, n.1.1.0, n.1.1.1.0, n.1.1.1.1.0) in
    let says = a.1 ∙ ap accepted (sym r.1 ∙ ap fields_of (said_is t g.0 g.1)) in
    ap (λ (v : Slip). record { verdict = Accepted; slip = v })
    (ap built_slip (walk_says t g.0 g.1) ∙ slip_built g.0 g.1.0 (fits slip t b g.0 g.1))
    ∙ ap slip_read (sym says)

-- ---- the steps of the code

-- a text of the grammar, in one pass
pub surveyed_is : (s : kind.Sort) (t : List ℕ) → length t ≤ (sort_of s).bytes → place2 t ≡ none → (survey_in s t).verdict ≡ verdict_of (read (sort_of s) t)
surveyed_is s t h e =
    let whole : survey_in s t ≡ foldl (survey_token s (sort_of s).width) nothing_yet (walked t) = rw (is_short t (bytes_small s h)) in
    ap (λ (x : Survey). x.verdict) whole ∙ read_survey s t h e
  where
    bytes_small : (s : kind.Sort) → length t ≤ (sort_of s).bytes → length t ≤ slip.bytes
    bytes_small kinds.Slip h = h
    bytes_small kinds.Rule h = omega arith

module _ (t : List ℕ) where
  pub slip_long : slip.bytes < length t → Refused (reason_from long) slip.bytes ≡ verdict_of (read_slip t)
  slip_long h = ap verdict_of (sym (read_long kinds.Slip t h))

  pub slip_grammar : (f : found.Option ℕ) (p : ℕ) → length t ≤ slip.bytes → f ≡ found_of (place2 t) → f ≡ found.Some p
      → Refused (reason_from grammar) p ≡ verdict_of (read_slip t)
  slip_grammar f p h e q = ap verdict_of (sym (read_grammar kinds.Slip t p h (found_at (place2 t) f p e q)))

  pub slip_survey : (f : found.Option ℕ) (y : Survey) → length t ≤ slip.bytes → f ≡ found_of (place2 t) → f ≡ found.None → y ≡ survey_in kinds.Slip t
      → y.verdict ≡ verdict_of (read_slip t)
  slip_survey f y h e q is_y = ap (λ (x : Survey). x.verdict) is_y ∙ surveyed_is kinds.Slip t h (found_none (place2 t) f e q)

  slip_short : (v : Verdict) → v ≡ verdict_of (read_slip t) → v ≡ Accepted → length t ≤ slip.bytes
  slip_short v e q = go (dec_lt slip.bytes (length t))
    where
      go : Dec (slip.bytes < length t) → length t ≤ slip.bytes
      go (yes h) = let z = e ∙ ap verdict_of (read_long kinds.Slip t h) in let o : ◌≡◌ {A = ℕ} 0 1 = cc in absurd (omega arith)
      go (no n) = omega arith

  -- the answers
  pub slip_yes : (v : Verdict) (r : Slip) → v ≡ verdict_of (read_slip t) → v ≡ Accepted → r ≡ slip_in t → record { verdict = v; slip = r } ≡ slip_read (read_slip t)
  slip_yes v r e q b =
      ap₂ (λ (x : Verdict) (y : Slip). record { verdict = x; slip = y }) q (b ∙ rw (is_short t (slip_short v e q))) ∙ slip_accepted t (sym q ∙ e)

  pub slip_no : (v : Verdict) (r : Slip) (k : _) (p : ℕ) → v ≡ verdict_of (read_slip t) → v ≡ Refused k p → r ≡ blank_slip
      → record { verdict = v; slip = r } ≡ slip_read (read_slip t)
  slip_no v r k p e q b = ap (λ (y : Slip). record { verdict = v; slip = y }) b ∙ sym (slip_refused (read_slip t) v k p e q)
