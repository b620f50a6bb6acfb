-- What is promised of reading and writing rules and slips, over the relations that the contracts cite:
--     text_read::read_rule      returns r with `ReadsRule t r`
--     text_read::read_slip      returns r with `ReadsSlip t r`
--     text_plain::rules::write_rule   answers r and leaves `new` with `Writes (plain_both (counted_rule v)) old r new`
--     text_plain::slips::write_slip   answers r and leaves `new` with `Writes (plain (counted_slip v)) old r new`
use Rattle.std.specs.Prelude.{◌≡◌, refl, ◌≢◌, ◌↔◌, ◌⊎◌, Bool, true, false, cond, List, [], ◌∷◌, ◌++◌, ℕ, suc, ◌≤◌, ◌<◌, length, take, drop}
use Rattle.std.specs.Prelude.{Result}
use Rattle.std.proofs.Common.{sym, ◌∙◌, ap, subst, inl, inr, arith, take_at, drop_at, le-leb}
use Rattle.std.proofs.Math.Logic.Iff
use Rattle.std.proofs.Math.Option.{none, some, some-ne-none}
use Rattle.base_limits.specs.Limits.{most_fields, most_terms, most_items}
use Rattle.base_lists.specs.Seqs.{All, all_map}
use Rattle.math_types.specs.Types.{Kind}
use Rattle.text_grammar.specs.Told.{Told}
use Rattle.text_grammar.specs.Grammar.{Raw, raw_var, Says}
use Rattle.text_grammar.specs.Numbers.{value}
use Rattle.text_grammar.specs.Terms.{OurFields, fields_of}
use Rattle.text_grammar.specs.Read.{Reason, long, grammar, fields, terms, limits, linear, variable, unknown, number, slip, earlier}
use Rattle.text_grammar.specs.Read.{OutcomeOf, Outcome, refused, accepted, read_side, read_slip, Refuses, NoReason}
use Rattle.text_grammar.specs.Tokens.{Over, NotLinear, IsVar}
use Rattle.text_grammar.specs.Sharp.{FirstBadToken}
use Rattle.text_grammar.specs.Plain.{plain}
use Rattle.text_grammar.proofs.Sharp.{first_bad_lem}
use Rattle.text_grammar.proofs.Told.{eight_iff, fits_iff}
use Rattle.text_grammar.proofs.Theorems.{slip_refused, slip_never, slip_accepted}
use Rattle.text_grammar.specs.rules.Sides.{Sides, SaysRule}
use Rattle.text_grammar.specs.rules.Place.{cut}
use Rattle.text_grammar.specs.rules.Tokens.{left_side, Has}
use Rattle.text_grammar.specs.rules.Read.{OurRule, order, RefusesRule, both_fields, read_rule}
use Rattle.text_grammar.specs.rules.Sharp.{FirstBadTerm}
use Rattle.text_grammar.specs.rules.Plain.{plain_both}
use Rattle.text_grammar.specs.rules.Judge.{as_rule}
use Rattle.text_grammar.proofs.rules.Read.{rule_refused, never_seven, rule_accepted}
use Rattle.text_grammar.proofs.rules.Sharp.{first_in_lem}
use Rattle.text_grammar.proofs.rules.Before.{NoEqual, read_before, no_arrow}
use Rattle.text_values.specs.declared.Rule.{Rule}
use Rattle.text_values.specs.Values.{Slip}
use Rattle.text_values.specs.Values.{blank_rule, blank_slip, encode_rule, encode_slip}
use Rattle.text_accepted.specs.rules.Rules.{accepted_rule, counted_rule}
use Rattle.text_accepted.specs.slips.Slips.{accepted_slip, counted_slip}
use Rattle.text_refusals.specs.verdicts.Verdicts.{Verdict, Accepted}
use Rattle.text_refusals.specs.verdicts.Verdicts.{verdict_of, told, refusal, no_refusal}
use Rattle.text_refusals.proofs.verdicts.Verdicts.{told_refused, told_number}
use Rattle.text_read.specs.declared.RuleRead.{RuleRead}
use Rattle.text_read.specs.declared.SlipRead.{SlipRead}
use Rattle.text_read.specs.Answers.{rule_read, slip_read, ReadsRule, ReadsSlip}
use Rattle.text_write.specs.declared.TooSmall.{TooSmall}
use Rattle.text_write.specs.Answers.{after, Writes}
use Rattle.text_write.proofs.Answers.{after_fits, after_small}
use Rattle.text_write.specs.Answers as writing
use Rattle.text_plain.proofs.rules.Again as rules
use Rattle.text_plain.proofs.slips.Again as slips

-- ---- reading

-- u holds what t says: of rules both sides' fields, of slips the fields
abbrev pub HoldsRule : List ℕ → Rule → Type 0
HoldsRule t u = (s : Sides) × SaysRule t s × (u ≡ encode_rule (both_fields s))

abbrev pub HoldsSlip : List ℕ → Slip → Type 0
HoldsSlip t u = (x : List (List Raw)) × Says t x × (u ≡ encode_slip (fields_of x))

-- WHAT READING RETURNS of a text: a verdict, and a value v. Rules and slips differ in what it is for a refusal to apply to the text at a
-- place, in the refusals that are tried, in their order, in those that only the other sort has, in what stands at a refusal's place, in the
-- value with no fields, and in how a value holds what the text says.
pub record Reading (Applies : Reason → ℕ → Type 0) (tried others : List Reason) (Stands : Reason → ℕ → Type 0)
    {Value : Type 0} (blank : Value) (Holds : Value → Type 0) (verdict : Verdict) (v : Value) : Type 0 where
  -- DEMAND 1, "each refusal comes in its stated case only": the number of o and the place p are told exactly when o applies at p and none
  -- that is tried before it applies anywhere
  pub refusals : (o : Reason) → All (λ s. o ≢ s) others → (p : ℕ)
      → (told verdict ≡ refusal o p) ↔ (NoReason Applies (earlier o) × Applies o p)
  -- a rule is never refused by 7, a slip never by 6 or 10
  pub never : All (λ s. (told verdict).number ≢ some (number s)) others
  -- "A refusal returns its number, its place and the rule with no fields"
  pub beside : (told verdict).number ≢ none → v ≡ blank
  -- nothing is told and the value is u, exactly when no refusal applies anywhere and u holds what the text says
  pub accepts : (u : Value) → ((told verdict ≡ no_refusal) × (v ≡ u)) ↔ (NoReason Applies tried × Holds u)
  -- 3 to 7 and 10 stand where they are told: "a fifth field, at its first byte", a term just past the limit, a size over its limit, a list
  -- variable that may not stand there, a variable, a right-side variable that the left side lacks
  pub places : (o : Reason) → 3 ≤ number o → (p : ℕ) → told verdict ≡ refusal o p → Stands o p

-- of a rule text. What it is for a refusal to apply: `RefusesRule`, over the grammar of rule texts; document 02: refusal 10 "is tried after
-- 6". Which term of the text stands at the place: `FirstBadTerm`.
abbrev pub RuleReading : List ℕ → RuleRead → Type 0
RuleReading t r =
    Reading (RefusesRule t) order (variable ∷ []) (λ o p. FirstBadTerm o t p) blank_rule (HoldsRule t) r.verdict r.rule

-- of a slip text: `Refuses`, over the grammar of one side, which "has no `=>`", and `FirstBadToken`
abbrev pub SlipReading : List ℕ → SlipRead → Type 0
SlipReading t r =
    Reading (Refuses slip t) slip.order (linear ∷ unknown ∷ []) (λ o p. FirstBadToken most_items o t p) blank_slip (HoldsSlip t)
    r.verdict r.slip

-- "the rule with no fields", "The slip with no fields"
pub blank_rule_lem : (blank_rule.left.n ≡ 0) × (blank_rule.right.n ≡ 0)
blank_rule_lem = (refl, refl)

pub blank_slip_lem : blank_slip.n ≡ 0
blank_slip_lem = refl

-- a text that says S, of which X is read, as the value that holds it
module _ {S X Value : Type 0} (Applies : Reason → ℕ → Type 0) (tried others : List Reason) (Stands : Reason → ℕ → Type 0)
    (SaysIt : S → Type 0) (of : S → X) (blank : Value) (held : X → Value) where
  abbrev value_of : OutcomeOf X → Value
  value_of (refused o p) = blank
  value_of (accepted x) = held x

  abbrev Holding : Value → Type 0
  Holding u = (s : S) × SaysIt s × (u ≡ held (of s))

  module _ (out : OutcomeOf X)
      (law : (o : Reason) → All (λ s. o ≢ s) others → (p : ℕ) → (out ≡ refused o p) ↔ (NoReason Applies (earlier o) × Applies o p))
      (not-others : All (λ s. (p : ℕ) → out ≢ refused s p) others)
      (law-accepted : (x : X) → (out ≡ accepted x) ↔ (NoReason Applies tried × ((s : S) × SaysIt s × (of s ≡ x))))
      (law-places : (o : Reason) → 3 ≤ number o → (p : ℕ) → out ≡ refused o p → Stands o p)
    where
      never_told : (o : Reason) → ((p : ℕ) → out ≢ refused o p) → (a : OutcomeOf X) → out ≡ a → (told (verdict_of a)).number ≢ some (number o)
      never_told o n (refused s p) is e = n p (is ∙ ap (λ (r : Reason). refused r p) (told_number s o p e))
      never_told o n (accepted x) is e = some-ne-none (number o) (sym e)

      is_blank : (a : OutcomeOf X) → (told (verdict_of a)).number ≢ none → value_of a ≡ blank
      is_blank (refused o p) n = refl
      is_blank (accepted x) n = absurd (n refl)

      accepts_to : (a : OutcomeOf X) → out ≡ a → (u : Value) → told (verdict_of a) ≡ no_refusal → value_of a ≡ u
          → NoReason Applies tried × Holding u
      accepts_to (refused o p) is u e h = absurd (some-ne-none _ (ap (λ (x : Told). x.number) e))
      accepts_to (accepted x) is u e h = let k = (law-accepted x).0 is in (k.0, (k.1.0, k.1.1, sym h ∙ ap held (sym k.1.2)))

      accepts_from : (u : Value) → NoReason Applies tried × Holding u → (told (verdict_of out) ≡ no_refusal) × (value_of out ≡ u)
      accepts_from u h =
          let is = (law-accepted (of h.1.0)).1 (h.0, (h.1.0, h.1.1, refl)) in
          (ap (λ (a : OutcomeOf X). told (verdict_of a)) is, ap value_of is ∙ sym h.1.2)

      reading_of_lem : Reading Applies tried others Stands blank Holding (verdict_of out) (value_of out)
      reading_of_lem = record {
        refusals = λ o n p. Iff.trans (told_refused o p out) (law o n p);
        never = all_map (λ s. (p : ℕ) → out ≢ refused s p) (λ s. (told (verdict_of out)).number ≢ some (number s))
            (λ s n. never_told s n out refl) others not-others;
        beside = is_blank out;
        accepts = λ u. (λ h. accepts_to out refl u h.0 h.1, accepts_from u);
        places = λ o h p e. law-places o h p ((told_refused o p out).0 e);
      }

-- READING A RULE
pub rule_reading : (t : List ℕ) (r : RuleRead) → ReadsRule t r → RuleReading t r
rule_reading t r reads = subst (RuleReading t) (sym reads) (go (read_rule t) of_text)
  where
    applies : (o : Reason) → number o ≢ 7 → (p : ℕ) → read_rule t ≡ refused o p → RefusesRule t o p
    applies o n p e = ((rule_refused o (λ i. n (ap number i)) t p).0 e).1

    -- a refusal from 3 on is one of a term
    place : (o : Reason) → 3 ≤ number o → (p : ℕ) → read_rule t ≡ refused o p → FirstBadTerm o t p
    place long h p e = absurd (omega (arith, h))
    place grammar h p e = absurd (omega (arith, h))
    place fields h p e = (first_in_lem fields t p).0 (applies fields (λ i. omega arith) p e)
    place terms h p e = (first_in_lem terms t p).0 (applies terms (λ i. omega arith) p e)
    place limits h p e = (first_in_lem limits t p).0 (applies limits (λ i. omega arith) p e)
    place linear h p e = (first_in_lem linear t p).0 (applies linear (λ i. omega arith) p e)
    place variable h p e = absurd (never_seven t p e)
    place unknown h p e = (first_in_lem unknown t p).0 (applies unknown (λ i. omega arith) p e)

    Read : OutcomeOf OurRule → Type 0
    Read a =
        Reading (RefusesRule t) order (variable ∷ []) (λ o p. FirstBadTerm o t p) blank_rule (HoldsRule t)
        (verdict_of a)
        (value_of (RefusesRule t) order (variable ∷ []) (λ o p. FirstBadTerm o t p) (SaysRule t) both_fields blank_rule encode_rule a)

    of_text : Read (read_rule t)
    of_text =
        reading_of_lem (RefusesRule t) order (variable ∷ []) (λ o p. FirstBadTerm o t p) (SaysRule t) both_fields blank_rule encode_rule
        (read_rule t) (λ o n p. rule_refused o n.0 t p) (never_seven t, tt) (rule_accepted t) place

    go : (a : OutcomeOf OurRule) → Read a → RuleReading t (rule_read a)
    go (refused o p) h = h
    go (accepted x) h = h

-- READING A SLIP
pub slip_reading : (t : List ℕ) (r : SlipRead) → ReadsSlip t r → SlipReading t r
slip_reading t r reads = subst (SlipReading t) (sym reads) (go (read_slip t) of_text)
  where
    applies : (o : Reason) → number o ≢ 6 → (p : ℕ) → read_slip t ≡ refused o p → Refuses slip t o p
    applies o n p e = ((slip_refused o (λ i. n (ap number i)) t p).0 e).1

    never_ten : (p : ℕ) → read_slip t ≢ refused unknown p
    never_ten p e = (applies unknown (λ i. omega arith) p e).2.1.3

    place : (o : Reason) → 3 ≤ number o → (p : ℕ) → read_slip t ≡ refused o p → FirstBadToken most_items o t p
    place long h p e = absurd (omega (arith, h))
    place grammar h p e = absurd (omega (arith, h))
    place fields h p e = (first_bad_lem most_items fields t p).0 (applies fields (λ i. omega arith) p e)
    place terms h p e = (first_bad_lem most_items terms t p).0 (applies terms (λ i. omega arith) p e)
    place limits h p e = (first_bad_lem most_items limits t p).0 (applies limits (λ i. omega arith) p e)
    place linear h p e = absurd (slip_never t p e)
    place variable h p e = (first_bad_lem most_items variable t p).0 (applies variable (λ i. omega arith) p e)
    place unknown h p e = absurd (never_ten p e)

    Read : Outcome → Type 0
    Read a =
        Reading (Refuses slip t) slip.order (linear ∷ unknown ∷ []) (λ o p. FirstBadToken most_items o t p) blank_slip (HoldsSlip t)
        (verdict_of a)
        (value_of (Refuses slip t) slip.order (linear ∷ unknown ∷ []) (λ o p. FirstBadToken most_items o t p) (Says t) fields_of
        blank_slip encode_slip a)

    of_text : Read (read_slip t)
    of_text =
        reading_of_lem (Refuses slip t) slip.order (linear ∷ unknown ∷ []) (λ o p. FirstBadToken most_items o t p) (Says t) fields_of
        blank_slip encode_slip (read_slip t) (λ o n p. slip_refused o n.0 t p) (slip_never t, (never_ten, tt)) (slip_accepted t) place

    go : (a : Outcome) → Read a → SlipReading t (slip_read a)
    go (refused o p) h = h
    go (accepted x) h = h

-- ---- a text without an arrow is read as before

module _ (t : List ℕ) (r : RuleRead) (reads : ReadsRule t r) where
  -- A TEXT IN WHICH NO `=` STANDS BEHIND A SIDE is read as document 01 reads it, as a rule without right side
  pub reads_before : NoEqual t → r ≡ rule_read (as_rule (read_side t))
  reads_before free = reads ∙ ap rule_read (read_before t free)

  -- so is one that says no arrow, or it is refused by 2 in both readings: here behind the `=` at which document 01's reading stops
  pub reads_no_arrow : cut t ≡ none
      → (r ≡ rule_read (as_rule (read_side t)))
      ⊎ ((p : ℕ) × (read_side t ≡ refused grammar p) × (told r.verdict ≡ refusal grammar (suc p)))
  reads_no_arrow free = go (no_arrow t free)
    where
      go : (read_rule t ≡ as_rule (read_side t)) ⊎ ((p : ℕ) × (read_side t ≡ refused grammar p) × (read_rule t ≡ refused grammar (suc p)))
          → (r ≡ rule_read (as_rule (read_side t)))
          ⊎ ((p : ℕ) × (read_side t ≡ refused grammar p) × (told r.verdict ≡ refusal grammar (suc p)))
      go (inl e) = inl (reads ∙ ap rule_read e)
      go (inr h) = inr (h.0, h.1, ap (λ (a : RuleRead). told a.verdict) (reads ∙ ap rule_read h.2))

-- ---- the places, number by number

module _ (t : List ℕ) (r : RuleRead) (reads : ReadsRule t r) (p : ℕ) where
  -- 3: "a fifth field, at its first byte"; of either side
  pub rule_three : told r.verdict ≡ refusal fields p
      → (b : FirstBadTerm fields t p) × (b.token.in_field ≡ suc most_fields) × (b.token.index ≡ 1)
  rule_three e = let b = (rule_reading t r reads).places fields (omega arith) p e in (b, b.stated.0, b.stated.1)

  -- 4: "a seventeenth term in a field"; of either side
  pub rule_four : told r.verdict ≡ refusal terms p → (b : FirstBadTerm terms t p) × (b.token.index ≡ suc most_terms)
  rule_four e = let b = (rule_reading t r reads).places terms (omega arith) p e in (b, b.stated)

  -- 5: "a value, digit count, variable number or string length over its limit"
  pub rule_five : told r.verdict ≡ refusal limits p → (b : FirstBadTerm limits t p) × Over b.token.raw
  rule_five e = let b = (rule_reading t r reads).places limits (omega arith) p e in (b, b.stated)

  -- 6: "a list variable that occurs earlier in the rule, or that follows another in its field"
  pub rule_six : told r.verdict ≡ refusal linear p → (b : FirstBadTerm linear t p) × NotLinear b.earlier b.token
  rule_six e = let b = (rule_reading t r reads).places linear (omega arith) p e in (b, b.stated)

  -- 10: "a right-side variable that the left lacks, at its first byte": of the letter k and the number that ds says
  pub rule_ten : told r.verdict ≡ refusal unknown p
      → (b : FirstBadTerm unknown t p) × (k : Kind) × (ds : List ℕ) × (b.token.raw ≡ raw_var k ds)
      × (Has k (value ds) (fields_of (left_side b.said)) → ⊥)
  rule_ten e =
      let b = (rule_reading t r reads).places unknown (omega arith) p e in
      (b, b.stated.0, b.stated.1, b.stated.2, b.stated.3)

module _ (t : List ℕ) (r : SlipRead) (reads : ReadsSlip t r) (p : ℕ) where
  pub slip_three : told r.verdict ≡ refusal fields p
      → (b : FirstBadToken most_items fields t p) × (b.token.in_field ≡ suc most_fields) × (b.token.index ≡ 1)
  slip_three e = let b = (slip_reading t r reads).places fields (omega arith) p e in (b, b.stated.0, b.stated.1)

  -- 4: "a sixty-fifth term"
  pub slip_four : told r.verdict ≡ refusal terms p → (b : FirstBadToken most_items terms t p) × (b.token.index ≡ suc most_items)
  slip_four e = let b = (slip_reading t r reads).places terms (omega arith) p e in (b, b.stated)

  pub slip_five : told r.verdict ≡ refusal limits p → (b : FirstBadToken most_items limits t p) × Over b.token.raw
  slip_five e = let b = (slip_reading t r reads).places limits (omega arith) p e in (b, b.stated)

  -- 7: "a variable"
  pub slip_seven : told r.verdict ≡ refusal variable p → (b : FirstBadToken most_items variable t p) × IsVar b.token.raw
  slip_seven e = let b = (slip_reading t r reads).places variable (omega arith) p e in (b, b.stated)

-- ---- plain text

-- READING A RULE'S PLAIN TEXT returns the rule
pub read_written : (v : Rule) → accepted_rule v ≡ true
    → rule_read (read_rule (plain_both (counted_rule v))) ≡ record { verdict = Accepted; rule = v }
read_written v h =
    let a = rules.read_written v h in
    ap rule_read a.0 ∙ ap (λ (w : Rule). record { verdict = Accepted; rule = w }) a.1

-- EVERY TEXT that is read as w is written as the one plain text of w
pub written_once : (t : List ℕ) (w : OurRule) → read_rule t ≡ accepted w → plain_both (counted_rule (encode_rule w)) ≡ plain_both w
written_once = rules.written_once

-- PLAIN TEXT IS INJECTIVE on accepted rules
pub written_injective : (v w : Rule) → accepted_rule v ≡ true → accepted_rule w ≡ true
    → plain_both (counted_rule v) ≡ plain_both (counted_rule w) → v ≡ w
written_injective = rules.written_injective

-- A VALUE THAT NO READING RETURNS writes no bytes
pub unread_nothing : (v : Rule) → accepted_rule v ≡ false → plain_both (counted_rule v) ≡ []
unread_nothing = rules.unread_nothing

-- THE SAME OF SLIPS
pub slip_read_written : (v : Slip) → accepted_slip v ≡ true
    → slip_read (read_slip (plain (counted_slip v))) ≡ record { verdict = Accepted; slip = v }
slip_read_written v h =
    let a = slips.read_written v h in
    ap slip_read a.0 ∙ ap (λ (w : Slip). record { verdict = Accepted; slip = w }) a.1

pub slip_written_once : (t : List ℕ) (x : OurFields) → read_slip t ≡ accepted x → plain (counted_slip (encode_slip x)) ≡ plain x
slip_written_once = slips.written_once

pub slip_written_injective : (v w : Slip) → accepted_slip v ≡ true → accepted_slip w ≡ true
    → plain (counted_slip v) ≡ plain (counted_slip w) → v ≡ w
slip_written_injective = slips.written_injective

pub slip_unread_nothing : (v : Slip) → accepted_slip v ≡ false → plain (counted_slip v) ≡ []
slip_unread_nothing = slips.unread_nothing

-- ---- writing

-- WHAT WRITING LEAVES of a text in the lent bytes: `old` before the call, `new` after it
pub record Writing (text old : List ℕ) (r : Result ℕ TooSmall) (new : List ℕ) : Type 0 where
  -- "8: the lines need more bytes than the output buffer has": in that case only, and else nothing is refused
  pub eight : ((writing.told r).number ≡ some 8) ↔ (length old < length text)
  pub fits : ((writing.told r).number ≡ none) ↔ (length text ≤ length old)
  -- "the needed byte count", either way
  pub count : (writing.told r).values ≡ length text ∷ []
  -- demand 1: "on a refusal the output buffer's old bytes"; else the text, and "the bytes behind them untouched"
  pub refused_old : length old < length text → new ≡ old
  pub front : length text ≤ length old → take (length text) new ≡ text
  pub behind : length text ≤ length old → drop (length text) new ≡ drop (length text) old

pub text_writing : (text old : List ℕ) (r : Result ℕ TooSmall) (new : List ℕ) → Writes text old r new → Writing text old r new
text_writing text old r new w =
    record {
      eight = rw w.answer (eight_iff (length text) (length old) (length text ∷ []));
      fits = rw w.answer (fits_iff (length text) (length old) (length text ∷ []));
      count = ap (λ (x : Told). x.values) w.answer;
      refused_old = λ h. w.bytes ∙ after_small text old h;
      front = λ h. ap (take (length text)) (left h) ∙ take_at text (drop (length text) old) (length text) refl;
      behind = λ h. ap (drop (length text)) (left h) ∙ drop_at text (drop (length text) old) (length text) refl;
    }
  where
    left : length text ≤ length old → new ≡ text ++ drop (length text) old
    left h = w.bytes ∙ after_fits text old h

-- WRITING A VALUE, and reading what was written: whether some reading returns it, its plain text, and what reading that text returns
pub record WritingOf (readable : Bool) (text : List ℕ) (Again : List ℕ → Type 0)
    (old : List ℕ) (r : Result ℕ TooSmall) (new : List ℕ) : Type 0 where
  pub written : Writing text old r new
  -- "Reading that text returns the rule": the bytes written are read again
  pub again : readable ≡ true → length text ≤ length old → Again (take (length text) new)
  -- "A rule .. that no reading can return counts there as one with no fields; writing such a rule gives no bytes"
  pub unread : readable ≡ false → (text ≡ []) × (new ≡ old)

-- a text that is read as the rule v, or as the slip v
abbrev pub AgainRule : Rule → List ℕ → Type 0
AgainRule v t = (a : RuleRead) → ReadsRule t a → (told a.verdict ≡ no_refusal) × (a.rule ≡ v)

abbrev pub AgainSlip : Slip → List ℕ → Type 0
AgainSlip v t = (a : SlipRead) → ReadsSlip t a → (told a.verdict ≡ no_refusal) × (a.slip ≡ v)

abbrev pub RuleWriting : Rule → List ℕ → Result ℕ TooSmall → List ℕ → Type 0
RuleWriting v old r new = WritingOf (accepted_rule v) (plain_both (counted_rule v)) (AgainRule v) old r new

abbrev pub SlipWriting : Slip → List ℕ → Result ℕ TooSmall → List ℕ → Type 0
SlipWriting v old r new = WritingOf (accepted_slip v) (plain (counted_slip v)) (AgainSlip v) old r new

writing_of : (readable : Bool) (text : List ℕ) (Again : List ℕ → Type 0) (old : List ℕ) (r : Result ℕ TooSmall) (new : List ℕ)
    → (readable ≡ true → Again text) → (readable ≡ false → text ≡ []) → Writes text old r new → WritingOf readable text Again old r new
writing_of readable text Again old r new back nothing w =
    record {
      written = x;
      again = λ h room. subst Again (sym (x.front room)) (back h);
      unread = λ h.
          let e = nothing h in
          (e, w.bytes ∙ ap (λ (t : List ℕ). after t old) e ∙ ap (λ (c : Bool). cond c old old) (le-leb 0 (length old) (omega arith)));
    }
  where
    x : Writing text old r new
    x = text_writing text old r new w

-- WRITING A RULE
pub rule_writing : (v : Rule) (old : List ℕ) (r : Result ℕ TooSmall) (new : List ℕ) → Writes (plain_both (counted_rule v)) old r new
    → RuleWriting v old r new
rule_writing v old r new =
    writing_of (accepted_rule v) (plain_both (counted_rule v)) (AgainRule v) old r new
    (λ h a reads.
    let e = reads ∙ read_written v h in
    (ap (λ (b : RuleRead). told b.verdict) e, ap (λ (b : RuleRead). b.rule) e))
    (unread_nothing v)

-- WRITING A SLIP
pub slip_writing : (v : Slip) (old : List ℕ) (r : Result ℕ TooSmall) (new : List ℕ) → Writes (plain (counted_slip v)) old r new
    → SlipWriting v old r new
slip_writing v old r new =
    writing_of (accepted_slip v) (plain (counted_slip v)) (AgainSlip v) old r new
    (λ h a reads.
    let e = reads ∙ slip_read_written v h in
    (ap (λ (b : SlipRead). told b.verdict) e, ap (λ (b : SlipRead). b.slip) e))
    (slip_unread_nothing v)
