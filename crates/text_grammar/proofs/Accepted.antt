-- Reading returns exactly the rules and slips within the limits, each from its plain text.
use mathlib.Core.Path.{◌≡◌, refl, sym, ◌∙◌, ap, subst}
use mathlib.Core.Logic.{◌↔◌, inl, inr}
use mathlib.Core.Option.{Option, none, some, get_or}
use mathlib.Core.List.{List, [], ◌∷◌, map}
use Prim.Native.Nat.{ℕ, suc, ◌*◌, ◌≤◌}
use native.Mathlib.Omega.{arith, by_contra}
use lib.ListN.{length, length-append, length-map}
use Rattle.base_limits.specs.Limits.{most_terms, most_items, longest_term, longest_field, longest_side, longest_slip_field, longest_slip}
use Rattle.base_lists.specs.Seqs.{All, all_append, all_map}
use Rattle.math_terms.specs.Terms.{con, var}
use Rattle.text_grammar.specs.Grammar.{Raw, raw_var, raw_empty, Proper, FieldOk, TextOk, spell, spell_f, colons, bars, Says, Grammar, raw_con}
use Rattle.text_grammar.specs.Machine.{place2}
use Rattle.text_grammar.specs.Place.{Answers, Stops}
use Rattle.text_grammar.specs.Leftmost.{NoneOf, leftmost, LeftmostAt}
use Rattle.text_grammar.specs.Tokens.{Token, tokens, FifthField, TooMany, Over, TokenOver, IsVar, TokenVar}
use Rattle.text_grammar.specs.Terms.{OurTerm, OurFields, term_of, field_of, fields_of}
use Rattle.text_grammar.specs.Read.{Reason, long, grammar, fields, terms, limits, linear, variable, Sort, rule, slip, Bad, bad?, place_of_token, FirstBad}
use Rattle.text_grammar.specs.Read.{Refuses}
use Rattle.text_grammar.specs.Read.{said, Never, accepted, read_side, read_slip}
use Rattle.text_grammar.specs.Plain.{raw_of, raw_field, plain, TermOk, RuleOk}
use Rattle.text_grammar.specs.Limits.{TermIn, Within, Linear, IsCon, IsLeft, IsSlip}
use Rattle.text_grammar.proofs.Parse.{parse_complete, says_one}
use Rattle.text_grammar.proofs.Place.{place2_is, place2_none}
use Rattle.text_grammar.proofs.Numbers.{digits_value, digits_ten}
use Rattle.text_grammar.proofs.Leftmost.{leftmost_is, none_not, Found, none_all, all_none}
use Rattle.text_grammar.proofs.Read.{read_accepted}
use Rattle.text_grammar.proofs.Plain.{plain_says, plain_said, back}
use Rattle.text_grammar.proofs.Fields.{few_to, few_from, width_to, width_from, each, linear_tokens}
use Rattle.text_grammar.proofs.constants.Constants.{con_in, in_ok, in_not_over, con_short}

-- REASONS AND MARKS
module _ (w : ℕ) (o : Reason) (t : List ℕ) (x : List (List Raw)) (s : Says t x) where
  pub clean_to : Never (FirstBad w o t) → NoneOf (Bad w o) [] (tokens x)
  clean_to n = go (leftmost (Bad w o) (bad? w o) [] (tokens x)) (leftmost_is (Bad w o) (bad? w o) (tokens x) [])
    where
      go : (a : Option Token) → Found (Bad w o) (bad? w o) [] (tokens x) a → NoneOf (Bad w o) [] (tokens x)
      go none h = h
      go (some m) h = absurd (n (place_of_token m) (x, s, (m, h, refl)))

  pub clean_from : NoneOf (Bad w o) [] (tokens x) → Never (FirstBad w o t)
  clean_from h p f =
      let g = subst (λ (y : List (List Raw)). LeftmostAt (Bad w o) place_of_token (tokens y) p) (says_one t f.0 x f.1 s) f.2 in
      none_not (Bad w o) (bad? w o) (tokens x) [] g.0 h g.1

pub in_grammar : (t : List ℕ) → Never (Stops t) → Grammar t
in_grammar t n = go (place2 t) refl (place2_is t)
  where
    go : (a : Option ℕ) → place2 t ≡ a → Answers (Stops t) a → Grammar t
    go none e h = (place2_none t).1 e
    go (some p) e h = absurd (n p h.0)

pub grammar_never : (t : List ℕ) → Grammar t → Never (Stops t)
grammar_never t g = subst (Answers (Stops t)) ((place2_none t).0 g) (place2_is t)

pub said_is : (t : List ℕ) (x : List (List Raw)) → Says t x → said t ≡ x
said_is t x s = ap (λ (a : Option (List (List Raw))). get_or a []) (parse_complete t x s)

-- FROM THE TEXT TO THE LIMITS
term_in : (r : Raw) → Proper r → (Over r → ⊥) → All TermIn (term_of r)
term_in (raw_con r) p n = (con_in r p n, tt)
term_in (raw_var k ds) p n = (omega arith, tt)
term_in raw_empty p n = tt

field_in : (rs : List Raw) → All Proper rs → All (λ r. Over r → ⊥) rs → All TermIn (field_of rs)
field_in [] p n = tt
field_in (r ∷ rs) p n = all_append TermIn (term_of r) (field_of rs) (term_in r p.0 n.0) (field_in rs p.1 n.1)

terms_in_lem : (x : List (List Raw)) → All FieldOk x → All (All (λ r. Over r → ⊥)) x → All (All TermIn) (fields_of x)
terms_in_lem [] p n = tt
terms_in_lem (f ∷ fs) p n = (field_in f p.0.1 n.0, terms_in_lem fs p.1 n.1)

pub term_short : (r : Raw) → length (term_of r) ≤ 1
term_short (raw_con r) = omega arith
term_short (raw_var k ds) = omega arith
term_short raw_empty = omega arith

field_short : (rs : List Raw) → length (field_of rs) ≤ length rs
field_short [] = omega arith
field_short (r ∷ rs) = omega (arith, length-append (term_of r) (field_of rs), term_short r, field_short rs)

widths_in : (w : ℕ) (x : List (List Raw)) → All (λ f. length f ≤ w) x → All (λ f. length f ≤ w) (fields_of x)
widths_in w [] a = tt
widths_in w (f ∷ fs) a = (omega (arith, field_short f, a.0), widths_in w fs a.1)

pub within_to : (w : ℕ) (x : List (List Raw)) → TextOk x → NoneOf (Bad w fields) [] (tokens x)
    → NoneOf (Bad w terms) [] (tokens x) → NoneOf (Bad w limits) [] (tokens x) → Within w (fields_of x)
within_to w [] ok a b c = absurd ok.0
within_to w (f ∷ fs) ok a b c =
    let x = f ∷ fs in (
      tt,
      omega (arith, few_to x 0 1 ok.1 (omega arith) (none_all FifthField (tokens x) [] a), length-map x field_of),
      widths_in w x (width_to w x 0 1 (none_all (TooMany w) (tokens x) [] b)),
      terms_in_lem x ok.1 ((each (λ r. Over r → ⊥) x 0 1).0 (none_all TokenOver (tokens x) [] c)),
    )

no_names : (rs : List Raw) → All (λ r. IsVar r → ⊥) rs ↔ All IsCon (field_of rs)
no_names [] = (λ h. tt, λ h. tt)
no_names (raw_con r ∷ rs) = (λ h. (tt, (no_names rs).0 h.1), λ h. (λ z. z, (no_names rs).1 h.1))
no_names (raw_var k ds ∷ rs) = (λ h. absurd (h.0 tt), λ h. absurd h.0)
no_names (raw_empty ∷ rs) = (λ h. (no_names rs).0 h.1, λ h. (λ z. z, (no_names rs).1 h))

no_names_all : (x : List (List Raw)) → All (All (λ r. IsVar r → ⊥)) x ↔ All (All IsCon) (fields_of x)
no_names_all [] = (λ h. tt, λ h. tt)
no_names_all (f ∷ fs) = (λ h. ((no_names f).0 h.0, (no_names_all fs).0 h.1), λ h. ((no_names f).1 h.0, (no_names_all fs).1 h.1))

pub names_tokens : (x : List (List Raw)) → NoneOf (λ b m. TokenVar m) [] (tokens x) ↔ All (All IsCon) (fields_of x)
names_tokens x = (
  λ h. (no_names_all x).0 ((each (λ r. IsVar r → ⊥) x 0 1).0 (none_all TokenVar (tokens x) [] h)),
  λ h. all_none TokenVar (tokens x) [] ((each (λ r. IsVar r → ⊥) x 0 1).1 ((no_names_all x).1 h)),
)

-- FROM THE LIMITS TO THE PLAIN TEXT
not_over : (t : OurTerm) → TermIn t → Over (raw_of t) → ⊥
not_over (con c) h k = in_not_over c h k
not_over (var j n) h k = omega (arith, digits_value n)

not_over_all : (ts : List OurTerm) → All TermIn ts → All (λ r. Over r → ⊥) (map raw_of ts)
not_over_all [] h = tt
not_over_all (t ∷ ts) h = (not_over t h.0, not_over_all ts h.1)

pub not_over_fields : (r : OurFields) → All (All TermIn) r → All (All (λ u. Over u → ⊥)) (map raw_field r)
not_over_fields [] h = tt
not_over_fields ([] ∷ fs) h = (((λ z. z), tt), not_over_fields fs h.1)
not_over_fields ((t ∷ ts) ∷ fs) h = (not_over_all (t ∷ ts) h.0, not_over_fields fs h.1)

pub raw_widths : (w : ℕ) (r : OurFields) → All (λ f. length f ≤ suc w) r → All (λ f. length f ≤ suc w) (map raw_field r)
raw_widths w [] h = tt
raw_widths w ([] ∷ fs) h = (omega arith, raw_widths w fs h.1)
raw_widths w ((t ∷ ts) ∷ fs) h = (omega (arith, length-map (t ∷ ts) raw_of, h.0), raw_widths w fs h.1)

term_ok_lem : (t : OurTerm) → TermIn t → TermOk t
term_ok_lem (con c) h = in_ok c h
term_ok_lem (var k n) h = tt

pub rule_ok : (w : ℕ) (r : OurFields) → Within w r → RuleOk r
rule_ok w r h = (h.0, all_map (All TermIn) (All TermOk) (λ f g. all_map TermIn TermOk term_ok_lem f g) r h.3)

-- the plain text is never too long
pub spell_short : (t : OurTerm) → TermIn t → length (spell (raw_of t)) ≤ longest_term
spell_short (con c) h = con_short c h
spell_short (var k n) h = omega (arith, digits_ten n (omega arith))

colons_short : (ts : List OurTerm) → All TermIn ts → length (colons (map raw_of ts)) ≤ suc longest_term * length ts
colons_short [] h = omega arith
colons_short (t ∷ ts) h = omega (arith, length-append (spell (raw_of t)) (colons (map raw_of ts)), spell_short t h.0, colons_short ts h.1)

pub field_length : (w : ℕ) (f : List OurTerm) → length f ≤ suc w → All TermIn f → suc (length (spell_f (raw_field f))) ≤ suc longest_term * suc w
field_length w [] l h = omega arith
field_length w (t ∷ ts) l h = omega (arith, length-append (spell (raw_of t)) (colons (map raw_of ts)), spell_short t h.0, colons_short ts h.1)

bars_length : (w : ℕ) (r : OurFields) → All (λ f. length f ≤ suc w) r → All (All TermIn) r
    → length (bars (map raw_field r)) ≤ length r * (suc longest_term * suc w)
bars_length w [] l h = omega arith
bars_length w (f ∷ fs) l h =
    omega (arith, length-append (spell_f (raw_field f)) (bars (map raw_field fs)), field_length w f l.0 h.0, bars_length w fs l.1 h.1)

-- the longest plain text of a rule has 1,151 bytes at most, of a slip 4,607
pub rule_length : (r : OurFields) → Within most_terms r → length (plain r) ≤ longest_side
rule_length [] h = absurd h.0
rule_length (f ∷ fs) h =
    let a : length (spell_f (raw_field f)) ≤ longest_field = omega (arith, field_length 15 f h.2.0 h.3.0) in
    let b : length (bars (map raw_field fs)) ≤ length fs * suc longest_field = bars_length 15 fs h.2.1 h.3.1 in
    omega (arith, length-append (spell_f (raw_field f)) (bars (map raw_field fs)), h.1)

pub slip_length : (r : OurFields) → Within most_items r → length (plain r) ≤ longest_slip
slip_length [] h = absurd h.0
slip_length (f ∷ fs) h =
    let a : length (spell_f (raw_field f)) ≤ longest_slip_field = omega (arith, field_length 63 f h.2.0 h.3.0) in
    let b : length (bars (map raw_field fs)) ≤ length fs * suc longest_slip_field = bars_length 63 fs h.2.1 h.3.1 in
    omega (arith, length-append (spell_f (raw_field f)) (bars (map raw_field fs)), h.1)

-- ACCEPTED
-- what the first five reasons leave
module _ (S : Sort) (t : List ℕ) where
  abbrev pub Base : Type 0
  Base = Never (Refuses S t long) × Never (Refuses S t grammar) × Never (Refuses S t fields) × Never (Refuses S t terms) × Never (Refuses S t limits)

  base_to : Base → (x : List (List Raw)) × Says t x × Within S.width (fields_of x)
  base_to h =
      let g = in_grammar t h.1 in (
        g.0,
        g.1,
        within_to S.width g.0 g.1.0 (clean_to S.width fields t g.0 g.1 h.2) (clean_to S.width terms t g.0 g.1 h.3)
            (clean_to S.width limits t g.0 g.1 h.4),
      )

module _ (S : Sort) (w : ℕ) (same : S.width ≡ suc w) (r : OurFields) (h : Within (suc w) r) (short : length (plain r) ≤ S.bytes) where
  says : Says (plain r) (map raw_field r)
  says = plain_says r (rule_ok (suc w) r h)

  -- the plain text is refused for none of the first five
  plain_base : Base S (plain r)
  plain_base = (
    λ p k. omega (arith, k.0),
    grammar_never (plain r) (map raw_field r, says),
    clean_from S.width fields (plain r) (map raw_field r) says
        (all_none FifthField (tokens (map raw_field r)) [] (few_from (map raw_field r) 0 1 (omega (arith, length-map r raw_field, h.1)))),
    clean_from S.width terms (plain r) (map raw_field r) says (all_none (TooMany S.width) (tokens (map raw_field r)) []
        (width_from S.width (map raw_field r) 0 1 (subst (λ (n : ℕ). All (λ f. length f ≤ n) (map raw_field r)) (sym same) (raw_widths w r h.2)))),
    clean_from S.width limits (plain r) (map raw_field r) says
        (all_none TokenOver (tokens (map raw_field r)) [] ((each (λ u. Over u → ⊥) (map raw_field r) 0 1).1 (not_over_fields r h.3))),
  )

-- a rule that is read is within the limits
pub rule_read_lem : (t : List ℕ) (r : OurFields) → read_side t ≡ accepted r → IsLeft r
rule_read_lem t r e =
    let a = (read_accepted rule t r).0 e in
    let n = a.0 in
    let b = base_to rule t (n.0, n.1.0, n.1.1.0, n.1.1.1.0, n.1.1.1.1.0) in
    let l = (linear_tokens b.0).0 (clean_to most_terms linear t b.0 b.1 n.1.1.1.1.1.0) in
    subst IsLeft (ap fields_of (sym (said_is t b.0 b.1)) ∙ a.1) (b.2, l)

-- and one within the limits is read from its plain text
pub rule_plain : (r : OurFields) → IsLeft r → read_side (plain r) ≡ accepted r
rule_plain r h =
    let b = plain_base rule 15 refl r h.0 (omega (arith, rule_length r h.0)) in
    let ok = rule_ok most_terms r h.0 in
    let s = plain_says r ok in
    let l = clean_from most_terms linear (plain r) (map raw_field r) s ((linear_tokens (map raw_field r)).1 (subst Linear (sym (back r ok.1)) h.1)) in
    (read_accepted rule (plain r) r).1 ((b.0, (b.1, (b.2, (b.3, (b.4, (l, tt)))))), plain_said r ok)

pub slip_read_lem : (t : List ℕ) (r : OurFields) → read_slip t ≡ accepted r → IsSlip r
slip_read_lem t r e =
    let a = (read_accepted slip t r).0 e in
    let n = a.0 in
    let b = base_to slip t (n.0, n.1.0, n.1.1.0, n.1.1.1.0, n.1.1.1.1.0) in
    let l = (names_tokens b.0).0 (clean_to most_items variable t b.0 b.1 n.1.1.1.1.1.0) in
    subst IsSlip (ap fields_of (sym (said_is t b.0 b.1)) ∙ a.1) (b.2, l)

pub slip_plain : (r : OurFields) → IsSlip r → read_slip (plain r) ≡ accepted r
slip_plain r h =
    let b = plain_base slip 63 refl r h.0 (omega (arith, slip_length r h.0)) in
    let ok = rule_ok most_items r h.0 in
    let s = plain_says r ok in
    let l = clean_from most_items variable (plain r) (map raw_field r) s
    ((names_tokens (map raw_field r)).1 (subst (λ (q : OurFields). All (All IsCon) q) (sym (back r ok.1)) h.1)) in
    (read_accepted slip (plain r) r).1 ((b.0, (b.1, (b.2, (b.3, (b.4, (l, tt)))))), plain_said r ok)

-- ACCEPTED is within the limits
pub rule_iff : (r : OurFields) → ((t : List ℕ) × (read_side t ≡ accepted r)) ↔ IsLeft r
rule_iff r = (λ h. rule_read_lem h.0 r h.1, λ h. (plain r, rule_plain r h))

pub slip_iff : (r : OurFields) → ((t : List ℕ) × (read_slip t ≡ accepted r)) ↔ IsSlip r
slip_iff r = (λ h. slip_read_lem h.0 r h.1, λ h. (plain r, slip_plain r h))
