-- Reading a rule text answers what the refusals say: each refusal in its case only, never 7, and accepted where none applies.
use mathlib.Core.Path.{◌≡◌, refl, sym, ◌∙◌, ap, subst}
use mathlib.Core.Logic.Iff
use mathlib.Core.Logic.{◌≢◌, ◌↔◌, ite, inl}
use mathlib.Core.Option.{Option, none, some, map, get_or}
use mathlib.Core.List.{List, [], ◌∷◌}
use Prim.Native.Nat.{ℕ, ◌<◌}
use native.Mathlib.Omega.{arith}
use native.Mathlib.Decide.{dec_lt}
use lib.ListN.{length}
use Rattle.text_grammar.specs.Place.{StopsOf, Answers}
use Rattle.text_grammar.specs.Leftmost.{leftmost, LeftmostAt}
use Rattle.text_grammar.specs.Tokens.{Token}
use Rattle.text_grammar.specs.Read.{Reason, long, grammar, fields, terms, limits, linear, variable, unknown, rule, place_of_token}
use Rattle.text_grammar.specs.Read.{Never, NoReason, FirstReason, earlier, refused, accepted}
use Rattle.text_grammar.proofs.Leftmost.{leftmost_answers}
use Rattle.text_grammar.proofs.Read.{chain_refused, chain_accepted}
use Rattle.text_grammar.proofs.Theorems.{not_tried, reason_iff}
use Rattle.text_grammar.specs.rules.Sides.{Sides, one, SaysRule, RuleGrammar}
use Rattle.text_grammar.specs.rules.Place.{parse_rule, place_rule}
use Rattle.text_grammar.specs.rules.Read.{order, tokens_for, BadIn, bad_in?, FirstIn, RefusesRule, said_rule, first_in}
use Rattle.text_grammar.specs.rules.Read.{place_of, OurRule, both_fields, read_rule}
use Rattle.text_grammar.proofs.rules.Place.{place_rule_is, place_rule_none}
use Rattle.text_grammar.proofs.rules.Parse.{ParsedRule, parsed_rule, parse_rule_complete, says_rule_one}

-- ---- the computed places are the declarative ones

-- what says nothing has no terms
no_terms : (r : Reason) → tokens_for r (one []) ≡ []
no_terms long = refl
no_terms grammar = refl
no_terms fields = refl
no_terms terms = refl
no_terms limits = refl
no_terms linear = refl
no_terms variable = refl
no_terms unknown = refl

no_first : (r : Reason) → first_in r (one []) ≡ none
no_first r = ap (λ (l : List Token). map place_of_token (leftmost (BadIn r (one [])) (bad_in? r (one [])) [] l)) (no_terms r)

first_answers : (r : Reason) (t : List ℕ) → Answers (FirstIn r t) (first_in r (said_rule t))
first_answers r t = go (parse_rule t) (parsed_rule t)
  where
    Law : Sides → ℕ → Type 0
    Law s p = LeftmostAt (BadIn r s) place_of_token (tokens_for r s) p

    wrap : (s : Sides) → SaysRule t s → (o : Option ℕ) → Answers (Law s) o → Answers (FirstIn r t) o
    wrap s h none a = λ p f. a p (subst (λ (z : Sides). Law z p) (says_rule_one t f.0 s f.1 h) f.2)
    wrap s h (some q) a = ((s, h, a.0), λ p f. a.1 p (subst (λ (z : Sides). Law z p) (says_rule_one t f.0 s f.1 h) f.2))

    go : (o : Option Sides) → ParsedRule t o → Answers (FirstIn r t) (first_in r (get_or o (one [])))
    go none h = subst (Answers (FirstIn r t)) (sym (no_first r)) (λ p f. h f.0 f.1)
    go (some s) h = wrap s h (first_in r s) (leftmost_answers (BadIn r s) (bad_in? r s) place_of_token (tokens_for r s))

pub answers : (t : List ℕ) (r : Reason) → Answers (RefusesRule t r) (place_of t r)
answers t long = go (dec_lt rule.bytes (length t))
  where
    go : (d : Dec (rule.bytes < length t)) → Answers (RefusesRule t long) (ite d (some rule.bytes) none)
    go (yes h) = ((h, refl), λ q r. r.1)
    go (no n) = λ q r. n r.0
answers t grammar = place_rule_is t
answers t fields = first_answers fields t
answers t terms = first_answers terms t
answers t limits = first_answers limits t
answers t linear = first_answers linear t
answers t variable = first_answers variable t
answers t unknown = first_answers unknown t

pub read_first : (t : List ℕ) (r : Reason) (p : ℕ) → (read_rule t ≡ refused r p) ↔ FirstReason (RefusesRule t) order r p
read_first t r p = chain_refused (RefusesRule t) (place_of t) (answers t) (both_fields (said_rule t)) order r p

-- a text with too many bytes
pub long_rule : (t : List ℕ) → rule.bytes < length t → read_rule t ≡ refused long rule.bytes
long_rule t h = (read_first t long rule.bytes).1 (inl (refl, (h, refl)))

pub read_none : (t : List ℕ) (w : OurRule) → (read_rule t ≡ accepted w) ↔ (NoReason (RefusesRule t) order × (both_fields (said_rule t) ≡ w))
read_none t w = chain_accepted (RefusesRule t) (place_of t) (answers t) (both_fields (said_rule t)) order w

-- ---- EACH REFUSAL IN ITS CASE ONLY

pub rule_refused : (r : Reason) → r ≢ variable → (t : List ℕ) (p : ℕ)
    → (read_rule t ≡ refused r p) ↔ (NoReason (RefusesRule t) (earlier r) × RefusesRule t r p)
rule_refused r n t p = Iff.trans (read_first t r p) (go r n)
  where
    go : (r : Reason) → r ≢ variable → FirstReason (RefusesRule t) order r p ↔ (NoReason (RefusesRule t) (earlier r) × RefusesRule t r p)
    go long n =
        reason_iff (RefusesRule t) long p [] (grammar ∷ fields ∷ terms ∷ limits ∷ linear ∷ unknown ∷ [])
        (omega arith) (omega arith)
    go grammar n =
        reason_iff (RefusesRule t) grammar p (earlier grammar) (fields ∷ terms ∷ limits ∷ linear ∷ unknown ∷ [])
        (omega arith) (omega arith)
    go fields n =
        reason_iff (RefusesRule t) fields p (earlier fields) (terms ∷ limits ∷ linear ∷ unknown ∷ [])
        (omega arith) (omega arith)
    go terms n =
        reason_iff (RefusesRule t) terms p (earlier terms) (limits ∷ linear ∷ unknown ∷ []) (omega arith) (omega arith)
    go limits n = reason_iff (RefusesRule t) limits p (earlier limits) (linear ∷ unknown ∷ []) (omega arith) (omega arith)
    go linear n = reason_iff (RefusesRule t) linear p (earlier linear) (unknown ∷ []) (omega arith) (omega arith)
    go variable n = absurd (n refl)
    go unknown n = reason_iff (RefusesRule t) unknown p (earlier unknown) [] (omega arith) (omega arith)

-- NEVER 7: a rule may have variables
pub never_seven : (t : List ℕ) (p : ℕ) → read_rule t ≢ refused variable p
never_seven t p e = not_tried (RefusesRule t) variable p order (omega arith) ((read_first t variable p).0 e)

-- ---- ACCEPTED: none applies, and the rule is what the text says

pub in_rule_grammar : (t : List ℕ) → Never (StopsOf RuleGrammar t) → RuleGrammar t
in_rule_grammar t n = go (place_rule t) refl (place_rule_is t)
  where
    go : (o : Option ℕ) → place_rule t ≡ o → Answers (StopsOf RuleGrammar t) o → RuleGrammar t
    go none e h = (place_rule_none t).1 e
    go (some p) e h = absurd (n p h.0)

pub said_rule_is : (t : List ℕ) (s : Sides) → SaysRule t s → said_rule t ≡ s
said_rule_is t s h = ap (λ (o : Option Sides). get_or o (one [])) (parse_rule_complete t s h)

pub rule_accepted : (t : List ℕ) (w : OurRule)
    → (read_rule t ≡ accepted w) ↔ (NoReason (RefusesRule t) order × ((s : Sides) × SaysRule t s × (both_fields s ≡ w)))
rule_accepted t w = (to, λ h. (read_none t w).1 (h.0, ap both_fields (said_rule_is t h.1.0 h.1.1) ∙ h.1.2))
  where
    to : read_rule t ≡ accepted w → NoReason (RefusesRule t) order × ((s : Sides) × SaysRule t s × (both_fields s ≡ w))
    to e =
        let a = (read_none t w).0 e in
        let g = in_rule_grammar t a.0.1.0 in
        (a.0, (g.0, g.1, ap both_fields (sym (said_rule_is t g.0 g.1)) ∙ a.1))
