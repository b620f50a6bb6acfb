-- The statements about reading and plain text. What a rule or slip within the limits is: specs/Limits; the refusals: specs/Read.
-- See also: `rule_iff`, `slip_iff`, `rule_plain` (Accepted), `first_bad_lem` (Sharp), `rule_bytes`, `slip_bytes` (Lengths).
use mathlib.Core.Path.{◌≡◌, refl, sym, ◌∙◌, ap, subst}
use mathlib.Core.Logic.Iff
use mathlib.Core.Logic.{◌≢◌, ◌↔◌, inl, inr}
use mathlib.Core.List.{List, [], ◌∷◌, ◌++◌}
use Prim.Native.Nat.{ℕ}
use native.Mathlib.Omega.{arith}
use Rattle.base_lists.specs.Seqs.{All}
use Rattle.text_grammar.specs.Grammar.{Raw, Says}
use Rattle.text_grammar.specs.Terms.{OurFields, fields_of}
use Rattle.text_grammar.specs.Read.{Reason, long, grammar, fields, terms, limits, linear, variable, unknown, number, Sort, rule, slip, Refuses, NoReason}
use Rattle.text_grammar.specs.Read.{FirstReason, refused, accepted, read, read_side, read_slip, earlier}
use Rattle.text_grammar.specs.Plain.{plain}
use Rattle.text_grammar.specs.Limits.{IsLeft}
use Rattle.text_grammar.proofs.Read.{read_refused, read_accepted}
use Rattle.text_grammar.proofs.Plain.{LeanField, lean_is_plain, plain_one}
use Rattle.text_grammar.proofs.Accepted.{in_grammar, said_is, rule_read_lem, rule_plain, rule_ok}

module _ (R : Reason → ℕ → Type 0) (r : Reason) (p : ℕ) where
  abbrev pub Other : Reason → Type 0
  Other s = number s ≢ number r

  -- a reason that is not among those tried is never the first
  pub not_tried : (rs : List Reason) → All Other rs → FirstReason R rs r p → ⊥
  not_tried [] a h = h
  not_tried (s ∷ rs) a (inl h) = a.0 (ap number h.0)
  not_tried (s ∷ rs) a (inr h) = not_tried rs a.1 h.1

  pub reason_iff : (pre post : List Reason) → All Other pre → All Other post → FirstReason R (pre ++ r ∷ post) r p ↔ (NoReason R pre × R r p)
  reason_iff [] post a b = (to, λ h. inl (refl, h.1))
    where
      to : FirstReason R (r ∷ post) r p → Unit {0} × R r p
      to (inl h) = (tt, h.1)
      to (inr h) = absurd (not_tried post b h.1)
  reason_iff (s ∷ pre) post a b = (to (λ h. (reason_iff pre post a.1 b).0 h), λ h. inr (h.0.0, (reason_iff pre post a.1 b).1 (h.0.1, h.1)))
    where
      to : (FirstReason R (pre ++ r ∷ post) r p → NoReason R pre × R r p) → FirstReason R (s ∷ (pre ++ r ∷ post)) r p → NoReason R (s ∷ pre) × R r p
      to rec (inl h) = absurd (a.0 (ap number h.0))
      to rec (inr h) = ((h.0, (rec h.1).0), (rec h.1).1)

-- REFUSED for r at p exactly when r applies at p and none that is tried before it applies anywhere
pub rule_refused : (r : Reason) → r ≢ variable → (t : List ℕ) (p : ℕ)
    → (read_side t ≡ refused r p) ↔ (NoReason (Refuses rule t) (earlier r) × Refuses rule t r p)
rule_refused long n t p =
    Iff.trans (read_refused rule t long p) (reason_iff (Refuses rule t) long p [] (grammar ∷ fields ∷ terms ∷ limits ∷ linear ∷ []) (omega arith) (omega arith))
rule_refused grammar n t p =
    Iff.trans (read_refused rule t grammar p)
    (reason_iff (Refuses rule t) grammar p (long ∷ []) (fields ∷ terms ∷ limits ∷ linear ∷ []) (omega arith) (omega arith))
rule_refused fields n t p =
    Iff.trans (read_refused rule t fields p)
    (reason_iff (Refuses rule t) fields p (long ∷ grammar ∷ []) (terms ∷ limits ∷ linear ∷ []) (omega arith) (omega arith))
rule_refused terms n t p =
    Iff.trans (read_refused rule t terms p)
    (reason_iff (Refuses rule t) terms p (long ∷ grammar ∷ fields ∷ []) (limits ∷ linear ∷ []) (omega arith) (omega arith))
rule_refused limits n t p =
    Iff.trans (read_refused rule t limits p)
    (reason_iff (Refuses rule t) limits p (long ∷ grammar ∷ fields ∷ terms ∷ []) (linear ∷ []) (omega arith) (omega arith))
rule_refused linear n t p =
    Iff.trans (read_refused rule t linear p)
    (reason_iff (Refuses rule t) linear p (long ∷ grammar ∷ fields ∷ terms ∷ limits ∷ []) [] (omega arith) (omega arith))
rule_refused variable n t p = absurd (n refl)
rule_refused unknown n t p =
    (λ e. absurd (not_tried (Refuses rule t) unknown p rule.order (omega arith) ((read_refused rule t unknown p).0 e)), λ h. absurd h.1.2.1.3)

pub slip_refused : (r : Reason) → r ≢ linear → (t : List ℕ) (p : ℕ) → (read_slip t ≡ refused r p) ↔ (NoReason (Refuses slip t) (earlier r) × Refuses slip t r p)
slip_refused long n t p =
    Iff.trans (read_refused slip t long p)
    (reason_iff (Refuses slip t) long p [] (grammar ∷ fields ∷ terms ∷ limits ∷ variable ∷ []) (omega arith) (omega arith))
slip_refused grammar n t p =
    Iff.trans (read_refused slip t grammar p)
    (reason_iff (Refuses slip t) grammar p (long ∷ []) (fields ∷ terms ∷ limits ∷ variable ∷ []) (omega arith) (omega arith))
slip_refused fields n t p =
    Iff.trans (read_refused slip t fields p)
    (reason_iff (Refuses slip t) fields p (long ∷ grammar ∷ []) (terms ∷ limits ∷ variable ∷ []) (omega arith) (omega arith))
slip_refused terms n t p =
    Iff.trans (read_refused slip t terms p)
    (reason_iff (Refuses slip t) terms p (long ∷ grammar ∷ fields ∷ []) (limits ∷ variable ∷ []) (omega arith) (omega arith))
slip_refused limits n t p =
    Iff.trans (read_refused slip t limits p)
    (reason_iff (Refuses slip t) limits p (long ∷ grammar ∷ fields ∷ terms ∷ []) (variable ∷ []) (omega arith) (omega arith))
slip_refused linear n t p = absurd (n refl)
slip_refused variable n t p =
    Iff.trans (read_refused slip t variable p)
    (reason_iff (Refuses slip t) variable p (long ∷ grammar ∷ fields ∷ terms ∷ limits ∷ []) [] (omega arith) (omega arith))
slip_refused unknown n t p =
    (λ e. absurd (not_tried (Refuses slip t) unknown p slip.order (omega arith) ((read_refused slip t unknown p).0 e)), λ h. absurd h.1.2.1.3)

-- a rule is never refused for a variable, a slip never for what is not linear
pub rule_never : (t : List ℕ) (p : ℕ) → read_side t ≢ refused variable p
rule_never t p e = not_tried (Refuses rule t) variable p rule.order (omega arith) ((read_refused rule t variable p).0 e)

pub slip_never : (t : List ℕ) (p : ℕ) → read_slip t ≢ refused linear p
slip_never t p e = not_tried (Refuses slip t) linear p slip.order (omega arith) ((read_refused slip t linear p).0 e)

-- ACCEPTED: none applies, and the rule is what the text says
module _ (S : Sort) (others : List Reason) (is : S.order ≡ long ∷ grammar ∷ others) where
  accepted_says : (t : List ℕ) (r : OurFields)
      → (read S t ≡ accepted r) ↔ (NoReason (Refuses S t) S.order × ((x : List (List Raw)) × Says t x × (fields_of x ≡ r)))
  accepted_says t r = (to, λ h. (read_accepted S t r).1 (h.0, ap fields_of (said_is t h.1.0 h.1.1) ∙ h.1.2))
    where
      to : read S t ≡ accepted r → NoReason (Refuses S t) S.order × ((x : List (List Raw)) × Says t x × (fields_of x ≡ r))
      to e =
          let a = (read_accepted S t r).0 e in
          let g = in_grammar t (subst (NoReason (Refuses S t)) is a.0).1.0 in
          (a.0, (g.0, g.1, ap fields_of (sym (said_is t g.0 g.1)) ∙ a.1))

pub rule_accepted : (t : List ℕ) (r : OurFields)
    → (read_side t ≡ accepted r) ↔ (NoReason (Refuses rule t) rule.order × ((x : List (List Raw)) × Says t x × (fields_of x ≡ r)))
rule_accepted = accepted_says rule (fields ∷ terms ∷ limits ∷ linear ∷ []) refl

pub slip_accepted : (t : List ℕ) (r : OurFields)
    → (read_slip t ≡ accepted r) ↔ (NoReason (Refuses slip t) slip.order × ((x : List (List Raw)) × Says t x × (fields_of x ≡ r)))
slip_accepted = accepted_says slip (fields ∷ terms ∷ limits ∷ variable ∷ []) refl

-- THE ONE PLAIN TEXT: of all texts that are read as r, the plain text is the only one without needless `empty` and leading zeros
pub one_plain : (t : List ℕ) (r : OurFields) → read_side t ≡ accepted r → ((x : List (List Raw)) → Says t x → All LeanField x) → t ≡ plain r
one_plain t r e l =
    let a = ((rule_accepted t r).0 e).1 in
    lean_is_plain t a.0 a.1 (l a.0 a.1) ∙ ap plain a.2

-- READING THE PLAIN TEXT of what was read returns it
pub read_again : (t : List ℕ) (r : OurFields) → read_side t ≡ accepted r → read_side (plain r) ≡ accepted r
read_again t r e = rule_plain r (rule_read_lem t r e)

-- PLAIN TEXT IS INJECTIVE on accepted rules
pub plain_injective : (r s : OurFields) → IsLeft r → IsLeft s → plain r ≡ plain s → r ≡ s
plain_injective r s h k e = plain_one r s (rule_ok rule.width r h.0) (rule_ok rule.width s k.0) e
