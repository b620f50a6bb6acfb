-- Reading answers what the refusals say: each has one place at most, and the first that applies is reported.
use mathlib.Core.Path.{◌≡◌, refl, sym, ap, ap₂, subst}
use mathlib.Core.Logic.{◌↔◌, inl, inr, ite}
use mathlib.Core.Option.{Option, none, some, get_or}
use mathlib.Core.List.{List, [], ◌∷◌}
use Prim.Native.Nat.{ℕ, ◌<◌}
use native.Mathlib.Omega.{arith}
use native.Mathlib.Decide.{dec_lt}
use lib.ListN.{length}
use Rattle.text_grammar.specs.Grammar.{Raw, Says}
use Rattle.text_grammar.specs.Place.{Answers}
use Rattle.text_grammar.specs.Machine.{parse}
use Rattle.text_grammar.specs.Leftmost.{LeftmostAt}
use Rattle.text_grammar.specs.Tokens.{tokens}
use Rattle.text_grammar.specs.Terms.{OurFields, fields_of}
use Rattle.text_grammar.specs.Read.{Reason, long, grammar, fields, terms, limits, linear, variable, unknown, Sort, Bad, bad?, place_of_token, FirstBad}
use Rattle.text_grammar.specs.Read.{Refuses}
use Rattle.text_grammar.specs.Read.{said, first_bad, place_of, OutcomeOf, refused, accepted, tell, chain, NoReason, FirstReason, read}
use Rattle.text_grammar.proofs.Parse.{Parsed, parsed, says_one}
use Rattle.text_grammar.proofs.Place.{place2_is}
use Rattle.text_grammar.proofs.Leftmost.{leftmost_answers}

bad_answers : (w : ℕ) (r : Reason) (t : List ℕ) → Answers (FirstBad w r t) (first_bad w r (said t))
bad_answers w r t = go (parse t) (parsed t)
  where
    law : (x : List (List Raw)) → Answers (LeftmostAt (Bad w r) place_of_token (tokens x)) (first_bad w r x)
    law x = leftmost_answers (Bad w r) (bad? w r) place_of_token (tokens x)

    wrap : (x : List (List Raw)) → Says t x → (a : Option ℕ) → Answers (LeftmostAt (Bad w r) place_of_token (tokens x)) a → Answers (FirstBad w r t) a
    wrap x s none h = λ p f. h p (subst (λ (y : List (List Raw)). LeftmostAt (Bad w r) place_of_token (tokens y) p) (says_one t f.0 x f.1 s) f.2)
    wrap x s (some q) h =
        ((x, s, h.0), λ p f. h.1 p (subst (λ (y : List (List Raw)). LeftmostAt (Bad w r) place_of_token (tokens y) p) (says_one t f.0 x f.1 s) f.2))

    go : (a : Option (List (List Raw))) → Parsed t a → Answers (FirstBad w r t) (first_bad w r (get_or a []))
    go none h = λ p f. h f.0 f.1
    go (some x) h = wrap x h (first_bad w r x) (law x)

pub answers : (S : Sort) (t : List ℕ) (r : Reason) → Answers (Refuses S t r) (place_of S t r)
answers S t long = go (dec_lt S.bytes (length t))
  where
    go : (d : Dec (S.bytes < length t)) → Answers (Refuses S t long) (ite d (some S.bytes) none)
    go (yes h) = ((h, refl), λ q r. r.1)
    go (no n) = λ q r. n r.0
answers S t grammar = place2_is t
answers S t fields = bad_answers S.width fields t
answers S t terms = bad_answers S.width terms t
answers S t limits = bad_answers S.width limits t
answers S t linear = bad_answers S.width linear t
answers S t variable = bad_answers S.width variable t
answers S t unknown = bad_answers S.width unknown t

module _ {X : Type 0} (R : Reason → ℕ → Type 0) (f : Reason → Option ℕ) (law : (r : Reason) → Answers (R r) (f r)) (a : X) where
  pub chain_refused : (rs : List Reason) (s : Reason) (p : ℕ) → (chain f rs a ≡ refused s p) ↔ FirstReason R rs s p
  chain_refused [] s p = (λ e. let z : ◌≡◌ {A = ℕ} 0 1 = cc in absurd (omega arith), λ h. absurd h)
  chain_refused (r ∷ rs) s p = go (f r) (law r) (chain_refused rs s p)
    where
      go : (o : Option ℕ) → Answers (R r) o → ((chain f rs a ≡ refused s p) ↔ FirstReason R rs s p)
          → (tell r o (chain f rs a) ≡ refused s p) ↔ FirstReason R (r ∷ rs) s p
      go none h rec = (λ e. inr (h, rec.0 e), from)
        where
          from : FirstReason R (r ∷ rs) s p → chain f rs a ≡ refused s p
          from (inl x) = absurd (h p x.1)
          from (inr x) = rec.1 x.1
      go (some q) h rec = (to, from)
        where
          to : ◌≡◌ {A = OutcomeOf X} (refused r q) (refused s p) → FirstReason R (r ∷ rs) s p
          to e = let e₁ : r ≡ s = cc in let e₂ : q ≡ p = cc in inl (e₁, subst (R r) e₂ h.0)

          from : FirstReason R (r ∷ rs) s p → ◌≡◌ {A = OutcomeOf X} (refused r q) (refused s p)
          from (inl x) = ap₂ refused x.0 (sym (h.1 p x.1))
          from (inr x) = absurd (x.0 q h.0)

  pub chain_accepted : (rs : List Reason) (b : X) → (chain f rs a ≡ accepted b) ↔ (NoReason R rs × (a ≡ b))
  chain_accepted [] b = (λ e. let e₁ : a ≡ b = cc in (tt, e₁), λ h. ap accepted h.1)
  chain_accepted (r ∷ rs) b = go (f r) (law r) (chain_accepted rs b)
    where
      go : (o : Option ℕ) → Answers (R r) o → ((chain f rs a ≡ accepted b) ↔ (NoReason R rs × (a ≡ b)))
          → (tell r o (chain f rs a) ≡ accepted b) ↔ (NoReason R (r ∷ rs) × (a ≡ b))
      go none h rec = (λ e. ((h, (rec.0 e).0), (rec.0 e).1), λ x. rec.1 (x.0.1, x.1))
      go (some q) h rec = (λ e. let z : ◌≡◌ {A = ℕ} 0 1 = cc in absurd (omega arith), λ x. absurd (x.0.0 q h.0))

-- refused for s at p exactly when s applies at p and none before it applies
pub read_refused : (S : Sort) (t : List ℕ) (s : Reason) (p : ℕ) → (read S t ≡ refused s p) ↔ FirstReason (Refuses S t) S.order s p
read_refused S t s p = chain_refused (Refuses S t) (place_of S t) (answers S t) (fields_of (said t)) S.order s p

pub read_accepted : (S : Sort) (t : List ℕ) (r : OurFields) → (read S t ≡ accepted r) ↔ (NoReason (Refuses S t) S.order × (fields_of (said t) ≡ r))
read_accepted S t r = chain_accepted (Refuses S t) (place_of S t) (answers S t) (fields_of (said t)) S.order r
