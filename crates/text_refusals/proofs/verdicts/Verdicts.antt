-- The number of each reason, what is told of an outcome, and which of several refusals is tried first.
use mathlib.Core.Path.{◌≡◌, refl, sym, ◌∙◌, ap, ap₂, subst}
use mathlib.Core.Logic.{◌↔◌}
use mathlib.Core.Option.{Option, none, some, IsSome}
use mathlib.Core.List.{List, [], ◌∷◌, head-eq_of_cons-eq}
use Prim.Native.Nat.{ℕ, ◌<◌, ◌≤◌}
use native.Mathlib.Omega.{arith}
use native.Mathlib.Decide.{dec_lt}
use borrow.Author.Tests.{lt-ltb, le-ltb}
use Rattle.text_grammar.specs.Read.{Reason, long, grammar, fields, terms, limits, linear, variable, unknown, number, OutcomeOf, refused, accepted, tell, chain}
use Rattle.text_grammar.specs.Told.{Told}
use Rattle.text_grammar.proofs.Refused.{number_once}
use Rattle.text_refusals.specs.declared.verdicts.Reason as values
use Rattle.std.specs.Prelude.{Ok, Err}
use Rattle.text_refusals.specs.verdicts.Verdicts.{Verdict, Accepted, Refused}
use Rattle.text_refusals.specs.verdicts.Verdicts.{reason_from, number_of, told, refusal, verdict_of, first_of}

-- the value of a reason has the same number
pub number_is : (r : Reason) → number_of (reason_from r) ≡ number r
number_is long = refl
number_is grammar = refl
number_is fields = refl
number_is terms = refl
number_is limits = refl
number_is linear = refl
number_is variable = refl
number_is unknown = refl

-- ---- what is told of an outcome

some_once : {a b : ℕ} → some a ≡ some b → a ≡ b
some_once e = cc

told_is : (r : Reason) (p : ℕ) → told (Refused (reason_from r) p) ≡ refusal r p
told_is r p = ap (λ (n : ℕ). record { number = some n; values = p ∷ [] }) (number_is r)

-- WHAT IS TOLD says which outcome it is of: a refusal's number and place, or nothing
module _ {X : Type 0} where
  pub told_refused : (r : Reason) (p : ℕ) (a : OutcomeOf X) → (told (verdict_of a) ≡ refusal r p) ↔ (a ≡ refused r p)
  told_refused r p (refused s q) = (to, λ e. ap (λ (a : OutcomeOf X). told (verdict_of a)) e ∙ told_is r p)
    where
      to : told (Refused (reason_from s) q) ≡ refusal r p → ◌≡◌ {A = OutcomeOf X} (refused s q) (refused r p)
      to e =
          let n = some_once (ap (λ (x : Told). x.number) e) in
          ap₂ refused (number_once s r (sym (number_is s) ∙ n)) (head-eq_of_cons-eq (ap (λ (x : Told). x.values) e))
  told_refused r p (accepted x) =
      (λ e. absurd (subst IsSome (sym (ap (λ (x : Told). x.number) e)) tt), λ e. ap (λ (a : OutcomeOf X). told (verdict_of a)) e ∙ told_is r p)

pub told_number : (r s : Reason) (p : ℕ) → (told (Refused (reason_from r) p)).number ≡ some (number s) → r ≡ s
told_number r s p e = number_once r s (sym (number_is r) ∙ some_once e)

-- ---- which is tried first

module _ (r q : values.Reason) (p k : ℕ) where
  -- the former's, also on a tie
  pub first_former : number_of r ≤ number_of q → first_of (Refused r p) (Refused q k) ≡ Refused r p
  first_former h = rw (le-ltb (number_of q) (number_of r) h)

  pub first_latter : number_of q < number_of r → first_of (Refused r p) (Refused q k) ≡ Refused q k
  first_latter h = rw (lt-ltb (number_of q) (number_of r) h)

pub first_none : (v : Verdict) → first_of v Accepted ≡ v
first_none (Ok u) = refl
first_none (Err x) = refl

pub first_assoc : (a b c : Verdict) → first_of (first_of a b) c ≡ first_of a (first_of b c)
first_assoc (Ok u) b c = refl
first_assoc (Err x) (Ok u) c = refl
first_assoc (Err x) (Err y) (Ok u) = first_none (first_of (Err x) (Err y))
first_assoc (Err x) (Err y) (Err z) = three x.reason y.reason z.reason x.place y.place z.place
  where
    three : (r q s : values.Reason) (p k j : ℕ)
        → first_of (first_of (Refused r p) (Refused q k)) (Refused s j) ≡ first_of (Refused r p) (first_of (Refused q k) (Refused s j))
    three r q s p k j = go (dec_lt (number_of q) (number_of r)) (dec_lt (number_of s) (number_of q))
      where
        go : Dec (number_of q < number_of r) → Dec (number_of s < number_of q)
            → first_of (first_of (Refused r p) (Refused q k)) (Refused s j) ≡ first_of (Refused r p) (first_of (Refused q k) (Refused s j))
        go (yes h) (yes g) = rw (first_latter r q p k h, first_latter q s k j g, first_latter r s p j (omega arith))
        go (yes h) (no g) = rw (first_latter r q p k h, first_former q s k j (omega arith), first_latter r q p k h)
        go (no h) (yes g) = rw (first_former r q p k (omega arith), first_latter q s k j g)
        go (no h) (no g) =
            let rq = first_former r q p k (omega arith) in
            rw (rq, first_former q s k j (omega arith), rq, first_former r s p j (omega arith))

-- ---- the refusals in their order

-- a refusal where there is a place, and else what is said otherwise
abbrev pub refused_by : Reason → Option ℕ → Verdict → Verdict
refused_by r none v = v
refused_by r (some p) v = Refused (reason_from r) p

-- the first reason that has a place
abbrev pub verdict_by : (Reason → Option ℕ) → List Reason → Verdict
verdict_by f [] = Accepted
verdict_by f (r ∷ rs) = refused_by r (f r) (verdict_by f rs)

module _ {X : Type 0} where
  pub verdict_tell : (r : Reason) (o : Option ℕ) (a : OutcomeOf X) → verdict_of (tell r o a) ≡ refused_by r o (verdict_of a)
  verdict_tell r none a = refl
  verdict_tell r (some p) a = refl

  -- what is accepted plays no part in it
  pub verdict_chain : (f : Reason → Option ℕ) (rs : List Reason) (x : X) → verdict_of (chain f rs x) ≡ verdict_by f rs
  verdict_chain f [] x = refl
  verdict_chain f (r ∷ rs) x = verdict_tell r (f r) (chain f rs x) ∙ ap (refused_by r (f r)) (verdict_chain f rs x)

-- no refusal, or one that is tried behind the number n
abbrev pub Behind : ℕ → Verdict → Type 0
Behind n (Ok u) = Unit {0}
Behind n (Err x) = n < number_of x.reason

pub behind_less : (n m : ℕ) (v : Verdict) → n < m → Behind m v → Behind n v
behind_less n m (Ok u) h b = tt
behind_less n m (Err x) h b = omega arith

pub first_keeps : (r : values.Reason) (p : ℕ) (v : Verdict) → Behind (number_of r) v → first_of (Refused r p) v ≡ Refused r p
first_keeps r p (Ok u) b = refl
first_keeps r p (Err y) b = first_former r y.reason p y.place (omega arith)

pub first_takes : (r : values.Reason) (p : ℕ) (v : Verdict) → Behind (number_of r) v → first_of v (Refused r p) ≡ Refused r p
first_takes r p (Ok u) b = refl
first_takes r p (Err y) b = first_latter y.reason r y.place p b

-- the numbers rise, and are all above n
abbrev pub Rising : ℕ → List Reason → Type 0
Rising n [] = Unit {0}
Rising n (r ∷ rs) = (n < number_of (reason_from r)) × Rising (number_of (reason_from r)) rs

pub refused_behind : (n : ℕ) (r : Reason) (o : Option ℕ) (v : Verdict) → n < number_of (reason_from r) → Behind (number_of (reason_from r)) v
    → Behind n (refused_by r o v)
refused_behind n r none v h b = behind_less n (number_of (reason_from r)) v h b
refused_behind n r (some p) v h b = h

pub verdict_behind : (n : ℕ) (f : Reason → Option ℕ) (rs : List Reason) → Rising n rs → Behind n (verdict_by f rs)
verdict_behind n f [] h = tt
verdict_behind n f (r ∷ rs) h = refused_behind n r (f r) (verdict_by f rs) h.0 (verdict_behind (number_of (reason_from r)) f rs h.1)
