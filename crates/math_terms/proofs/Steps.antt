-- What each test of the matcher says of the fillings: they are narrowed to those that meet the test, and no further.
-- A test is judged by its answer (`Out`): `none` says that no filling meets it, `some ψ` that those that do are the ones that agree with ψ.
use mathlib.Core.Path.{◌≡◌, refl, sym, ◌∙◌, ap, subst}
use mathlib.Core.Logic.{◌↔◌, ◌⊎◌, inl, inr, ite, if_pos, if_neg}
use mathlib.Core.Bool.{Bool, true, false, cond, false≢true}
use mathlib.Core.Option.{Option, none, some}
use mathlib.Core.List.{List, [], ◌∷◌, nil≢cons, cons≢nil, head-eq_of_cons-eq}
use Prim.Native.Nat.{ℕ, zero, suc}
use lib.ListN.{take, drop, get_elem?}
use Rattle.base_lists.specs.Seqs.{both?}
use Rattle.math_types.specs.Order.{Order, Full, basic, list, full-eq}
use Rattle.math_terms.specs.Terms.{Term, con, var}
use Rattle.math_terms.specs.Constants.{Consts, TermOver}
use Rattle.math_terms.specs.Fillings.{FillingOver, OfKind, Typed, value, Occurs, Agree}
use Rattle.math_terms.specs.Matcher.{and_then, width, bind, same, meets, test}

module _ (O : Order) (C : Consts O) {A : Type 0} where
  -- The filling so far, behind the terms `done` (the last one first): the values of their variables are of their kinds, and no other has one.
  pub record Good (done : List (TermOver O C A)) (φ : FillingOver O C A) : Type 0 where
    pub kinds : (k : Full O.Kind) (a : A) → Occurs k a done → OfKind O C k (φ k a)
    pub others : (k : Full O.Kind) (a : A) → Occurs k a done ⊎ (φ k a ≡ [])

  -- the answer of a test that P describes, begun behind `done` with φ, and ended behind `after`
  abbrev pub Out : List (TermOver O C A) → List (TermOver O C A) → FillingOver O C A → (FillingOver O C A → Type 0) → Option (FillingOver O C A) → Type 0
  Out done after φ P none = (θ : FillingOver O C A) → Typed O C θ → Agree θ φ done → P θ → ⊥
  Out done after φ P (some ψ) = Good after ψ × ((θ : FillingOver O C A) → Typed O C θ → (Agree θ φ done × P θ) ↔ Agree θ ψ after)

  -- P may be said in other words
  pub out_iff : (done after : List (TermOver O C A)) (φ : FillingOver O C A) (P Q : FillingOver O C A → Type 0)
      → ((θ : FillingOver O C A) → Typed O C θ → P θ ↔ Q θ) → (o : Option (FillingOver O C A)) → Out done after φ P o → Out done after φ Q o
  out_iff done after φ P Q f none h = λ θ t a q. h θ t a ((f θ t).1 q)
  out_iff done after φ P Q f (some ψ) h =
      (h.0, λ θ t. (λ x. (h.1 θ t).0 (x.0, (f θ t).1 x.1), λ a. let x = (h.1 θ t).1 a in (x.0, (f θ t).0 x.1)))

  -- one test after another
  pub out_then : (done mid after : List (TermOver O C A)) (φ : FillingOver O C A) (P Q : FillingOver O C A → Type 0)
      (o : Option (FillingOver O C A)) (g : FillingOver O C A → Option (FillingOver O C A))
      → Out done mid φ P o → ((ψ : FillingOver O C A) → Good mid ψ → Out mid after ψ Q (g ψ)) → Out done after φ (λ θ. P θ × Q θ) (and_then o g)
  out_then done mid after φ P Q none g h k = λ θ t a pq. h θ t a pq.0
  out_then done mid after φ P Q (some ψ) g h k = go (g ψ) (k ψ h.0)
    where
      go : (o : Option (FillingOver O C A)) → Out mid after ψ Q o → Out done after φ (λ θ. P θ × Q θ) o
      go none n = λ θ t a pq. n θ t ((h.1 θ t).0 (a, pq.0)) pq.1
      go (some χ) n = (
        n.0,
        λ θ t. (
          λ x. (n.1 θ t).0 ((h.1 θ t).0 (x.0, x.1.0), x.1.1),
          λ a. let y = (n.1 θ t).1 a in let x = (h.1 θ t).1 y.0 in (x.0, (x.1, y.1)),
        ),
      )

module _ {C K A : Type 0} where
  -- a list variable must not stand among the terms before
  abbrev pub New : List (Term C (Full K) A) → Term C (Full K) A → Type 0
  New done (con c) = Unit {0}
  New done (var (basic k) a) = Unit {0}
  New done (var list a) = Occurs list a done → ⊥

module _ {X : Type 0} where
  -- an item, if there is one
  abbrev here : Option X → List X
  here none = []
  here (some x) = x ∷ []

  here_is : (w : List X) (p : ℕ) → take 1 (drop p w) ≡ here (get_elem? w p)
  here_is [] zero = refl
  here_is [] (suc p) = refl
  here_is (x ∷ w) zero = refl
  here_is (x ∷ w) (suc p) = here_is w p

module _ (O : Order) (C : Consts O) {A : Type 0} (name_eq : Discrete A) where
  open O use {Kind, kind_eq, le}
  open C use {Con, con_eq, con_kind}

  -- ---- a variable gets its first value
  module _ (done : List (TermOver O C A)) (φ : FillingOver O C A) (g : Good O C done φ) (k : Full Kind) (a : A) (v : List Con) where
    bind_out : (Occurs k a done → ⊥) → OfKind O C k v → Out O C done (var k a ∷ done) φ (λ θ. θ k a ≡ v) (some (bind (full-eq kind_eq) name_eq k a v φ))
    bind_out new h =
        (record { kinds = λ j b o. kinds' j b o (is j b); others = λ j b. others' j b (is j b) }, λ θ t. (λ x j b o. to θ x j b o (is j b), λ y. from θ y))
      where
        is : (j : Full Kind) (b : A) → Dec ((j ≡ k) × (b ≡ a))
        is j b = both? (full-eq kind_eq j k) (name_eq b a)

        kinds' : (j : Full Kind) (b : A) → ((j ≡ k) × (b ≡ a)) ⊎ Occurs j b done → (d : Dec ((j ≡ k) × (b ≡ a))) → OfKind O C j (ite d v (φ j b))
        kinds' j b o (yes e) = rw e.0 h
        kinds' j b (inl e) (no n) = absurd (n e)
        kinds' j b (inr i) (no n) = g.kinds j b i

        others' : (j : Full Kind) (b : A) → (d : Dec ((j ≡ k) × (b ≡ a))) → (((j ≡ k) × (b ≡ a)) ⊎ Occurs j b done) ⊎ (ite d v (φ j b) ≡ [])
        others' j b (yes e) = inl (inl e)
        others' j b (no n) = go (g.others j b)
          where
            go : Occurs j b done ⊎ (φ j b ≡ []) → (((j ≡ k) × (b ≡ a)) ⊎ Occurs j b done) ⊎ (φ j b ≡ [])
            go (inl i) = inl (inr i)
            go (inr e) = inr e

        to : (θ : FillingOver O C A) → Agree θ φ done × (θ k a ≡ v) → (j : Full Kind) (b : A)
            → ((j ≡ k) × (b ≡ a)) ⊎ Occurs j b done → (d : Dec ((j ≡ k) × (b ≡ a))) → θ j b ≡ ite d v (φ j b)
        to θ x j b o (yes e) = rw (e.0, e.1) x.1
        to θ x j b (inl e) (no n) = absurd (n e)
        to θ x j b (inr i) (no n) = x.0 j b i

        other : (j : Full Kind) (b : A) → Occurs j b done → (j ≡ k) × (b ≡ a) → ⊥
        other j b i e = new (subst (λ (z : A). Occurs k z done) e.1 (subst (λ (z : Full Kind). Occurs z b done) e.0 i))

        from : (θ : FillingOver O C A) → Agree θ (bind (full-eq kind_eq) name_eq k a v φ) (var k a ∷ done) → Agree θ φ done × (θ k a ≡ v)
        from θ y = (λ j b i. y j b (inr i) ∙ if_neg (is j b) (other j b i) v (φ j b), y k a (inl (refl, refl)) ∙ if_pos (is k a) (refl, refl) v (φ k a))

  module _ (done : List (TermOver O C A)) (φ : FillingOver O C A) (g : Good O C done φ) where
    -- ---- a constant
    con_out : (d : Con) (o : Option Con) → Out O C done (con d ∷ done) φ (λ θ. d ∷ [] ≡ here o) (and_then o (λ c. same O C name_eq d c φ))
    con_out d none = λ θ t a e. cons≢nil e
    con_out d (some c) = go (con_eq c d)
      where
        go : (q : Dec (c ≡ d)) → Out O C done (con d ∷ done) φ (λ θ. d ∷ [] ≡ c ∷ []) (ite q (some φ) none)
        go (yes e) = (record { kinds = g.kinds; others = g.others }, λ θ t. (λ x. x.0, λ a. (a, ap (λ (z : Con). z ∷ []) (sym e))))
        go (no n) = λ θ t a e. n (sym (head-eq_of_cons-eq e))

    -- ---- an atom variable
    module _ (k : Kind) (a : A) where
      first_out : φ (basic k) a ≡ [] → (c : Con) → Out O C done (var (basic k) a ∷ done) φ (λ θ. θ (basic k) a ≡ c ∷ []) (meets O C name_eq k a [] c φ)
      first_out e c = go (le (con_kind c) k) refl
        where
          go : (b : Bool) → le (con_kind c) k ≡ b
              → Out O C done (var (basic k) a ∷ done) φ (λ θ. θ (basic k) a ≡ c ∷ [])
              (cond b (some (bind (full-eq kind_eq) name_eq (basic k) a (c ∷ []) φ)) none)
          go true h = bind_out done φ g (basic k) a (c ∷ []) (λ i. nil≢cons (sym e ∙ (g.kinds (basic k) a i).1)) (c, refl, h)
          go false h = λ θ t _ q.
              let v = t (basic k) a in
              false≢true (sym h ∙ ap (λ (z : Con). le (con_kind z) k) (head-eq_of_cons-eq (sym q ∙ v.1)) ∙ v.2)

      again_out : (d : Con) (r : List Con) → φ (basic k) a ≡ d ∷ r → (c : Con)
          → Out O C done (var (basic k) a ∷ done) φ (λ θ. θ (basic k) a ≡ c ∷ []) (meets O C name_eq k a (d ∷ r) c φ)
      again_out d r e c = go (con_eq c d)
        where
          met : Occurs (basic k) a done ⊎ (φ (basic k) a ≡ []) → Occurs (basic k) a done
          met (inl i) = i
          met (inr n) = absurd (cons≢nil (sym e ∙ n))

          before : Occurs (basic k) a done
          before = met (g.others (basic k) a)

          only : φ (basic k) a ≡ d ∷ []
          only = let v = g.kinds (basic k) a before in v.1 ∙ ap (λ (z : Con). z ∷ []) (head-eq_of_cons-eq (sym v.1 ∙ e))

          as_before : (j : Full Kind) (b : A) → ((j ≡ basic k) × (b ≡ a)) ⊎ Occurs j b done → Occurs j b done
          as_before j b (inl q) = rw (q.0, q.1) before
          as_before j b (inr i) = i

          others' : (j : Full Kind) (b : A) → Occurs j b done ⊎ (φ j b ≡ []) → Occurs j b (var (basic k) a ∷ done) ⊎ (φ j b ≡ [])
          others' j b (inl i) = inl (inr i)
          others' j b (inr n) = inr n

          go : (q : Dec (c ≡ d)) → Out O C done (var (basic k) a ∷ done) φ (λ θ. θ (basic k) a ≡ c ∷ []) (ite q (some φ) none)
          go (yes q) = (
            record { kinds = λ j b o. g.kinds j b (as_before j b o); others = λ j b. others' j b (g.others j b) },
            λ θ t. (λ x j b o. x.0 j b (as_before j b o), λ y. (λ j b i. y j b (inr i), y (basic k) a (inr before) ∙ only ∙ ap (λ (z : Con). z ∷ []) (sym q))),
          )
          go (no n) = λ θ t x q. n (head-eq_of_cons-eq (sym q ∙ x (basic k) a before ∙ only))

      var_out : (o : Option Con)
          → Out O C done (var (basic k) a ∷ done) φ (λ θ. θ (basic k) a ≡ here o) (and_then o (λ c. meets O C name_eq k a (φ (basic k) a) c φ))
      var_out none = λ θ t x q. nil≢cons (sym q ∙ (t (basic k) a).1)
      var_out (some c) = go (φ (basic k) a) refl
        where
          go : (old : List Con) → φ (basic k) a ≡ old → Out O C done (var (basic k) a ∷ done) φ (λ θ. θ (basic k) a ≡ c ∷ []) (meets O C name_eq k a old c φ)
          go [] e = first_out e c
          go (d ∷ r) e = again_out d r e c

    -- ---- any term
    pub test_out : (gap : ℕ) (w : List Con) (p : ℕ) (t : TermOver O C A) → New done t
        → Out O C done (t ∷ done) φ (λ θ. value θ t ≡ take (width gap t) (drop p w)) (test O C name_eq gap w p t φ)
    test_out gap w p (con d) n = rw here_is (con_out d (get_elem? w p))
    test_out gap w p (var (basic k) a) n = rw here_is (var_out k a (get_elem? w p))
    test_out gap w p (var list a) n = bind_out done φ g list a (take gap (drop p w)) n tt
