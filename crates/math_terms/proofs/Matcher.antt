-- THE MATCHER IS RIGHT: for left-linear rules it says yes exactly when some filling matches, and its filling is the one that does.
use mathlib.Core.Path.{◌≡◌, refl, sym, ◌∙◌, ap, ap₂, subst}
use mathlib.Core.Logic.{◌↔◌, ◌⊎◌, inl, inr}
use mathlib.Core.Bool.{Bool, true, false, cond, false≢true}
use mathlib.Core.Option.{Option, none, some, IsSome}
use mathlib.Core.List.{List, [], ◌∷◌, map, nil≢cons, cons≢nil, head-eq_of_cons-eq, tail-eq_of_cons-eq}
use Prim.Native.Nat.{ℕ, ◌+◌, ◌-◌}
use lib.Dec.{eqb}
use lib.ListN.{length, take, drop, length-map}
use borrow.Author.Tests.{eqb-false}
use Rattle.base_lists.specs.Seqs.{All, Any}
use Rattle.math_types.specs.Order.{Order, Full, basic, list}
use Rattle.math_terms.specs.Constants.{Consts, TermOver}
use Rattle.math_terms.specs.Fillings.{FillingOver, OfKind, Typed, value, fill, Occurs}
use Rattle.math_terms.specs.Linear.{OneList, LeftLinear}
use Rattle.math_terms.specs.Matching.{Matches}
use Rattle.math_terms.specs.Matcher.{atoms, width, has_room, blank, test, walk, match_field, match_fields, matcher, or_some, complete}
use Rattle.math_terms.proofs.Fillings.{fills_agree}
use Rattle.math_terms.proofs.Slices.{Slices, field_iff}
use Rattle.math_terms.proofs.Matching.{typed_one}
use Rattle.math_terms.proofs.Steps.{Good, Out, out_iff, out_then, test_out}
use Rattle.math_terms.proofs.Fresh.{onto, onto_all, all_occurs, Fresh, FreshAll, fresh_rule}

module _ (O : Order) (C : Consts O) {A : Type 0} (name_eq : Discrete A) where
  open C use {Con}

  -- ---- the tests of a field, and of a rule
  walk_out : (gap : ℕ) (w : List Con) (f : List (TermOver O C A)) (p : ℕ) (done : List (TermOver O C A)) (φ : FillingOver O C A)
      → Good O C done φ → Fresh f done
      → Out O C done (onto f done) φ (λ θ. Slices θ gap w f p) (walk O C name_eq gap w f p φ)
  walk_out gap w [] p done φ g n = (g, λ θ t. (λ x. x.0, λ a. (a, tt)))
  walk_out gap w (t ∷ f) p done φ g n = out_then O C done (t ∷ done) (onto f (t ∷ done)) φ
      (λ θ. value θ t ≡ take (width gap t) (drop p w)) (λ θ. Slices θ gap w f (p + width gap t)) (test O C name_eq gap w p t φ)
      (λ ψ. walk O C name_eq gap w f (p + width gap t) ψ)
      (test_out O C name_eq done φ g gap w p t n.0) (λ ψ g'. walk_out gap w f (p + width gap t) (t ∷ done) ψ g' n.1)

  field_out : (f : List (TermOver O C A)) (w : List Con) → OneList f → (done : List (TermOver O C A)) (φ : FillingOver O C A) → Good O C done φ → Fresh f done
      → Out O C done (onto f done) φ (λ θ. fill θ f ≡ w) (match_field O C name_eq f w φ)
  field_out f w o done φ g n = go (has_room f (length w)) refl
    where
      iff : (θ : FillingOver O C A) → Typed O C θ → (fill θ f ≡ w) ↔ ((has_room f (length w) ≡ true) × Slices θ (length w - atoms f) w f 0)
      iff θ t = field_iff θ (typed_one O C θ t) f o w

      go : (b : Bool) → has_room f (length w) ≡ b
          → Out O C done (onto f done) φ (λ θ. fill θ f ≡ w) (cond b (walk O C name_eq (length w - atoms f) w f 0 φ) none)
      go true h =
          out_iff O C done (onto f done) φ (λ θ. Slices θ (length w - atoms f) w f 0) (λ θ. fill θ f ≡ w)
          (λ θ t. (λ s. (iff θ t).1 (h, s), λ e. ((iff θ t).0 e).1))
          (walk O C name_eq (length w - atoms f) w f 0 φ) (walk_out (length w - atoms f) w f 0 done φ g n)
      go false h = λ θ t a e. false≢true (sym h ∙ ((iff θ t).0 e).0)

  fields_out : (fs : List (List (TermOver O C A))) (ws : List (List Con)) → All OneList fs
      → (done : List (TermOver O C A)) (φ : FillingOver O C A) → Good O C done φ → FreshAll fs done
      → Out O C done (onto_all fs done) φ (λ θ. map (fill θ) fs ≡ ws) (match_fields O C name_eq fs ws φ)
  fields_out [] [] o done φ g n = (g, λ θ t. (λ x. x.0, λ a. (a, refl)))
  fields_out [] (w ∷ ws) o done φ g n = λ θ t a e. nil≢cons e
  fields_out (f ∷ fs) [] o done φ g n = λ θ t a e. cons≢nil e
  fields_out (f ∷ fs) (w ∷ ws) o done φ g n = out_iff O C done (onto_all fs (onto f done)) φ
      (λ θ. (fill θ f ≡ w) × (map (fill θ) fs ≡ ws)) (λ θ. map (fill θ) (f ∷ fs) ≡ w ∷ ws)
      (λ θ t. (λ x. ap₂ (λ (y : List Con) (ys : List (List Con)). y ∷ ys) x.0 x.1, λ e. (head-eq_of_cons-eq e, tail-eq_of_cons-eq e)))
      (match_fields O C name_eq (f ∷ fs) (w ∷ ws) φ)
      (out_then O C done (onto f done) (onto_all fs (onto f done)) φ (λ θ. fill θ f ≡ w) (λ θ. map (fill θ) fs ≡ ws) (match_field O C name_eq f w φ)
      (λ ψ. match_fields O C name_eq fs ws ψ)
      (field_out f w o.0 done φ g n.0) (λ ψ g'. fields_out fs ws o.1 (onto f done) ψ g' n.1))

  blank_good : Good O C {A = A} [] blank
  blank_good = record { kinds = λ k a i. absurd i; others = λ k a. inr refl }

  module _ (rule : List (List (TermOver O C A))) (linear : LeftLinear rule) where
    matcher_out : (slip : List (List Con)) → Out O C [] (onto_all rule []) blank (λ θ. map (fill θ) rule ≡ slip) (matcher O C name_eq rule slip)
    matcher_out slip = go (eqb (length rule) (length slip)) refl
      where
        go : (b : Bool) → eqb (length rule) (length slip) ≡ b
            → Out O C [] (onto_all rule []) blank (λ θ. map (fill θ) rule ≡ slip) (cond b (match_fields O C name_eq rule slip blank) none)
        go true h = fields_out rule slip linear.1 [] blank blank_good (fresh_rule rule linear.0)
        go false h = λ θ t a e. eqb-false (length rule) (length slip) h (sym (length-map rule (fill θ)) ∙ ap length e)

    -- ---- the answer no
    pub match_no : (slip : List (List Con)) → matcher O C name_eq rule slip ≡ none → Matches O C rule slip → ⊥
    match_no slip e m =
        subst (Out O C [] (onto_all rule []) blank (λ θ. map (fill θ) rule ≡ slip)) e (matcher_out slip) m.0 m.1 (λ k a i. absurd i) m.2

    -- ---- the answer yes
    module _ (slip : List (List Con)) (φ : FillingOver O C A) (yes-φ : matcher O C name_eq rule slip ≡ some φ) where
      out : Out O C [] (onto_all rule []) blank (λ θ. map (fill θ) rule ≡ slip) (some φ)
      out = subst (Out O C [] (onto_all rule []) blank (λ θ. map (fill θ) rule ≡ slip)) yes-φ (matcher_out slip)

      there : (k : Full O.Kind) (a : A) → Any (Occurs k a) rule → Occurs k a (onto_all rule [])
      there k a i = (all_occurs k a rule []).1 (inl i)

      back : (k : Full O.Kind) (a : A) → Any (Occurs k a) rule ⊎ ⊥ → Any (Occurs k a) rule
      back k a (inl i) = i
      back k a (inr i) = absurd i

      -- THE FILLING: those that match are those that give the rule's variables the values that the answer gives them
      pub match_is : (θ : FillingOver O C A) → Typed O C θ → (map (fill θ) rule ≡ slip) ↔ ((k : Full O.Kind) (a : A) → Any (Occurs k a) rule → θ k a ≡ φ k a)
      match_is θ t = (
        λ e k a i. (out.1 θ t).0 (λ j b n. absurd n, e) k a (there k a i),
        λ h. ((out.1 θ t).1 (λ k a i. h k a (back k a ((all_occurs k a rule []).0 i)))).1,
      )

      -- each value is of its variable's kind
      pub match_kinds : (k : Full O.Kind) (a : A) → Any (Occurs k a) rule → OfKind O C k (φ k a)
      match_kinds k a i = out.0.kinds k a (there k a i)

      -- document 01: "blank for those the rule lacks"
      pub match_blank : (k : Full O.Kind) (a : A) → (Any (Occurs k a) rule → ⊥) → φ k a ≡ []
      match_blank k a n = go (out.0.others k a)
        where
          go : Occurs k a (onto_all rule []) ⊎ (φ k a ≡ []) → φ k a ≡ []
          go (inl i) = absurd (n (back k a ((all_occurs k a rule []).0 i)))
          go (inr e) = e

      complete_is : (k : Full O.Kind) (a : A) → OfKind O C k (φ k a) → complete O C φ k a ≡ φ k a
      complete_is (basic k) a h = ap (or_some O C k) h.1 ∙ sym h.1
      complete_is list a h = refl

      complete_typed : Typed O C (complete O C φ)
      complete_typed k a = go k (out.0.others k a)
        where
          go : (k : Full O.Kind) → Occurs k a (onto_all rule []) ⊎ (φ k a ≡ []) → OfKind O C k (complete O C φ k a)
          go k (inl i) = let h = out.0.kinds k a i in subst (OfKind O C k) (sym (complete_is k a h)) h
          go (basic k) (inr e) = (C.some_of k, ap (or_some O C k) e, C.some_of_le k)
          go list (inr e) = tt

      -- the answer, completed for the variables that the rule lacks, is a filling that matches
      pub match_yes : Typed O C (complete O C φ) × (map (fill (complete O C φ)) rule ≡ slip)
      match_yes = (complete_typed, (match_is (complete O C φ) complete_typed).1 (λ k a i. complete_is k a (match_kinds k a i)))

      -- put into the rule, the answer makes it the slip
      pub match_fills : map (fill φ) rule ≡ slip
      match_fills = sym (fills_agree (complete O C φ) φ rule (λ k a i. complete_is k a (match_kinds k a i))) ∙ match_yes.1

    -- DEMAND 2: it says yes exactly when some filling matches
    pub match_iff : (slip : List (List Con)) → Matches O C rule slip ↔ IsSome (matcher O C name_eq rule slip)
    match_iff slip = (λ m. to (matcher O C name_eq rule slip) refl m, from (matcher O C name_eq rule slip) refl)
      where
        to : (o : Option (FillingOver O C A)) → matcher O C name_eq rule slip ≡ o → Matches O C rule slip → IsSome o
        to none e m = absurd (match_no slip e m)
        to (some φ) e m = tt

        from : (o : Option (FillingOver O C A)) → matcher O C name_eq rule slip ≡ o → IsSome o → Matches O C rule slip
        from none e h = absurd h
        from (some φ) e h = let y = match_yes slip φ e in (complete O C φ, y.0, y.1)
