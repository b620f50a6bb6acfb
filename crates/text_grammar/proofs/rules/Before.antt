-- A text without an arrow is read as before: where no `=` stands behind a side, reading is document 01's, with no right side.
-- (Where one does, as in `1=` and `1=x`, it is refusal 2 in both, here one byte later: `=` may follow a side now.)
use mathlib.Core.Path.{◌≡◌, refl, sym, ◌∙◌, ap, ap₂, subst}
use mathlib.Core.Logic.{◌≢◌, ◌↔◌, ◌⊎◌, inl, inr, ite}
use mathlib.Core.Option.{Option, none, some, map, get_or, none-ne-some, some-injective}
use mathlib.Core.List.{List, [], ◌∷◌, ◌++◌, append-nil, nil≢cons, cons≢nil, head-eq_of_cons-eq}
use Prim.Native.Nat.{ℕ, suc, ◌<◌}
use native.Mathlib.Omega.{arith}
use native.Mathlib.Decide.{ℕ_discrete, dec_lt}
use lib.ListN.{length, take, drop, take-append-drop}
use lib.Seq.{take-append_seam, drop-append_seam}
use Rattle.base_limits.specs.Limits.{most_terms, most_rule_bytes}
use Rattle.base_lists.specs.Seqs.{All, all_right}
use Rattle.text_grammar.specs.Grammar.{Raw, Grammar}
use Rattle.text_grammar.specs.Leftmost.{leftmost}
use Rattle.text_grammar.specs.Tokens.{Token, tokens}
use Rattle.text_grammar.specs.Machine.{place2, parse}
use Rattle.text_grammar.specs.Terms.{OurFields, fields_of}
use Rattle.text_grammar.specs.Read.{Reason, long, grammar, fields, terms, limits, linear, unknown, rule, Bad, bad?, place_of_token, first_bad, said}
use Rattle.text_grammar.specs.Read.{OutcomeOf, refused, accepted, tell, chain, Outcome, read_side}
use Rattle.text_grammar.specs.Read as text
use Rattle.text_grammar.proofs.Place.{place2_none}
use Rattle.text_grammar.proofs.Theorems as theorems
use Rattle.text_grammar.specs.rules.Sides.{Sides, one, two, SaysRule}
use Rattle.text_grammar.specs.rules.Place.{cut, place_at, place_on, place_rule, place62, parse_parts}
use Rattle.text_grammar.specs.rules.Read.{order, first_in, said_rule, place_of, OurRule, both_fields, read_rule}
use Rattle.text_grammar.specs.rules.Judge.{as_rule}
use Rattle.text_grammar.proofs.rules.Splits.{equals, grammar_viable, no_viable}
use Rattle.text_grammar.proofs.rules.Place.{equal_later}
use Rattle.text_grammar.proofs.rules.Parse.{stops_equal, cut_iff}
use Rattle.text_grammar.proofs.rules.Read.{rule_accepted}

-- no `=` stands behind a side
abbrev pub NoEqual : List ℕ → Type 0
NoEqual t = (a w : List ℕ) → Grammar a → t ≡ a ++ 61 ∷ w → ⊥

-- as in a text of one side, and in a text without the byte `=`
pub grammar_no_equal : (t : List ℕ) → Grammar t → NoEqual t
grammar_no_equal t g a w h e = no_viable 61 equals a w h (grammar_viable (a ++ 61 ∷ w) (subst Grammar e g))

pub byte_no_equal : (t : List ℕ) → All (λ b. b ≢ 61) t → NoEqual t
byte_no_equal t h a w g e = (all_right (λ b. b ≢ 61) a (61 ∷ w) (subst (All (λ b. b ≢ 61)) e h)).0 refl

module _ (t : List ℕ) (free : NoEqual t) where
  no_cut : cut t ≡ none
  no_cut = go (cut t) refl
    where
      go : (o : Option (List ℕ × List ℕ)) → cut t ≡ o → o ≡ none
      go none e = refl
      go (some c) e = let h = (cut_iff t c.0 c.1).0 e in absurd (free c.0 (62 ∷ c.1) h.0 h.1)

  same_place : place_rule t ≡ place2 t
  same_place = go (place2 t)
    where
      on : (p : ℕ) (r : List ℕ) → t ≡ take p t ++ r → (o : Option ℕ) → place2 (take p t) ≡ o → place_at p o r ≡ some p
      on p r s (some q) e = refl
      on p [] s none e = refl
      on p (b ∷ r) s none e = at (ℕ_discrete b 61)
        where
          at : (d : Dec (b ≡ 61)) → ite d (place62 (suc p) r) (some p) ≡ some p
          at (yes f) = absurd (free (take p t) r ((place2_none (take p t)).1 e) (s ∙ ap (λ (x : ℕ). take p t ++ x ∷ r) f))
          at (no n) = refl

      go : (o : Option ℕ) → place_on t o ≡ o
      go none = refl
      go (some p) = on p (drop p t) (sym (take-append-drop p t)) (place2 (take p t)) refl

  same_said : said_rule t ≡ one (said t)
  same_said = ap (λ (c : Option (List ℕ × List ℕ)). get_or (parse_parts t c) (one [])) no_cut ∙ go (parse t)
    where
      go : (o : Option (List (List Raw))) → get_or (map one o) (one []) ≡ one (get_or o [])
      go none = refl
      go (some x) = refl

-- the first of both sides' terms is the first of the one side's
one_first : (r : Reason) (x : List (List Raw))
    → map place_of_token (leftmost (Bad most_terms r) (bad? most_terms r) [] (tokens x ++ [])) ≡ first_bad most_terms r x
one_first r x = ap (λ (l : List Token). map place_of_token (leftmost (Bad most_terms r) (bad? most_terms r) [] l)) (append-nil (tokens x))

tell_rule : (r : Reason) (o : Option ℕ) (z : Outcome) → tell r o (as_rule z) ≡ as_rule (tell r o z)
tell_rule r none z = refl
tell_rule r (some p) z = refl

-- a chain with the same places, and 10 nowhere
chain_rule : (f : Reason → Option ℕ) (g : Reason → Option ℕ) (x : OurFields) → f unknown ≡ none
    → (rs : List Reason) → All (λ r. f r ≡ g r) rs → chain f (rs ++ unknown ∷ []) (x, []) ≡ as_rule (chain g rs x)
chain_rule f g x n [] h = ap (λ (o : Option ℕ). tell unknown o (accepted (x, []))) n
chain_rule f g x n (r ∷ rs) h =
    ap₂ (tell r) h.0 (chain_rule f g x n rs h.1) ∙ tell_rule r (g r) (chain g rs x)

-- READ AS BEFORE
pub read_before : (t : List ℕ) → NoEqual t → read_rule t ≡ as_rule (read_side t)
read_before t free =
    ap (λ (s : Sides). chain (place_of t) order (both_fields s)) said_one
    ∙ chain_rule (place_of t) (text.place_of rule t) (fields_of (said t)) (ap (first_in unknown) said_one) rule.order (
      refl,
      (
        same_place t free,
        (
          ap (first_in fields) said_one ∙ one_first fields (said t),
          (
            ap (first_in terms) said_one ∙ one_first terms (said t),
            (
              ap (first_in limits) said_one ∙ one_first limits (said t),
              (ap (first_in linear) said_one, tt),
            ),
          ),
        ),
      ),
    )
  where
    said_one : said_rule t ≡ one (said t)
    said_one = same_said t free

-- a rule without right side is accepted exactly where document 01 accepts it; a right side has at least one field
pub one_sided : (t : List ℕ) (x : OurFields) → (read_rule t ≡ accepted (x, [])) ↔ (read_side t ≡ accepted x)
one_sided t x = (to, λ e. read_before t (old e) ∙ ap as_rule e)
  where
    old : read_side t ≡ accepted x → NoEqual t
    old e = let g = ((theorems.rule_accepted t x).0 e).1 in grammar_no_equal t (g.0, g.1)

    back : (o : Outcome) → as_rule o ≡ accepted (x, []) → o ≡ accepted x
    back (refused r p) e = let z : ◌≡◌ {A = ℕ} 0 1 = cc in absurd (omega arith)
    back (accepted y) e = let f : ◌≡◌ {A = OurRule} (y, []) (x, []) = cc in ap (λ (w : OurRule). accepted w.0) f

    side : (s : Sides) → SaysRule t s → both_fields s ≡ (x, []) → Grammar t
    side (one y) h e = (y, h)
    side (two y []) h e = absurd h.0.1.0
    side (two y (f ∷ z)) h e = absurd (cons≢nil (ap (λ (w : OurRule). w.1) e))

    to : read_rule t ≡ accepted (x, []) → read_side t ≡ accepted x
    to e =
        let a = ((rule_accepted t (x, [])).0 e).1 in
        back (read_side t) (sym (read_before t (grammar_no_equal t (side a.0 a.1 a.2))) ∙ e)

-- ---- EVERY TEXT WITHOUT AN ARROW: as before, or refusal 2 in both, here behind the `=` on which the grammar of one side stops

pub equal? : (t : List ℕ) → NoEqual t ⊎ ((a w : List ℕ) × Grammar a × (t ≡ a ++ 61 ∷ w))
equal? t = go (place2 t) refl
  where
    -- the only place where it could stand
    only : (p : ℕ) → place2 t ≡ some p → (a w : List ℕ) → Grammar a → t ≡ a ++ 61 ∷ w → (take p t ≡ a) × (drop p t ≡ 61 ∷ w)
    only p e a w g s =
        let k : length a ≡ p = some-injective (length a) p (sym (ap place2 s ∙ stops_equal a w g) ∙ e) in (
          ap (λ (n : ℕ). take n t) (sym k) ∙ ap (take (length a)) s ∙ take-append_seam a (61 ∷ w),
          ap (λ (n : ℕ). drop n t) (sym k) ∙ ap (drop (length a)) s ∙ drop-append_seam a (61 ∷ w),
        )

    on : (p : ℕ) → place2 t ≡ some p → (r : List ℕ) → drop p t ≡ r → (o : Option ℕ) → place2 (take p t) ≡ o
        → NoEqual t ⊎ ((a w : List ℕ) × Grammar a × (t ≡ a ++ 61 ∷ w))
    on p e r d (some q) f = inl (λ a w g s. none-ne-some q (sym ((place2_none a).0 g) ∙ ap place2 (sym (only p e a w g s).0) ∙ f))
    on p e [] d none f = inl (λ a w g s. nil≢cons (sym d ∙ (only p e a w g s).1))
    on p e (b ∷ r) d none f = at (ℕ_discrete b 61)
      where
        at : Dec (b ≡ 61) → NoEqual t ⊎ ((a w : List ℕ) × Grammar a × (t ≡ a ++ 61 ∷ w))
        at (yes k) =
            inr (take p t, r, (place2_none (take p t)).1 f, sym (take-append-drop p t) ∙ ap (λ (l : List ℕ). take p t ++ l) (d ∙ ap (λ (x : ℕ). x ∷ r) k))
        at (no n) = inl (λ a w g s. n (head-eq_of_cons-eq (sym d ∙ (only p e a w g s).1)))

    go : (o : Option ℕ) → place2 t ≡ o → NoEqual t ⊎ ((a w : List ℕ) × Grammar a × (t ≡ a ++ 61 ∷ w))
    go none e = inl (grammar_no_equal t ((place2_none t).1 e))
    go (some p) e = on p e (drop p t) refl (place2 (take p t)) refl

pub no_arrow : (t : List ℕ) → cut t ≡ none
    → (read_rule t ≡ as_rule (read_side t)) ⊎ ((p : ℕ) × (read_side t ≡ refused grammar p) × (read_rule t ≡ refused grammar (suc p)))
no_arrow t none-cut = go (equal? t)
  where
    go : NoEqual t ⊎ ((a w : List ℕ) × Grammar a × (t ≡ a ++ 61 ∷ w))
        → (read_rule t ≡ as_rule (read_side t)) ⊎ ((p : ℕ) × (read_side t ≡ refused grammar p) × (read_rule t ≡ refused grammar (suc p)))
    go (inl f) = inl (read_before t f)
    go (inr (a, w, g, s)) = at (dec_lt most_rule_bytes (length t)) refl
      where
        here : place2 t ≡ some (length a)
        here = ap place2 s ∙ stops_equal a w g

        later : place_rule t ≡ some (suc (length a))
        later =
            ap place_rule s
            ∙ equal_later a w g (λ u e. none-ne-some (a, u) (sym none-cut ∙ (cut_iff t a u).1 (g, s ∙ ap (λ (l : List ℕ). a ++ 61 ∷ l) e)))

        old : Option ℕ → Option ℕ → Outcome
        old f1 f2 = tell long f1 (tell grammar f2 (chain (text.place_of rule t) (fields ∷ terms ∷ limits ∷ linear ∷ []) (fields_of (said t))))

        new : Option ℕ → Option ℕ → OutcomeOf OurRule
        new f1 f2 =
            tell long f1
            (tell grammar f2 (chain (place_of t) (fields ∷ terms ∷ limits ∷ linear ∷ unknown ∷ []) (both_fields (said_rule t))))

        at : (d : Dec (most_rule_bytes < length t)) → dec_lt most_rule_bytes (length t) ≡ d
            → (read_rule t ≡ as_rule (read_side t)) ⊎ ((p : ℕ) × (read_side t ≡ refused grammar p) × (read_rule t ≡ refused grammar (suc p)))
        at (yes h) e =
            let l = ap (λ (d : Dec (most_rule_bytes < length t)). ite {C = Option ℕ} d (some most_rule_bytes) none) e in
            inl (ap (λ (o : Option ℕ). new o (place_rule t)) l ∙ sym (ap (λ (o : Option ℕ). as_rule (old o (place2 t))) l))
        at (no n) e = let l = ap (λ (d : Dec (most_rule_bytes < length t)). ite {C = Option ℕ} d (some most_rule_bytes) none) e in
            inr (length a, ap₂ old l here, ap₂ new l later)
