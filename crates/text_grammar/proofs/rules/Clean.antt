-- No refusal and no bad token: of a rule text, and of each of its sides. The right side's places and the counts that begin anew there make no difference.
use mathlib.Core.Path.{refl, sym, subst}
use mathlib.Core.Logic.{◌↔◌, inl, inr}
use mathlib.Core.Option.{Option, none, some}
use mathlib.Core.List.{List, [], ◌∷◌, append-nil, map}
use Prim.Native.Nat.{ℕ, suc, ◌+◌, ◌≤◌, ◌<◌}
use native.Mathlib.Omega.{arith}
use lib.ListN.{length, length-map}
use Rattle.base_limits.specs.Limits.{most_fields, most_terms}
use Rattle.base_lists.specs.Seqs.{All, all_append, all_left, all_right}
use Rattle.math_types.specs.Types.{Kind}
use Rattle.math_terms.specs.Fillings.{Occurs}
use Rattle.text_grammar.specs.Grammar.{Raw, raw_var, raw_empty, spell, spell_f, raw_con}
use Rattle.text_grammar.specs.Numbers.{value}
use Rattle.text_grammar.specs.Leftmost.{NoneOf, leftmost, LeftmostAt}
use Rattle.text_grammar.specs.Tokens.{Token, tokens, tokens_f, tokens_t, FifthField, TooMany, Over, TokenOver}
use Rattle.text_grammar.specs.Terms.{OurFields, field_of, fields_of}
use Rattle.text_grammar.specs.Read.{Reason, fields, terms, limits, Bad, place_of_token, Never}
use Rattle.text_grammar.specs.Plain.{raw_field}
use Rattle.text_grammar.specs.Limits.{TermIn}
use Rattle.text_grammar.proofs.Leftmost.{leftmost_is, none_not, Found, none_all, all_none}
use Rattle.text_grammar.proofs.Fields.{few_from, width_from, each}
use Rattle.text_grammar.proofs.Accepted.{not_over_fields, raw_widths}
use Rattle.text_grammar.specs.rules.Sides.{Sides, one, two, SaysRule}
use Rattle.text_grammar.specs.rules.Tokens.{left_side, all_tokens, right_place, right_tokens, Has, has?, Lacks, Unknown}
use Rattle.text_grammar.specs.rules.Read.{tokens_for, BadIn, bad_in?, FirstIn}
use Rattle.text_grammar.specs.rules.Limits.{VarsIn}
use Rattle.text_grammar.proofs.rules.Parse.{says_rule_one}

-- ---- a reason applies nowhere exactly where no token is bad

module _ (r : Reason) (t : List ℕ) (s : Sides) (h : SaysRule t s) where
  pub clean_to : Never (FirstIn r t) → NoneOf (BadIn r s) [] (tokens_for r s)
  clean_to n = go (leftmost (BadIn r s) (bad_in? r s) [] (tokens_for r s)) (leftmost_is (BadIn r s) (bad_in? r s) (tokens_for r s) [])
    where
      go : (o : Option Token) → Found (BadIn r s) (bad_in? r s) [] (tokens_for r s) o → NoneOf (BadIn r s) [] (tokens_for r s)
      go none k = k
      go (some m) k = absurd (n (place_of_token m) (s, h, (m, k, refl)))

  pub clean_from : NoneOf (BadIn r s) [] (tokens_for r s) → Never (FirstIn r t)
  clean_from k p f =
      let g = subst (λ (z : Sides). LeftmostAt (BadIn r z) place_of_token (tokens_for r z) p) (says_rule_one t f.0 s f.1 h) f.2 in
      none_not (BadIn r s) (bad_in? r s) (tokens_for r s) [] g.0 k g.1

-- ---- properties that do not look at the place

module _ (Q : ℕ → ℕ → Raw → Type 0) where
  abbrev pub AtToken : Token → Type 0
  AtToken m = Q m.in_field m.index m.raw

  shift_f : (rs : List Raw) (p q n i : ℕ) → All AtToken (tokens_f p n i rs) → All AtToken (tokens_f q n i rs)
  shift_f [] p q n i h = tt
  shift_f (r ∷ rs) p q n i h = (h.0, shift_f rs (suc (p + length (spell r))) (suc (q + length (spell r))) n (suc i) h.1)

  pub shift : (x : List (List Raw)) (p q n : ℕ) → All AtToken (tokens_t p n x) → All AtToken (tokens_t q n x)
  shift [] p q n h = tt
  shift (f ∷ fs) p q n h =
      let p' = suc (p + length (spell_f f)) in
      let q' = suc (q + length (spell_f f)) in
      all_append AtToken (tokens_f q n 1 f) (tokens_t q' (suc n) fs) (shift_f f p q n 1 (all_left AtToken (tokens_f p n 1 f) (tokens_t p' (suc n) fs) h))
      (shift fs p' q' (suc n) (all_right AtToken (tokens_f p n 1 f) (tokens_t p' (suc n) fs) h))

-- none of both sides' tokens has Q exactly where none of either has it
module _ (Q : ℕ → ℕ → Raw → Type 0) where
  abbrev pub NoneAt : List Token → Type 0
  NoneAt ms = NoneOf (λ b m. Q m.in_field m.index m.raw) [] ms

  abbrev Not : ℕ → ℕ → Raw → Type 0
  Not n i r = Q n i r → ⊥

  abbrev pub NoneRight : Sides → Type 0
  NoneRight (one x) = Unit {0}
  NoneRight (two x y) = NoneAt (tokens y)

  pub none_sides : (s : Sides) → NoneAt (all_tokens s) ↔ (NoneAt (tokens (left_side s)) × NoneRight s)
  none_sides (one x) = (
    λ h. (subst NoneAt (append-nil (tokens x)) h, tt),
    λ h. subst NoneAt (sym (append-nil (tokens x))) h.0,
  )
  none_sides (two x y) =
      let q = right_place x in (
        λ h.
            let a = none_all (AtToken Q) (all_tokens (two x y)) [] h in (
              all_none (AtToken Q) (tokens x) [] (all_left (AtToken Not) (tokens x) (tokens_t q 1 y) a),
              all_none (AtToken Q) (tokens y) [] (shift Not y q 0 1 (all_right (AtToken Not) (tokens x) (tokens_t q 1 y) a)),
            ),
        λ h.
            all_none (AtToken Q) (all_tokens (two x y)) []
            (all_append (AtToken Not) (tokens x) (tokens_t q 1 y) (none_all (AtToken Q) (tokens x) [] h.0)
            (shift Not y 0 q 1 (none_all (AtToken Q) (tokens y) [] h.1))),
      )

-- ---- 3, 4 and 5 of one side

abbrev pub Clean : List (List Raw) → Type 0
Clean x = NoneOf (Bad most_terms fields) [] (tokens x) × NoneOf (Bad most_terms terms) [] (tokens x) × NoneOf (Bad most_terms limits) [] (tokens x)

abbrev pub CleanRight : Sides → Type 0
CleanRight (one x) = Unit {0}
CleanRight (two x y) = Clean y

abbrev pub CleanAll : Sides → Type 0
CleanAll s = NoneOf (Bad most_terms fields) [] (all_tokens s) × NoneOf (Bad most_terms terms) [] (all_tokens s) × NoneOf (Bad most_terms limits) [] (all_tokens s)

pub clean_sides : (s : Sides) → CleanAll s ↔ (Clean (left_side s) × CleanRight s)
clean_sides s = go s (none_sides (λ n i r. most_fields < n) s) (none_sides (λ n i r. most_terms < i) s) (none_sides (λ n i r. Over r) s)
  where
    go : (s : Sides)
        → (NoneOf (Bad most_terms fields) [] (all_tokens s) ↔ (NoneOf (Bad most_terms fields) [] (tokens (left_side s)) × NoneRight (λ n i r. most_fields < n) s))
        → (NoneOf (Bad most_terms terms) [] (all_tokens s) ↔ (NoneOf (Bad most_terms terms) [] (tokens (left_side s)) × NoneRight (λ n i r. most_terms < i) s))
        → (NoneOf (Bad most_terms limits) [] (all_tokens s) ↔ (NoneOf (Bad most_terms limits) [] (tokens (left_side s)) × NoneRight (λ n i r. Over r) s))
        → CleanAll s ↔ (Clean (left_side s) × CleanRight s)
    go (one x) a b c = (
      λ h. (((a.0 h.0).0, (b.0 h.1).0, (c.0 h.2).0), tt),
      λ h. (a.1 (h.0.0, tt), b.1 (h.0.1, tt), c.1 (h.0.2, tt)),
    )
    go (two x y) a b c = (
      λ h. (((a.0 h.0).0, (b.0 h.1).0, (c.0 h.2).0), ((a.0 h.0).1, (b.0 h.1).1, (c.0 h.2).1)),
      λ h. (a.1 (h.0.0, h.1.0), b.1 (h.0.1, h.1.1), c.1 (h.0.2, h.1.2)),
    )

-- the plain text of a side within the limits is clean
pub clean_plain : (r : OurFields) → length r ≤ most_fields → All (λ f. length f ≤ most_terms) r → All (All TermIn) r → Clean (map raw_field r)
clean_plain r n w i =
    let x = map raw_field r in (
      all_none FifthField (tokens x) [] (few_from x 0 1 (omega (arith, length-map r raw_field))),
      all_none (TooMany most_terms) (tokens x) [] (width_from 16 x 0 1 (raw_widths 15 r w)),
      all_none TokenOver (tokens x) [] ((each (λ u. Over u → ⊥) x 0 1).1 (not_over_fields r i)),
    )

-- ---- 10: no unknown token exactly where the left side has the right side's variables

module _ (l : OurFields) where
  known : (k : Kind) (n : ℕ) → ((Has k n l → ⊥) → ⊥) → Has k n l
  known k n h = go (has? k n l)
    where
      go : Dec (Has k n l) → Has k n l
      go (yes p) = p
      go (no p) = absurd (h p)

  known_field_lem : (rs : List Raw) → All (λ r. Lacks l r → ⊥) rs ↔ ((k : Kind) (n : ℕ) → Occurs k n (field_of rs) → Has k n l)
  known_field_lem [] = (λ h k n o. absurd o, λ h. tt)
  known_field_lem (raw_con r ∷ rs) = let e = known_field_lem rs in (λ h. e.0 h.1, λ h. (λ z. z, e.1 h))
  known_field_lem (raw_empty ∷ rs) = let e = known_field_lem rs in (λ h. e.0 h.1, λ h. (λ z. z, e.1 h))
  known_field_lem (raw_var j ds ∷ rs) =
      let e = known_field_lem rs in
      (λ h. to h.0 (e.0 h.1), λ h. (λ z. z (h j (value ds) (inl (refl, refl))), e.1 (λ k n o. h k n (inr o))))
    where
      to : ((Has j (value ds) l → ⊥) → ⊥) → ((k : Kind) (n : ℕ) → Occurs k n (field_of rs) → Has k n l)
          → (k : Kind) (n : ℕ) → Occurs k n (field_of (raw_var j ds ∷ rs)) → Has k n l
      to h rec k n (inl o) = subst (λ (m : ℕ). Has k m l) (sym o.1) (subst (λ (i : Kind). Has i (value ds) l) (sym o.0) (known j (value ds) h))
      to h rec k n (inr o) = rec k n o

  known_fields : (y : List (List Raw)) → All (All (λ r. Lacks l r → ⊥)) y ↔ VarsIn (fields_of y) l
  known_fields [] = (λ h k n o. absurd o, λ h. tt)
  known_fields (f ∷ fs) =
      let d = known_field_lem f in
      let e = known_fields fs in
      (λ h. to (d.0 h.0) (e.0 h.1), λ h. (d.1 (λ k n o. h k n (inl o)), e.1 (λ k n o. h k n (inr o))))
    where
      to : ((k : Kind) (n : ℕ) → Occurs k n (field_of f) → Has k n l) → VarsIn (fields_of fs) l → VarsIn (fields_of (f ∷ fs)) l
      to here rec k n (inl o) = here k n o
      to here rec k n (inr o) = rec k n o

pub unknown_tokens : (x y : List (List Raw)) → NoneOf (λ b m. Unknown (two x y) m) [] (right_tokens (two x y)) ↔ VarsIn (fields_of y) (fields_of x)
unknown_tokens x y =
    let q = right_place x in
    let k = known_fields (fields_of x) y in
    let e = each (λ r. Lacks (fields_of x) r → ⊥) y q 1 in (
      λ h. k.0 (e.0 (none_all (Unknown (two x y)) (tokens_t q 1 y) [] h)),
      λ h. all_none (Unknown (two x y)) (tokens_t q 1 y) [] (e.1 (k.1 h)),
    )
