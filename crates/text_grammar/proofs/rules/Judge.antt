-- Judging each side by itself is reading: the first bad term of two sides is the left side's, or else the right side's, moved behind the arrow.
use mathlib.Core.Path.{◌≡◌, refl, sym, ◌∙◌, ap, ap₂}
use mathlib.Core.Logic.{ite}
use mathlib.Core.Option
use mathlib.Core.Option.{Option, none, some}
use mathlib.Core.List.{List, [], ◌∷◌, ◌++◌, map}
use Prim.Native.Nat.{ℕ, suc, ◌+◌, ◌≤◌, ◌<◌}
use native.Mathlib.Omega.{arith}
use native.Mathlib.Decide.{dec_lt}
use lib.ListN.{length, length-append}
use Rattle.base_limits.specs.Limits.{most_fields, most_terms, most_rule_bytes}
use Rattle.text_grammar.specs.Grammar.{Raw, spell, spell_f, spell_t, Says}
use Rattle.text_grammar.specs.Leftmost.{leftmost}
use Rattle.text_grammar.specs.Tokens.{Token, tokens, tokens_f, tokens_t, Over, fifth?, many?, over?}
use Rattle.text_grammar.specs.Machine.{place2}
use Rattle.text_grammar.specs.Terms.{OurFields, fields_of}
use Rattle.text_grammar.specs.Read.{Reason, long, grammar, fields, terms, limits, linear, unknown, place_of_token, first_bad, said, longer}
use Rattle.text_grammar.specs.Read.{OutcomeOf, accepted, tell, chain, Outcome, read_side}
use Rattle.text_grammar.proofs.Place.{place2_none}
use Rattle.text_grammar.proofs.Accepted.{said_is}
use Rattle.text_grammar.specs.rules.Sides.{Sides, one, two, SaysRule}
use Rattle.text_grammar.specs.rules.Place.{cut, place_rule}
use Rattle.text_grammar.specs.rules.Tokens.{Lacks, lacks?}
use Rattle.text_grammar.specs.rules.Read.{first_in, said_rule, OurRule, both_fields, read_rule}
use Rattle.text_grammar.specs.rules.Judge.{as_rule, right_told, lower, lacking_at, known, judge_two, judge_parts, judge}
use Rattle.text_grammar.proofs.rules.Place.{place_rule_none}
use Rattle.text_grammar.proofs.rules.Parse.{cut_one, cut_iff}
use Rattle.text_grammar.proofs.rules.Read.{said_rule_is}
use Rattle.text_grammar.proofs.rules.Before.{read_before, grammar_no_equal}

-- ---- the leftmost of two lists, and of moved tokens

abbrev pub either : Option ℕ → Option ℕ → Option ℕ
either none o = o
either (some p) o = some p

abbrev pub move_by : ℕ → Token → Token
move_by c m = record { place = c + m.place; in_field = m.in_field; index = m.index; raw = m.raw }

-- a decided property that looks neither at the place nor at what stands before
module _ (Q : ℕ → ℕ → Raw → Type 0) (q : (n i : ℕ) (r : Raw) → Dec (Q n i r)) where
  abbrev pub first_with : List Token → List Token → Option Token
  first_with b ms = leftmost (λ b m. Q m.in_field m.index m.raw) (λ b m. q m.in_field m.index m.raw) b ms

  abbrev pub place_with : List Token → List Token → Option ℕ
  place_with b ms = Option.map place_of_token (first_with b ms)

  place_append : (xs ys b c : List Token) → place_with b (xs ++ ys) ≡ either (place_with b xs) (place_with c ys)
  place_append [] ys b c = other ys b c
    where
      other : (ys b c : List Token) → place_with b ys ≡ place_with c ys
      other [] b c = refl
      other (y ∷ ys) b c = go (q y.in_field y.index y.raw) (other ys (b ++ y ∷ []) (c ++ y ∷ []))
        where
          go : (d : Dec (Q y.in_field y.index y.raw)) → place_with (b ++ y ∷ []) ys ≡ place_with (c ++ y ∷ []) ys
              → Option.map place_of_token (ite d (some y) (first_with (b ++ y ∷ []) ys)) ≡ Option.map place_of_token (ite d (some y) (first_with (c ++ y ∷ []) ys))
          go (yes h) rec = refl
          go (no h) rec = rec
  place_append (x ∷ xs) ys b c = go (q x.in_field x.index x.raw) (place_append xs ys (b ++ x ∷ []) c)
    where
      go : (d : Dec (Q x.in_field x.index x.raw)) → place_with (b ++ x ∷ []) (xs ++ ys) ≡ either (place_with (b ++ x ∷ []) xs) (place_with c ys)
          → Option.map place_of_token (ite d (some x) (first_with (b ++ x ∷ []) (xs ++ ys)))
          ≡ either (Option.map place_of_token (ite d (some x) (first_with (b ++ x ∷ []) xs))) (place_with c ys)
      go (yes h) rec = refl
      go (no h) rec = rec

  place_moved : (c : ℕ) (ms b : List Token) → place_with b (map (move_by c) ms) ≡ Option.map (λ k. c + k) (place_with [] ms)
  place_moved c [] b = refl
  place_moved c (m ∷ ms) b =
      go (q m.in_field m.index m.raw) (place_moved c ms (b ++ move_by c m ∷ [])) (place_append [] ms (m ∷ []) [])
    where
      go : (d : Dec (Q m.in_field m.index m.raw)) → place_with (b ++ move_by c m ∷ []) (map (move_by c) ms) ≡ Option.map (λ k. c + k) (place_with [] ms)
          → place_with (m ∷ []) ms ≡ place_with [] ms
          → Option.map place_of_token (ite d (some (move_by c m)) (first_with (b ++ move_by c m ∷ []) (map (move_by c) ms)))
          ≡ Option.map (λ k. c + k) (Option.map place_of_token (ite d (some m) (first_with (m ∷ []) ms)))
      go (yes h) rec e = refl
      go (no h) rec e = rec ∙ ap (Option.map (λ k. c + k)) (sym e)

-- the tokens of a text that stands c bytes further on
map_append : (g : Token → Token) (xs ys : List Token) → map g (xs ++ ys) ≡ map g xs ++ map g ys
map_append g [] ys = refl
map_append g (x ∷ xs) ys = ap (λ (l : List Token). g x ∷ l) (map_append g xs ys)

moved_f : (c : ℕ) (rs : List Raw) (p n i : ℕ) → tokens_f (c + p) n i rs ≡ map (move_by c) (tokens_f p n i rs)
moved_f c [] p n i = refl
moved_f c (r ∷ rs) p n i =
    let e : suc ((c + p) + length (spell r)) ≡ c + suc (p + length (spell r)) = omega arith in
    ap (λ (l : List Token). record { place = c + p; in_field = n; index = i; raw = r } ∷ l)
    (ap (λ (k : ℕ). tokens_f k n (suc i) rs) e ∙ moved_f c rs (suc (p + length (spell r))) n (suc i))

pub moved_t : (c : ℕ) (x : List (List Raw)) (p n : ℕ) → tokens_t (c + p) n x ≡ map (move_by c) (tokens_t p n x)
moved_t c [] p n = refl
moved_t c (f ∷ fs) p n =
    let e : suc ((c + p) + length (spell_f f)) ≡ c + suc (p + length (spell_f f)) = omega arith in
    ap₂ (λ (l m : List Token). l ++ m) (moved_f c f p n 1) (ap (λ (k : ℕ). tokens_t k (suc n) fs) e ∙ moved_t c fs (suc (p + length (spell_f f))) (suc n))
    ∙ sym (map_append (move_by c) (tokens_f p n 1 f) (tokens_t (suc (p + length (spell_f f))) (suc n) fs))

right_moved : (c : ℕ) (y : List (List Raw)) → tokens_t c 1 y ≡ map (move_by c) (tokens y)
right_moved c y = let e : c ≡ c + 0 = omega arith in ap (λ (k : ℕ). tokens_t k 1 y) e ∙ moved_t c y 0 1

-- ---- THE FIRST OF TWO SIDES: the left side's, or else the right side's, moved behind the arrow

module _ (Q : ℕ → ℕ → Raw → Type 0) (q : (n i : ℕ) (r : Raw) → Dec (Q n i r)) (c : ℕ) (x y : List (List Raw)) where
  both_first : place_with Q q [] (tokens x ++ tokens_t c 1 y) ≡ either (place_with Q q [] (tokens x)) (Option.map (λ k. c + k) (place_with Q q [] (tokens y)))
  both_first =
      place_append Q q (tokens x) (tokens_t c 1 y) [] []
      ∙ ap (either (place_with Q q [] (tokens x))) (ap (place_with Q q []) (right_moved c y) ∙ place_moved Q q c (tokens y) [])

module _ (x y : List (List Raw)) where
  abbrev start : ℕ
  start = length (spell_t x) + 2

  pub first_fields : first_in fields (two x y) ≡ either (first_bad most_terms fields x) (Option.map (λ k. start + k) (first_bad most_terms fields y))
  unfolding fifth?
  first_fields = both_first (λ n i r. most_fields < n) (λ n i r. dec_lt most_fields n) start x y

  pub first_terms : first_in terms (two x y) ≡ either (first_bad most_terms terms x) (Option.map (λ k. start + k) (first_bad most_terms terms y))
  unfolding many?
  first_terms = both_first (λ n i r. most_terms < i) (λ n i r. dec_lt 16 i) start x y

  pub first_limits : first_in limits (two x y) ≡ either (first_bad most_terms limits x) (Option.map (λ k. start + k) (first_bad most_terms limits y))
  first_limits = both_first (λ n i r. Over r) (λ n i r. over? r) start x y

  pub first_linear : first_in linear (two x y) ≡ first_bad most_terms linear x
  first_linear = refl

  pub first_unknown : first_in unknown (two x y) ≡ Option.map (λ k. start + k) (lacking_at (fields_of x) y)
  first_unknown =
      ap (place_with (λ n i r. Lacks (fields_of x) r) (λ n i r. lacks? (fields_of x) r) []) (right_moved start y)
      ∙ place_moved (λ n i r. Lacks (fields_of x) r) (λ n i r. lacks? (fields_of x) r) start (tokens y) []

-- ---- one side's chain and the other's make the chain of both

two_chain : (d : ℕ) (f3 f4 f5 f6 g3 g4 g5 g6 : Option ℕ) (o : OutcomeOf OurRule) (x y : OurFields)
    → tell fields (either f3 (Option.map (λ k. d + k) g3))
    (tell terms (either f4 (Option.map (λ k. d + k) g4)) (tell limits (either f5 (Option.map (λ k. d + k) g5)) (tell linear f6 o)))
    ≡ lower (tell fields f3 (tell terms f4 (tell limits f5 (tell linear f6 (accepted x)))))
    (right_told d (tell fields g3 (tell terms g4 (tell limits g5 (tell linear g6 (accepted y)))))) o
two_chain d (some p) f4 f5 f6 (some q) g4 g5 g6 o x y = refl
two_chain d (some p) f4 f5 f6 none (some q) g5 g6 o x y = refl
two_chain d (some p) f4 f5 f6 none none (some q) g6 o x y = refl
two_chain d (some p) f4 f5 f6 none none none (some q) o x y = refl
two_chain d (some p) f4 f5 f6 none none none none o x y = refl
two_chain d none (some p) f5 f6 (some q) g4 g5 g6 o x y = refl
two_chain d none (some p) f5 f6 none (some q) g5 g6 o x y = refl
two_chain d none (some p) f5 f6 none none (some q) g6 o x y = refl
two_chain d none (some p) f5 f6 none none none (some q) o x y = refl
two_chain d none (some p) f5 f6 none none none none o x y = refl
two_chain d none none (some p) f6 (some q) g4 g5 g6 o x y = refl
two_chain d none none (some p) f6 none (some q) g5 g6 o x y = refl
two_chain d none none (some p) f6 none none (some q) g6 o x y = refl
two_chain d none none (some p) f6 none none none (some q) o x y = refl
two_chain d none none (some p) f6 none none none none o x y = refl
two_chain d none none none (some p) (some q) g4 g5 g6 o x y = refl
two_chain d none none none (some p) none (some q) g5 g6 o x y = refl
two_chain d none none none (some p) none none (some q) g6 o x y = refl
two_chain d none none none (some p) none none none (some q) o x y = refl
two_chain d none none none (some p) none none none none o x y = refl
two_chain d none none none none (some q) g4 g5 g6 o x y = refl
two_chain d none none none none none (some q) g5 g6 o x y = refl
two_chain d none none none none none none (some q) g6 o x y = refl
two_chain d none none none none none none none (some q) o x y = refl
two_chain d none none none none none none none none o x y = refl

-- ---- a text of the grammar that is not too long is past 1 and 2

not_longer : (n m : ℕ) → m ≤ n → longer n m ≡ none
not_longer n m h = go (dec_lt n m)
  where
    go : (d : Dec (n < m)) → ite d (some n) none ≡ none
    go (yes k) = absurd (omega arith)
    go (no k) = refl

abbrev side : List (List Raw) → Outcome
side z = chain (λ r. first_bad most_terms r z) (fields ∷ terms ∷ limits ∷ linear ∷ []) (fields_of z)

side_chain : (a : List ℕ) (x : List (List Raw)) → Says a x → length a ≤ most_rule_bytes → read_side a ≡ side x
side_chain a x h l =
    ap (λ (o : Option ℕ). tell long o (tell grammar (place2 a) (side (said a)))) (not_longer most_rule_bytes (length a) l)
    ∙ ap (λ (o : Option ℕ). tell grammar o (side (said a))) ((place2_none a).0 (x, h))
    ∙ ap side (said_is a x h)

abbrev later : Sides → OutcomeOf OurRule
later s = chain (λ r. first_in r s) (fields ∷ terms ∷ limits ∷ linear ∷ unknown ∷ []) (both_fields s)

-- what both sides say of a reason
abbrev both_at : List (List Raw) → List (List Raw) → Reason → Option ℕ
both_at x y r = either (first_bad most_terms r x) (Option.map (λ k. length (spell_t x) + 2 + k) (first_bad most_terms r y))

later_both : (x y : List (List Raw)) → later (two x y)
    ≡ tell fields (both_at x y fields)
    (tell terms (both_at x y terms)
    (tell limits (both_at x y limits) (tell linear (first_bad most_terms linear x) (known (length (spell_t x) + 2) x y))))
later_both x y =
    ap₂ (λ (p q : Option ℕ). five p q (first_in limits (two x y)) (first_in unknown (two x y))) (first_fields x y) (first_terms x y)
    ∙ ap₂ (five (both_at x y fields) (both_at x y terms)) (first_limits x y) (first_unknown x y)
  where
    five : Option ℕ → Option ℕ → Option ℕ → Option ℕ → OutcomeOf OurRule
    five f3 f4 f5 f10 =
        tell fields f3
        (tell terms f4
        (tell limits f5 (tell linear (first_bad most_terms linear x) (tell unknown f10 (accepted (fields_of x, fields_of y))))))

judge_sides : (x y : List (List Raw)) (a u : List ℕ) → Says a x → Says u y → length a ≤ most_rule_bytes → length u ≤ most_rule_bytes
    → later (two x y) ≡ judge_two a u
judge_sides x y a u h k l m =
    later_both x y
    ∙ two_chain (length (spell_t x) + 2) (first_bad most_terms fields x) (first_bad most_terms terms x) (first_bad most_terms limits x) (first_bad most_terms linear x)
    (first_bad most_terms fields y) (first_bad most_terms terms y) (first_bad most_terms limits y) (first_bad most_terms linear y)
    (known (length (spell_t x) + 2) x y) (fields_of x) (fields_of y)
    ∙ ap (λ (n : ℕ). judged n (side x) (side y) x y) (ap (λ (t : List ℕ). length t) (sym h.1))
    ∙ ap₂ (λ (p q : Outcome). judged (length a) p q x y) (sym (side_chain a x h l)) (sym (side_chain u y k m))
    ∙ ap₂ (judged (length a) (read_side a) (read_side u)) (sym (said_is a x h)) (sym (said_is u y k))
  where
    judged : ℕ → Outcome → Outcome → List (List Raw) → List (List Raw) → OutcomeOf OurRule
    judged n p q z v = lower p (right_told (n + 2) q) (known (n + 2) z v)

-- ---- JUDGING IS READING

pub judge_is : (t : List ℕ) → read_rule t ≡ judge t
judge_is t = on (dec_lt most_rule_bytes (length t))
  where
    short : (s : Sides) → SaysRule t s → length t ≤ most_rule_bytes → place_rule t ≡ none → later (said_rule t) ≡ judge_parts t (cut t)
    short (one x) h l e =
        ap (λ (o : Option ℕ). tell grammar o (later (said_rule t))) (sym e)
        ∙ ap (λ (o : Option ℕ). tell long o (tell grammar (place_rule t) (later (said_rule t)))) (sym (not_longer most_rule_bytes (length t) l))
        ∙ read_before t (grammar_no_equal t (x, h))
        ∙ ap (judge_parts t) (sym (cut_one t (x, h)))
    short (two x y) h l e =
        let n = length-append (spell_t x) (61 ∷ (62 ∷ spell_t y)) in
        let k = ap (λ (z : List ℕ). length z) h.1 in
        ap later (said_rule_is t (two x y) h)
        ∙ judge_sides x y (spell_t x) (spell_t y) (h.0.0, refl) (h.0.1, refl) (omega arith) (omega arith)
        ∙ ap (judge_parts t) (sym ((cut_iff t (spell_t x) (spell_t y)).1 ((x, (h.0.0, refl)), h.1)))

    at : (o : Option ℕ) → place_rule t ≡ o → length t ≤ most_rule_bytes → tell grammar o (later (said_rule t)) ≡ tell grammar o (judge_parts t (cut t))
    at (some p) e l = refl
    at none e l = let g = (place_rule_none t).1 e in short g.0 g.1 l e

    on : (d : Dec (most_rule_bytes < length t))
        → tell long (ite d (some most_rule_bytes) none) (tell grammar (place_rule t) (later (said_rule t)))
        ≡ tell long (ite d (some most_rule_bytes) none) (tell grammar (place_rule t) (judge_parts t (cut t)))
    on (yes h) = refl
    on (no h) = at (place_rule t) refl (omega arith)

-- ---- WHERE 1 AND 2 DO NOT APPLY: without a cut the text is one side, with one each side is read by itself

module _ (t : List ℕ) (short : longer most_rule_bytes (length t) ≡ none) (parses : place_rule t ≡ none) where
  judge_past : read_rule t ≡ judge_parts t (cut t)
  judge_past = judge_is t ∙ ap₂ (λ (o p : Option ℕ). tell long o (tell grammar p (judge_parts t (cut t)))) short parses

  pub judge_one : cut t ≡ none → read_rule t ≡ as_rule (read_side t)
  judge_one e = judge_past ∙ ap (judge_parts t) e

  pub judge_two_lem : (a u : List ℕ) → cut t ≡ some (a, u) → read_rule t ≡ judge_two a u
  judge_two_lem a u e = judge_past ∙ ap (judge_parts t) e
