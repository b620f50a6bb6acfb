-- One pass finds the first refusal from 3 on that applies, and its leftmost place.
use mathlib.Core.Path.{◌≡◌, refl, sym, ◌∙◌, ap, subst}
use mathlib.Core.Logic.{◌≢◌, ◌↔◌, ◌⊎◌, inl, inr, ite}
use mathlib.Core.Bool.{Bool, true, false, not, ◌||◌, cond}
use mathlib.Core.Option.{Option, none, some, map}
use mathlib.Core.List.{List, [], ◌∷◌, ◌++◌, foldl, append-nil}
use Prim.Native.Nat.{ℕ, suc, ◌+◌, ◌<◌, ◌≤◌}
use native.Mathlib.Omega.{arith, by_contra}
use native.Mathlib.Decide.{dec_lt}
use borrow.Author.Tests.{lt-ltb, le-ltb, eq-eqb, ne_eqb}
use lib.Dec.{ltb}
use lib.ListN.{length, drop}
use Rattle.base_limits.specs.Limits.{most_fields, most_digits, lowest_integer, longest_string, largest_number}
use Rattle.base_lists.specs.Seqs.{All, Any}
use Rattle.math_types.specs.Order.{basic, list}
use Rattle.math_types.specs.Types.{is_list}
use Rattle.math_types.specs.Values.{kind_of, kind_from, kind_of_from}
use Rattle.text_grammar.specs.Grammar.{Raw, raw_var, raw_empty, spell, spell_f, FieldOk, raw_con}
use Rattle.text_grammar.specs.constants.Constants.{limit, raw_int, raw_str, RawCon, OverCon}
use Rattle.text_grammar.specs.Numbers.{value}
use Rattle.text_grammar.specs.Leftmost.{leftmost}
use Rattle.text_grammar.specs.Tokens.{Token, tokens, tokens_f, tokens_t, FifthField, TooMany, Over, over?, fifth?, many?, IsVar, is_var?}
use Rattle.text_grammar.specs.Tokens.{list_no, Occ, occ, occs, Clash, ClashOf, clash_of?}
use Rattle.text_grammar.specs.Read.{Reason, fields, terms, limits, linear, variable, Bad, bad?, place_of_token, first_bad, chain}
use Rattle.text_grammar.proofs.Fields.{occs_append}
use Rattle.text_grammar.proofs.constants.Constants.{limit_lowest}
use Rattle.text_accepted.specs.declared.linearity.Lists.{Lists}
use Rattle.text_accepted.specs.linearity.Lists.{no_lists, next_field, still_ok, add_list}
use Rattle.text_accepted.proofs.linearity.Linear.{Tracks, tracks_none, tracks_next, tracks_add, tracks_clash}
use Rattle.text_scan.specs.Lexemes.{capped, literal_of, literal_size, literal_value, lexeme_of}
use Rattle.text_refusals.specs.declared.verdicts.Reason as values
use Rattle.text_refusals.specs.declared.verdicts.Reason.TheVariants.{Fields, Terms, Limits, Linear, Variable}
use Rattle.std.specs.Prelude.{Ok, Err}
use Rattle.text_refusals.specs.verdicts.Verdicts.{Verdict, Accepted, Refused}
use Rattle.text_refusals.specs.verdicts.Verdicts.{number_of, reason_from, verdict_of, first_of}
use Rattle.text_refusals.proofs.verdicts.Verdicts.{first_former, first_latter, first_none, first_assoc, first_keeps, first_takes}
use Rattle.text_refusals.proofs.verdicts.Verdicts.{refused_by, verdict_by, verdict_chain, Behind, behind_less, Rising, verdict_behind}
use Rattle.text_refusals.specs.declared.Sort.{Sort}
use Rattle.text_refusals.specs.declared.Sort.TheVariants.{Rule, Slip}
use Rattle.text_refusals.specs.declared.Survey.{Survey}
use Rattle.text_refusals.specs.Refusals.{over_literal, over_lexeme, clash_by, variable_by, last_bad, last_reason, met, add_by, lists_at, at_of, survey_token}
use Rattle.text_refusals.specs.Refusals.{nothing_yet}

-- ---- the tests of the code and the decisions of the definition

lt_cond : {A : Type 0} (a b : ℕ) (d : Dec (a < b)) (x y : A) → cond (ltb a b) x y ≡ ite d x y
lt_cond a b (yes h) x y = rw (lt-ltb a b h)
lt_cond a b (no n) x y = rw (le-ltb a b (omega arith))

lt_same : (a b c : ℕ) → (a < b → a < c) → (a < c → a < b) → ltb a b ≡ ltb a c
lt_same a b c f g = go (dec_lt a b)
  where
    go : Dec (a < b) → ltb a b ≡ ltb a c
    go (yes h) = lt-ltb a b h ∙ sym (lt-ltb a c (f h))
    go (no n) = le-ltb a b (omega arith) ∙ sym (le-ltb a c (by_contra c a (λ k. n (g k))))

-- cutting a value above the largest magnitude changes no test
capped_test : (a v : ℕ) → a ≤ lowest_integer → ltb a (capped v) ≡ ltb a v
capped_test a v h = lt_same a (capped v) v (λ k. omega arith) (λ k. omega arith)

literal_cond : {A : Type 0} (r : RawCon) (d : Dec (OverCon r)) (x y : A) → cond (over_literal (literal_of r) (literal_size r) (literal_value r)) x y ≡ ite d x y
literal_cond (raw_int m ds) d x y = rw (capped_test (limit m) (value ds) (limit_lowest m)) (go (dec_lt most_digits (length ds)) (dec_lt (limit m) (value ds)) d)
  where
    go : Dec (most_digits < length ds) → Dec (limit m < value ds) → (d : Dec (OverCon (raw_int m ds)))
        → cond (ltb most_digits (length ds) || ltb (limit m) (value ds)) x y ≡ ite d x y
    go (yes h) e (yes o) = rw (lt-ltb most_digits (length ds) h)
    go (yes h) e (no o) = absurd (o (inl h))
    go (no n) (yes h) (yes o) = rw (le-ltb most_digits (length ds) (omega arith), lt-ltb (limit m) (value ds) h)
    go (no n) (yes h) (no o) = absurd (o (inr h))
    go (no n) (no k) (yes (inl o)) = absurd (n o)
    go (no n) (no k) (yes (inr o)) = absurd (k o)
    go (no n) (no k) (no o) = rw (le-ltb most_digits (length ds) (omega arith), le-ltb (limit m) (value ds) (omega arith))
literal_cond (raw_str s) d x y = lt_cond longest_string (length s) d x y

over_cond : {A : Type 0} (r : Raw) (d : Dec (Over r)) (x y : A) → cond (over_lexeme (lexeme_of r)) x y ≡ ite d x y
over_cond (raw_con r) d x y = literal_cond r d x y
over_cond (raw_var k ds) d x y = rw (capped_test largest_number (value ds) (omega arith)) (lt_cond largest_number (value ds) d x y)
over_cond raw_empty (yes o) x y = absurd o
over_cond raw_empty (no n) x y = refl

-- ---- several reasons, each at its leftmost place, met in one pass

-- the reasons from 3 on, in their order
abbrev pub reasons : Sort → List Reason
reasons Slip = fields ∷ terms ∷ limits ∷ variable ∷ []
reasons Rule = fields ∷ terms ∷ limits ∷ linear ∷ []

rising : (s : Sort) → Rising 2 (reasons s)
rising Slip = (omega arith, (omega arith, (omega arith, (omega arith, tt))))
rising Rule = (omega arith, (omega arith, (omega arith, (omega arith, tt))))

module _ (w : ℕ) where
  -- where a reason applies first, behind the tokens b
  abbrev places : List Token → List Token → Reason → Option ℕ
  places b ms r = map place_of_token (leftmost (Bad w r) (bad? w r) b ms)

  -- the first of the reasons that m is bad for
  abbrev met_by : List Token → Token → List Reason → Verdict
  met_by b m [] = Accepted
  met_by b m (r ∷ rs) = ite (bad? w r b m) (Refused (reason_from r) m.place) (met_by b m rs)

  met_behind : (n : ℕ) (b : List Token) (m : Token) (rs : List Reason) → Rising n rs → Behind n (met_by b m rs)
  met_behind n b m [] h = tt
  met_behind n b m (r ∷ rs) h = go (bad? w r b m) (met_behind (number_of (reason_from r)) b m rs h.1)
    where
      go : (d : Dec (Bad w r b m)) → Behind (number_of (reason_from r)) (met_by b m rs) → Behind n (ite d (Refused (reason_from r) m.place) (met_by b m rs))
      go (yes x) g = h.0
      go (no x) g = behind_less n (number_of (reason_from r)) (met_by b m rs) h.0 g

  -- with a token more in front: what it meets, or what is met behind it
  met_step : (n : ℕ) (b : List Token) (m : Token) (ms : List Token) (rs : List Reason) → Rising n rs
      → verdict_by (places b (m ∷ ms)) rs ≡ first_of (met_by b m rs) (verdict_by (places (b ++ m ∷ []) ms) rs)
  met_step n b m ms [] h = refl
  met_step n b m ms (r ∷ rs) h =
      let k = number_of (reason_from r) in
      let later = verdict_by (places (b ++ m ∷ []) ms) rs in
      go (bad? w r b m) (leftmost (Bad w r) (bad? w r) (b ++ m ∷ []) ms) (verdict_by (places b (m ∷ ms)) rs) (met_by b m rs) later (met_step k b m ms rs h.1)
      (met_behind k b m rs h.1) (verdict_behind k (places (b ++ m ∷ []) ms) rs h.1)
    where
      go : (d : Dec (Bad w r b m)) (o : Option Token) (v u v' : Verdict) → v ≡ first_of u v'
          → Behind (number_of (reason_from r)) u → Behind (number_of (reason_from r)) v'
          → refused_by r (map place_of_token (ite d (some m) o)) v
          ≡ first_of (ite d (Refused (reason_from r) m.place) u) (refused_by r (map place_of_token o) v')
      go (yes x) (some k) v u v' e g g' = sym (first_former (reason_from r) (reason_from r) m.place k.place (omega arith))
      go (yes x) none v u v' e g g' = sym (first_keeps (reason_from r) m.place v' g')
      go (no x) (some k) v u v' e g g' = sym (first_takes (reason_from r) k.place u g)
      go (no x) none v u v' e g g' = e

-- ---- the last reason

list_kind : (k : _) → is_list (kind_of (kind_from k)) ≡ is_list k
list_kind k = ap is_list (kind_of_from k)

-- a refusal that is tried no later than 6, so that a later term's 6 does not count any more
abbrev Late : Verdict → Type 0
Late (Ok u) = ⊥
Late (Err x) = number_of x.reason ≤ 6

late_first : (v u : Verdict) → Late v → Late (first_of v u)
late_first (Ok t) u h = absurd h
late_first (Err x) (Ok t) h = h
late_first (Err x) (Err y) h = go (dec_lt (number_of y.reason) (number_of x.reason))
  where
    go : Dec (number_of y.reason < number_of x.reason) → Late (first_of (Err x) (Err y))
    go (yes g) = rw (first_latter x.reason y.reason x.place y.place g) (omega arith)
    go (no g) = rw (first_former x.reason y.reason x.place y.place (omega arith)) h

late_met : (v : Verdict) (r : values.Reason) (p : ℕ) → number_of r ≤ 6 → Late (first_of v (Refused r p))
late_met (Ok t) r p h = h
late_met (Err y) r p h = go (dec_lt (number_of r) (number_of y.reason))
  where
    go : Dec (number_of r < number_of y.reason) → Late (first_of (Err y) (Refused r p))
    go (yes g) = rw (first_latter y.reason r y.place p g) h
    go (no g) = rw (first_former y.reason r y.place p (omega arith)) (omega arith)

late_same : (v : Verdict) (p : ℕ) {P : Type 0} (c : Bool) (d : Dec P) → Late v
    → first_of v (cond c (Refused Linear p) Accepted) ≡ first_of v (ite d (Refused Linear p) Accepted)
late_same (Ok t) p c d h = absurd h
late_same (Err x) p c d h = cond_is c ∙ sym (ite_is d)
  where
    stays : first_of (Err x) (Refused Linear p) ≡ Err x
    stays = first_former x.reason Linear x.place p h

    cond_is : (c : Bool) → first_of (Err x) (cond c (Refused Linear p) Accepted) ≡ Err x
    cond_is true = stays
    cond_is false = refl

    ite_is : {P : Type 0} (d : Dec P) → first_of (Err x) (ite d (Refused Linear p) Accepted) ≡ Err x
    ite_is (yes x) = stays
    ite_is (no x) = refl

-- what is known of the list variables before a term of field n: nothing is needed of a sort, nor where 6 does not count any more
abbrev Valid : Sort → List Token → ℕ → Lists → Verdict → Type 0
Valid Slip b n l v = Unit {0}
Valid Rule b n l v = Late v ⊎ (Tracks (occs b) n l × (l.ok ≡ true))

module _ (w : ℕ) where
  variable_last : {A : Type 0} (r : Raw) (d : Dec (IsVar r)) (x y : A) → cond (variable_by (lexeme_of r).what) x y ≡ ite d x y
  variable_last (raw_con r) (yes h) x y = absurd h
  variable_last (raw_con r) (no h) x y = refl
  variable_last (raw_var k ds) (yes h) x y = refl
  variable_last (raw_var k ds) (no h) x y = absurd (h tt)
  variable_last raw_empty (yes h) x y = absurd h
  variable_last raw_empty (no h) x y = refl

  linear_last : {A : Type 0} (b : List Occ) (n : ℕ) (l : Lists) (r : Raw) (d : Dec (ClashOf b n (list_no r))) (x y : A)
      → Tracks b n l → l.ok ≡ true → (Over r → ⊥)
      → cond (clash_by (lexeme_of r).what (lexeme_of r).value l) x y ≡ ite d x y
  linear_last b n l (raw_con r) (yes h) x y t o v = absurd h
  linear_last b n l (raw_con r) (no h) x y t o v = refl
  linear_last b n l (raw_var (basic k) ds) (yes h) x y t o v = absurd h
  linear_last b n l (raw_var (basic k) ds) (no h) x y t o v = rw (list_kind (basic k))
  linear_last {A} b n l (raw_var list ds) d x y t o v =
      let small : value ds ≤ largest_number = omega arith in
      let e : capped (value ds) ≡ value ds = omega arith in
      rw e (go d (tracks_clash (value ds) t small o))
    where
      go : (d : Dec (Any (Clash (n, value ds)) b)) → ((still_ok l (value ds) ≡ false) ↔ Any (Clash (n, value ds)) b)
          → cond (not (still_ok l (value ds))) x y ≡ ite d x y
      go (yes h) f = rw (f.1 h)
      go (no h) f = still (still_ok l (value ds)) (λ e. h (f.0 e))
        where
          still : (c : Bool) → (c ≡ false → ⊥) → cond (not c) x y ≡ y
          still true k = refl
          still false k = absurd (k refl)
  linear_last b n l raw_empty (yes h) x y t o v = absurd h
  linear_last b n l raw_empty (no h) x y t o v = refl

  -- the last reason, as the code finds it
  abbrev last_met : Sort → Token → Lists → Verdict
  last_met sort m l = cond (last_bad sort (lexeme_of m.raw) l) (Refused (last_reason sort) m.place) Accepted

  -- a term that is not refused before: the last reason
  last_is : (sort : Sort) (b : List Token) (m : Token) (l : Lists) (v : Verdict) → Valid sort b m.in_field l v → (Over m.raw → ⊥)
      → first_of v (last_met sort m l) ≡ first_of v (met_by w b m (drop 3 (reasons sort)))
  last_is Slip b m l v a o = ap (first_of v) (variable_last m.raw (is_var? m.raw) (Refused Variable m.place) Accepted)
  last_is Rule b m l v (inl h) o = late_same v m.place (last_bad Rule (lexeme_of m.raw) l) (clash_of? (occs b) m.in_field (list_no m.raw)) h
  last_is Rule b m l v (inr h) o =
      let d = clash_of? (occs b) m.in_field (list_no m.raw) in
      ap (first_of v) (linear_last (occs b) m.in_field l m.raw d (Refused Linear m.place) Accepted h.0 h.1 o)

  reasons_are : (sort : Sort) (b : List Token) (m : Token)
      → met_by w b m (reasons sort)
      ≡ ite (fifth? b m) (Refused Fields m.place)
      (ite (many? w b m) (Refused Terms m.place) (ite (over? m.raw) (Refused Limits m.place) (met_by w b m (drop 3 (reasons sort)))))
  reasons_are Slip b m = refl
  reasons_are Rule b m = refl

  -- the code finds the first reason that a token is bad for, or another that does not count
  close : (sort : Sort) (b : List Token) (m : Token) (l : Lists) (v : Verdict) → Valid sort b m.in_field l v
      → first_of v (met sort w (at_of m) (lexeme_of m.raw) l) ≡ first_of v (met_by w b m (reasons sort))
  close sort b m l v a =
      ap (first_of v) (lt_cond most_fields m.in_field (fifth? b m) (Refused Fields m.place) _
      ∙ ap (ite (fifth? b m) (Refused Fields m.place)) (lt_cond w m.index (many? w b m) (Refused Terms m.place) _
      ∙ ap (ite (many? w b m) (Refused Terms m.place)) (over_cond m.raw (over? m.raw) (Refused Limits m.place) (last_met sort m l))))
      ∙ go (fifth? b m) (many? w b m) (over? m.raw) (last_met sort m l) (met_by w b m (drop 3 (reasons sort))) (last_is sort b m l v a)
      ∙ ap (first_of v) (sym (reasons_are sort b m))
    where
      go : (d3 : Dec (FifthField m)) (d4 : Dec (TooMany w m)) (d5 : Dec (Over m.raw)) (x y : Verdict) → ((Over m.raw → ⊥) → first_of v x ≡ first_of v y)
          → first_of v (ite d3 (Refused Fields m.place) (ite d4 (Refused Terms m.place) (ite d5 (Refused Limits m.place) x)))
          ≡ first_of v (ite d3 (Refused Fields m.place) (ite d4 (Refused Terms m.place) (ite d5 (Refused Limits m.place) y)))
      go (yes h) d4 d5 x y f = refl
      go (no n) (yes h) d5 x y f = refl
      go (no n) (no k) (yes h) x y f = refl
      go (no n) (no k) (no u) x y f = f u

-- ---- from token to token

-- a token begins the next field, or goes on in this one
abbrev Onward : ℕ → Token → Type 0
Onward n m = ((m.index ≡ 1) × (m.in_field ≡ suc n)) ⊎ ((m.index ≢ 1) × (m.in_field ≡ n))

abbrev Steps : ℕ → List Token → Type 0
Steps n [] = Unit {0}
Steps n (m ∷ ms) = Onward n m × Steps m.in_field ms

steps_field : (rs : List Raw) (p n i : ℕ) (ms : List Token) → Steps n ms → Steps n (tokens_f p n (suc (suc i)) rs ++ ms)
steps_field [] p n i ms h = h
steps_field (r ∷ rs) p n i ms h = (inr (λ e. omega arith, refl), steps_field rs (suc (p + length (spell r))) n (suc i) ms h)

pub steps_text : (x : List (List Raw)) (p n : ℕ) → All FieldOk x → Steps n (tokens_t p (suc n) x)
steps_text [] p n g = tt
steps_text ([] ∷ fs) p n g = absurd g.0.0
steps_text ((r ∷ rs) ∷ fs) p n g =
    let k = suc (p + length (spell_f (r ∷ rs))) in
    (inl (refl, refl), steps_field rs (suc (p + length (spell r))) (suc n) 0 (tokens_t k (suc (suc n)) fs) (steps_text fs k (suc n) g.1))

occs_one : (b : List Token) (m : Token) → occs (b ++ m ∷ []) ≡ occs b ++ occ m.in_field (list_no m.raw)
occs_one b m = occs_append b (m ∷ []) ∙ ap (λ (l : List Occ). occs b ++ l) (append-nil (occ m.in_field (list_no m.raw)))

-- where a field begins
entered : (sort : Sort) (b : List Token) (n : ℕ) (m : Token) (l : Lists) (v : Verdict) → Onward n m → Valid sort b n l v
    → Valid sort b m.in_field (lists_at (at_of m) l) v
entered Slip b n m l v s a = tt
entered Rule b n m l v s (inl h) = inl h
entered Rule b n m l v (inl s) (inr a) =
    inr (rw (eq-eqb m.index 1 s.0) (subst (λ (k : ℕ). Tracks (occs b) k (next_field l)) (sym s.1) (tracks_next a.0), a.1))
entered Rule b n m l v (inr s) (inr a) =
    inr (rw (ne_eqb m.index 1 s.0) (subst (λ (k : ℕ). Tracks (occs b) k l) (sym s.1) a.0, a.1))

-- the list variables with a term
abbrev add_raw : Raw → Lists → Lists
add_raw r l = add_by (lexeme_of r).what (lexeme_of r).value l

module _ (w : ℕ) where
  -- behind a term
  module _ (b : List Token) (m : Token) (l : Lists) (v : Verdict) (t : Tracks (occs b) m.in_field l) (o : l.ok ≡ true) where
    abbrev Follows : Raw → Type 0
    Follows r = Tracks (occs b ++ occ m.in_field (list_no r)) m.in_field (add_raw r l) × ((add_raw r l).ok ≡ true)

    plain_then : Tracks (occs b ++ []) m.in_field l × (l.ok ≡ true)
    plain_then = (subst (λ (z : List Occ). Tracks z m.in_field l) (sym (append-nil (occs b))) t, o)

    added : (r : Raw) → (Over r → ⊥) → (ClashOf (occs b) m.in_field (list_no r) → ⊥) → Follows r
    added (raw_con r) u c = plain_then
    added (raw_var (basic k) ds) u c = rw (list_kind (basic k)) plain_then
    added (raw_var list ds) u c =
        let small : value ds ≤ largest_number = omega arith in
        let e : capped (value ds) ≡ value ds = omega arith in
        rw e (go (still_ok l (value ds)) refl (tracks_clash (value ds) t small o) (tracks_add (value ds) t small))
      where
        go : (s : Bool) → still_ok l (value ds) ≡ s → ((still_ok l (value ds) ≡ false) ↔ Any (Clash (m.in_field, value ds)) (occs b))
            → Tracks (occs b ++ (m.in_field, value ds) ∷ []) m.in_field (add_list l (value ds))
            → Tracks (occs b ++ (m.in_field, value ds) ∷ []) m.in_field (add_list l (value ds)) × (still_ok l (value ds) ≡ true)
        go true q f a = (a, q)
        go false q f a = absurd (c (f.0 q))
    added raw_empty u c = plain_then

    abbrev here : values.Reason → Verdict
    here r = Refused r m.place

    -- where it is refused, 6 does not count any more
    follows : Late (first_of v (met_by w b m (reasons Rule))) ⊎ Follows m.raw
    follows = go (fifth? b m) (many? w b m) (over? m.raw) (clash_of? (occs b) m.in_field (list_no m.raw))
      where
        go : (d3 : Dec (FifthField m)) (d4 : Dec (TooMany w m)) (d5 : Dec (Over m.raw)) (d6 : Dec (ClashOf (occs b) m.in_field (list_no m.raw)))
            → Late (first_of v (ite d3 (here Fields) (ite d4 (here Terms) (ite d5 (here Limits) (ite d6 (here Linear) Accepted))))) ⊎ Follows m.raw
        go (yes h) d4 d5 d6 = inl (late_met v Fields m.place (omega arith))
        go (no n) (yes h) d5 d6 = inl (late_met v Terms m.place (omega arith))
        go (no n) (no k) (yes h) d6 = inl (late_met v Limits m.place (omega arith))
        go (no n) (no k) (no u) (yes x) = inl (late_met v Linear m.place (omega arith))
        go (no n) (no k) (no u) (no x) = inr (added m.raw u x)

  behind : (sort : Sort) (b : List Token) (m : Token) (l : Lists) (v : Verdict) → Valid sort b m.in_field l v
      → Valid sort (b ++ m ∷ []) m.in_field (add_raw m.raw l) (first_of v (met_by w b m (reasons sort)))
  behind Slip b m l v a = tt
  behind Rule b m l v (inl h) = inl (late_first v (met_by w b m (reasons Rule)) h)
  behind Rule b m l v (inr a) =
      subst
      (λ (z : List Occ). Late (first_of v (met_by w b m (reasons Rule))) ⊎ (Tracks z m.in_field (add_raw m.raw l) × ((add_raw m.raw l).ok ≡ true)))
      (sym (occs_one b m)) (follows b m l v a.0 a.1)

module _ (sort : Sort) (w : ℕ) where
  survey_from : (ms b : List Token) (n : ℕ) (s : Survey) → Steps n ms → Valid sort b n s.lists s.verdict
      → (foldl (survey_token sort w) s ms).verdict ≡ first_of s.verdict (verdict_by (places w b ms) (reasons sort))
  survey_from [] b n s h a = none_left sort
    where
      none_left : (sort : Sort) → s.verdict ≡ first_of s.verdict (verdict_by (places w b []) (reasons sort))
      none_left Slip = sym (first_none s.verdict)
      none_left Rule = sym (first_none s.verdict)
  survey_from (m ∷ ms) b n s h a =
      let v = s.verdict in
      let l = lists_at (at_of m) s.lists in
      let here = met_by w b m (reasons sort) in
      let at = entered sort b n m s.lists v h.0 a in
      let e = close w sort b m l v at in
      survey_from ms (b ++ m ∷ []) m.in_field (survey_token sort w s m) h.1
      (subst (Valid sort (b ++ m ∷ []) m.in_field (add_raw m.raw l)) (sym e) (behind w sort b m l v at))
      ∙ ap (λ (z : Verdict). first_of z (verdict_by (places w (b ++ m ∷ []) ms) (reasons sort))) e
      ∙ first_assoc v here (verdict_by (places w (b ++ m ∷ []) ms) (reasons sort))
      ∙ ap (first_of v) (sym (met_step w 2 b m ms (reasons sort) (rising sort)))

  -- THE SURVEY of a text's tokens: the first refusal from 3 on that applies, at its leftmost place
  pub survey_by : (x : List (List Raw)) → All FieldOk x
      → (foldl (survey_token sort w) nothing_yet (tokens x)).verdict ≡ verdict_by (λ (r : Reason). first_bad w r x) (reasons sort)
  survey_by x g = survey_from (tokens x) [] 0 nothing_yet (steps_text x 0 0 g) (start sort)
    where
      start : (sort : Sort) → Valid sort [] 0 no_lists Accepted
      start Slip = tt
      start Rule = inr (tracks_none 0, refl)

  -- whatever is accepted otherwise
  pub survey_is : {X : Type 0} (x : List (List Raw)) (y : X) → All FieldOk x
      → (foldl (survey_token sort w) nothing_yet (tokens x)).verdict ≡ verdict_of (chain (λ (r : Reason). first_bad w r x) (reasons sort) y)
  survey_is x y g = survey_by x g ∙ sym (verdict_chain (λ (r : Reason). first_bad w r x) (reasons sort) y)
