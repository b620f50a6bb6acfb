-- The walk from the left meets the tokens of what a text says.
use mathlib.Core.Path.{◌≡◌, refl, sym, ◌∙◌, ap}
use mathlib.Core.Bool.{true, false}
use mathlib.Core.Logic.{if_pos, if_neg}
use mathlib.Core.List.{List, [], ◌∷◌, ◌++◌, append_assoc, append-nil}
use Prim.Native.Nat.{ℕ, zero, suc, ◌+◌, ◌≤◌}
use native.Mathlib.Omega.{arith}
use native.Mathlib.Decide.{ℕ_discrete, dec_le}
use lib.ListN.{length, length-append, drop}
use lib.Seq.{drop_at}
use Rattle.base_lists.specs.Seqs.{All, IsCons, cons_is}
use Rattle.math_types.specs.Types.{Kind}
use Rattle.text_grammar.specs.Bytes.{Digit, Inside, letter, digit?, Begins, begins}
use Rattle.text_grammar.specs.Grammar.{Raw, raw_var, raw_empty, spell, Proper, colons, spell_f, bars, spell_t, FieldOk, TextOk, Says, raw_con}
use Rattle.text_grammar.specs.constants.Constants.{raw_int, raw_str, RawCon, spell_con, ProperCon}
use Rattle.text_grammar.specs.Tokens.{Token, tokens_f, tokens_t, tokens}
use Rattle.text_grammar.specs.Walk.{digits1, leading_digits, quote1, until_quote, front_b, front, walk_on, walk, walked}
use Rattle.text_grammar.proofs.Begun.{begun_digit, begun_letter}
use Rattle.text_grammar.proofs.Numbers.{number_digits}
use Rattle.text_grammar.proofs.constants.Constants.{con_some}

-- what stands behind a term begins with no digit
abbrev pub NoDigit : List ℕ → Type 0
NoDigit [] = Unit {0}
NoDigit (b ∷ t) = Digit b → ⊥

digits_none : (z : List ℕ) → NoDigit z → leading_digits z ≡ []
digits_none [] h = refl
digits_none (b ∷ z) h = go (digit? b)
  where
    go : (d : Dec (Digit b)) → digits1 d b (leading_digits z) ≡ []
    go (yes x) = absurd (h x)
    go (no n) = refl

digits_are : (s z : List ℕ) → All Digit s → NoDigit z → leading_digits (s ++ z) ≡ s
digits_are [] z a h = digits_none z h
digits_are (b ∷ s) z a h = go (digit? b) ∙ ap (λ (l : List ℕ). b ∷ l) (digits_are s z a.1 h)
  where
    go : (d : Dec (Digit b)) → digits1 d b (leading_digits (s ++ z)) ≡ b ∷ leading_digits (s ++ z)
    go (yes x) = refl
    go (no n) = absurd (n a.0)

quote_is : (s z : List ℕ) → All Inside s → until_quote (s ++ 34 ∷ z) ≡ s
quote_is [] z a = go (ℕ_discrete 34 34)
  where
    go : (d : Dec (◌≡◌ {A = ℕ} 34 34)) → quote1 d 34 (until_quote z) ≡ []
    go (yes x) = refl
    go (no n) = absurd (n refl)
quote_is (b ∷ s) z a = go (ℕ_discrete b 34) ∙ ap (λ (l : List ℕ). b ∷ l) (quote_is s z a.1)
  where
    go : (d : Dec (b ≡ 34)) → quote1 d b (until_quote (s ++ 34 ∷ z)) ≡ b ∷ until_quote (s ++ 34 ∷ z)
    go (yes x) = absurd (a.0.2 x)
    go (no n) = refl

pub front_digit : (b : ℕ) (z : List ℕ) (c : Begins b) → Digit b → front_b b z c ≡ raw_con (raw_int false (b ∷ leading_digits z))
front_digit b z c d = ap (front_b b z) (begun_digit b c d).1

front_letter : (k : Kind) (z : List ℕ) → front (letter k ∷ z) ≡ raw_var k (leading_digits z)
front_letter k z = ap (front_b (letter k) z) (begun_letter k (begins (letter k))).1

front_minus : (z : List ℕ) → front (45 ∷ z) ≡ raw_con (raw_int true (leading_digits z))
unfolding begins digit? dec_le ℕ_discrete
front_minus z = refl

front_quote : (z : List ℕ) → front (34 ∷ z) ≡ raw_con (raw_str (until_quote z))
unfolding begins digit? dec_le ℕ_discrete
front_quote z = refl

front_e : (z : List ℕ) → front (101 ∷ z) ≡ raw_empty
unfolding begins digit? dec_le ℕ_discrete
front_e z = refl

front_con : (r : RawCon) (z : List ℕ) → ProperCon r → NoDigit z → front (spell_con r ++ z) ≡ raw_con r
front_con (raw_int true ds) z p h = front_minus (ds ++ z) ∙ ap (λ (l : List ℕ). raw_con (raw_int true l)) (digits_are ds z p.1 h)
front_con (raw_int false []) z p h = absurd p.0
front_con (raw_int false (d ∷ ds)) z p h =
    front_digit d (ds ++ z) (begins d) p.1.0 ∙ ap (λ (l : List ℕ). raw_con (raw_int false (d ∷ l))) (digits_are ds z p.1.1 h)
front_con (raw_str s) z p h =
    ap (λ (l : List ℕ). front (34 ∷ l)) (append_assoc s (34 ∷ []) z) ∙ front_quote (s ++ 34 ∷ z) ∙ ap (λ (l : List ℕ). raw_con (raw_str l)) (quote_is s z p)

-- THE FRONT of a text is its first term
pub front_is : (r : Raw) (z : List ℕ) → Proper r → NoDigit z → front (spell r ++ z) ≡ r
front_is (raw_con r) z p h = front_con r z p h
front_is (raw_var k ds) z p h = front_letter k (ds ++ z) ∙ ap (raw_var k) (digits_are ds z (number_digits ds p).1 h)
front_is raw_empty z p h = front_e (109 ∷ 112 ∷ 116 ∷ 121 ∷ z)

pub no_digit : (rs : List Raw) (fs : List (List Raw)) → NoDigit (colons rs ++ bars fs)
no_digit [] [] = tt
no_digit [] (f ∷ fs) = λ d. omega arith
no_digit (r ∷ rs) fs = λ d. omega arith

-- one step of the walk over a text that is not at its end
abbrev pub next : ℕ → List ℕ → ℕ → ℕ → ℕ → Raw → List Token
next room z p n i r = record { place = p; in_field = n; index = i; raw = r } ∷ walk_on (walk room) (p + length (spell r)) n i (drop (length (spell r)) z)

pub walk_step : (room : ℕ) (z : List ℕ) (p n i : ℕ) → IsCons z → walk (suc room) z p n i ≡ next room z p n i (front z)
walk_step room [] p n i h = absurd h
walk_step room (b ∷ z) p n i h = refl

spell_cons : (r : Raw) (z : List ℕ) → Proper r → IsCons (spell r ++ z)
spell_cons (raw_con r) z p = go (spell_con r) (con_some r p)
  where
    go : (l : List ℕ) → IsCons l → IsCons (l ++ z)
    go [] c = absurd c
    go (b ∷ l) c = tt
spell_cons (raw_var k ds) z p = tt
spell_cons raw_empty z p = tt

-- the walk over a term and what stands behind it
pub walk_term : (room : ℕ) (r : Raw) (z : List ℕ) (p n i : ℕ) → Proper r → NoDigit z
    → walk (suc room) (spell r ++ z) p n i ≡ record { place = p; in_field = n; index = i; raw = r } ∷ walk_on (walk room) (p + length (spell r)) n i z
walk_term room r z p n i h d =
    walk_step room (spell r ++ z) p n i (spell_cons r z h)
    ∙ ap (next room (spell r ++ z) p n i) (front_is r z h d)
    ∙ ap (λ (l : List ℕ). record { place = p; in_field = n; index = i; raw = r } ∷ walk_on (walk room) (p + length (spell r)) n i l)
    (drop_at (spell r) z (length (spell r)) refl)

abbrev pub total : List (List Raw) → ℕ
total [] = 0
total (f ∷ fs) = length f + total fs

walk_from : (room : ℕ) (r : Raw) (rs : List Raw) (fs : List (List Raw)) (p n i : ℕ)
    → Proper r → All Proper rs → All FieldOk fs → suc (length rs) + total fs ≤ room
    → walk room (spell_f (r ∷ rs) ++ bars fs) p n i ≡ tokens_f p n i (r ∷ rs) ++ tokens_t (suc (p + length (spell_f (r ∷ rs)))) (suc n) fs
walk_from zero r rs fs p n i a b c h = absurd (omega arith)
walk_from (suc room) r rs fs p n i a b c h =
    ap (λ (z : List ℕ). walk (suc room) z p n i) (append_assoc (spell r) (colons rs) (bars fs))
    ∙ walk_term room r (colons rs ++ bars fs) p n i a (no_digit rs fs)
    ∙ ap (λ (l : List Token). record { place = p; in_field = n; index = i; raw = r } ∷ l)
    (go rs fs b c h (λ r' rs' fs' p' n' i' a' b' c' h'. walk_from room r' rs' fs' p' n' i' a' b' c' h'))
  where
    go : (rs : List Raw) (fs : List (List Raw)) → All Proper rs → All FieldOk fs → suc (length rs) + total fs ≤ suc room
        → ((r : Raw) (rs : List Raw) (fs : List (List Raw)) (p n i : ℕ) → Proper r → All Proper rs → All FieldOk fs → suc (length rs) + total fs ≤ room
        → walk room (spell_f (r ∷ rs) ++ bars fs) p n i ≡ tokens_f p n i (r ∷ rs) ++ tokens_t (suc (p + length (spell_f (r ∷ rs)))) (suc n) fs)
        → walk_on (walk room) (p + length (spell r)) n i (colons rs ++ bars fs)
        ≡ tokens_f (suc (p + length (spell r))) n (suc i) rs ++ tokens_t (suc (p + length (spell_f (r ∷ rs)))) (suc n) fs
    go [] [] b c h rec = refl
    go [] ([] ∷ fs) b c h rec = absurd c.0.0
    go [] ((s ∷ ss) ∷ fs) b c h rec =
        if_neg (ℕ_discrete 124 58) (λ e. omega arith) (walk room (spell_f (s ∷ ss) ++ bars fs) (suc (p + length (spell r))) n (suc i))
        (walk room (spell_f (s ∷ ss) ++ bars fs) (suc (p + length (spell r))) (suc n) 1)
        ∙ rec s ss fs (suc (p + length (spell r))) (suc n) 1 c.0.1.0 c.0.1.1 c.1 (omega arith)
        ∙ ap (λ (l : List ℕ). tokens_t (suc (p + length l)) (suc n) ((s ∷ ss) ∷ fs)) (sym (append-nil (spell r)))
    go (s ∷ ss) fs b c h rec =
        if_pos (ℕ_discrete 58 58) refl (walk room (spell_f (s ∷ ss) ++ bars fs) (suc (p + length (spell r))) n (suc i))
        (walk room (spell_f (s ∷ ss) ++ bars fs) (suc (p + length (spell r))) (suc n) 1)
        ∙ rec s ss fs (suc (p + length (spell r))) n (suc i) b.0 b.1 c (omega arith)
        ∙ ap (λ (m : ℕ). tokens_f (suc (p + length (spell r))) n (suc i) (s ∷ ss) ++ tokens_t (suc m) (suc n) fs)
        (omega (arith, length-append (spell r) (colons (s ∷ ss))))

pub walk_is : (x : List (List Raw)) (room : ℕ) → TextOk x → total x ≤ room → walk room (spell_t x) 0 1 1 ≡ tokens x
walk_is [] room ok h = absurd ok.0
walk_is ([] ∷ fs) room ok h = absurd ok.1.0.0
walk_is ((r ∷ rs) ∷ fs) room ok h = walk_from room r rs fs 0 1 1 ok.1.0.1.0 ok.1.0.1.1 ok.1.1 (omega arith)

-- as many rounds as the text has bytes are enough
pub spell_some : (r : Raw) → Proper r → 1 ≤ length (spell r)
spell_some (raw_con r) h = (cons_is (spell_con r)).1 (con_some r h)
spell_some (raw_var k ds) h = omega arith
spell_some raw_empty h = omega arith

colons_many : (rs : List Raw) → All Proper rs → length rs ≤ length (colons rs)
colons_many [] h = omega arith
colons_many (r ∷ rs) h = omega (arith, length-append (spell r) (colons rs), colons_many rs h.1)

field_many : (f : List Raw) → All Proper f → length f ≤ length (spell_f f)
field_many [] h = omega arith
field_many (r ∷ rs) h = omega (arith, length-append (spell r) (colons rs), spell_some r h.0, colons_many rs h.1)

bars_many : (fs : List (List Raw)) → All FieldOk fs → total fs ≤ length (bars fs)
bars_many [] h = omega arith
bars_many (f ∷ fs) h = omega (arith, length-append (spell_f f) (bars fs), field_many f h.0.1, bars_many fs h.1)

pub text_many : (x : List (List Raw)) → All FieldOk x → total x ≤ length (spell_t x)
text_many [] h = omega arith
text_many (f ∷ fs) h = omega (arith, length-append (spell_f f) (bars fs), field_many f h.0.1, bars_many fs h.1)

pub walk_says : (t : List ℕ) (x : List (List Raw)) → Says t x → walked t ≡ tokens x
walk_says t x s = ap (λ (l : List ℕ). walk (length l) l 0 1 1) s.1 ∙ walk_is x (length (spell_t x)) s.0 (text_many x s.0.1)
