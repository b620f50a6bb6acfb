-- Going through a text from place to place meets its terms one by one.
use mathlib.Core.Path.{◌≡◌, refl, sym, ◌∙◌, ap, ap₂}
use mathlib.Core.Logic.{ite}
use mathlib.Core.Bool.{Bool, true, false, ◌&&◌, cond}
use mathlib.Core.List.{List, [], ◌∷◌}
use Prim.Native.Nat.{ℕ, zero, suc, ◌+◌, ◌-◌, ◌<◌, ◌≤◌}
use native.Mathlib.Numerals.{add-one}
use native.Mathlib.Omega.{arith}
use native.Mathlib.Decide.{ℕ_discrete, dec_lt}
use borrow.Author.Tests.{lt-ltb, le-ltb, eq-eqb, ne_eqb}
use lib.Dec.{eqb}
use lib.ListN.{length, get_or, drop, length-append, length-drop, drop_of_length-le}
use lib.Seq.{drop-cons, drop-drop}
use Rattle.base_lists.specs.Seqs.{cons_is}
use Rattle.text_grammar.specs.Bytes.{Digit, digit?, Begins, b_digit, b_minus, b_quote, b_letter, b_e, b_none, begins}
use Rattle.text_grammar.specs.Grammar.{Raw, raw_var, raw_empty, spell, raw_con}
use Rattle.text_grammar.specs.constants.Constants.{raw_int, raw_str}
use Rattle.text_grammar.specs.Tokens.{Token}
use Rattle.text_grammar.specs.Walk.{digits1, leading_digits, quote1, until_quote, front_b, front, walk_on, walk}
use Rattle.text_grammar.proofs.Walk.{walk_step}
use Rattle.text_scan.specs.Lexemes.{lexeme_of}
use Rattle.text_refusals.specs.declared.At.{At}
use Rattle.text_passes.specs.Places.{spelled, behind, token_at, term_at, tokens_from}

-- the length of a written term, from its lexeme
pub spelled_is : (r : Raw) → spelled (lexeme_of r) ≡ length (spell r)
spelled_is (raw_con (raw_int true ds)) = omega arith
spelled_is (raw_con (raw_int false ds)) = omega arith
spelled_is (raw_con (raw_str s)) = let e = length-append s (34 ∷ []) in omega arith
spelled_is (raw_var k ds) = omega arith
spelled_is raw_empty = refl

-- a lexeme is no longer than the text it stands in
digits_fit : (z : List ℕ) → length (leading_digits z) ≤ length z
digits_fit [] = omega arith
digits_fit (b ∷ z) = go (digit? b) (digits_fit z)
  where
    go : (d : Dec (Digit b)) → length (leading_digits z) ≤ length z → length (digits1 d b (leading_digits z)) ≤ suc (length z)
    go (yes h) r = omega arith
    go (no n) r = omega arith

pub quote_fits : (z : List ℕ) → length (until_quote z) ≤ length z
quote_fits [] = omega arith
quote_fits (b ∷ z) = go (ℕ_discrete b 34) (quote_fits z)
  where
    go : (d : Dec (b ≡ 34)) → length (until_quote z) ≤ length z → length (quote1 d b (until_quote z)) ≤ suc (length z)
    go (yes h) r = omega arith
    go (no n) r = omega arith

pub size_fits : (z : List ℕ) → (lexeme_of (front z)).size ≤ length z
size_fits [] = omega arith
size_fits (b ∷ z) = go (begins b)
  where
    go : (c : Begins b) → (lexeme_of (front_b b z c)).size ≤ suc (length z)
    go (b_digit h) = let r = digits_fit z in omega arith
    go (b_minus h) = let r = digits_fit z in omega arith
    go (b_quote h) = let r = quote_fits z in omega arith
    go (b_letter k h) = let r = digits_fit z in omega arith
    go (b_e h) = omega arith
    go (b_none d m q l e) = omega arith

-- how many rounds a walk may take makes no difference where they are enough
walk_room : (room more : ℕ) (z : List ℕ) (p n i : ℕ) → length z ≤ room → length z ≤ more → walk room z p n i ≡ walk more z p n i
walk_room zero zero [] p n i h k = refl
walk_room zero zero (b ∷ z) p n i h k = refl
walk_room zero (suc more) [] p n i h k = refl
walk_room zero (suc more) (b ∷ z) p n i h k = absurd (omega arith)
walk_room (suc room) zero [] p n i h k = refl
walk_room (suc room) zero (b ∷ z) p n i h k = absurd (omega arith)
walk_room (suc room) (suc more) [] p n i h k = refl
walk_room (suc room) (suc more) (b ∷ z) p n i h k =
    let r = front (b ∷ z) in
    ap (λ (l : List Token). record { place = p; in_field = n; index = i; raw = r } ∷ l)
    (go (drop (length (spell r)) (b ∷ z)) (short (length (spell r))) (λ z' p' n' i' h' k'. walk_room room more z' p' n' i' h' k'))
  where
    short : (m : ℕ) → length (drop m (b ∷ z)) ≤ suc (length z)
    short m = omega (arith, length-drop m (b ∷ z))

    go : (y : List ℕ) → length y ≤ suc (length z)
        → ((z' : List ℕ) (p' n' i' : ℕ) → length z' ≤ room → length z' ≤ more → walk room z' p' n' i' ≡ walk more z' p' n' i')
        → walk_on (walk room) (p + length (spell (front (b ∷ z)))) n i y ≡ walk_on (walk more) (p + length (spell (front (b ∷ z)))) n i y
    go [] s rec = refl
    go (c ∷ y) s rec =
        let q = suc (p + length (spell (front (b ∷ z)))) in
        ap₂ (λ (u v : List Token). ite (ℕ_discrete c 58) u v) (rec y q n (suc i) (omega arith) (omega arith)) (rec y q (suc n) 1 (omega arith) (omega arith))

module _ (t : List ℕ) where
  -- at the end there is no term
  pub tokens_none : (a : At) → length t ≤ a.place → tokens_from t a ≡ []
  tokens_none a h = rw (drop_of_length-le t {i = a.place} h) (empty (length t - a.place))
    where
      empty : (room : ℕ) → walk room [] a.place a.field a.index ≡ []
      empty zero = refl
      empty (suc room) = refl

  -- behind a term that ends at e
  on : (a : At) (e room : ℕ) → length t ≤ suc (e + room) → walk_on (walk room) e a.field a.index (drop e t) ≡ tokens_from t (behind t a e)
  on a e room h = go (dec_lt e (length t))
    where
      n : ℕ
      n = a.field

      i : ℕ
      i = a.index

      from : (b : At) → b.place ≡ e + 1 → walk room (drop (suc e) t) (suc e) b.field b.index ≡ tokens_from t b
      from b q =
          let p : suc e ≡ b.place = omega arith in
          ap (λ (k : ℕ). walk room (drop k t) k b.field b.index) p
          ∙ walk_room room (length t - b.place) (drop b.place t) b.place b.field b.index (omega (arith, length-drop b.place t))
          (omega (arith, length-drop b.place t))

      go : Dec (e < length t) → walk_on (walk room) e n i (drop e t) ≡ tokens_from t (behind t a e)
      go (no k) =
          rw (drop_of_length-le t {i = e} (omega arith))
          (sym (ap (λ (c : Bool). tokens_from t (cond (c && eqb (get_or t e 0) 58) (record { place = e + 1; field = n; index = i + 1 })
          (record { place = e + 1; field = n + 1; index = 1 }))) (le-ltb e (length t) (omega arith))
          ∙ tokens_none (record { place = e + 1; field = n + 1; index = 1 }) (omega arith)))
      go (yes k) =
          ap (walk_on (walk room) e n i) (drop-cons t e 0 k)
          ∙ choose (ℕ_discrete (get_or t e 0) 58)
          ∙ sym (ap (λ (c : Bool). tokens_from t (cond (c && eqb (get_or t e 0) 58) (record { place = e + 1; field = n; index = i + 1 })
          (record { place = e + 1; field = n + 1; index = 1 }))) (lt-ltb e (length t) k))
        where
          choose : (d : Dec (get_or t e 0 ≡ 58)) → ite d (walk room (drop (suc e) t) (suc e) n (suc i)) (walk room (drop (suc e) t) (suc e) (suc n) 1)
              ≡ tokens_from t
              (cond (eqb (get_or t e 0) 58) (record { place = e + 1; field = n; index = i + 1 }) (record { place = e + 1; field = n + 1; index = 1 }))
          choose (yes q) =
              ap (λ (k : ℕ). walk room (drop (suc e) t) (suc e) n k) (sym (add-one i))
              ∙ from (record { place = e + 1; field = n; index = i + 1 }) refl
              ∙ ap (λ (c : Bool).
              tokens_from t (cond c (record { place = e + 1; field = n; index = i + 1 }) (record { place = e + 1; field = n + 1; index = 1 })))
              (sym (eq-eqb (get_or t e 0) 58 q))
          choose (no q) =
              ap (λ (k : ℕ). walk room (drop (suc e) t) (suc e) k 1) (sym (add-one n))
              ∙ from (record { place = e + 1; field = n + 1; index = 1 }) refl
              ∙ ap (λ (c : Bool).
              tokens_from t (cond c (record { place = e + 1; field = n; index = i + 1 }) (record { place = e + 1; field = n + 1; index = 1 })))
              (sym (ne_eqb (get_or t e 0) 58 q))

  -- A STEP: the term that stands here, then those behind it
  pub tokens_step : (a : At) → a.place < length t
      → tokens_from t a ≡ token_at a (term_at t a) ∷ tokens_from t (behind t a (a.place + length (spell (term_at t a))))
  tokens_step a h =
      let room = length t - (a.place + 1) in
      let r = term_at t a in
      let e = a.place + length (spell r) in
      let s : length t - a.place ≡ suc room = omega arith in
      ap (λ (k : ℕ). walk k (drop a.place t) a.place a.field a.index) s
      ∙ walk_step room (drop a.place t) a.place a.field a.index ((cons_is (drop a.place t)).0 (omega (arith, length-drop a.place t)))
      ∙ ap (λ (l : List ℕ). token_at a r ∷ walk_on (walk room) e a.field a.index l) (drop-drop (length (spell r)) a.place t)
      ∙ ap (λ (l : List Token). token_at a r ∷ l) (on a e room (omega arith))
