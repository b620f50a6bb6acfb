-- The terms of a text stand in it as they are spelled, so what is noted of the text is what is noted of its terms.
use mathlib.Core.Path.{◌≡◌, refl, sym, ap, ap₂, ◌∙◌, subst}
use mathlib.Core.Logic.{inl, inr}
use mathlib.Core.Bool.{Bool, true, false, cond, ◌&&◌}
use mathlib.Core.Option.{Option, none}
use mathlib.Core.List.{List, [], ◌∷◌, ◌++◌, foldl, append_assoc, append-nil}
use Prim.Native.Nat.{ℕ, suc, ◌+◌, ◌-◌, ◌*◌, ◌%◌, ◌≤◌, ◌<◌}
use native.Mathlib.Omega.{arith, by_contra}
use lib.Dec.{leb, ltb}
use lib.ListN.{length, get_or, drop, length-append, length-drop, get_or-append}
use lib.Seq.{get_or-append-add, get_or-drop}
use borrow.Author.Tests.{lt-ltb, le-leb}
use Rattle.base_limits.specs.Limits.{most_terms, most_digits, longest_string, largest_number, numbers_of_side, field_places, pair_fields}
use Rattle.base_lists.specs.Seqs.{All, IsCons, all_append, tabulated}
use Rattle.math_types.specs.Order.{basic}
use Rattle.math_types.specs.Types.{Basic, Kind, rank, is_list}
use Rattle.base_lists.specs.Arrays.{shift_length, shift_eq}
use Rattle.math_types.specs.Values.{kind_of_from}
use Rattle.math_terms.specs.Terms.{con}
use Rattle.text_grammar.specs.Bytes.{Digit}
use Rattle.text_grammar.specs.Grammar.{Raw, raw_var, raw_empty, spell, Proper, colons, spell_f, bars, spell_t, raw_con}
use Rattle.text_grammar.specs.constants.Constants.{signed, sign_size, limit, sign_of, raw_int, raw_str, Con, con_kind, RawCon, spell_con, ProperCon, OverCon, con_of}
use Rattle.text_grammar.specs.Numbers.{value, digits_of}
use Rattle.text_grammar.specs.Tokens.{Token, tokens_f, tokens_t, tokens, Over}
use Rattle.text_grammar.specs.Terms.{OurTerm, term_of, field_of}
use Rattle.text_grammar.proofs.Walk.{spell_some}
use Rattle.text_grammar.proofs.Numbers.{digits_one, digits_ten}
use Rattle.text_grammar.proofs.constants.Constants.{limit_lowest, con_in}
use Rattle.math_overlaps.specs.Shapes.{Side}
use Rattle.math_codes.specs.Texts.{zeros}
use Rattle.math_codes.specs.Entries.{atom_of}
use Rattle.math_codes.specs.Lines.{OurAtom}
use Rattle.math_codes.proofs.Places.{Stands}
use Rattle.math_codes.proofs.Texts.{plain_digits}
use Rattle.text_scan.specs.declared.Lexeme.{Lexeme}
use Rattle.text_scan.specs.Lexemes.{capped, literal_of, literal_size, literal_value, lexeme_of}
use Rattle.pair_row.specs.Row as row
use Rattle.pair_table.specs.Notes.{part_of, celled, constant_noted, literal_cell, literal_kind, variable_noted, shape_noted, is_field, terms_in, note_by}
use Rattle.pair_table.specs.Notes.{note_lexeme, note_token}
use Rattle.pair_table.proofs.PairsCells.{bytes_of, bytes_short}
use Rattle.pair_table.proofs.PairsIndexes.{side_in}
use Rattle.pair_table.proofs.PairsTerms.{Noted, terms_noted, constant_next, variable_next}

-- ---- spelled in the text

-- the bytes b stand at q
abbrev pub StandsAt : List ℕ → ℕ → List ℕ → Type 0
StandsAt text q b = (q + length b ≤ length text) × ((i : ℕ) → i < length b → get_or text (q + i) 0 ≡ get_or b i 0)

abbrev pub Stood : List ℕ → Token → Type 0
Stood text m = StandsAt text m.place (spell m.raw)

stands_at : (text pre b z : List ℕ) (q : ℕ) → text ≡ pre ++ (b ++ z) → length pre ≡ q → StandsAt text q b
stands_at text pre b z q e l = (
  omega (arith, l, ap length e, length-append pre (b ++ z), length-append b z),
  λ i h. ap₂ (λ (x : List ℕ) (j : ℕ). get_or x (j + i) 0) e (sym l) ∙ get_or-append-add pre (b ++ z) i 0 ∙ get_or-append b z 0 i h,
)

stood_field : (text : List ℕ) (r : Raw) (rs : List Raw) (pre z : List ℕ) (q n i : ℕ) → text ≡ pre ++ (spell_f (r ∷ rs) ++ z) → length pre ≡ q
    → All (Stood text) (tokens_f q n i (r ∷ rs))
stood_field text r [] pre z q n i e l = (stands_at text pre (spell r) z q (e ∙ ap (λ (x : List ℕ). pre ++ x) (append_assoc (spell r) [] z)) l, tt)
stood_field text r (u ∷ rs) pre z q n i e l =
    let e' = e ∙ ap (λ (x : List ℕ). pre ++ x) (append_assoc (spell r) (colons (u ∷ rs)) z) in (
      stands_at text pre (spell r) (colons (u ∷ rs) ++ z) q e' l,
      stood_field text u rs (pre ++ (spell r ++ 58 ∷ [])) z (suc (q + length (spell r))) n (suc i) (e' ∙ shift_eq pre (spell r) (spell_f (u ∷ rs) ++ z) 58)
          (shift_length pre (spell r) 58 q l),
    )

stood_any : (text : List ℕ) (f : List Raw) (pre z : List ℕ) (q n : ℕ) → text ≡ pre ++ (spell_f f ++ z) → length pre ≡ q → All (Stood text) (tokens_f q n 1 f)
stood_any text [] pre z q n e l = tt
stood_any text (r ∷ rs) pre z q n e l = stood_field text r rs pre z q n 1 e l

stood_fields : (text : List ℕ) (fs : List (List Raw)) (f : List Raw) (pre : List ℕ) (q n : ℕ) → text ≡ pre ++ (spell_f f ++ bars fs) → length pre ≡ q
    → All (Stood text) (tokens_t q n (f ∷ fs))
stood_fields text [] f pre q n e l = all_append (Stood text) (tokens_f q n 1 f) [] (stood_any text f pre [] q n e l) tt
stood_fields text (g ∷ gs) f pre q n e l =
    all_append (Stood text) (tokens_f q n 1 f) (tokens_t (suc (q + length (spell_f f))) (suc n) (g ∷ gs)) (stood_any text f pre (bars (g ∷ gs)) q n e l)
    (stood_fields text gs g (pre ++ (spell_f f ++ 124 ∷ [])) (suc (q + length (spell_f f))) (suc n) (e ∙ shift_eq pre (spell_f f) (spell_f g ++ bars gs) 124)
    (shift_length pre (spell_f f) 124 q l))

-- ALL TERMS stand where they are tokened
pub all_stood : (text : List ℕ) (y : List (List Raw)) → text ≡ spell_t y → All (Stood text) (tokens y)
all_stood text [] e = tt
all_stood text (f ∷ fs) e = stood_fields text fs f [] 0 1 e refl

-- ---- parts of the text

part_is : (text : List ℕ) (q : ℕ) (b : List ℕ) → ((i : ℕ) → i < length b → get_or text (q + i) 0 ≡ get_or b i 0) → part_of text q (length b) ≡ b
part_is text q b h = sym (tabulated (length b) b (λ i. get_or text (q + i) 0) 0 refl (λ i l. sym (h i l)))

part_drop : (text : List ℕ) (q z : ℕ) (b : List ℕ) → ((i : ℕ) → i < length b → get_or text (q + i) 0 ≡ get_or b i 0)
    → part_of text (q + z) (length b - z) ≡ drop z b
part_drop text q z b h =
    sym (tabulated (length b - z) (drop z b) (λ i. get_or text (q + z + i) 0) 0 (length-drop z b)
    (λ i l. get_or-drop z b i 0 ∙ sym (h (z + i) (omega arith)) ∙ ap (λ (j : ℕ). get_or text j 0) (let e : q + (z + i) ≡ q + z + i = omega arith in e)))

-- the digits of an integer behind its leading zeros
digits_part : (text : List ℕ) (q : ℕ) (ds : List ℕ) → IsCons ds × All Digit ds → StandsAt text q ds
    → part_of text (q + zeros (part_of text q (length ds))) (length ds - zeros (part_of text q (length ds))) ≡ digits_of (value ds)
digits_part text q ds p h =
    ap (λ (b : List ℕ). part_of text (q + zeros b) (length ds - zeros b)) (part_is text q ds h.1)
    ∙ part_drop text q (zeros ds) ds h.1
    ∙ sym (plain_digits ds p.0 p.1)

-- the bytes between the quotes
string_part : (text : List ℕ) (q : ℕ) (b : List ℕ) → StandsAt text q (spell_con (raw_str b)) → part_of text (q + 1) (length b) ≡ b
string_part text q b h =
    part_is text (q + 1) b (λ i l.
    ap (λ (j : ℕ). get_or text j 0) (let e : q + 1 + i ≡ q + suc i = omega arith in e)
    ∙ h.1 (suc i) (omega (arith, length-append b (34 ∷ [])))
    ∙ get_or-append b (34 ∷ []) 0 i l)

-- ---- one written constant

-- the digits behind the sign
behind_sign : (text : List ℕ) (q : ℕ) (m : Bool) (ds : List ℕ) → StandsAt text q (signed m ds) → StandsAt text (q + sign_size m) ds
behind_sign text q true ds h = (
  omega (arith, h.0),
  λ i l. ap (λ (j : ℕ). get_or text j 0) (let e : q + 1 + i ≡ q + suc i = omega arith in e) ∙ h.1 (suc i) (omega arith),
)
behind_sign text q false ds h = subst (λ (j : ℕ). StandsAt text j ds) (let e : q ≡ q + 0 = omega arith in e) h

literal_cell_lem : (text : List ℕ) (q : ℕ) (r : RawCon) → ProperCon r → (OverCon r → ⊥) → StandsAt text q (spell_con r)
    → literal_cell (literal_of r) text q (literal_size r) (literal_value r) ≡ bytes_of (con_of r)
literal_cell_lem text q (raw_int m ds) p o h =
    let few : value ds ≤ limit m = by_contra (value ds) (limit m) (λ k. o (inr k)) in
    let v : capped (value ds) ≡ value ds = omega (arith, limit_lowest m) in
    ap₂ (λ (v : ℕ) (l : List ℕ). signed (sign_of m v) l) v (digits_part text (q + sign_size m) ds p (behind_sign text q m ds h))
literal_cell_lem text q (raw_str b) p o h = string_part text q b h

literal_kind_lem : (r : RawCon) → literal_kind (literal_of r) ≡ con_kind (con_of r)
literal_kind_lem (raw_int m ds) = refl
literal_kind_lem (raw_str b) = refl

literal_size_lem : (r : RawCon) → (OverCon r → ⊥) → literal_size r ≤ longest_string
literal_size_lem (raw_int m ds) o = omega (arith, by_contra (length ds) most_digits (λ h. o (inl h)))
literal_size_lem (raw_str b) o = omega arith

-- ---- a field's terms

stands_append : (t : List (Option OurAtom)) (z : Side) (us vs : List OurTerm) (p : ℕ) → Stands t z p (us ++ vs)
    → Stands t z p us × Stands t z (p + length us) vs
stands_append t z [] vs p k = (tt, subst (λ (i : ℕ). Stands t z i vs) (let e : p ≡ p + 0 = omega arith in e) k)
stands_append t z (u ∷ us) vs p k =
    let h = stands_append t z us vs (suc p) k.1 in
    ((k.0, h.0), subst (λ (i : ℕ). Stands t z i vs) (let e : suc p + length us ≡ p + suc (length us) = omega arith in e) h.1)

-- ---- one written term

module _ (t : List (Option OurAtom)) (G : ℕ → List OurTerm) (s : Bool) (text : List ℕ) (e : List OurTerm) where
  -- the same of the two lists as one value
  abbrev pub NotedBy : ℕ → List OurTerm → List OurTerm → ℕ → List ℕ × List ℕ → Type 0
  NotedBy f fs d p x = Noted t G s f fs d e p x.0 x.1

  pub noted_as : (f : ℕ) {fs fs' d d' : List OurTerm} {p p' : ℕ} {x x' : List ℕ × List ℕ} → fs ≡ fs' → d ≡ d' → p ≡ p' → x ≡ x'
      → NotedBy f fs d p x → NotedBy f fs' d' p' x'
  noted_as f {fs} {fs'} {d} {d'} {p} {p'} {x} {x'} a b c g n =
      subst (λ (z : List ℕ × List ℕ). NotedBy f fs' d' p' z) g
      (subst (λ (z : ℕ). NotedBy f fs' d' z x) c (subst (λ (z : List OurTerm). NotedBy f fs' z p x) b (subst (λ (z : List OurTerm). NotedBy f z d p x) a n)))

  -- the field n of the text is the field f of the pair
  module _ (n f : ℕ) (one : 1 ≤ n) (four : n ≤ 4) (is : row.field_of s (n - 1) ≡ f) (low : f < pair_fields) where
    module _ (fs d : List OurTerm) (p : ℕ) (x : List ℕ × List ℕ) (c : NotedBy f fs d p x) (q : ℕ) where
      -- a lexeme that is noted
      lexeme_is : (a : Lexeme) → length fs < most_terms → q < length text → a.size ≤ longest_string
          → note_by s text q f p a.what a.size a.value x.0 x.1 ≡ note_lexeme s text q n a x.0 x.1
      lexeme_is a m h z = sym (ap whole is ∙ ap (λ (b : Bool). cond b (noted f (field_places * f + terms_in x.0 f)) x) tests ∙ ap (noted f) place)
        where
          noted : ℕ → ℕ → List ℕ × List ℕ
          noted g i = note_by s text q g i a.what a.size a.value x.0 x.1

          whole : ℕ → List ℕ × List ℕ
          whole g = cond (is_field n && (ltb (terms_in x.0 g) most_terms && (ltb q (length text) && leb a.size longest_string)))
              (noted g (field_places * g + terms_in x.0 g)) x

          count : terms_in x.0 f ≡ length fs
          count = terms_noted t G s f fs d e p x.0 x.1 low c

          place : field_places * f + terms_in x.0 f ≡ p
          place = omega (arith, count, c.place)

          tests : (is_field n && (ltb (terms_in x.0 f) most_terms && (ltb q (length text) && leb a.size longest_string))) ≡ true
          tests =
              ap₂ (λ (b c : Bool). b && c) (ap₂ (λ (b c : Bool). b && c) (le-leb 1 n one) (le-leb n 4 four))
              (ap₂ (λ (b c : Bool). b && c) (lt-ltb (terms_in x.0 f) most_terms (omega (arith, count, m)))
              (ap₂ (λ (b c : Bool). b && c) (lt-ltb q (length text) h) (le-leb a.size longest_string z)))

      next : p + 1 ≡ suc p
      next = omega arith

      constant_read : (b : Con) (v : List ℕ) (a : Lexeme) → length fs < most_terms → q < length text → a.size ≤ longest_string
          → get_or t p none ≡ atom_of (side_in s) (con b)
          → length (bytes_of b) ≤ longest_string → v ≡ bytes_of b
          → (constant_noted p (rank (basic (con_kind b))) (celled p v x.1) (shape_noted f false 0 x.0), celled p v x.1)
          ≡ note_by s text q f p a.what a.size a.value x.0 x.1
          → NotedBy f (fs ++ con b ∷ []) (d ++ con b ∷ []) (p + 1) (note_lexeme s text q n a x.0 x.1)
      constant_read b v a m h z k few w g =
          noted_as f refl refl (sym next)
          (ap (λ (u : List ℕ). (constant_noted p (rank (basic (con_kind b))) (celled p u x.1) (shape_noted f false 0 x.0), celled p u x.1)) (sym w)
          ∙ g ∙ lexeme_is a m h z)
          (constant_next t G s f fs d e p x.0 x.1 low m c b k few)

      -- A WRITTEN TERM
      pub raw_noted : (r : Raw) → Proper r → (Over r → ⊥) → StandsAt text q (spell r) → Stands t (side_in s) p (term_of r)
          → length fs + length (term_of r) ≤ most_terms
          → NotedBy f (fs ++ term_of r) (d ++ term_of r) (p + length (term_of r)) (note_lexeme s text q n (lexeme_of r) x.0 x.1)
      raw_noted (raw_con r) pr o st k m =
          constant_read (con_of r) (literal_cell (literal_of r) text q (literal_size r) (literal_value r)) (lexeme_of (raw_con r)) (omega arith)
          (omega (arith, st.0, spell_some (raw_con r) pr)) (literal_size_lem r o) k.0 (bytes_short (con_of r) (con_in r pr o)) (literal_cell_lem text q r pr o st)
          (ap (λ (k : Basic). (constant_noted p (rank (basic k)) cells (shape_noted f false 0 x.0), cells)) (sym (literal_kind_lem r)))
        where
          cells : List ℕ
          cells = celled p (literal_cell (literal_of r) text q (literal_size r) (literal_value r)) x.1
      raw_noted (raw_var j ds) pr o st k m =
          let few : value ds ≤ largest_number = omega arith in
          let v : capped (value ds) % numbers_of_side ≡ value ds = omega arith in
          let size : length ds ≤ longest_string = omega (arith, ap length (digits_one ds pr), digits_ten (value ds) (omega arith)) in
          noted_as f refl refl (sym next)
          (sym (ap₂ (λ (z : Kind) (a : ℕ). (variable_noted p s (rank z) a (shape_noted f (is_list z) a x.0), x.1)) (kind_of_from j) v)
          ∙ lexeme_is (lexeme_of (raw_var j ds)) (omega arith) (omega (arith, st.0, spell_some (raw_var j ds) pr)) size)
          (variable_next t G s f fs d e p x.0 x.1 low (omega arith) c j (value ds) k.0 few)
      raw_noted raw_empty pr o st k m =
          noted_as f (sym (append-nil fs)) (sym (append-nil d)) (let z : p ≡ p + 0 = omega arith in z)
          (nothing (is_field n && (ltb (terms_in x.0 (row.field_of s (n - 1))) most_terms && (ltb q (length text) && true)))) c
        where
          nothing : (b : Bool) → x ≡ cond b x x
          nothing true = refl
          nothing false = refl

    -- ---- THE TERMS of a field

    pub field_noted : (rs : List Raw) (q i : ℕ) (fs d : List OurTerm) (p : ℕ) (x : List ℕ × List ℕ) → All Proper rs → All (λ r. Over r → ⊥) rs
        → All (Stood text) (tokens_f q n i rs) → Stands t (side_in s) p (field_of rs) → length fs + length (field_of rs) ≤ most_terms → NotedBy f fs d p x
        → NotedBy f (fs ++ field_of rs) (d ++ field_of rs) (p + length (field_of rs)) (foldl (note_token s text) x (tokens_f q n i rs))
    field_noted [] q i fs d p x pr o st k m c =
        noted_as f (sym (append-nil fs)) (sym (append-nil d)) (let z : p ≡ p + 0 = omega arith in z) refl c
    field_noted (r ∷ rs) q i fs d p x pr o st k m c =
        let l = length-append (term_of r) (field_of rs) in
        let ks = stands_append t (side_in s) (term_of r) (field_of rs) p k in
        noted_as f (append_assoc fs (term_of r) (field_of rs)) (append_assoc d (term_of r) (field_of rs))
        (let z : p + length (term_of r) + length (field_of rs) ≡ p + length (term_of r ++ field_of rs) = omega (arith, l) in z) refl
        (field_noted rs (suc (q + length (spell r))) (suc i) (fs ++ term_of r) (d ++ term_of r) (p + length (term_of r))
        (note_lexeme s text q n (lexeme_of r) x.0 x.1) pr.1 o.1 st.1 ks.1 (omega (arith, m, l, length-append fs (term_of r)))
        (raw_noted fs d p x c q r pr.0 o.0 st.0 ks.0 (omega (arith, m, l))))
