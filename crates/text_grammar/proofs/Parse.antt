-- The parser is right: a text is parsed as x exactly when x is what it says.
use mathlib.Core.Path.{◌≡◌, refl, sym, ◌∙◌, ap, subst}
use mathlib.Core.Bool.{true, false}
use mathlib.Core.Logic.{◌≢◌, ◌↔◌, ite}
use mathlib.Core.Option.{Option, none, some, map, none-ne-some, some-injective}
use mathlib.Core.List.{List, [], ◌∷◌, ◌++◌, append_assoc, nil≢cons, cons≢nil, head-eq_of_cons-eq, tail-eq_of_cons-eq}
use Prim.Native.Nat.{ℕ}
use native.Mathlib.Omega.{arith}
use native.Mathlib.Decide.{ℕ_discrete, dec_le}
use Rattle.base_lists.specs.Seqs.{All, IsNil, IsCons}
use Rattle.math_types.specs.Types.{Kind}
use Rattle.text_grammar.specs.Bytes.{Digit, Inside, letter, digit?, Begins, b_digit, b_minus, b_quote, b_letter, b_e, b_none, begins, Follows, f_digit}
use Rattle.text_grammar.specs.Bytes.{f_colon}
use Rattle.text_grammar.specs.Bytes.{f_bar}
use Rattle.text_grammar.specs.Bytes.{f_none, follows, First, n_zero, n_more, n_none, first, Holds, h_quote, h_in, h_none, holds}
use Rattle.text_grammar.specs.Grammar.{Raw, raw_var, raw_empty, spell, Proper, colons, spell_f, bars, FieldOk, spell_t, TextOk, raw_con}
use Rattle.text_grammar.specs.constants.Constants.{raw_int, raw_str}
use Rattle.text_grammar.specs.Numbers.{Number}
use Rattle.text_grammar.specs.Grammar.{Says}
use Rattle.text_grammar.specs.Grammar.{Grammar}
use Rattle.text_grammar.specs.Machine.{State, after, minus, digits, number, done, quoted, must, Rest, Move, push, turn, term, go_a, go_s, go_d, go_e, go_n}
use Rattle.text_grammar.specs.Machine.{go_q, go_m, then}
use Rattle.text_grammar.specs.Machine.{move}
use Rattle.text_grammar.specs.Machine.{Final, final?, then_scan, scan, whole, parse}
use Rattle.text_grammar.proofs.Begun.{begun_digit, begun_letter}

-- what the rest may be in each state, and how it is spelled
abbrev pub FitsW : State → List ℕ → List Raw → Type 0
FitsW after w rs = IsNil w × IsCons rs
FitsW minus w rs = IsCons w × All Digit w
FitsW digits w rs = All Digit w
FitsW number w rs = Number w
FitsW done w rs = IsNil w
FitsW quoted w rs = All Inside w
FitsW (must c cs) w rs = IsNil w

abbrev pub Fits : State → Rest → Type 0
Fits q o = FitsW q o.0 o.1 × All Proper o.1 × All FieldOk o.2

abbrev pub tails : Rest → List ℕ
tails o = colons o.1 ++ bars o.2

abbrev pub say : State → Rest → List ℕ
say after o = spell_f o.1 ++ bars o.2
say minus o = o.0 ++ tails o
say digits o = o.0 ++ tails o
say number o = o.0 ++ tails o
say done o = o.0 ++ tails o
say quoted o = o.0 ++ 34 ∷ tails o
say (must c cs) o = c ∷ (cs ++ tails o)

-- a move says what it should: what it makes of a fitting rest fits, and spells one byte more
abbrev pub Right : State → ℕ → Move → Type 0
Right q b none = Unit {0}
Right q b (some m) = (o : Rest) → Fits m.0 o → Fits q (m.1 o) × (b ∷ say m.0 o ≡ say q (m.1 o))

colon_eq : (b : ℕ) → b ≡ 58 → (w : List ℕ) (rs : List Raw) (fs : List (List Raw))
    → IsNil w → IsCons rs → b ∷ (spell_f rs ++ bars fs) ≡ w ++ (colons rs ++ bars fs)
colon_eq b e [] [] fs n c = absurd c
colon_eq b e [] (r ∷ rs) fs n c = ap (λ (x : ℕ). x ∷ ((spell r ++ colons rs) ++ bars fs)) e
colon_eq b e (x ∷ w) rs fs n c = absurd n

nil_eq : (b c : ℕ) → b ≡ c → (w t : List ℕ) → IsNil w → b ∷ (w ++ t) ≡ c ∷ t
nil_eq b c e [] t n = ap (λ (x : ℕ). x ∷ t) e
nil_eq b c e (x ∷ w) t n = absurd n

quote_eq : (b : ℕ) → b ≡ 34 → (w t : List ℕ) → IsNil w → b ∷ (w ++ t) ≡ w ++ 34 ∷ t
quote_eq b e [] t n = ap (λ (x : ℕ). x ∷ t) e
quote_eq b e (x ∷ w) t n = absurd n

nil_all : (P : ℕ → Type 0) (w : List ℕ) → IsNil w → All P w
nil_all P [] n = tt
nil_all P (x ∷ w) n = absurd n

one_number : (b : ℕ) (w : List ℕ) → b ≡ 48 → IsNil w → Number (b ∷ w)
one_number b [] e n = (omega arith, omega arith)
one_number b (x ∷ w) e n = absurd n

long_number : (b : ℕ) (w : List ℕ) → Digit b → b ≢ 48 → All Digit w → Number (b ∷ w)
long_number b [] d n a = d
long_number b (x ∷ w) d n a = (d, n, a)

right_a : (b : ℕ) (c : Begins b) → Right after b (go_a b c)
right_a b (b_digit h) = λ o f. (((tt, tt), ((tt, (h, f.0)), f.1), f.2), simp append_assoc)
right_a b (b_minus h) = λ o f. (((tt, tt), (f.0, f.1), f.2), simp (append_assoc, h))
right_a b (b_quote h) = λ o f. (((tt, tt), (f.0, f.1), f.2), simp (append_assoc, h))
right_a b (b_letter k h) = λ o f. (((tt, tt), (f.0, f.1), f.2), simp (append_assoc, h))
right_a b (b_e h) = λ o f. (((tt, tt), (tt, f.1), f.2), simp (append_assoc, h))
right_a b (b_none d m q l e) = tt

turned : (b : ℕ) (o : Rest) → b ≡ 124 → b ∷ (spell_f o.1 ++ bars o.2) ≡ bars (o.1 ∷ o.2)
turned b o e = ap (λ (x : ℕ). x ∷ (spell_f o.1 ++ bars o.2)) e

right_s : (b : ℕ) (c : Dec (Digit b)) → Right minus b (go_s b c)
right_s b (yes h) = λ o f. (((tt, (h, f.0)), f.1, f.2), refl)
right_s b (no n) = tt

right_d : (b : ℕ) (c : Follows b) → Right digits b (go_d b c)
right_d b (f_digit h) = λ o f. (((h, f.0), f.1, f.2), refl)
right_d b (f_colon h) = λ o f. ((nil_all Digit o.0 f.0.0, f.1, f.2), colon_eq b h o.0 o.1 o.2 f.0.0 f.0.1)
right_d b (f_bar h) = λ o f. ((tt, tt, ((f.0.1, f.1), f.2)), turned b o h)
right_d b (f_none d c e) = tt

right_e : (b : ℕ) (c : Follows b) → Right done b (go_e b c)
right_e b (f_digit h) = tt
right_e b (f_colon h) = λ o f. ((f.0.0, f.1, f.2), colon_eq b h o.0 o.1 o.2 f.0.0 f.0.1)
right_e b (f_bar h) = λ o f. ((tt, tt, ((f.0.1, f.1), f.2)), turned b o h)
right_e b (f_none d c e) = tt

right_n : (b : ℕ) (c : First b) → Right number b (go_n b c)
right_n b (n_zero h) = λ o f. ((one_number b o.0 h f.0, f.1, f.2), refl)
right_n b (n_more h n) = λ o f. ((long_number b o.0 h n f.0, f.1, f.2), refl)
right_n b (n_none h) = tt

right_q : (b : ℕ) (c : Holds b) → Right quoted b (go_q b c)
right_q b (h_quote h) = λ o f. ((nil_all Inside o.0 f.0, f.1, f.2), quote_eq b h o.0 (tails o) f.0)
right_q b (h_in h) = λ o f. (((h, f.0), f.1, f.2), refl)
right_q b (h_none h n) = tt

right_m : (c : ℕ) (cs : List ℕ) (b : ℕ) (d : Dec (b ≡ c)) → Right (must c cs) b (go_m c cs b d)
right_m c [] b (yes e) = λ o f. (f, nil_eq b c e o.0 (tails o) f.0)
right_m c (x ∷ cs) b (yes e) = λ o f. (f, ap (λ (y : ℕ). y ∷ (x ∷ (cs ++ tails o))) e)
right_m c [] b (no n) = tt
right_m c (x ∷ cs) b (no n) = tt

pub right : (q : State) (b : ℕ) → Right q b (move q b)
right after b = right_a b (begins b)
right minus b = right_s b (digit? b)
right digits b = right_d b (follows b)
right number b = right_n b (first b)
right done b = right_e b (follows b)
right quoted b = right_q b (holds b)
right (must c cs) b = right_m c cs b (ℕ_discrete b c)

-- the other way: a rest that fits ends, or is what some move makes of one that is a byte shorter
pub data Unfold (q : State) (o : Rest) : Type 0 where
  ends : say q o ≡ [] → Final q → o ≡ ([], [], []) → Unfold q o
  goes : (b : ℕ) (m : State × (Rest → Rest)) (o' : Rest) → move q b ≡ some m → Fits m.0 o' → m.1 o' ≡ o → say q o ≡ b ∷ say m.0 o' → Unfold q o

go_a_digit : (b : ℕ) (c : Begins b) → Digit b → go_a b c ≡ some (digits, term (λ w. raw_con (raw_int false (b ∷ w))))
go_a_digit b c d = ap (go_a b) (begun_digit b c d).1

go_a_letter : (k : Kind) → move after (letter k) ≡ some (number, term (raw_var k))
go_a_letter k = ap (go_a (letter k)) (begun_letter k (begins (letter k))).1

go_a_minus : move after 45 ≡ some (minus, term (λ w. raw_con (raw_int true w)))
unfolding begins digit? dec_le ℕ_discrete
go_a_minus = refl

go_s_digit : (b : ℕ) (c : Dec (Digit b)) → Digit b → go_s b c ≡ some (digits, push b)
go_s_digit b (yes h) d = refl
go_s_digit b (no n) d = absurd (n d)

go_a_quote : move after 34 ≡ some (quoted, term (λ w. raw_con (raw_str w)))
unfolding begins digit? dec_le ℕ_discrete
go_a_quote = refl

go_a_e : move after 101 ≡ some (must 109 (112 ∷ 116 ∷ 121 ∷ []), term (λ w. raw_empty))
unfolding begins digit? dec_le ℕ_discrete
go_a_e = refl

go_d_digit : (b : ℕ) (c : Follows b) → Digit b → go_d b c ≡ some (digits, push b)
go_d_digit b (f_digit h) d = refl
go_d_digit b (f_colon h) d = absurd (omega arith)
go_d_digit b (f_bar h) d = absurd (omega arith)
go_d_digit b (f_none n c e) d = absurd (n d)

go_d_colon : move digits 58 ≡ some (after, λ o. o)
unfolding follows digit? dec_le ℕ_discrete
go_d_colon = refl

go_d_bar : move digits 124 ≡ some (after, turn)
unfolding follows digit? dec_le ℕ_discrete
go_d_bar = refl

go_e_colon : move done 58 ≡ some (after, λ o. o)
unfolding follows digit? dec_le ℕ_discrete
go_e_colon = refl

go_e_bar : move done 124 ≡ some (after, turn)
unfolding follows digit? dec_le ℕ_discrete
go_e_bar = refl

go_n_zero : (b : ℕ) (c : First b) → b ≡ 48 → go_n b c ≡ some (done, push b)
go_n_zero b (n_zero h) e = refl
go_n_zero b (n_more h n) e = absurd (n e)
go_n_zero b (n_none h) e = absurd (h (omega arith))

go_n_more : (b : ℕ) (c : First b) → Digit b → b ≢ 48 → go_n b c ≡ some (digits, push b)
go_n_more b (n_zero h) d n = absurd (n h)
go_n_more b (n_more h m) d n = refl
go_n_more b (n_none h) d n = absurd (h d)

go_q_quote : move quoted 34 ≡ some (done, λ o. o)
unfolding holds dec_le ℕ_discrete
go_q_quote = refl

go_q_in : (b : ℕ) (c : Holds b) → Inside b → go_q b c ≡ some (quoted, push b)
go_q_in b (h_quote h) i = absurd (i.2 h)
go_q_in b (h_in h) i = refl
go_q_in b (h_none h n) i = absurd (n i)

go_m_same : (c : ℕ) (cs : List ℕ) (d : Dec (c ≡ c)) → go_m c cs c d ≡ some (then cs, λ o. o)
go_m_same c cs (yes e) = refl
go_m_same c cs (no n) = absurd (n refl)

unfold_a : (r : Raw) (rs : List Raw) (fs : List (List Raw)) → Proper r → All Proper rs → All FieldOk fs → Unfold after ([], r ∷ rs, fs)
unfold_a (raw_con (raw_int true ds)) rs fs p a g =
    goes 45 (minus, term (λ w. raw_con (raw_int true w))) (ds, rs, fs) go_a_minus (p, a, g) refl (simp append_assoc)
unfold_a (raw_con (raw_int false [])) rs fs p a g = absurd p.0
unfold_a (raw_con (raw_int false (d ∷ ds))) rs fs p a g =
    goes d (digits, term (λ w. raw_con (raw_int false (d ∷ w)))) (ds, rs, fs) (go_a_digit d (begins d) p.1.0) (p.1.1, a, g) refl (simp append_assoc)
unfold_a (raw_con (raw_str s)) rs fs p a g = goes 34 (quoted, term (λ w. raw_con (raw_str w))) (s, rs, fs) go_a_quote (p, a, g) refl (simp append_assoc)
unfold_a (raw_var k ds) rs fs p a g = goes (letter k) (number, term (raw_var k)) (ds, rs, fs) (go_a_letter k) (p, a, g) refl (simp append_assoc)
unfold_a raw_empty rs fs p a g = goes 101 (must 109 (112 ∷ 116 ∷ 121 ∷ []), term (λ w. raw_empty)) ([], rs, fs) go_a_e (tt, a, g) refl refl

unfold_s : (w : List ℕ) (rs : List Raw) (fs : List (List Raw)) → IsCons w × All Digit w → All Proper rs → All FieldOk fs → Unfold minus (w, rs, fs)
unfold_s [] rs fs p a g = absurd p.0
unfold_s (b ∷ w) rs fs p a g = goes b (digits, push b) (w, rs, fs) (go_s_digit b (digit? b) p.1.0) (p.1.1, a, g) refl refl

unfold_d : (w : List ℕ) (rs : List Raw) (fs : List (List Raw)) → All Digit w → All Proper rs → All FieldOk fs → Unfold digits (w, rs, fs)
unfold_d (b ∷ w) rs fs p a g = goes b (digits, push b) (w, rs, fs) (go_d_digit b (follows b) p.0) (p.1, a, g) refl refl
unfold_d [] (r ∷ rs) fs p a g = goes 58 (after, λ o. o) ([], r ∷ rs, fs) go_d_colon ((tt, tt), a, g) refl refl
unfold_d [] [] (f ∷ fs) p a g = goes 124 (after, turn) ([], f, fs) go_d_bar ((tt, g.0.0), g.0.1, g.1) refl refl
unfold_d [] [] [] p a g = ends refl tt refl

unfold_e : (w : List ℕ) (rs : List Raw) (fs : List (List Raw)) → IsNil w → All Proper rs → All FieldOk fs → Unfold done (w, rs, fs)
unfold_e (b ∷ w) rs fs p a g = absurd p
unfold_e [] (r ∷ rs) fs p a g = goes 58 (after, λ o. o) ([], r ∷ rs, fs) go_e_colon ((tt, tt), a, g) refl refl
unfold_e [] [] (f ∷ fs) p a g = goes 124 (after, turn) ([], f, fs) go_e_bar ((tt, g.0.0), g.0.1, g.1) refl refl
unfold_e [] [] [] p a g = ends refl tt refl

unfold_n : (w : List ℕ) (rs : List Raw) (fs : List (List Raw)) → Number w → All Proper rs → All FieldOk fs → Unfold number (w, rs, fs)
unfold_n [] rs fs p a g = absurd p
unfold_n (d ∷ []) rs fs p a g = go (ℕ_discrete d 48)
  where
    go : Dec (d ≡ 48) → Unfold number (d ∷ [], rs, fs)
    go (yes e) = goes d (done, push d) ([], rs, fs) (go_n_zero d (first d) e) (tt, a, g) refl refl
    go (no n) = goes d (digits, push d) ([], rs, fs) (go_n_more d (first d) p n) (tt, a, g) refl refl
unfold_n (d ∷ (e ∷ ds)) rs fs p a g = goes d (digits, push d) (e ∷ ds, rs, fs) (go_n_more d (first d) p.0 p.1) (p.2, a, g) refl refl

unfold_q : (w : List ℕ) (rs : List Raw) (fs : List (List Raw)) → All Inside w → All Proper rs → All FieldOk fs → Unfold quoted (w, rs, fs)
unfold_q [] rs fs p a g = goes 34 (done, λ o. o) ([], rs, fs) go_q_quote (tt, a, g) refl refl
unfold_q (b ∷ w) rs fs p a g = goes b (quoted, push b) (w, rs, fs) (go_q_in b (holds b) p.0) (p.1, a, g) refl refl

pub unfolds : (q : State) (o : Rest) → Fits q o → Unfold q o
unfolds after o f = go o.0 o.1 f.0 f.1
  where
    go : (w : List ℕ) (rs : List Raw) → FitsW after w rs → All Proper rs → Unfold after (w, rs, o.2)
    go [] [] p a = absurd p.1
    go [] (r ∷ rs) p a = unfold_a r rs o.2 a.0 a.1 f.2
    go (x ∷ w) rs p a = absurd p.0
unfolds minus o f = unfold_s o.0 o.1 o.2 f.0 f.1 f.2
unfolds digits o f = unfold_d o.0 o.1 o.2 f.0 f.1 f.2
unfolds number o f = unfold_n o.0 o.1 o.2 f.0 f.1 f.2
unfolds done o f = unfold_e o.0 o.1 o.2 f.0 f.1 f.2
unfolds quoted o f = unfold_q o.0 o.1 o.2 f.0 f.1 f.2
unfolds (must c []) o f = go o.0 f.0
  where
    go : (w : List ℕ) → IsNil w → Unfold (must c []) (w, o.1, o.2)
    go [] p = goes c (done, λ x. x) ([], o.1, o.2) (go_m_same c [] (ℕ_discrete c c)) (tt, f.1, f.2) refl refl
    go (x ∷ w) p = absurd p
unfolds (must c (x ∷ cs)) o f = goes c (must x cs, λ y. y) o (go_m_same c (x ∷ cs) (ℕ_discrete c c)) f refl refl

abbrev Ok : State → List ℕ → Option Rest → Type 0
Ok q t none = Unit {0}
Ok q t (some o) = Fits q o × (t ≡ say q o)

lift_ok : (q : State) (b : ℕ) (t : List ℕ) (m : Move) → Right q b m → (k : State → Option Rest) → ((q' : State) → Ok q' t (k q')) → Ok q (b ∷ t) (then_scan m k)
lift_ok q b t none r k h = tt
lift_ok q b t (some m) r k h = go (k m.0) (h m.0)
  where
    go : (a : Option Rest) → Ok m.0 t a → Ok q (b ∷ t) (map m.1 a)
    go none h' = tt
    go (some o) h' = ((r o h'.0).0, ap (λ (l : List ℕ). b ∷ l) h'.1 ∙ (r o h'.0).1)

end_ok : (q : State) → Ok q [] (ite (final? q) (some ([], [], [])) none)
end_ok after = tt
end_ok minus = tt
end_ok digits = ((tt, tt, tt), refl)
end_ok number = tt
end_ok done = ((tt, tt, tt), refl)
end_ok quoted = tt
end_ok (must c cs) = tt

pub sound : (t : List ℕ) (q : State) → Ok q t (scan t q)
sound [] q = end_ok q
sound (b ∷ t) q = lift_ok q b t (move q b) (right q b) (scan t) (λ q'. sound t q')

end_complete : (q : State) → Final q → ◌≡◌ {A = Option Rest} (ite (final? q) (some ([], [], [])) none) (some ([], [], []))
end_complete after h = absurd h
end_complete minus h = absurd h
end_complete digits h = refl
end_complete number h = absurd h
end_complete done h = refl
end_complete quoted h = absurd h
end_complete (must c cs) h = absurd h

pub complete : (t : List ℕ) (q : State) (o : Rest) → Fits q o → t ≡ say q o → scan t q ≡ some o
complete [] q o f e = go (unfolds q o f)
  where
    go : Unfold q o → scan [] q ≡ some o
    go (ends s h z) = end_complete q h ∙ ap some (sym z)
    go (goes b m o' v g z s) = absurd (nil≢cons (e ∙ s))
complete (b ∷ t) q o f e = go (λ q' o' g s. complete t q' o' g s) (unfolds q o f)
  where
    go : ((q' : State) (o' : Rest) → Fits q' o' → t ≡ say q' o' → scan t q' ≡ some o') → Unfold q o → scan (b ∷ t) q ≡ some o
    go rec (ends s h z) = absurd (cons≢nil (e ∙ s))
    go rec (goes c m o' v g z s) =
        let eb : b ≡ c = head-eq_of_cons-eq (e ∙ s) in
        let et : t ≡ say m.0 o' = tail-eq_of_cons-eq (e ∙ s) in
        ap (λ (x : ℕ). then_scan (move q x) (scan t)) eb
        ∙ ap (λ (x : Move). then_scan x (scan t)) v
        ∙ ap (map m.1) (rec m.0 o' g et)
        ∙ ap some z

pub parse_complete : (t : List ℕ) (x : List (List Raw)) → Says t x → parse t ≡ some x
parse_complete t [] s = absurd s.0.0
parse_complete t (f ∷ fs) s = ap (map whole) (complete t after ([], f, fs) ((tt, s.0.1.0.0), s.0.1.0.1, s.0.1.1) s.1)

-- the answer of the parser, by cases
abbrev pub Parsed : List ℕ → Option (List (List Raw)) → Type 0
Parsed t none = (x : List (List Raw)) → Says t x → ⊥
Parsed t (some x) = Says t x

pub parsed : (t : List ℕ) → Parsed t (parse t)
parsed t = go (scan t after) refl (sound t after)
  where
    go : (a : Option Rest) → scan t after ≡ a → Ok after t a → Parsed t (map whole a)
    go none e h = λ x s. none-ne-some x (ap (map whole) (sym e) ∙ parse_complete t x s)
    go (some o) e h = ((tt, ((h.0.0.1, h.0.1), h.0.2)), h.1)

pub parse_iff : (t : List ℕ) (x : List (List Raw)) → (parse t ≡ some x) ↔ Says t x
parse_iff t x = (λ e. subst (Parsed t) e (parsed t), λ s. parse_complete t x s)

-- what a text says is one thing
pub says_one : (t : List ℕ) (x y : List (List Raw)) → Says t x → Says t y → x ≡ y
says_one t x y s u = some-injective x y (sym (parse_complete t x s) ∙ parse_complete t y u)

-- the spelling determines what is spelled
pub spell_one : (x y : List (List Raw)) → TextOk x → TextOk y → spell_t x ≡ spell_t y → x ≡ y
spell_one x y p q e = says_one (spell_t x) x y (p, refl) (q, e)

unfoldable pub grammar? : (t : List ℕ) → Dec (Grammar t)
grammar? t = go (parse t) (parsed t)
  where
    go : (a : Option (List (List Raw))) → Parsed t a → Dec (Grammar t)
    go none h = no (λ g. h g.0 g.1)
    go (some x) h = yes (x, h)
