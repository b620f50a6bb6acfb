-- The first blank or newline outside quotes ends a text of the grammar; so what stands before it is determined.
use mathlib.Core.Path.{◌≡◌, refl, sym, ◌∙◌, ap}
use mathlib.Core.Logic.{◌≢◌, ◌⊎◌, inl, inr}
use mathlib.Core.Bool.{Bool, true, false, not}
use mathlib.Core.Option.{none, some}
use mathlib.Core.List.{List, [], ◌∷◌, ◌++◌}
use Prim.Native.Nat.{ℕ, ◌≤◌}
use native.Mathlib.Omega.{arith}
use native.Mathlib.Decide.{ℕ_discrete}
use Rattle.base_lists.specs.Seqs.{All}
use Rattle.text_grammar.specs.Letters.{letter_lower}
use Rattle.text_grammar.specs.Bytes.{Digit, digit?}
use Rattle.text_grammar.specs.Bytes.{Begins, b_digit, b_minus, b_quote, b_letter, b_e, b_none, begins, Follows, f_digit, f_colon, f_bar, f_none, follows, First}
use Rattle.text_grammar.specs.Bytes.{n_zero}
use Rattle.text_grammar.specs.Bytes.{n_more, n_none, first, Holds, h_quote, h_in, h_none, holds}
use Rattle.text_grammar.specs.Grammar.{Grammar}
use Rattle.text_grammar.specs.Machine.{State, after, minus, digits, number, done, quoted, must, Move, go_a, go_s, go_d, go_e, go_n, go_q, go_m, move, Final}
use Rattle.text_grammar.proofs.Place.{run, then_run, Accepts, grammar_run}

-- a blank or a newline
abbrev pub Ends : ℕ → Type 0
Ends c = (c ≡ 32) ⊎ (c ≡ 10)

abbrev pub Pair : Type 0
Pair = List ℕ × List ℕ

abbrev pub push_p : ℕ → Pair → Pair
push_p c p = (c ∷ p.0, p.1)

abbrev pub cut_c : Bool → (c : ℕ) → List ℕ → Dec (c ≡ 34) → Dec (c ≡ 32) → Dec (c ≡ 10) → (Bool → Pair) → Pair
cut_c q c t (yes e) a b k = push_p c (k (not q))
cut_c true c t (no e) a b k = push_p c (k true)
cut_c false c t (no e) (yes a) b k = ([], c ∷ t)
cut_c false c t (no e) (no a) (yes b) k = ([], c ∷ t)
cut_c false c t (no e) (no a) (no b) k = push_p c (k false)

-- THE CUT: up to the first blank or newline outside quotes; the Bool says whether quotes are open
abbrev pub cut : List ℕ → Bool → Pair
cut [] q = ([], [])
cut (c ∷ t) q = cut_c q c t (ℕ_discrete c 34) (ℕ_discrete c 32) (ℕ_discrete c 10) (cut t)

cut_quote : (c : ℕ) (t : List ℕ) (q : Bool) → c ≡ 34 → cut (c ∷ t) q ≡ push_p c (cut t (not q))
cut_quote c t q e = go (ℕ_discrete c 34)
  where
    go : (d : Dec (c ≡ 34)) → cut_c q c t d (ℕ_discrete c 32) (ℕ_discrete c 10) (cut t) ≡ push_p c (cut t (not q))
    go (yes x) = refl
    go (no n) = absurd (n e)

cut_in : (c : ℕ) (t : List ℕ) → c ≢ 34 → cut (c ∷ t) true ≡ push_p c (cut t true)
cut_in c t e = go (ℕ_discrete c 34)
  where
    go : (d : Dec (c ≡ 34)) → cut_c true c t d (ℕ_discrete c 32) (ℕ_discrete c 10) (cut t) ≡ push_p c (cut t true)
    go (yes x) = absurd (e x)
    go (no n) = refl

cut_out : (c : ℕ) (t : List ℕ) → c ≢ 34 → c ≢ 32 → c ≢ 10 → cut (c ∷ t) false ≡ push_p c (cut t false)
cut_out c t e f g = go (ℕ_discrete c 34) (ℕ_discrete c 32) (ℕ_discrete c 10)
  where
    go : (d : Dec (c ≡ 34)) (a : Dec (c ≡ 32)) (b : Dec (c ≡ 10)) → cut_c false c t d a b (cut t) ≡ push_p c (cut t false)
    go (yes x) a b = absurd (e x)
    go (no n) (yes x) b = absurd (f x)
    go (no n) (no m) (yes x) = absurd (g x)
    go (no n) (no m) (no k) = refl

cut_end : (c : ℕ) (t : List ℕ) → Ends c → cut (c ∷ t) false ≡ ([], c ∷ t)
cut_end c t h = go (ℕ_discrete c 34) (ℕ_discrete c 32) (ℕ_discrete c 10) h
  where
    go : (d : Dec (c ≡ 34)) (a : Dec (c ≡ 32)) (b : Dec (c ≡ 10)) → Ends c → cut_c false c t d a b (cut t) ≡ ([], c ∷ t)
    go (yes x) a b (inl y) = absurd (omega arith)
    go (yes x) a b (inr y) = absurd (omega arith)
    go (no n) (yes x) b h = refl
    go (no n) (no m) (yes x) h = refl
    go (no n) (no m) (no k) (inl y) = absurd (m y)
    go (no n) (no m) (no k) (inr y) = absurd (k y)

abbrev pub Printable : ℕ → Type 0
Printable b = (32 ≤ b) × (b ≤ 126)

-- outside quotes, these bytes neither open quotes nor end the text
plain_byte : (b : ℕ) → 35 ≤ b → b ≤ 126 → Printable b × ((t : List ℕ) → cut (b ∷ t) false ≡ push_p b (cut t false))
plain_byte b l u = ((omega arith, u), λ t. cut_out b t (λ e. omega arith) (λ e. omega arith) (λ e. omega arith))

-- `a` to `z`
abbrev pub Lower : ℕ → Type 0
Lower c = (97 ≤ c) × (c ≤ 122)

-- ---- the machine of the grammar keeps to the cut

-- what must come inside `empty` is letters
abbrev Sane : State → Type 0
Sane after = Unit {0}
Sane minus = Unit {0}
Sane digits = Unit {0}
Sane number = Unit {0}
Sane done = Unit {0}
Sane quoted = Unit {0}
Sane (must c cs) = All Lower (c ∷ cs)

abbrev in_quotes : State → Bool
in_quotes after = false
in_quotes minus = false
in_quotes digits = false
in_quotes number = false
in_quotes done = false
in_quotes quoted = true
in_quotes (must c cs) = false

-- a move keeps to the cut
abbrev Kept : State → ℕ → Move → Type 0
Kept q b none = Unit {0}
Kept q b (some m) = Sane m.0 × Printable b × ((t : List ℕ) → cut (b ∷ t) (in_quotes q) ≡ push_p b (cut t (in_quotes m.0)))

kept_a : (b : ℕ) (c : Begins b) → Kept after b (go_a b c)
kept_a b (b_digit h) = let k = plain_byte b (omega arith) (omega arith) in (tt, k.0, k.1)
kept_a b (b_minus h) = let k = plain_byte b (omega arith) (omega arith) in (tt, k.0, k.1)
kept_a b (b_quote h) = (tt, (omega arith, omega arith), λ t. cut_quote b t false h)
kept_a b (b_letter j h) = let l = letter_lower j in let k = plain_byte b (omega arith) (omega arith) in (tt, k.0, k.1)
kept_a b (b_e h) =
    let k = plain_byte b (omega arith) (omega arith) in
    (((omega arith, omega arith), ((omega arith, omega arith), ((omega arith, omega arith), ((omega arith, omega arith), tt)))), k.0, k.1)
kept_a b (b_none d m q l e) = tt

kept_s : (b : ℕ) (c : Dec (Digit b)) → Kept minus b (go_s b c)
kept_s b (yes h) = let k = plain_byte b (omega arith) (omega arith) in (tt, k.0, k.1)
kept_s b (no n) = tt

kept_d : (b : ℕ) (c : Follows b) → Kept digits b (go_d b c)
kept_d b (f_digit h) = let k = plain_byte b (omega arith) (omega arith) in (tt, k.0, k.1)
kept_d b (f_colon h) = let k = plain_byte b (omega arith) (omega arith) in (tt, k.0, k.1)
kept_d b (f_bar h) = let k = plain_byte b (omega arith) (omega arith) in (tt, k.0, k.1)
kept_d b (f_none d c e) = tt

kept_e : (b : ℕ) (c : Follows b) → Kept done b (go_e b c)
kept_e b (f_digit h) = tt
kept_e b (f_colon h) = let k = plain_byte b (omega arith) (omega arith) in (tt, k.0, k.1)
kept_e b (f_bar h) = let k = plain_byte b (omega arith) (omega arith) in (tt, k.0, k.1)
kept_e b (f_none d c e) = tt

kept_n : (b : ℕ) (c : First b) → Kept number b (go_n b c)
kept_n b (n_zero h) = let k = plain_byte b (omega arith) (omega arith) in (tt, k.0, k.1)
kept_n b (n_more h n) = let k = plain_byte b (omega arith) (omega arith) in (tt, k.0, k.1)
kept_n b (n_none h) = tt

kept_q : (b : ℕ) (c : Holds b) → Kept quoted b (go_q b c)
kept_q b (h_quote h) = (tt, (omega arith, omega arith), λ t. cut_quote b t true h)
kept_q b (h_in h) = (tt, (h.0, h.1), λ t. cut_in b t h.2)
kept_q b (h_none h n) = tt

kept_m : (c : ℕ) (cs : List ℕ) (b : ℕ) (d : Dec (b ≡ c)) → All Lower (c ∷ cs) → Kept (must c cs) b (go_m c cs b d)
kept_m c [] b (yes e) s = let l = s.0 in let k = plain_byte b (omega arith) (omega arith) in (tt, k.0, k.1)
kept_m c (x ∷ cs) b (yes e) s = let l = s.0 in let k = plain_byte b (omega arith) (omega arith) in (s.1, k.0, k.1)
kept_m c [] b (no n) s = tt
kept_m c (x ∷ cs) b (no n) s = tt

kept : (q : State) (b : ℕ) → Sane q → Kept q b (move q b)
kept after b s = kept_a b (begins b)
kept minus b s = kept_s b (digit? b)
kept digits b s = kept_d b (follows b)
kept number b s = kept_n b (first b)
kept done b s = kept_e b (follows b)
kept quoted b s = kept_q b (holds b)
kept (must c cs) b s = kept_m c cs b (ℕ_discrete b c) s

final_out : (q : State) → Final q → in_quotes q ≡ false
final_out after h = absurd h
final_out minus h = absurd h
final_out digits h = refl
final_out number h = absurd h
final_out done h = refl
final_out quoted h = absurd h
final_out (must c cs) h = absurd h

-- from q, t is cut off at a blank or a newline behind it
abbrev pub ClosedFrom : Bool → List ℕ → Type 0
ClosedFrom q t = (c : ℕ) (rest : List ℕ) → Ends c → cut (t ++ c ∷ rest) q ≡ (t, c ∷ rest)

-- what the machine accepts is cut off where it ends, and has no newline
cut_run : (t : List ℕ) (q : State) → Sane q → Accepts (run t q) → All Printable t × ClosedFrom (in_quotes q) t
cut_run [] q s a = (tt, λ c rest h. ap (cut (c ∷ rest)) (final_out q a) ∙ cut_end c rest h)
cut_run (b ∷ t) q s a = go (move q b) (kept q b s) a (λ q' s' a'. cut_run t q' s' a')
  where
    go : (m : Move) → Kept q b m → Accepts (then_run m (run t)) → ((q' : State) → Sane q' → Accepts (run t q') → All Printable t × ClosedFrom (in_quotes q') t)
        → All Printable (b ∷ t) × ClosedFrom (in_quotes q) (b ∷ t)
    go none k a rec = absurd a
    go (some m) k a rec =
        let r = rec m.0 k.0 a in
        ((k.1, r.0), λ c rest h. k.2 (t ++ c ∷ rest) ∙ ap (push_p b) (r.1 c rest h))

-- ---- closed texts

-- w is cut off at a blank or a newline behind it
abbrev pub Closed : List ℕ → Type 0
Closed w = ClosedFrom false w

pub grammar_closed : (t : List ℕ) → Grammar t → Closed t
grammar_closed t g = (cut_run t after tt ((grammar_run t).0 g)).1

pub grammar_printable : (t : List ℕ) → Grammar t → All Printable t
grammar_printable t g = (cut_run t after tt ((grammar_run t).0 g)).0

pub closed_byte : (b : ℕ) (w : List ℕ) → 35 ≤ b → Closed w → Closed (b ∷ w)
closed_byte b w l h = λ c rest e. cut_out b (w ++ c ∷ rest) (λ x. omega arith) (λ x. omega arith) (λ x. omega arith) ∙ ap (push_p b) (h c rest e)

-- a text that goes on with a blank or a newline
abbrev pub Starts : List ℕ → Type 0
Starts [] = ⊥
Starts (c ∷ t) = Ends c

-- A CLOSED TEXT in front of a blank or a newline is determined, and so is what follows
pub closed_one : (w z x y : List ℕ) → Closed w → Closed z → Starts x → Starts y → w ++ x ≡ z ++ y → (w ≡ z) × (x ≡ y)
closed_one w z [] y p q h k e = absurd h
closed_one w z (c ∷ x) [] p q h k e = absurd k
closed_one w z (c ∷ x) (d ∷ y) p q h k e =
    let f : ◌≡◌ {A = Pair} (w, c ∷ x) (z, d ∷ y) = sym (p c x h) ∙ ap (λ (l : List ℕ). cut l false) e ∙ q d y k in
    (ap (λ (o : Pair). o.0) f, ap (λ (o : Pair). o.1) f)
