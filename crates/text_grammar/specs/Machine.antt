-- The grammar as a state machine that parses: what each byte does to the state and to the answer.
-- Executable; `parse_iff` and `place2_is` of proofs/ say that it is right.
use Rattle.std.specs.Prelude.{◌≡◌, true, false, List, [], ◌∷◌, ℕ, suc}
use Rattle.std.proofs.Math.Logic.{ite}
use Rattle.std.proofs.Math.Option.{Option, none, some, map}
use Rattle.std.proofs.Math.Decide.{ℕ_discrete}
use Rattle.text_grammar.specs.Bytes.{Digit, digit?, Begins, b_digit, b_minus, b_quote, b_letter, b_e, b_none, begins, Follows}
use Rattle.text_grammar.specs.Bytes.{f_digit, f_colon, f_bar}
use Rattle.text_grammar.specs.Bytes.{f_none}
use Rattle.text_grammar.specs.Bytes.{follows, First, n_zero, n_more, n_none, first, Holds, h_quote, h_in, h_none, holds}
use Rattle.text_grammar.specs.Grammar.{Raw, raw_var, raw_empty, raw_con}
use Rattle.text_grammar.specs.constants.Constants.{raw_int, raw_str}

-- before a term; behind an integer's minus; in an integer's or a variable's digits; before a variable's number; behind a term; in a string;
-- in `empty`, with the bytes that must come
pub data State : Type 0 where
  after : State
  minus : State
  digits : State
  number : State
  done : State
  quoted : State
  must : ℕ → List ℕ → State

-- what is left: the rest of the term's bytes, the further terms of the field, the further fields
abbrev pub Rest : Type 0
Rest = List ℕ × List Raw × List (List Raw)

abbrev pub Move : Type 0
Move = Option (State × (Rest → Rest))

abbrev pub push : ℕ → Rest → Rest
push b o = (b ∷ o.0, o.1, o.2)

abbrev pub turn : Rest → Rest
turn o = ([], [], o.1 ∷ o.2)

abbrev pub term : (List ℕ → Raw) → Rest → Rest
term f o = ([], f o.0 ∷ o.1, o.2)

abbrev pub go_a : (b : ℕ) → Begins b → Move
go_a b (b_digit h) = some (digits, term (λ w. raw_con (raw_int false (b ∷ w))))
go_a b (b_minus h) = some (minus, term (λ w. raw_con (raw_int true w)))
go_a b (b_quote h) = some (quoted, term (λ w. raw_con (raw_str w)))
go_a b (b_letter k h) = some (number, term (raw_var k))
go_a b (b_e h) = some (must 109 (112 ∷ 116 ∷ 121 ∷ []), term (λ w. raw_empty))
go_a b (b_none d m q l e) = none

abbrev pub go_s : (b : ℕ) → Dec (Digit b) → Move
go_s b (yes h) = some (digits, push b)
go_s b (no n) = none

abbrev pub go_d : (b : ℕ) → Follows b → Move
go_d b (f_digit h) = some (digits, push b)
go_d b (f_colon h) = some (after, λ o. o)
go_d b (f_bar h) = some (after, turn)
go_d b (f_none d c e) = none

abbrev pub go_e : (b : ℕ) → Follows b → Move
go_e b (f_digit h) = none
go_e b (f_colon h) = some (after, λ o. o)
go_e b (f_bar h) = some (after, turn)
go_e b (f_none d c e) = none

abbrev pub go_n : (b : ℕ) → First b → Move
go_n b (n_zero h) = some (done, push b)
go_n b (n_more h n) = some (digits, push b)
go_n b (n_none h) = none

abbrev pub go_q : (b : ℕ) → Holds b → Move
go_q b (h_quote h) = some (done, λ o. o)
go_q b (h_in h) = some (quoted, push b)
go_q b (h_none h n) = none

abbrev pub then : List ℕ → State
then [] = done
then (c ∷ cs) = must c cs

abbrev pub go_m : (c : ℕ) (cs : List ℕ) (b : ℕ) → Dec (b ≡ c) → Move
go_m c cs b (yes e) = some (then cs, λ o. o)
go_m c cs b (no n) = none

abbrev pub move : State → ℕ → Move
move after b = go_a b (begins b)
move minus b = go_s b (digit? b)
move digits b = go_d b (follows b)
move number b = go_n b (first b)
move done b = go_e b (follows b)
move quoted b = go_q b (holds b)
move (must c cs) b = go_m c cs b (ℕ_discrete b c)

-- where a text may end
abbrev pub Final : State → Type 0
Final after = ⊥
Final minus = ⊥
Final digits = Unit {0}
Final number = ⊥
Final done = Unit {0}
Final quoted = ⊥
Final (must c cs) = ⊥

abbrev pub final? : (q : State) → Dec (Final q)
final? after = no (λ h. h)
final? minus = no (λ h. h)
final? digits = yes tt
final? number = no (λ h. h)
final? done = yes tt
final? quoted = no (λ h. h)
final? (must c cs) = no (λ h. h)

-- THE PARSER
abbrev pub then_scan : Move → (State → Option Rest) → Option Rest
then_scan none k = none
then_scan (some m) k = map m.1 (k m.0)

abbrev pub scan : List ℕ → State → Option Rest
scan [] q = ite (final? q) (some ([], [], [])) none
scan (b ∷ t) q = then_scan (move q b) (scan t)

abbrev pub whole : Rest → List (List Raw)
whole o = o.1 ∷ o.2

abbrev pub parse : List ℕ → Option (List (List Raw))
parse t = map whole (scan t after)

-- where the machine stops: the place of refusal 2, if there is one
abbrev pub then_stop : Move → (State → Option ℕ) → Option ℕ
then_stop none k = some 0
then_stop (some m) k = map suc (k m.0)

abbrev pub stop : List ℕ → State → Option ℕ
stop [] q = ite (final? q) none (some 0)
stop (b ∷ t) q = then_stop (move q b) (stop t)

abbrev pub place2 : List ℕ → Option ℕ
place2 t = stop t after
