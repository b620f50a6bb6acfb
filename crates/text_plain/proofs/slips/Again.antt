-- What is written of a slip, read again.
use mathlib.Core.Path.{◌≡◌, sym, ◌∙◌, ap}
use mathlib.Core.Bool.{Bool, true, false, cond}
use mathlib.Core.List.{List, []}
use Prim.Native.Nat.{ℕ}
use Rattle.text_grammar.specs.Terms.{OurFields}
use Rattle.text_grammar.specs.Plain.{plain}
use Rattle.text_grammar.specs.Read.{Outcome, accepted, read_slip}
use Rattle.text_grammar.proofs.Accepted.{slip_read_lem, slip_plain}
use Rattle.text_values.specs.Values.{Slip}
use Rattle.text_values.specs.Values.{view_slip, encode_slip}
use Rattle.text_accepted.specs.slips.Slips.{accepted_slip, counted_slip}
use Rattle.text_accepted.proofs.slips.Slips.{accepted_slip_lem, counted_accepted, counted_slip_lem}

-- READING A SLIP'S PLAIN TEXT gives what the slip stands for, and there is one value for it
pub read_written : (s : Slip) → accepted_slip s ≡ true → (read_slip (plain (counted_slip s)) ≡ accepted (view_slip s)) × (encode_slip (view_slip s) ≡ s)
read_written s h =
    let a = accepted_slip_lem s h in
    (ap (λ (r : OurFields). read_slip (plain r)) (counted_accepted s h) ∙ slip_plain (view_slip s) a.0, a.1)

-- EVERY TEXT that is read as r is written as the one plain text of r
pub written_once : (t : List ℕ) (r : OurFields) → read_slip t ≡ accepted r → plain (counted_slip (encode_slip r)) ≡ plain r
written_once t r e = ap plain (counted_slip_lem r (slip_read_lem t r e))

accepted_one : (x y : OurFields) → ◌≡◌ {A = Outcome} (accepted x) (accepted y) → x ≡ y
accepted_one x y e = cc

-- PLAIN TEXT IS INJECTIVE on accepted slips
pub written_injective : (s u : Slip) → accepted_slip s ≡ true → accepted_slip u ≡ true → plain (counted_slip s) ≡ plain (counted_slip u) → s ≡ u
written_injective s u h k e =
    let a = read_written s h in
    let b = read_written u k in
    sym a.1 ∙ ap encode_slip (accepted_one (view_slip s) (view_slip u) (sym a.0 ∙ ap read_slip e ∙ b.0)) ∙ b.1

-- A VALUE THAT NO READING RETURNS writes no bytes
pub unread_nothing : (s : Slip) → accepted_slip s ≡ false → plain (counted_slip s) ≡ []
unread_nothing s h = ap (λ (b : Bool). plain (cond b (view_slip s) [])) h
