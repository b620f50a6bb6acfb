use mathlib.Core.Path.{sym, ◌∙◌}
use Prim.Native.Nat.{◌+◌, ◌≤◌, ◌<◌}
use native.Mathlib.Omega.{arith}
use Rattle.pair_table.proofs.Loops.{digit_within, zeros_one, zeros_end, zeros_last}
use Rattle.pair_table.proofs.leading_zeros.Goals as goal

pub returns-then-byte_at-ne48 : goal.returns-then-byte_at-ne48
returns-then-byte_at-ne48 c =
    let a = c.args in
    let L = c.loop-i in
    let h : L.i + 1 < a.n = omega arith in
    let z = zeros_end a.text.now a.at a.n L.i h (λ e. c.if-byte_at-ne48.true (c.byte_at.ensures ∙ e)) in
    record { value = omega (arith, L.invariant.1, z); upper_bound = omega arith; result_in_bounds = L.invariant.0 }

pub loop-i-preserved : goal.loop-i-preserved
loop-i-preserved c =
    let a = c.args in
    let L = c.loop-i in
    let h : L.i + 1 < a.n = omega arith in
    let e = sym c.byte_at.ensures ∙ c.if-byte_at-ne48.false in
    (omega (arith, digit_within a.text.now (a.at + L.i) e), L.invariant.1 ∙ zeros_one a.text.now a.at a.n L.i h e)

pub returns : goal.returns
returns c =
    let a = c.args in
    let L = c.loop-i in
    let h : a.n ≤ L.i + 1 = omega arith in
    let z = zeros_last a.text.now a.at a.n L.i h in
    record { value = omega (arith, L.invariant.1, z); upper_bound = omega arith; result_in_bounds = omega (arith, L.invariant.0) }
