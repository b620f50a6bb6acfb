use mathlib.Core.Path.{ap}
use native.Mathlib.Omega.{arith}
use lib.ListN.{length}
use Rattle.text_write.proofs.Digits.{digits_32}
use Rattle.text_write.proofs.Terms.{var_text}
use Rattle.text_write.proofs.term_size.Goals as goal

pub returns-in-Var : goal.returns-in-Var
returns-in-Var c =
    let z = c.args.t in
    let n = c.in-Var.n in
    let e = var_text z.form z.text _ n c.in-Var.is in
    (omega (arith, ap length e), omega (arith, digits_32 n (omega arith)))
