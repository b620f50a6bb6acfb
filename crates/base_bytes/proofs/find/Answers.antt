use Rattle.std.proofs.Common.{◌∙◌, arith}
use Rattle.base_bytes.proofs.Places.{found, index_le}
use Rattle.base_bytes.proofs.find.Goals as goal

pub returns-clause-value : goal.returns-clause-value
returns-clause-value c = c.unwrap_or.ensures ∙ found c.args.b c.args.text.now c.first.ensures

pub returns-clause-bound : goal.returns-clause-bound
returns-clause-bound c =
    let b = c.args.b in
    let t = c.args.text.now in
    omega (arith, c.unwrap_or.ensures, found b t c.first.ensures, index_le b t)
