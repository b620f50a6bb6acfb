use borrow.Author.Rules.{rules}
use Rattle.demands.specs.Texts.{slip_writing}
use Rattle.demands.proofs.write_slip.Goals as goal

pub returns : goal.returns
returns c =
    let z = c.args in
    let W = c.write_slip in
    slip_writing z.s z.out.now W.result W.new.out W.ensures
