use borrow.Author.Rules.{rules}
use Rattle.demands.specs.Pairs.{pair_shared}
use Rattle.demands.proofs.pair_answer.Goals as goal

pub returns : goal.returns
returns c =
    let z = c.args in
    let e = c.pair_answer.ensures in
    pair_shared z.k z.line.now e.writes e.line_len_bound
