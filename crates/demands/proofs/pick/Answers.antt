use Rattle.demands.specs.Books.{picking}
use Rattle.demands.proofs.pick.Goals as goal

pub returns : goal.returns
returns c = picking c.args.book c.args.slip c.pick.ensures
