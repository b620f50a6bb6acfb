use borrow.Author.Rules.{rules}
use Rattle.text_scan.proofs.ClassTable.{class_at}
use Rattle.text_scan.proofs.class_of.Goals as goal

pub returns : goal.returns
returns c = class_at c.args.b (search rules)
