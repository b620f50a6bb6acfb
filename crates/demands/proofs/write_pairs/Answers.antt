use Rattle.book_rules.specs.Books.{counted_book}
use Rattle.demands.specs.Books.{counted_book_lem, ordering}
use borrow.Author.Rules.{rules}
use Rattle.demands.proofs.write_pairs.Goals as goal

pub returns : goal.returns
returns c =
    let z = c.args in
    ordering (counted_book z.book) (counted_book_lem z.book) c.write_pairs.ensures
