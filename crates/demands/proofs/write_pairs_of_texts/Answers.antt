use Rattle.book_rules.specs.texts.Keeping.{book_in}
use Rattle.demands.specs.Books.{texts_book, ordering}
use borrow.Author.Rules.{rules}
use Rattle.demands.proofs.write_pairs_of_texts.Goals as goal

pub returns : goal.returns
returns c =
    let z = c.args in
    ordering (book_in z.kept z.row.now) (texts_book z.kept z.row.now) c.write_pairs.ensures
