use mathlib.Core.Path.{ap}
use native.Mathlib.Omega.{arith}
use lib.ListN.{length}
use Rattle.text_grammar.specs.Numbers.{digits_of}
use Rattle.text_write.proofs.Digits.{digits_32}
use Rattle.text_write.proofs.Terms.{int_text, signed_length}
use borrow.Author.Rules.{rules}
use Rattle.text_write.proofs.constants.size.Goals as goal

pub returns-in-Int : goal.returns-in-Int
returns-in-Int c =
    let z = c.args.c in
    let m = c.in-Int.minus in
    let n = c.in-Int.n in (
      λ s l. omega (arith, ap length (int_text z s m n c.in-Int.is), signed_length m (digits_of n), c.sign_size.ensures.value),
      omega (arith, digits_32 n (search rules), c.sign_size.ensures.upper_bound),
    )
