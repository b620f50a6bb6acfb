use native.Mathlib.Omega.{arith}
use Rattle.text_grammar.specs.Numbers.{digits_of}
use Rattle.text_write.proofs.Answers.{wrote}
use Rattle.text_write.proofs.write_number.Goals as goal

pub returns : goal.returns
returns c =
    let z = c.args in
    let P = c.put_digits in
    wrote (digits_of z.n) z.out.now (omega arith) (omega (arith, P.ensures.0)) P.ensures.1
