use Rattle.std.proofs.Common.{arith}
use Rattle.text_grammar.proofs.Numbers.{one_more}
use Rattle.text_write.proofs.Digits.{put_more}
use Rattle.text_write.proofs.+put_digits.Goals as goal

pub put_digits-p-requires : goal.put_digits-p-requires
put_digits-p-requires t c =
    let e = one_more c.args.n c.if-n-lt10.false in
    (omega arith, omega arith)

pub bounds-out-p : goal.bounds-out-p
bounds-out-p t c = omega (arith, c.put_digits-p.ensures.0, one_more c.args.n c.if-n-lt10.false)

pub overflow_add-result-2 : goal.overflow_add-result-2
overflow_add-result-2 t c = omega (arith, c.put_digits-p.ensures.0, one_more c.args.n c.if-n-lt10.false)

pub returns : goal.returns
returns t c = put_more c.args.n c.args.out.now c.args.at c.if-n-lt10.false c.put_digits-p.ensures.0 c.put_digits-p.ensures.1
