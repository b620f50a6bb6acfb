use native.Mathlib.Omega.{arith}
use Rattle.text_grammar.proofs.Numbers.{one_more}
use Rattle.text_write.proofs.Digits.{digits_64}
use Rattle.text_write.proofs.digits_size.Goals as goal

pub loop-m-init : goal.loop-m-init
loop-m-init c = (omega arith, digits_64 _ (omega arith))

pub loop-m-preserved : goal.loop-m-preserved
loop-m-preserved c = (omega (arith, one_more c.loop-m.m (omega arith)), c.loop-m.invariant.1)
