-- The same answers, from what reading, carrying out and writing return: `texts_carried` of proofs/Carries says that they are the same.
use Rattle.std.specs.Prelude.{ℕ, Result, Ok, Err}
use Rattle.text_grammar.specs.Told.{Told}
use Rattle.apply_rules.specs.declared.Carry.{Carry}
use Rattle.apply_rules.specs.declared.Carry.TheVariants.{Yes, No, TooLong}
use Rattle.apply_rules.specs.Answers as carrying
use Rattle.text_write.specs.declared.TooSmall.{TooSmall}
use Rattle.text_write.specs.Answers.{told}
use Rattle.yopobrush.specs.declared.Reading.{Reading}
use Rattle.yopobrush.specs.declared.Carrying.{Carrying}
use Rattle.yopobrush.specs.Answers.{numbered}
use Rattle.yopobrush.specs.Carries.{unless}

abbrev pub number_by : Carry → ℕ
number_by Yes = 1
number_by No = 0
number_by TooLong = numbered (carrying.told TooLong).number

abbrev pub roomed : Reading → Reading → ℕ → Told → ℕ → Carrying
roomed rule slip n a b = record { rule = rule; slip = slip; answer = unless n a.number; bytes = b }

abbrev pub carrying_by : Reading → Reading → ℕ → Result ℕ TooSmall → Carrying
carrying_by rule slip n (Ok b) = roomed rule slip n (told (Ok b)) b
carrying_by rule slip n (Err e) = roomed rule slip n (told (Err e)) e.needed
