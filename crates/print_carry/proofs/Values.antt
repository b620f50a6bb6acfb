-- The words before a slip, by the answer. Assumes nothing.
use mathlib.Core.Path.{◌≡◌}
use native.Mathlib.Decide.{dec_lt}
use Rattle.text_grammar.specs.Ascii.{ascii}
use Rattle.apply_rules.specs.declared.Carry.{Carry}
use Rattle.apply_rules.specs.declared.Carry.TheVariants.{Yes, No, TooLong}
use Rattle.print_carry.specs.Values.{said_answer}

module _ (a : Carry) where
  pub words_yes : a ≡ Yes → said_answer a ≡ ascii "yes "
  words_yes e = rw e

  pub words_no : a ≡ No → said_answer a ≡ ascii "no "
  words_no e = rw e

  pub words_long : a ≡ TooLong → said_answer a ≡ ascii "refusal 11 "
  unfolding dec_lt
  words_long e = rw e
