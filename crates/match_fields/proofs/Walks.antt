-- What is read beyond the end of an array of terms.
use mathlib.Core.List.{[]}
use Rattle.text_values.specs.declared.Form.TheVariants.{Con}
use Rattle.text_values.specs.declared.Term.{Term}
use Rattle.text_values.specs.constants.Constants.{blank_constant}

-- what an array of terms is read as beyond its end
abbrev pub absent : Term
absent = record { form = Con blank_constant; text = [] }
