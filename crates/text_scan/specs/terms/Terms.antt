-- A written term as a value.
use Rattle.std.specs.Prelude.{◌%◌, min, length, take, replicate}
use Rattle.base_limits.specs.Limits.{longest_string}
use Rattle.math_types.specs.Values.{kind_from}
use Rattle.text_grammar.specs.Grammar.{Raw, raw_var, raw_empty, raw_con}
use Rattle.text_grammar.specs.constants.Constants.{sign_of, raw_int, raw_str, RawCon}
use Rattle.text_grammar.specs.Numbers.{value}
use Rattle.text_values.specs.declared.constants.Constant.TheVariants.{Int, Str}
use Rattle.text_values.specs.declared.Form.TheVariants.{Con, Var}
use Rattle.text_values.specs.declared.Term.{Term}
use Rattle.text_values.specs.canonical.Filled.{pad}
use Rattle.text_values.specs.Values.{blank_term}
use Rattle.text_scan.specs.Lexemes.{capped}

-- one over its limits, which refusal 5 has met, is cut to what the value can hold
abbrev pub constant_from : RawCon → Term
constant_from (raw_int m ds) =
    let v = capped (value ds) in
    record { form = Con (Int (sign_of m v) v); text = replicate longest_string 0 }
constant_from (raw_str s) = record { form = Con (Str (min (length s) longest_string)); text = pad longest_string 0 (take longest_string s) }

abbrev pub term_from : Raw → Term
term_from (raw_con r) = constant_from r
term_from (raw_var k ds) = record { form = Var (kind_from k) (capped (value ds) % 256); text = replicate longest_string 0 }
term_from raw_empty = blank_term
