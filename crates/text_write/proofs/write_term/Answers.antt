use native.Mathlib.Omega.{arith}
use Rattle.text_grammar.specs.Plain.{term_text}
use Rattle.text_values.specs.Values.{view_term}
use Rattle.text_write.proofs.Answers.{wrote}
use Rattle.text_write.proofs.write_term.Goals as goal

pub returns : goal.returns
returns c =
    let z = c.args in
    let P = c.put_term in
    record {
      writes = wrote (term_text (view_term z.t)) z.out.now (omega arith) (omega (arith, P.ensures.0)) P.ensures.1;
      t_len_bound = omega arith;
    }
