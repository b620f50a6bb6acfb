use mathlib.Core.Path.{◌≡◌}
use lib.ListN.{length}
use Rattle.math_types.specs.Values.{kind_of}
use Rattle.print_matches.specs.answers.Values.{atom_text}
use Rattle.print_matches.proofs.answers.Loops.{From}
use Rattle.print_matches.proofs.answers.put_atoms.Given as goal

abbrev pub invariant-loop-n : goal.invariant-loop-n
invariant-loop-n l = (length l.v.terms ≡ 48) × From l.rule.has (kind_of l.k) (atom_text l.v (kind_of l.k)) l.initial.page l.n l.page
