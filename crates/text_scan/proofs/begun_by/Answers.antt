use Rattle.math_types.specs.Order.{basic, list}
use Rattle.math_types.specs.Types.{leaf, integer, string, atom}
use Rattle.text_scan.proofs.Bytes.{starts_var}
use Rattle.text_scan.proofs.begun_by.Goals as goal

pub returns-in-105 : goal.returns-in-105
returns-in-105 c = starts_var c.args.b (basic (leaf integer)) c.in-105.is

pub returns-in-115 : goal.returns-in-115
returns-in-115 c = starts_var c.args.b (basic (leaf string)) c.in-115.is

pub returns-in-97 : goal.returns-in-97
returns-in-97 c = starts_var c.args.b (basic atom) c.in-97.is

pub returns-in-108 : goal.returns-in-108
returns-in-108 c = starts_var c.args.b list c.in-108.is
