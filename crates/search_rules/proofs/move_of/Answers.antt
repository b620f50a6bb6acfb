use mathlib.Core.Path.{sym, ap}
use Rattle.std.specs.Prelude.{Some}
use lib.ListN.{get_or-eq_default}
use Rattle.math_search.specs.Rules.{rule_count}
use Rattle.pair_row.specs.Row.{table_in}
use Rattle.search_items.specs.Items.{items_of}
use Rattle.search_rules.specs.Moves.{no_move, made_by}
use Rattle.search_rules.proofs.Numbers.{not_below}
use Rattle.search_rules.proofs.Cases.{applied}
use Rattle.search_rules.proofs.move_of.Goals as goal

pub returns-in-2 : goal.returns-in-2
returns-in-2 c =
    let z = c.args in
    applied (table_in z.row.now) z.rule z.left.now z.right.now z.fresh c.head_of-a.result c.head_of-b.result
    c.head_of-a.ensures c.head_of-b.ensures c.applies.result c.applies.ensures
    c.fresh_code-n.result c.fresh_code-n.ensures c.if-not-applies.false-raw (rw c.in-2.is (ap Some c.decomp1_prime.ensures))

pub returns-in_default : goal.returns-in_default
returns-in_default c =
    let z = c.args in
    let a = c.head_of-a in
    let b = c.head_of-b in
    let all = made_by a.result.first b.result.first z.left.now z.right.now (items_of z.left.now) (items_of z.right.now) c.fresh_code-n.result in
    applied (table_in z.row.now) z.rule z.left.now z.right.now z.fresh a.result b.result
    a.ensures b.ensures c.applies.result c.applies.ensures c.fresh_code-n.result c.fresh_code-n.ensures c.if-not-applies.false-raw
    (sym (get_or-eq_default all no_move (not_below rule_count z.rule c.in_default.in_default-own.rest)))
