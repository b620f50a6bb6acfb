use Rattle.std.proofs.Common.{◌∙◌}
use Rattle.overlap_list.proofs.shared.Choices.{any_start}
use Rattle.overlap_list.proofs.shared.any_choice.Goals as goal

pub returns-in-Some : goal.returns-in-Some
returns-in-Some c =
    let z = c.args in
    c.next_field.ensures ∙ any_start z.pair z.row.now c.in-Some.n c.in-Some.is c.start.result c.start.ensures
