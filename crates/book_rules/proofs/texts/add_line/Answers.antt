use Prim.Native.Nat.{◌<◌}
use native.Mathlib.Omega.{arith}
use lib.ListN.{length}
use Rattle.book_rules.specs.texts.Keeping.{room_for}
use Rattle.book_rules.proofs.texts.Lines.{taken_short, refused_adds}
use Rattle.book_rules.proofs.texts.add_line.Goals as goal

pub keep_text-more-requires : goal.keep_text-more-requires
keep_text-more-requires c =
    let z = c.args in
    let l = c.judge_left-judged in
    let room : z.kept.n < room_for (length z.row.now) = omega (arith, c.if-room_for-kept.false, c.room_for.ensures) in
    (room, taken_short z.kept z.line.now z.row.now room l.result l.ensures c.in-Ok.is)

pub returns-in-Err : goal.returns-in-Err
returns-in-Err c =
    let z = c.args in
    let l = c.judge_left-judged in
    refused_adds z.kept z.line.now z.row.now (omega (arith, c.if-room_for-kept.false, c.room_for.ensures))
    l.result l.ensures _ _
    c.in-Err.is
