use Rattle.std.proofs.Common.{◌≡◌, ◌-◌, length, take, drop, rules}
use Rattle.search_steps.specs.Machine.{line_of}
use Rattle.search_steps.proofs.Steps.{put_as, line_by_lem, line_part}
use Rattle.search_steps.proofs.put_line.Goals as goal

pub returns-clause-out_after : goal.returns-clause-out_after
returns-clause-out_after c =
    let s = c.args.s.now in
    let p = c.args.p.now in
    let old = c.args.out.now in
    let a = c.line_place-at in
    let part = take (length old - a.result) (drop a.result old) in
    let two : length p.lists ≡ 2 = search rules in
    let put = put_as s.row s.texts p.atoms.atoms part c.used.ensures c.used-2.ensures c.put_answer.ensures.puts in
    line_part s (line_of s p) old a.result a.ensures (line_by_lem s p part _ two put).1
