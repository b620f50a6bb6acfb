use Rattle.pair_lines.specs.Lines.{line_in}
use Rattle.overlap_list.proofs.Laws.{tally_one, still_moderate, line_part}
use Rattle.overlap_list.proofs.put_entry.Goals as goal

pub returns : goal.returns
returns c =
    let line = line_in c.args.row.now c.args.texts.now c.args.fields c.args.ch c.args.st.atoms in
    let a = c.min-at in
    let n = c.put_line-n in record {
      stores = (
        tally_one c.args.t line n.result n.ensures.puts.0,
        line_part line c.args.out.now c.args.t.bytes a.result a.ensures n.ensures.puts.1,
      );
      moderate = still_moderate c.args.t line n.result n.ensures.upper_bound c.requires;
    }
