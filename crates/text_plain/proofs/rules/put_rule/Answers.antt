use mathlib.Core.Path.{◌≡◌}
use lib.ListN.{length}
use Rattle.base_lists.specs.Seqs.{long_mapped}
use Rattle.text_plain.proofs.rules.Sides.{on_both}
use Rattle.text_plain.proofs.rules.put_rule.Goals as goal

pub returns : goal.returns
returns c =
    on_both c.args.r (let it : length c.args.r.right.fields ≡ 4 = search long_mapped in it) c.if-r-eq0.false
    c.put_fields.ensures c.put_bytes.ensures c.put_fields-2.ensures
