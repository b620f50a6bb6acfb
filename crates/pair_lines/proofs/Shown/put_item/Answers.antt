use Rattle.std.proofs.Common.{[], ◌∷◌, ◌++◌, sym, ◌∙◌}
use Rattle.pair_row.specs.Row.{bytes_in}
use Rattle.pair_lines.proofs.Puts.{puts_as, puts_next}
use Rattle.pair_lines.proofs.Texts.{item_string}
use Rattle.pair_lines.proofs.Shown.put_item.Goals as goal

pub returns : goal.returns
returns c =
    let z = c.args in
    let s = z.self.now in
    let t = bytes_in s.texts.now z.c in
    puts_as z.at z.out.now
    (item_string s.row.now s.texts.now s.numbers.now z.c (sym c.is_variable.ensures ∙ c.if-is_variable.false) (sym c.kind_at-kind.ensures ∙ c.if-kind-ne1.false))
    (puts_next (34 ∷ []) (t ++ 34 ∷ []) z.at z.out.now c.put_byte-p-2.ensures (puts_next t (34 ∷ []) _ _ c.put_constant-q.ensures c.put_byte.ensures))
