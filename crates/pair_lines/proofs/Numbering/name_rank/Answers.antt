use Rattle.std.proofs.Common.{ℕ, List, sym, ap, ◌∙◌, subst, arith}
use Rattle.math_codes.specs.Names.{name_fields}
use Rattle.pair_row.specs.Row.{table_in, top_in}
use Rattle.pair_lines.specs.Lines.{Few, most_count, names_of}
use Rattle.pair_lines.specs.Answers.{listed_at}
use Rattle.pair_lines.proofs.Answers.{values_one, values_few, listed_there, listed_not}
use Rattle.pair_lines.proofs.Numbering.name_rank.Goals as goal
use Rattle.pair_lines.proofs.Numbering.name_rank.Goals.{else-index_at-ne0, then-index_at-ne0}

pub name_value-requires : goal.name_value-requires
name_value-requires c =
    let z = c.args in
    let L = c.loop-n in
    let T = table_in z.row.now in
    let f = listed_at z.row.now z.side.now.right z.side.now.atoms.now z.side.now.items.now z.rank in
    subst (λ (vs : List (List ℕ)). Few most_count (name_fields T (names_of L.self) vs).counts)
    (sym (listed_there z.row.now z.side.now.right z.side.now.atoms.now z.side.now.items.now z.rank L.n (λ e. c.if-index_at-ne0.true (c.index_at.ensures ∙ e))))
    (values_few T (names_of z.self.now) f most_count L.n (top_in z.row.now z.side.now.right z.rank) (names_of L.self) L.invariant
    (omega (arith, c.loop-n-test.true, c.top_at-n-end.ensures)) c.requires)

pub loop-n-preserved : goal.loop-n-preserved
loop-n-preserved c =
    let z = c.args in
    let L = c.loop-n in
    let T = table_in z.row.now in
    let x = names_of L.self in
    let f = listed_at z.row.now z.side.now.right z.side.now.atoms.now z.side.now.items.now z.rank in
    values_one T (names_of z.self.now) f L.n x _ L.invariant
    (elim c.if-index_at-ne0.branch [
      | then-index_at-ne0 w ↦ ap names_of w.self-is ∙ w.name_value.ensures
          ∙ ap (name_fields T x) (listed_there z.row.now z.side.now.right z.side.now.atoms.now z.side.now.items.now z.rank L.n (λ e. w.if-index_at-ne0.true (c.index_at.ensures ∙ e)))
      | else-index_at-ne0 w ↦ ap names_of w.self-is
          ∙ ap (name_fields T x) (listed_not z.row.now z.side.now.right z.side.now.atoms.now z.side.now.items.now z.rank L.n (sym c.index_at.ensures ∙ w.if-index_at-ne0.false))
    ])
