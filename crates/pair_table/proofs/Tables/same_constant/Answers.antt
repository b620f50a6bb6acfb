use Rattle.std.proofs.Common.{rules, arith, refl, sym, ◌≡◌, ℕ, ◌+◌, ◌*◌, get_or, ◌∙◌}
use Rattle.std.proofs.lemmas.Iterator.{YieldsList-from_range, cases_from_all}
use borrow.Author.Tests.{tests}
use Rattle.pair_row.specs.Row.{cell_bytes}
use Rattle.pair_table.proofs.Loops.{same_all, same_whole}
use Rattle.pair_table.proofs.Tables.same_constant.Goals as goal

pub returns : goal.returns
returns c =
    let z = c.args in
    let t = z.self.now.texts.now in
    let n = c.byte_at-n.result in
    let P : ℕ → Type 0 = λ i. get_or t (cell_bytes * z.p + i) 0 ≡ get_or t (cell_bytes * z.q + i) 0 in
    sym (same_whole z.self.now.row.now t z.p z.q n c.all.result (sym c.byte_at.ensures ∙ c.if-byte_at.false ∙ c.byte_at-2.ensures) c.byte_at-n.ensures
    (same_all t (cell_bytes * z.p) (cell_bytes * z.q) (n + 1) c.all.result
    (cases_from_all _ _ c.all.result P (λ i. P i → ⊥) c.all.ensures.ran (YieldsList-from_range 0 (n + 1) (n + 1) refl (omega arith))
    (λ x q k. search (rules, tests)) (λ x q k. search (rules, tests)))))
