use Rattle.std.proofs.Common.{ℕ, List, ◌≡◌, ◌≤◌, ◌+◌, ◌-◌, ◌*◌, length, get_or, take, drop, min, arith, ap, ap₂, ◌∙◌}
use Rattle.pair_lines.specs.declared.Bindings.{Bindings}
use Rattle.pair_lines.specs.Lines.{run_by, shown_run, shown_value}
use Rattle.pair_lines.proofs.Puts.{puts_as}
use Rattle.pair_lines.proofs.Values.{value_run, part_within}
use Rattle.pair_lines.proofs.Bindings.put_value.Goals as goal

-- the items from x to y, which are the run's ends as far as there are items, are a list variable's value
cut : (s : Bindings) (k n x y : ℕ) → y ≡ min (get_or s.runs.now (2 * n + 1) 0) (length s.side.items.now) → x ≡ min (get_or s.runs.now (2 * n) 0) y → 3 ≤ k
    → take (y - x) (drop x s.side.items.now) ≡ shown_value s k n
cut s k n x y t f h =
    let l = s.side.items.now in
    let a = get_or s.runs.now (2 * n) 0 in
    ap₂ (λ (i j : ℕ). take (j - i) (drop i l)) (f ∙ ap (min a) t) t
    ∙ part_within l a (get_or s.runs.now (2 * n + 1) 0)
    ∙ value_run s.shown.row.now s.side.right s.side.atoms.now (run_by s.runs.now l) k n h

pub put_run-requires : goal.put_run-requires
put_run-requires c =
    let s = c.args.self.now in
    let e = cut s c.args.rank c.args.n c.min-from.result c.min-to.result
    (c.min-to.ensures ∙ ap (λ (x : ℕ). min x (length s.side.items.now)) c.byte_at.ensures)
    (c.min-from.ensures ∙ ap (λ (x : ℕ). min x c.min-to.result) c.byte_at-2.ensures) c.if-rank-lt-LIST_RANK.false in
    omega (arith, c.requires, ap (λ (l : List ℕ). length (shown_run s.shown l)) e)

pub returns : goal.returns
returns c =
    let s = c.args.self.now in
    let e = cut s c.args.rank c.args.n c.min-from.result c.min-to.result
    (c.min-to.ensures ∙ ap (λ (x : ℕ). min x (length s.side.items.now)) c.byte_at.ensures)
    (c.min-from.ensures ∙ ap (λ (x : ℕ). min x c.min-to.result) c.byte_at-2.ensures) c.if-rank-lt-LIST_RANK.false in
    puts_as c.args.at c.args.out.now (ap (shown_run s.shown) e) c.put_run.ensures
