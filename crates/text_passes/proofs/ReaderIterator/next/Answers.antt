use Rattle.std.proofs.Common.{ap, refl, arith, length}
use Rattle.text_passes.proofs.Loops.{may_pass, term_then}
use Rattle.text_passes.proofs.ReaderIterator.next.Goals as goal

pub behind-self-requires : goal.behind-self-requires
behind-self-requires c =
    let r = c.args.self.now in
    may_pass r.text.now r.at c.lexeme_at-p.result c.lexeme_at-p.ensures c.if-self-at.false r.within.0

pub returns-clause-steps : goal.returns-clause-steps
returns-clause-steps c =
    let r = c.args.self.now in
    let p = c.lexeme_at-p in
    let e = term_then r.text.now r.at p.result p.ensures c.if-self-at.false c.behind-self.result c.behind-self.ensures in
    (c.if-self-at.false, ap (λ (x : _). (r.at, x)) p.ensures, e, refl)

pub returns-clause-goes : goal.returns-clause-goes
returns-clause-goes c =
    let r = c.args.self.now in
    let p = c.lexeme_at-p in
    let e = term_then r.text.now r.at p.result p.ensures c.if-self-at.false c.behind-self.result c.behind-self.ensures in
    record { on = λ _. (tt, tt, omega (arith, ap length e)); keeps = tt; rests = λ _. tt }
