use Rattle.std.specs.Prelude.{eqb, not}
use Rattle.std.proofs.lemmas.Iterator.{YieldsList-from_slice}
use Rattle.std.proofs.lemmas.Iterator.Consumers.{count_from_yields_List}
use Rattle.std.proofs.lemmas.Iterator.Search.{YieldsList-from_take_while}
use Rattle.std.proofs.lemmas.List.Folds.{length-prefix_len}
use Rattle.std.proofs.Common.{◌≡◌, ◌-◌, ◌∙◌, List, ℕ, length, drop, length-drop, arith, rules, tests}
use Rattle.std.proofs.Math.Seq.{take_all}
use Rattle.text_scan.proofs.Runs.{quoted_prefix}
use Rattle.text_scan.proofs.quoted_from.Goals as goal

pub returns : goal.returns
returns c =
    let t = c.args.text.now in
    let at = c.args.at in
    let z : List ℕ = drop at t in
    let rest : c.take_while.result.iter.rest.now ≡ z = cc (take_all (length t - at) z (omega (arith, length-drop at t))) in
    count_from_yields_List c.take_while.result _ c.count.ensures.ran
    (YieldsList-from_take_while _ (λ b. not (eqb b 34)) (YieldsList-from_slice z rest)
    c.take_while.ensures.closure c.take_while.ensures.done (λ x b q k. search (rules, tests)))
    ∙ length-prefix_len (λ b. not (eqb b 34)) z
    ∙ quoted_prefix z
