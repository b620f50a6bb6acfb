use mathlib.Core.Path.{◌≡◌, sym, ◌∙◌, ap}
use native.Mathlib.Omega.{arith}
use Rattle.text_scan.proofs.split.Splits.{two_sides}
use Rattle.text_read.specs.Sides.{unknown_of}
use Rattle.text_read.proofs.Rules.{right_surveyed, right_placed, first_found, unknown_found, unknown_placed, judged_first, judged_unknown}
use borrow.Author.Rules.{rules}
use Rattle.text_read.proofs.judge_two.Goals as goal

pub slice_bounds-survey-count : goal.slice_bounds-survey-count
slice_bounds-survey-count c = let s = (two_sides c.args.text.now c.args.p c.requires.1).inside in search rules

pub slice_bounds-survey-start : goal.slice_bounds-survey-start
slice_bounds-survey-start c = let s = (two_sides c.args.text.now c.args.p c.requires.1).inside in search rules

pub right_verdict-requires : goal.right_verdict-requires
right_verdict-requires c =
    let t = c.args.text.now in
    let p = c.args.p in
    let s = (two_sides t p c.requires.1).inside in (
      omega (arith, c.requires.0),
      right_placed t c.requires.0 p c.requires.1 c.survey-r.result.verdict
          (right_surveyed t c.requires.0 p c.requires.1 c.survey-r.result c.survey-r.ensures),
    )

pub slice_bounds-unknown_in-count : goal.slice_bounds-unknown_in-count
slice_bounds-unknown_in-count c =
    let s = (two_sides c.args.text.now c.args.p c.requires.1).inside in
    search rules

pub slice_bounds-unknown_in-start : goal.slice_bounds-unknown_in-start
slice_bounds-unknown_in-start c =
    let s = (two_sides c.args.text.now c.args.p c.requires.1).inside in
    search rules

pub unknown_verdict-requires : goal.unknown_verdict-requires
unknown_verdict-requires c =
    let t = c.args.text.now in
    let p = c.args.p in
    let s = (two_sides t p c.requires.1).inside in
    let first = first_found t c.requires.0 p c.requires.1 c.survey-l.result c.survey-r.result c.right_verdict.result c.first.result
    c.survey-l.ensures c.survey-r.ensures c.right_verdict.ensures c.first.ensures in
    let fine = sym first ∙ c.in_ok-first.was in (
      omega (arith, c.requires.0),
      unknown_placed t c.requires.0 p c.requires.1 fine c.unknown_in.result
          (unknown_found t c.requires.0 p c.requires.1 fine c.fields_in-side.result c.unknown_in.result c.fields_in-side.ensures c.unknown_in.ensures),
    )

pub returns : goal.returns
returns c =
    let t = c.args.text.now in
    let p = c.args.p in
    let first = first_found t c.requires.0 p c.requires.1 c.survey-l.result c.survey-r.result c.right_verdict.result c.first.result
    c.survey-l.ensures c.survey-r.ensures c.right_verdict.ensures c.first.ensures in
    let fine = sym first ∙ c.in_ok-first.was in
    let found = unknown_found t c.requires.0 p c.requires.1 fine c.fields_in-side.result c.unknown_in.result c.fields_in-side.ensures c.unknown_in.ensures in
    c.unknown_verdict.ensures ∙ ap (unknown_of _) found ∙ judged_unknown t c.requires.0 p c.requires.1 c.first.result first c.in_ok-first.was

pub returns-in_err-first : goal.returns-in_err-first
returns-in_err-first c =
    let t = c.args.text.now in
    let p = c.args.p in
    let first = first_found t c.requires.0 p c.requires.1 c.survey-l.result c.survey-r.result c.right_verdict.result c.first.result
    c.survey-l.ensures c.survey-r.ensures c.right_verdict.ensures c.first.ensures in
    let same : c.from_residual.result ≡ c.first.result = search rules in
    same ∙ judged_first t c.requires.0 p c.requires.1 c.first.result _ _ first c.in_err-first.was
