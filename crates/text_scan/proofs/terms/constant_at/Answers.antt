use mathlib.Core.Path.{◌∙◌, ap}
use Rattle.text_scan.specs.declared.Spelled.TheVariants.{Con}
use Rattle.text_scan.proofs.terms.Terms.{term_str}
use Rattle.text_scan.proofs.terms.constant_at.Goals as goal

pub returns-in-Str : goal.returns-in-Str
returns-in-Str c =
    let z = c.args in
    let h = c.requires in
    term_str z.text.now z.place z.p c.min-n.result c.string_at-bytes.result h.0 h.2
    (h.1 ∙ ap Con c.in-Str.is) c.min-n.ensures c.string_at-bytes.ensures
