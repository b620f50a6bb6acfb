use mathlib.Core.Path.{◌≡◌, ◌∙◌, sym, subst}
use mathlib.Core.Bool.{false, ◌||◌}
use mathlib.Core.List.{List, [], ◌∷◌}
use Prim.Native.Nat.{ℕ, ◌+◌}
use native.Mathlib.Numerals.{add-one}
use lib.ListN.{length, get_or, take, drop, drop_of_length-le}
use lib.Seq.{drop-cons}
use borrow.Author.Rules.{rules}
use Rattle.base_limits.specs.Limits.{most_terms}
use Rattle.math_types.specs.Types.{Kind}
use Rattle.text_values.specs.declared.Term.{Term}
use Rattle.match_fields.specs.bindings.Values.{slot}
use Rattle.std.specs.List.{list_any}
use Rattle.match_fields.proofs.Walks.{absent}
use Rattle.text_write.proofs.Arrays.{take_most}
use Rattle.print_matches.specs.answers.Values.{Noted}
use Rattle.print_matches.proofs.answers.Noted.{open_next, open_none, is_term, field_noted}
use Rattle.print_matches.proofs.answers.note_field.Goals as goal

pub loop-t-preserved : goal.loop-t-preserved
loop-t-preserved c =
    let L = c.loop-t in
    let s = take c.min-terms.result c.args.f.terms in
    let i = L.t-index in
    let e : drop i s ≡ get_or s i absent ∷ drop (i + 1) s = drop-cons s i absent c.loop-t-test.true ∙ rw add-one in
    open_next is_term c.args.v.has s _ _ _ L.w.has c.note_term-w.result.has e L.invariant c.note_term-w.ensures

pub returns : goal.returns
returns c =
    let z = c.args in
    let L = c.loop-t in
    let s = take c.min-terms.result z.f.terms in
    let long : length z.f.terms ≡ most_terms = search rules in
    let end : drop L.t-index s ≡ [] = drop_of_length-le s {i = L.t-index} c.loop-t-test.false in
    let all : take z.f.n z.f.terms ≡ s = take_most z.f.n _ most_terms z.f.terms long c.min-terms.ensures in
    field_noted z.v.has L.w.has (take z.f.n z.f.terms)
    (subst (λ (l : List Term). Noted L.w.has (λ (k : Kind) (n : ℕ). list_any (is_term k n) l || get_or z.v.has (slot k n) false)) (sym all)
    (open_none is_term z.v.has s _ L.w.has end L.invariant))
