-- EVERY LINE OF AN OVERLAP LIST HAS A SLIP WITHIN THE READING LIMITS that both rules match: its entry's fields, every variable filled by the
-- constant of its type and every list variable by nothing. They have at most 31 terms, so the items are at most 64.
use mathlib.Core.Path.{refl, subst}
use mathlib.Core.List.Memᴰ
use mathlib.Core.List.{List, map, Memᴰ}
use Prim.Native.Nat.{ℕ, ◌≤◌}
use native.Mathlib.Omega.{arith}
use native.Mathlib.Decide.{ℕ_discrete}
use lib.ListN.{length, length-map}
use Rattle.base_limits.specs.Limits.{most_fields, most_items, entry_terms}
use Rattle.base_lists.specs.Seqs.{All, IsCons, cons_map}
use Rattle.math_types.specs.Order.{basic, list}
use Rattle.math_types.specs.Types.{Kind, basics}
use Rattle.math_terms.specs.Fillings.{Filling, fill}
use Rattle.math_terms.specs.Linear.{LeftLinear}
use Rattle.text_grammar.specs.Terms.{OurFields, terms_of, SlipFields}
use Rattle.text_grammar.specs.constants.Constants.{Con, consts}
use Rattle.text_grammar.specs.Limits.{IsLeft}
use Rattle.text_grammar.specs.constants.Matching.{Matches}
use Rattle.text_grammar.proofs.constants.Constants.{some_in}
use Rattle.text_grammar.proofs.constants.Linear.{left_linear}
use Rattle.math_overlaps.specs.Substitutions.{substitute}
use Rattle.math_overlaps.specs.Overlaps.{overlaps}
use Rattle.math_overlaps.proofs.Renumbered.{some_value, some_value_typed}
use Rattle.math_overlaps.proofs.Overlaps as theory
use Rattle.overlap_spec.specs.Lines.{Line}
use Rattle.overlap_spec.specs.Overlaps.{OurEntry, entries_of, line_of, lines_of}
use Rattle.overlap_spec.specs.Fits.{OurCon}
use Rattle.overlap_spec.proofs.Exact.{entries_cons}
use Rattle.apply_spec.specs.Rules.{Readable}
use Rattle.apply_spec.proofs.Fills.{fills_in, ones_short}
use Rattle.apply_spec.proofs.Slips.{readable, terms_ours}

-- the filling: one item at most for each variable, all of them document 01's constants
abbrev ψ : Filling Con Kind ℕ
ψ k a = some_value basics consts k

one : (k : Kind) (a : ℕ) → length (ψ k a) ≤ 1
one (basic k) a = omega arith
one list a = omega arith

ours : (k : Kind) (a : ℕ) → All OurCon (ψ k a)
ours (basic k) a = (some_in k, tt)
ours list a = tt

module _ (r₁ r₂ : OurFields) (is₁ : IsLeft r₁) (is₂ : IsLeft r₂) where
  lin₁ : LeftLinear (terms_of r₁)
  lin₁ = left_linear r₁ is₁.1

  lin₂ : LeftLinear (terms_of r₂)
  lin₂ = left_linear r₂ is₂.1

  pub entry_slip : (e : OurEntry) → Memᴰ e (overlaps basics consts ℕ_discrete (terms_of r₁) (terms_of r₂))
      → (w : SlipFields) × Readable w × Matches r₁ w × Matches r₂ w
  entry_slip e i =
      let x = theory.entry_solves basics consts ℕ_discrete (terms_of r₁) (terms_of r₂) lin₁ lin₂ e i in
      let σ = substitute x.0.left in
      let n = length-map (terms_of r₁) σ in
      let m = length-map e.fields (fill ψ) in
      -- the entry has as many fields as the rule on the left, whose variables it replaces
      let few : length e.fields ≤ most_fields = subst (λ (fs : OurFields). length fs ≤ most_fields) x.3 (omega (arith, is₁.0.1)) in
      let cons = subst IsCons x.3 (cons_map σ (terms_of r₁) is₁.0.0) in
      let short = theory.fields_short basics consts ℕ_discrete (terms_of r₁) (terms_of r₂) lin₁ lin₂ is₁.0.2 is₂.0.2 e i in
      let cs = theory.entry_constants basics consts ℕ_discrete (terms_of r₁) (terms_of r₂) lin₁ lin₂ OurCon some_in
      (terms_ours r₁ is₁.0.3) (terms_ours r₂ is₂.0.3) e i in
      let both = (theory.exact basics consts ℕ_discrete (terms_of r₁) (terms_of r₂) lin₁ lin₂ (map (fill ψ) e.fields)).1
      (e, i, (ψ, (λ k a. some_value_typed basics consts k), refl)) in (
        map (fill ψ) e.fields,
        readable (map (fill ψ) e.fields) (cons_map (fill ψ) e.fields cons) (omega arith)
            (ones_short ψ one entry_terms most_items (omega arith) e.fields short) (fills_in OurCon ψ e.fields cs.0 (λ k a o. ours k a)),
        both.0,
        both.1,
      )

  pub line_slip : (l : Line) → Memᴰ l (lines_of r₁ r₂) → (w : SlipFields) × Readable w × Matches r₁ w × Matches r₂ w
  line_slip l i =
      let e = Memᴰ.of_map (line_of r₁ r₂) (entries_of r₁ r₂) i in
      entry_slip e.0 (subst (λ (es : List OurEntry). Memᴰ e.0 es) (entries_cons r₁ r₂ is₁.0.0) e.1)
