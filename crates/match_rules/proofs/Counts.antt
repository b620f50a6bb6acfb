-- The tests on values compare as many items as the matcher's walk, where the values are those of terms and constants.
use mathlib.Core.Path.{◌≡◌, refl, ◌∙◌, ap, ap₂}
use mathlib.Core.Bool.{Bool, true, false, cond}
use mathlib.Core.Option.{Option, none, some}
use Rattle.std.specs.Prelude.{Result, Ok, Err}
use mathlib.Core.List.{List, [], ◌∷◌, map}
use Prim.Native.Nat.{ℕ, ◌+◌, ◌-◌, ◌≤◌}
use native.Mathlib.Omega.{arith}
use native.Mathlib.Decide.{ℕ_discrete}
use lib.ListN.{length, get_or, length-map}
use Rattle.base_lists.specs.Seqs.{All}
use Rattle.math_types.specs.Order.{basic, list}
use Rattle.math_types.specs.Types.{Kind, basics}
use Rattle.math_types.specs.Values.{kind_of_from}
use Rattle.math_terms.specs.Terms.{con, var}
use Rattle.math_terms.specs.Fillings.{Filling}
use Rattle.math_terms.specs.Linear.{OneList}
use Rattle.math_terms.specs.Matcher.{atoms, width, has_room, test, match_field}
use Rattle.math_terms.proofs.Compared.{count_then, compared_walk, compared_field, compared_fields}
use Rattle.math_terms.proofs.Slices.{span, room_span}
use Rattle.text_grammar.specs.Terms.{OurTerm, OurFields, SlipFields}
use Rattle.text_grammar.specs.constants.Constants.{Con, consts}
use Rattle.text_grammar.specs.Limits.{TermIn}
use Rattle.text_values.specs.declared.Term.{Term as TermValue}
use Rattle.text_values.specs.Values.{blank_term, encode_term, encode_field}
use Rattle.match_fields.specs.declared.bindings.Values.{Values}
use Rattle.match_fields.specs.Fields.{width_of, term_tested, atoms_in, count_on, walk_compared, field_tested, field_compared}
use Rattle.match_fields.proofs.Shapes.{fits_room, gap_is}
use Rattle.match_rules.specs.Tests.{fields_compared}
use Rattle.match_rules.proofs.Agree.{enc, Holds, Agrees, width_enc, test_agrees, field_agrees, terms_of_lem, encode_items, items_of_lem}

count_on_lem : (r : Result Values Values) (o : Option (Filling Con Kind ℕ)) (k : Values → ℕ) (g : Filling Con Kind ℕ → ℕ) → Agrees r o
    → ((v : Values) (ψ : Filling Con Kind ℕ) → Holds v ψ → k v ≡ g ψ) → count_on r k ≡ count_then o g
count_on_lem (Err v) none k g a f = refl
count_on_lem (Err v) (some ψ) k g a f = absurd a
count_on_lem (Ok v) none k g a f = absurd a
count_on_lem (Ok v) (some ψ) k g a f = f v ψ a

atoms_enc : (u : OurTerm) → atoms_in (encode_term u) ≡ atoms (u ∷ [])
atoms_enc (con c) = refl
atoms_enc (var (basic k) n) = rw (kind_of_from (basic k))
atoms_enc (var list n) = refl

walk_counts : (gap : ℕ) (w : List Con) (f : List OurTerm) (p : ℕ) (v : Values) (φ : Filling Con Kind ℕ) → All TermIn f → Holds v φ → p + span gap f ≤ length w
    → walk_compared gap (map enc w) (map encode_term f) p v ≡ compared_walk basics consts ℕ_discrete gap w f p φ
walk_counts gap w [] p v φ i h l = refl
walk_counts gap w (u ∷ f) p v φ i h l =
    ap₂ (λ (a b : ℕ). a + b) (atoms_enc u)
    (count_on_lem (term_tested (encode_term u) (get_or (map enc w) p blank_term) v) (test basics consts ℕ_discrete gap w p u φ)
    (walk_compared gap (map enc w) (map encode_term f) (p + width_of gap (encode_term u))) (λ ψ. compared_walk basics consts ℕ_discrete gap w f (p + width gap u) ψ)
    (test_agrees gap w p u v φ i.0 h (omega arith))
    (λ v' ψ h'. ap (λ (k : ℕ). walk_compared gap (map enc w) (map encode_term f) (p + k) v') (width_enc gap u)
    ∙ walk_counts gap w f (p + width gap u) v' ψ i.1 h' (omega arith)))

field_counts : (f : List OurTerm) (w : List Con) (v : Values) (φ : Filling Con Kind ℕ) → All TermIn f → OneList f → Holds v φ
    → field_compared (map encode_term f) (map enc w) v ≡ compared_field basics consts ℕ_discrete f w φ
field_counts f w v φ i o h =
    ap₂ (λ (b : Bool) (gap : ℕ). cond b (walk_compared gap (map enc w) (map encode_term f) 0 v) 0)
    (fits_room f (length (map enc w)) ∙ ap (has_room f) long)
    (gap_is f (length (map enc w)) ∙ ap (λ (n : ℕ). n - atoms f) long)
    ∙ go (has_room f (length w)) refl
  where
    long : length (map enc w) ≡ length w
    long = length-map w enc

    go : (b : Bool) → has_room f (length w) ≡ b
        → cond b (walk_compared (length w - atoms f) (map enc w) (map encode_term f) 0 v) 0 ≡ cond b
        (compared_walk basics consts ℕ_discrete (length w - atoms f) w f 0 φ) 0
    go true e = walk_counts (length w - atoms f) w f 0 v φ i h (omega (arith, room_span f o (length w) e))
    go false e = refl

pub fields_counts : (fs : OurFields) (ws : SlipFields) (v : Values) (φ : Filling Con Kind ℕ) → All (All TermIn) fs → All OneList fs → Holds v φ
    → fields_compared (map encode_field fs) (map encode_items ws) v ≡ compared_fields basics consts ℕ_discrete fs ws φ
fields_counts [] ws v φ i o h = refl
fields_counts (f ∷ fs) [] v φ i o h = refl
fields_counts (f ∷ fs) (w ∷ ws) v φ i o h =
    ap₂ (λ (a b : List TermValue). field_compared a b v + count_on (field_tested a b v) (fields_compared (map encode_field fs) (map encode_items ws)))
    (terms_of_lem f) (items_of_lem w)
    ∙ ap₂ (λ (a b : ℕ). a + b) (field_counts f w v φ i.0 o.0 h)
    (count_on_lem (field_tested (map encode_term f) (map enc w) v) (match_field basics consts ℕ_discrete f w φ)
    (fields_compared (map encode_field fs) (map encode_items ws)) (λ ψ. compared_fields basics consts ℕ_discrete fs ws ψ)
    (field_agrees f w v φ i.0 o.0 h)
    (λ v' ψ h'. fields_counts fs ws v' ψ i.1 o.1 h'))
