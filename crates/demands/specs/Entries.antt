-- What document 01 says besides of an entry's line and of a solution, for two rules that reading returns.
use Rattle.std.specs.Prelude.{◌≡◌, refl, Bool, true, false, cond, ℕ, suc, ◌≤◌, length}
use Rattle.std.proofs.Common.{sym, ◌∙◌, ap, ap₂, subst, inl, inr, arith}
use Rattle.std.proofs.Math.Option.{some}
use mathlib.Core.List.Memᴰ
use mathlib.Core.List.{List, [], ◌∷◌, ◌++◌, map, Memᴰ}
use Rattle.std.proofs.Math.Decide.{ℕ_discrete}
use Rattle.std.proofs.Math.ListN.{get_elem?}
use Rattle.base_limits.specs.Limits.{largest_number, largest_entry_number, entry_terms}
use Rattle.base_lists.specs.Seqs.{All, Any}
use Rattle.math_types.specs.Order.{basic, list}
use Rattle.math_types.specs.Types.{Kind, basics}
use Rattle.math_terms.specs.Terms.{Term, con, var}
use Rattle.math_terms.specs.Fillings.{Filling, Typed, fill, Occurs}
use Rattle.math_terms.specs.Linear.{LeftLinear}
use Rattle.math_terms.proofs.Fillings.{fills_agree}
use Rattle.text_grammar.specs.Terms.{OurFields, terms_of, SlipFields, items_of}
use Rattle.text_grammar.specs.constants.Constants.{Con, consts, some_of, some_of_le}
use Rattle.text_grammar.specs.Limits.{IsLeft}
use Rattle.text_grammar.proofs.constants.Linear.{left_linear}
use Rattle.math_overlaps.specs.Substitutions.{Subst, substitute, TermsOf, TypedSubst}
use Rattle.math_overlaps.specs.Overlaps.{overlaps}
use Rattle.math_overlaps.specs.Solutions as theory
use Rattle.math_overlaps.proofs.Overlaps as entries
use Rattle.overlap_spec.specs.Lines.{Binding, Line}
use Rattle.overlap_spec.specs.Variables.{Variable, numbers, every, occurs, variables}
use Rattle.overlap_spec.specs.Overlaps.{OurEntry, bindings_of, line_of, lines_of}
use Rattle.overlap_spec.specs.Fits.{Solution}
use Rattle.overlap_spec.proofs.Variables.{numbers_mem, every_mem, occurs_is, in_variables}
use Rattle.overlap_spec.proofs.Rising.{keep_mem}
use Rattle.overlap_spec.proofs.Exact.{entry_of, entry_fills}

-- ---- the fillings that an entry shows

-- a filling that gives the variables bound what their values become by ψ
abbrev pub Gives : List Binding → Filling Con Kind ℕ → Filling Con Kind ℕ → Type 0
Gives bs ψ φ = (b : Binding) → Memᴰ b bs → φ b.kind b.number ≡ fill ψ b.value

-- "That filling, put into the values that the entry's line shows, gives the fillings of the two rules": every filling that has the values
-- shown, whatever it gives to other variables, makes the rule the slip w, and one that has them is typed
pub record Filled (rule : OurFields) (bs : List Binding) (ψ : Filling Con Kind ℕ) (w : SlipFields) : Type 0 where
  pub makes : (φ : Filling Con Kind ℕ) → Gives bs ψ φ → map (fill φ) (terms_of rule) ≡ items_of w
  pub one : (φ : Filling Con Kind ℕ) × Typed basics consts φ × Gives bs ψ φ

abbrev bound : Subst Con Kind ℕ ℕ → Variable → Binding
bound σ v = record { kind = v.0; number = v.1; value = σ v.0 v.1 }

filled_by : (rule : OurFields) → IsLeft rule → (σ : Subst Con Kind ℕ ℕ) (ψ : Filling Con Kind ℕ) (w : SlipFields)
    → Typed basics consts (λ k n. fill ψ (σ k n)) → map (fill (λ k n. fill ψ (σ k n))) (terms_of rule) ≡ items_of w
    → Filled rule (bindings_of (terms_of rule) σ) ψ w
filled_by rule is σ ψ w t h =
    record {
      makes = λ φ g. fills_agree φ (λ k n. fill ψ (σ k n)) rule
          (λ k n o. g (bound σ (k, n)) (Memᴰ.map (bound σ) ((in_variables rule is.0.3 k n).1 o))) ∙ h;
      one = (λ k n. fill ψ (σ k n), t, gives);
    }
  where
    gives : Gives (bindings_of (terms_of rule) σ) ψ (λ k n. fill ψ (σ k n))
    gives b i =
        let v = Memᴰ.of_map (bound σ) (variables (terms_of rule)) i in
        subst (λ (c : Binding). fill ψ (σ c.kind c.number) ≡ fill ψ c.value) v.2 refl

-- ---- the numbers and the lengths

-- "their numbers may reach 31 and its fields 31 terms"
pub record Sized (l : Line) : Type 0 where
  pub short : All (λ f. length f ≤ entry_terms) (terms_of l.fields)
  pub small : (k : Kind) (n : ℕ) → Any (Occurs k n) (terms_of l.fields) → n ≤ largest_entry_number

module _ (r₁ r₂ : OurFields) (is₁ : IsLeft r₁) (is₂ : IsLeft r₂) where
  lin₁ : LeftLinear (terms_of r₁)
  lin₁ = left_linear r₁ is₁.1

  lin₂ : LeftLinear (terms_of r₂)
  lin₂ = left_linear r₂ is₂.1

  -- the line at a place is that of an entry
  pub lines_filled : (i : ℕ) (l : Line) → get_elem? (lines_of r₁ r₂) i ≡ some l → (w : SlipFields) (ψ : Filling Con Kind ℕ)
      → Typed basics consts ψ → map (fill ψ) (terms_of l.fields) ≡ items_of w → Filled r₁ l.left ψ w × Filled r₂ l.right ψ w
  lines_filled i l p w ψ t h =
      let e = entry_fills r₁ r₂ is₁ is₂ i l p w ψ t h in
      subst (λ (x : Line). Filled r₁ x.left ψ w × Filled r₂ x.right ψ w) e.1 (
        filled_by r₁ is₁ e.0.left ψ w e.2.0 e.2.1,
        filled_by r₂ is₂ e.0.right ψ w e.3.0 e.3.1,
      )

  -- a rule's variables have the numbers 0 to 15
  number_in : (r : OurFields) → IsLeft r → (k : Kind) (n : ℕ) → Any (Occurs k n) (terms_of r) → Memᴰ n numbers
  number_in r is k n o =
      let v = (keep_mem (λ (v : Variable). occurs v.0 v.1 (terms_of r)) (k, n) every).0 ((in_variables r is.0.3 k n).1 o) in
      let h : n ≤ largest_number = (every_mem k n).0 v.0 in
      (numbers_mem (suc largest_number) 0 n).1 (omega arith, omega arith)

  pub lines_sized : (i : ℕ) (l : Line) → get_elem? (lines_of r₁ r₂) i ≡ some l → Sized l
  lines_sized i l p = subst Sized e.2 (record { short = short; small = small })
    where
      e : (e : OurEntry) × Memᴰ e (overlaps basics consts ℕ_discrete (terms_of r₁) (terms_of r₂)) × (line_of r₁ r₂ e ≡ l)
      e = entry_of r₁ r₂ is₁ is₂ i l p

      short : All (λ f. length f ≤ entry_terms) e.0.fields
      short = entries.fields_short basics consts ℕ_discrete r₁ r₂ lin₁ lin₂ is₁.0.2 is₂.0.2 e.0 e.1

      small : (k : Kind) (n : ℕ) → Any (Occurs k n) e.0.fields → n ≤ largest_entry_number
      small (basic k) n o =
          let h = entries.numbers_few_lem basics consts ℕ_discrete r₁ r₂ lin₁ lin₂ e.0 e.1 k numbers numbers
          (λ a q. number_in r₁ is₁ (basic k) a q) (λ a q. number_in r₂ is₂ (basic k) a q) n o in
          omega (arith, h)
      small list n o =
          let h = entries.lists_few basics consts ℕ_discrete r₁ r₂ lin₁ lin₂ e.0 e.1 n o in
          omega (arith, h, is₁.0.1)

-- ---- solutions

module _ {C K A B : Type 0} where
  substitute_agree : (σ τ : Subst C K A B) (f : List (Term C K A)) → ((k : K) (a : A) → Occurs k a f → σ k a ≡ τ k a)
      → substitute σ f ≡ substitute τ f
  substitute_agree σ τ [] h = refl
  substitute_agree σ τ (con c ∷ f) h = ap (λ (w : List (Term C K B)). con c ∷ w) (substitute_agree σ τ f h)
  substitute_agree σ τ (var k a ∷ f) h =
      ap₂ (λ (v w : List (Term C K B)). v ++ w) (h k a (inl (refl, refl))) (substitute_agree σ τ f (λ j b i. h j b (inr i)))

  substitutes_agree : (σ τ : Subst C K A B) (r : List (List (Term C K A))) → ((k : K) (a : A) → Any (Occurs k a) r → σ k a ≡ τ k a)
      → map (substitute σ) r ≡ map (substitute τ) r
  substitutes_agree σ τ [] h = refl
  substitutes_agree σ τ (f ∷ r) h =
      ap₂ (λ (w : List (Term C K B)) (s : List (List (Term C K B))). w ∷ s)
      (substitute_agree σ τ f (λ k a i. h k a (inl i))) (substitutes_agree σ τ r (λ k a i. h k a (inr i)))

module _ (B : Type 0) where
  -- a value of each type: no terms, or a constant
  abbrev any_of : Kind → List (Term Con Kind B)
  any_of (basic k) = con (some_of k) ∷ []
  any_of list = []

  any_typed : (k : Kind) → TermsOf basics consts k (any_of k)
  any_typed (basic k) = (con (some_of k), refl, some_of_le k)
  any_typed list = tt

  module _ (rule : OurFields) (σ : Subst Con Kind ℕ B) where
    -- the same on the rule's variables, and some value of its type elsewhere
    abbrev elsewhere : Subst Con Kind ℕ B
    elsewhere k n = cond (occurs k n (terms_of rule)) (σ k n) (any_of k)

    elsewhere_typed : ((k : Kind) (n : ℕ) → Any (Occurs k n) (terms_of rule) → TermsOf basics consts k (σ k n))
        → TypedSubst basics consts elsewhere
    elsewhere_typed h k n = go (occurs k n (terms_of rule)) refl
      where
        go : (b : Bool) → occurs k n (terms_of rule) ≡ b → TermsOf basics consts k (cond b (σ k n) (any_of k))
        go true e = h k n ((occurs_is k n rule).0 e)
        go false e = any_typed k

    elsewhere_same : map (substitute elsewhere) (terms_of rule) ≡ map (substitute σ) (terms_of rule)
    elsewhere_same = substitutes_agree elsewhere σ rule (λ k n o. ap (λ (b : Bool). cond b (σ k n) (any_of k)) ((occurs_is k n rule).1 o))

-- "A solution gives every variable of both rules .. a value of its type": values that are typed on the rules' own variables and turn both
-- into the same fields are those of a solution with these fields, so that `Solution`'s typedness at every name leaves none out
pub solution_extends : (r₁ r₂ : OurFields) (B : Type 0) (σ τ : Subst Con Kind ℕ B)
    → ((k : Kind) (n : ℕ) → Any (Occurs k n) (terms_of r₁) → TermsOf basics consts k (σ k n))
    → ((k : Kind) (n : ℕ) → Any (Occurs k n) (terms_of r₂) → TermsOf basics consts k (τ k n))
    → map (substitute σ) (terms_of r₁) ≡ map (substitute τ) (terms_of r₂)
    → (x : Solution r₁ r₂ B) × (theory.fields_of basics consts (terms_of r₁) (terms_of r₂) B x ≡ map (substitute σ) (terms_of r₁))
solution_extends r₁ r₂ B σ τ h k e = (
  record {
    left = elsewhere B r₁ σ;
    right = elsewhere B r₂ τ;
    typed_left = elsewhere_typed B r₁ σ h;
    typed_right = elsewhere_typed B r₂ τ k;
    same = elsewhere_same B r₁ σ ∙ e ∙ sym (elsewhere_same B r₂ τ);
  },
  elsewhere_same B r₁ σ,
)
