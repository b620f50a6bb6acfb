-- The lines of the overlap list of two rules that reading returns: the theorems of the overlap list, said of its lines.
use mathlib.Core.Path.{◌≡◌, refl, sym, ◌∙◌, ap, subst}
use mathlib.Core.Logic.{◌↔◌, ◌⊎◌, inl, inr}
use mathlib.Core.Option.{Option, none, some, none-ne-some, some-injective}
use mathlib.Core.List.Memᴰ
use mathlib.Core.List.{List, [], ◌∷◌, map, Memᴰ}
use Prim.Native.Nat.{ℕ, zero, suc, ◌≤◌}
use native.Mathlib.Omega.{arith}
use native.Mathlib.Decide.{ℕ_discrete}
use lib.ListN.{length, get_elem?, length-map}
use Rattle.base_lists.specs.Seqs.{All, IsCons, all_map, cons_map}
use Rattle.math_types.specs.Types.{Kind, basics}
use Rattle.math_terms.specs.Terms.{con, var}
use Rattle.math_terms.specs.Fillings.{Filling, Typed, fill}
use Rattle.math_terms.specs.Linear.{LeftLinear}
use Rattle.math_terms.proofs.Matching.{match_unique}
use Rattle.text_grammar.specs.Terms.{OurTerm, OurFields, terms_of, SlipFields, items_of}
use Rattle.text_grammar.specs.constants.Constants.{Con, consts}
use Rattle.text_grammar.specs.Limits.{TermIn, IsLeft}
use Rattle.text_grammar.specs.Plain.{TermOk}
use Rattle.text_grammar.specs.constants.Matching.{Matches}
use Rattle.text_grammar.proofs.constants.Linear.{left_linear}
use Rattle.text_grammar.proofs.constants.Constants.{in_ok, some_in}
use Rattle.math_overlaps.specs.Substitutions.{Subst, substitute}
use Rattle.math_overlaps.specs.Constants.{ConstantIn}
use Rattle.math_overlaps.specs.Shapes.{left, both, shape_of, shapes_of}
use Rattle.math_overlaps.specs.Overlaps.{PairShape, overlaps, listed}
use Rattle.math_overlaps.proofs.Seqs.{at_in}
use Rattle.math_overlaps.proofs.Overlaps as list
use Rattle.overlap_spec.specs.Lines.{Binding, Line, WritableBinding, WritableLine}
use Rattle.overlap_spec.specs.Variables.{Variable, variables}
use Rattle.overlap_spec.specs.Overlaps.{OurEntry, entries_of, bindings_of, line_of, lines_of}
use Rattle.overlap_spec.specs.Fits.{OurCon, OurSlip, Fits, name_of, Shows, Solution, Covers}
use Rattle.overlap_spec.proofs.Variables.{in_variables}

-- ---- places in lists

module _ {A : Type 0} where
  -- a member stands somewhere
  place_of : (l : List A) (x : A) → Memᴰ x l → (i : ℕ) × (get_elem? l i ≡ some x)
  place_of [] x m = absurd (Memᴰ.not-nil m)
  place_of (y ∷ l) x m = go (Memᴰ.cases_cons m) (λ t. place_of l x t)
    where
      go : (x ≡ y) ⊎ Memᴰ x l → (Memᴰ x l → (i : ℕ) × (get_elem? l i ≡ some x)) → (i : ℕ) × (get_elem? (y ∷ l) i ≡ some x)
      go (inl e) rec = (zero, ap some (sym e))
      go (inr t) rec = let p = rec t in (suc p.0, p.1)

module _ {A B : Type 0} (f : A → B) where
  map_at : (l : List A) (i : ℕ) (x : A) → get_elem? l i ≡ some x → get_elem? (map f l) i ≡ some (f x)
  map_at [] i x e = absurd (none-ne-some x e)
  map_at (y ∷ l) zero x e = ap some (ap f (some-injective y x e))
  map_at (y ∷ l) (suc i) x e = map_at l i x e

  at_map : (l : List A) (i : ℕ) (y : B) → get_elem? (map f l) i ≡ some y → (x : A) × (get_elem? l i ≡ some x) × (f x ≡ y)
  at_map [] i y e = absurd (none-ne-some y e)
  at_map (x ∷ l) zero y e = (x, refl, some-injective (f x) y e)
  at_map (x ∷ l) (suc i) y e = at_map l i y e

-- ---- document 01's constants

constant_in : (t : OurTerm) → TermIn t → ConstantIn OurCon t
constant_in (con c) h = h
constant_in (var k n) h = tt

-- what is within its limits can be written
term_ok_lem : (t : OurTerm) → ConstantIn OurCon t → TermOk t
term_ok_lem (con c) h = in_ok c h
term_ok_lem (var k n) h = tt

terms_ok : (f : List OurTerm) → All (ConstantIn OurCon) f → All TermOk f
terms_ok f h = all_map (ConstantIn OurCon) TermOk term_ok_lem f h

-- ---- bindings

names_are : (rule : OurFields) (σ : Subst Con Kind ℕ ℕ) (vs : List Variable)
    → map name_of (map (λ (v : Variable). record { kind = v.0; number = v.1; value = σ v.0 v.1 }) vs) ≡ vs
names_are rule σ [] = refl
names_are rule σ (v ∷ vs) = ap (λ (l : List Variable). v ∷ l) (names_are rule σ vs)

bindings_writable : (σ : Subst Con Kind ℕ ℕ) → ((k : Kind) (n : ℕ) → All (ConstantIn OurCon) (σ k n)) → (vs : List Variable)
    → All WritableBinding (map (λ (v : Variable). record { kind = v.0; number = v.1; value = σ v.0 v.1 }) vs)
bindings_writable σ h [] = tt
bindings_writable σ h (v ∷ vs) = (terms_ok (σ v.0 v.1) (h v.0 v.1), bindings_writable σ h vs)

-- a filling that gives the rule's variables what the values shown become by ψ is shown by the bindings
shown_by : (rule : OurFields) → IsLeft rule → (σ : Subst Con Kind ℕ ℕ) (ψ : Filling Con Kind ℕ) (w : SlipFields)
    → Typed basics consts (λ k n. fill ψ (σ k n)) → map (fill (λ k n. fill ψ (σ k n))) (terms_of rule) ≡ items_of w
    → Shows rule (bindings_of (terms_of rule) σ) ψ w
shown_by rule r σ ψ w t h = (names_are rule σ (variables (terms_of rule)), values)
  where
    values : (φ : Filling Con Kind ℕ) → Typed basics consts φ → map (fill φ) (terms_of rule) ≡ items_of w → (b : Binding)
        → Memᴰ b (bindings_of (terms_of rule) σ) → φ b.kind b.number ≡ fill ψ b.value
    values φ u e b i =
        let v = Memᴰ.of_map (λ (v : Variable). record { kind = v.0; number = v.1; value = σ v.0 v.1 }) (variables (terms_of rule)) i in
        subst (λ (c : Binding). φ c.kind c.number ≡ fill ψ c.value) v.2
        (match_unique basics consts φ (λ k n. fill ψ (σ k n)) u t rule (left_linear rule r.1).1 (e ∙ sym h) v.0.0 v.0.1
        ((in_variables rule r.0.3 v.0.0 v.0.1).0 v.1))

-- ---- the theorems

pub entries_cons : (r₁ r₂ : OurFields) → IsCons r₁ → entries_of r₁ r₂ ≡ overlaps basics consts ℕ_discrete (terms_of r₁) (terms_of r₂)
entries_cons [] r₂ h = absurd h
entries_cons (f ∷ r₁) r₂ h = refl

-- a rule has no entry with one that has no fields either; `entries_of` looks only whether the left one has any
pub no_right : (r : OurFields) → lines_of r [] ≡ []
no_right [] = refl
no_right (f ∷ r) = ap (map (line_of (f ∷ r) [])) (go (shape_of left f) (shapes_of left r))
  where
    go : (o : Option (PairShape basics consts ℕ_discrete)) (p : Option (List (PairShape basics consts ℕ_discrete)))
        → listed basics consts ℕ_discrete (both o p) (some []) ≡ []
    go none p = refl
    go (some S) none = refl
    go (some S) (some Ss) = refl

module _ (r₁ r₂ : OurFields) (is₁ : IsLeft r₁) (is₂ : IsLeft r₂) where
  lin₁ : LeftLinear (terms_of r₁)
  lin₁ = left_linear r₁ is₁.1

  lin₂ : LeftLinear (terms_of r₂)
  lin₂ = left_linear r₂ is₂.1

  abbrev entries : List OurEntry
  entries = overlaps basics consts ℕ_discrete (terms_of r₁) (terms_of r₂)

  in_ours : (r : OurFields) → IsLeft r → All (All (ConstantIn OurCon)) r
  in_ours r h = all_map (All TermIn) (All (ConstantIn OurCon)) (λ f k. all_map TermIn (ConstantIn OurCon) constant_in f k) r h.0.3

  lines_are : lines_of r₁ r₂ ≡ map (line_of r₁ r₂) entries
  lines_are = ap (map (line_of r₁ r₂)) (entries_cons r₁ r₂ is₁.0.0)

  -- the line at a place is that of the entry there
  entry_at : (i : ℕ) (l : Line) → get_elem? (lines_of r₁ r₂) i ≡ some l → (e : OurEntry) × (get_elem? entries i ≡ some e) × (line_of r₁ r₂ e ≡ l)
  entry_at i l h = at_map (line_of r₁ r₂) entries i l (subst (λ (ls : List Line). get_elem? ls i ≡ some l) lines_are h)

  line_at : (i : ℕ) (e : OurEntry) → get_elem? entries i ≡ some e → get_elem? (lines_of r₁ r₂) i ≡ some (line_of r₁ r₂ e)
  line_at i e h = subst (λ (ls : List Line). get_elem? ls i ≡ some (line_of r₁ r₂ e)) (sym lines_are) (map_at (line_of r₁ r₂) entries i e h)

  pub lines_exact : (w : SlipFields) → (Matches r₁ w × Matches r₂ w) ↔ ((i : ℕ) × (l : Line) × (get_elem? (lines_of r₁ r₂) i ≡ some l) × Fits l w)
  lines_exact w = (to, from)
    where
      iff : (Matches r₁ w × Matches r₂ w) ↔ ((e : OurEntry) × Memᴰ e entries × Matches e.fields w)
      iff = list.exact basics consts ℕ_discrete r₁ r₂ lin₁ lin₂ w

      to : Matches r₁ w × Matches r₂ w → (i : ℕ) × (l : Line) × (get_elem? (lines_of r₁ r₂) i ≡ some l) × Fits l w
      to h =
          let e = iff.0 h in
          let p = place_of entries e.0 e.1 in
          (p.0, line_of r₁ r₂ e.0, line_at p.0 e.0 p.1, e.2)

      from : (i : ℕ) × (l : Line) × (get_elem? (lines_of r₁ r₂) i ≡ some l) × Fits l w → Matches r₁ w × Matches r₂ w
      from h =
          let e = entry_at h.0 h.1 h.2 in
          iff.1 (e.0, at_in entries h.0 e.0 e.1, subst (λ (l : Line). Fits l w) (sym e.2) h.3)

  pub lines_once : (i j : ℕ) (l m : Line) → get_elem? (lines_of r₁ r₂) i ≡ some l
      → get_elem? (lines_of r₁ r₂) j ≡ some m → (w : SlipFields) → Fits l w → Fits m w → i ≡ j
  lines_once i j l m p q w f g =
      let d = entry_at i l p in
      let e = entry_at j m q in
      list.one_place basics consts ℕ_discrete r₁ r₂ lin₁ lin₂ i j d.0 e.0 d.1 e.1 w (subst (λ (x : Line). Fits x w) (sym d.2) f)
      (subst (λ (x : Line). Fits x w) (sym e.2) g)

  pub entry_of : (i : ℕ) (l : Line) → get_elem? (lines_of r₁ r₂) i ≡ some l
      → (e : OurEntry) × Memᴰ e (overlaps basics consts ℕ_discrete (terms_of r₁) (terms_of r₂)) × (line_of r₁ r₂ e ≡ l)
  entry_of i l p = let e = entry_at i l p in (e.0, at_in entries i e.0 e.1, e.2)

  -- what fills a line's fields fills both rules, by its entry's values
  pub entry_fills : (i : ℕ) (l : Line) → get_elem? (lines_of r₁ r₂) i ≡ some l
      → (w : SlipFields) (ψ : Filling Con Kind ℕ) → Typed basics consts ψ → map (fill ψ) (terms_of l.fields) ≡ items_of w
      → (e : OurEntry) × (line_of r₁ r₂ e ≡ l)
      × (Typed basics consts (λ k n. fill ψ (e.left k n)) × (map (fill (λ k n. fill ψ (e.left k n))) (terms_of r₁) ≡ items_of w))
      × (Typed basics consts (λ k n. fill ψ (e.right k n)) × (map (fill (λ k n. fill ψ (e.right k n))) (terms_of r₂) ≡ items_of w))
  entry_fills i l p w ψ t h =
      let e = entry_of i l p in
      let fills = subst (λ (x : Line). map (fill ψ) (terms_of x.fields) ≡ items_of w) (sym e.2) h in (
        e.0,
        e.2,
        list.fillings_left basics consts ℕ_discrete r₁ r₂ lin₁ lin₂ e.0 e.1 w ψ t fills,
        list.fillings_right basics consts ℕ_discrete r₁ r₂ lin₁ lin₂ e.0 e.1 w ψ t fills,
      )

  pub lines_fillings : (i : ℕ) (l : Line) → get_elem? (lines_of r₁ r₂) i ≡ some l
      → (w : SlipFields) (ψ : Filling Con Kind ℕ) → Typed basics consts ψ → map (fill ψ) (terms_of l.fields) ≡ items_of w
      → Shows r₁ l.left ψ w × Shows r₂ l.right ψ w
  lines_fillings i l p w ψ t h =
      let e = entry_fills i l p w ψ t h in
      subst (λ (x : Line). Shows r₁ x.left ψ w × Shows r₂ x.right ψ w) e.1 (
        shown_by r₁ is₁ e.0.left ψ w e.2.0 e.2.1,
        shown_by r₂ is₂ e.0.right ψ w e.3.0 e.3.1,
      )

  pub lines_slips : (i : ℕ) (l : Line) → get_elem? (lines_of r₁ r₂) i ≡ some l → (w : SlipFields) × OurSlip w × Fits l w
  lines_slips i l p =
      let e = entry_at i l p in
      let s =
      list.has_slip basics consts ℕ_discrete r₁ r₂ lin₁ lin₂ OurCon some_in (in_ours r₁ is₁) (in_ours r₂ is₂) e.0 (at_in entries i e.0 e.1) in
      (s.0, s.1, subst (λ (x : Line). Fits x s.0) e.2 s.2)

  pub lines_least : (B : Type 0) (xs : List (Solution r₁ r₂ B))
      → ((w : SlipFields) → OurSlip w → Matches r₁ w → Matches r₂ w → (x : Solution r₁ r₂ B) × Memᴰ x xs × Covers r₁ r₂ B x w)
      → length (lines_of r₁ r₂) ≤ length xs
  lines_least B xs cover = subst (λ (n : ℕ). n ≤ length xs) (sym (ap length lines_are ∙ length-map entries (line_of r₁ r₂)))
      (list.minimal basics consts ℕ_discrete r₁ r₂ lin₁ lin₂ OurCon some_in (in_ours r₁ is₁) (in_ours r₂ is₂) B xs cover)

  -- every line can be written, so the bytes determine the lines
  pub lines_writable : All WritableLine (lines_of r₁ r₂)
  lines_writable = subst (All WritableLine) (sym lines_are) (all entries (λ e i. one e i))
    where
      one : (e : OurEntry) → Memᴰ e entries → WritableLine (line_of r₁ r₂ e)
      one e i =
          let c = list.entry_constants basics consts ℕ_discrete r₁ r₂ lin₁ lin₂ OurCon some_in (in_ours r₁ is₁) (in_ours r₂ is₂) e i in
          let s = list.entry_solves basics consts ℕ_discrete r₁ r₂ lin₁ lin₂ e i in (
            (
              subst IsCons s.3 (cons_map (substitute s.0.left) r₁ is₁.0.0),
              all_map (All (ConstantIn OurCon)) (All TermOk) terms_ok e.fields c.0,
            ),
            bindings_writable e.left c.1 (variables (terms_of r₁)),
            bindings_writable e.right c.2 (variables (terms_of r₂)),
          )

      all : (es : List OurEntry) → ((e : OurEntry) → Memᴰ e es → WritableLine (line_of r₁ r₂ e)) → All WritableLine (map (line_of r₁ r₂) es)
      all [] h = tt
      all (e ∷ es) h = (h e (Memᴰ.head refl), all es (λ x i. h x (Memᴰ.tail i)))
