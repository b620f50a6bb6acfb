-- THE SEARCH AND THE OVERLAP LIST: for rules of one field, the slips that are instances of an answer are those that fit an entry.
--     same-slips          both are the slips that both rules match
--     sixteen-apart       document 01's numbers for list variables keep the two sides apart
use mathlib.Core.Path.{◌≡◌, refl, sym, ◌∙◌, ap, ap₂}
use mathlib.Core.Logic.{◌↔◌, ◌⊎◌, inl, inr, ite, if_pos, if_neg}
use mathlib.Core.List.Memᴰ
use mathlib.Core.List.{List, [], ◌∷◌, ◌++◌, map, head-eq_of_cons-eq, Memᴰ}
use Prim.Native.Nat.{ℕ, suc, ◌+◌, ◌≤◌, ◌<◌}
use native.Mathlib.Omega.{arith}
use native.Mathlib.Decide.{ℕ_discrete}
use lib.ListN.{length}
use Rattle.base_limits.specs.Limits.{numbers_of_side}
use Rattle.base_lists.specs.Seqs.{All, all_mem}
use Rattle.math_types.specs.Order.{Order, basic, list}
use Rattle.math_terms.specs.Terms.{con, var}
use Rattle.math_terms.specs.Constants.{Consts, TermOver}
use Rattle.math_terms.specs.Seqs.{concat_map}
use Rattle.math_terms.specs.Fillings.{FillingOver, Typed, fill}
use Rattle.math_terms.specs.Matching.{Matches}
use Rattle.math_terms.specs.Linear.{lists, OneList, LeftLinear}
use Rattle.math_terms.proofs.Seqs.{concat_map_twice}
use Rattle.math_overlaps.specs.Shapes.{Side, left, right, Variable, of}
use Rattle.math_overlaps.specs.Overlaps.{Entry, overlaps}
use Rattle.math_overlaps.proofs.Overlaps.{exact}
use Rattle.math_search.specs.Problems.{Names, Setting, Tm, Field, Bindings}
use Rattle.math_search.specs.Fresh.{numbers}
use Rattle.math_search.specs.Queue.{answers, searching}
use Rattle.math_search.specs.Answers.{StandsIn, listvars, count_of, Linear, Solves, ground, WellTyped}
use Rattle.math_search.specs.Pairs.{pair_setting, side_field, sixteen_above}
use Rattle.math_search.proofs.Seqs.{all_from, concat_map_agree}
use Rattle.math_search.proofs.Counts.{count_le}
use Rattle.math_search.proofs.Searching.{searching_sound, searching_complete, instances}

module _ (O : Order) (C : Consts O) {A : Type 0} (name_eq : Discrete A) (S : Names) (list_name : Side → A → S.Name) where
  abbrev E : Setting
  E = pair_setting O C name_eq S

  abbrev field_on : Side → List (TermOver O C A) → Field E
  field_on = side_field O C name_eq S list_name

  -- no list variable of f is called like one of g
  abbrev pub Apart : List (TermOver O C A) → List (TermOver O C A) → Type 0
  Apart f g = (a b : A) → Memᴰ a (lists f) → Memᴰ b (lists g) → list_name left a ≡ list_name right b → ⊥

  -- a slip's field is an instance of an answer: of the left side, by values of their types. `Solves`: of the right side, too
  abbrev pub InstanceOf : List (TermOver O C A) → Bindings E → List C.Con → Type 0
  InstanceOf f σ w =
      (ρ : Variable O.Kind A → C.Con) × (m : S.Name → List C.Con) × WellTyped E ρ × (concat_map (ground E ρ m) (concat_map σ (field_on left f)) ≡ w)

  -- ---- the equation is linear

  count_lists : (s : Side) (f : List (TermOver O C A)) → listvars E (field_on s f) ≡ length (lists f)
  count_lists s [] = refl
  count_lists s (con c ∷ f) = count_lists s f
  count_lists s (var (basic k) a ∷ f) = count_lists s f
  count_lists s (var list a ∷ f) = ap suc (count_lists s f)

  -- one that counts is one of them
  counted : (s : Side) (n : S.Name) (f : List (TermOver O C A)) → (count_of E n (field_on s f) ≡ 0) ⊎ ((a : A) × Memᴰ a (lists f) × (list_name s a ≡ n))
  counted s n [] = inl refl
  counted s n (con c ∷ f) = counted s n f
  counted s n (var (basic k) a ∷ f) = counted s n f
  counted s n (var list a ∷ f) = go (S.name_eq (list_name s a) n) (counted s n f)
    where
      go : (d : Dec (list_name s a ≡ n)) → (count_of E n (field_on s f) ≡ 0) ⊎ ((b : A) × Memᴰ b (lists f) × (list_name s b ≡ n))
          → (ite d 1 0 + count_of E n (field_on s f) ≡ 0) ⊎ ((b : A) × Memᴰ b (a ∷ lists f) × (list_name s b ≡ n))
      go (yes e) r = inr (a, Memᴰ.head refl, e)
      go (no k) (inl z) = inl (omega (arith, z))
      go (no k) (inr r) = inr (r.0, Memᴰ.tail r.1, r.2)

  pub fields_linear : (f g : List (TermOver O C A)) → OneList f → OneList g → Apart f g → Linear E (field_on left f) (field_on right g)
  fields_linear f g p q h = record {
    left = omega (arith, p, count_lists left f);
    right = omega (arith, q, count_lists right g);
    once = λ n. go n (counted left n f) (counted right n g);
  }
    where
      few : (s : Side) (n : S.Name) (k : List (TermOver O C A)) → OneList k → count_of E n (field_on s k) ≤ 1
      few s n k o = omega (arith, o, count_lists s k, count_le E n (field_on s k))

      go : (n : S.Name) → (count_of E n (field_on left f) ≡ 0) ⊎ ((a : A) × Memᴰ a (lists f) × (list_name left a ≡ n))
          → (count_of E n (field_on right g) ≡ 0) ⊎ ((b : A) × Memᴰ b (lists g) × (list_name right b ≡ n))
          → count_of E n (field_on left f) + count_of E n (field_on right g) ≤ 1
      go n (inl z) r = omega (arith, few right n g q)
      go n (inr s) (inl z) = omega (arith, few left n f p)
      go n (inr s) (inr r) = absurd (h s.0 r.0 s.1 r.1 (s.2 ∙ sym r.2))

  -- ---- from values to fillings

  abbrev filling_by : Side → (Variable O.Kind A → C.Con) → (S.Name → List C.Con) → FillingOver O C A
  filling_by s ρ m (basic k) a = ρ (of s k a) ∷ []
  filling_by s ρ m list a = m (list_name s a)

  filling_typed : (s : Side) (ρ : Variable O.Kind A → C.Con) (m : S.Name → List C.Con) → WellTyped E ρ → Typed O C (filling_by s ρ m)
  filling_typed s ρ m ty (basic k) a = (ρ (of s k a), refl, ty (of s k a))
  filling_typed s ρ m ty list a = tt

  filled_by : (s : Side) (ρ : Variable O.Kind A → C.Con) (m : S.Name → List C.Con) (f : List (TermOver O C A))
      → fill (filling_by s ρ m) f ≡ concat_map (ground E ρ m) (field_on s f)
  filled_by s ρ m [] = refl
  filled_by s ρ m (con c ∷ f) = ap (λ (w : List C.Con). c ∷ w) (filled_by s ρ m f)
  filled_by s ρ m (var (basic k) a ∷ f) = ap (λ (w : List C.Con). ρ (of s k a) ∷ w) (filled_by s ρ m f)
  filled_by s ρ m (var list a ∷ f) = ap (λ (w : List C.Con). m (list_name s a) ++ w) (filled_by s ρ m f)

  -- ---- from fillings to values

  -- of the first of these names that is called n, else of `other`
  abbrev run_at : Side → List A → (A → List C.Con) → List C.Con → S.Name → List C.Con
  run_at s [] φ other n = other
  run_at s (a ∷ l) φ other n = ite (S.name_eq (list_name s a) n) (φ a) (run_at s l φ other n)

  one_run : (s : Side) (l : List A) (φ : A → List C.Con) (other : List C.Con)
      → length l ≤ 1 → (a : A) → Memᴰ a l → run_at s l φ other (list_name s a) ≡ φ a
  one_run s [] φ other h a i = absurd (Memᴰ.not-nil i)
  one_run s (b ∷ []) φ other h a i = go (Memᴰ.cases_cons i)
    where
      go : (a ≡ b) ⊎ Memᴰ a [] → run_at s (b ∷ []) φ other (list_name s a) ≡ φ a
      go (inl e) = if_pos (S.name_eq (list_name s b) (list_name s a)) (ap (list_name s) (sym e)) (φ b) other ∙ ap φ (sym e)
      go (inr j) = absurd (Memᴰ.not-nil j)
  one_run s (b ∷ (c ∷ l)) φ other h a i = absurd (omega arith)

  other_run : (s : Side) (l : List A) (φ : A → List C.Con) (other : List C.Con) (n : S.Name)
      → ((a : A) → Memᴰ a l → list_name s a ≡ n → ⊥) → run_at s l φ other n ≡ other
  other_run s [] φ other n h = refl
  other_run s (a ∷ l) φ other n h =
      if_neg (S.name_eq (list_name s a) n) (h a (Memᴰ.head refl)) (φ a) (run_at s l φ other n) ∙ other_run s l φ other n (λ b i. h b (Memᴰ.tail i))

  -- a field's value depends on its own variables only
  values_by : (s : Side) (φ : FillingOver O C A) (ρ : Variable O.Kind A → C.Con) (m : S.Name → List C.Con)
      → ((k : O.Kind) (a : A) → φ (basic k) a ≡ ρ (of s k a) ∷ [])
      → (f : List (TermOver O C A)) → ((a : A) → Memᴰ a (lists f) → m (list_name s a) ≡ φ list a) → concat_map (ground E ρ m) (field_on s f) ≡ fill φ f
  values_by s φ ρ m g [] h = refl
  values_by s φ ρ m g (con c ∷ f) h = ap (λ (w : List C.Con). c ∷ w) (values_by s φ ρ m g f h)
  values_by s φ ρ m g (var (basic k) a ∷ f) h = ap₂ (λ (v w : List C.Con). v ++ w) (sym (g k a)) (values_by s φ ρ m g f h)
  values_by s φ ρ m g (var list a ∷ f) h =
      ap₂ (λ (v w : List C.Con). v ++ w) (h a (Memᴰ.head refl)) (values_by s φ ρ m g f (λ b i. h b (Memᴰ.tail i)))

  -- ---- one field each

  module _ (f g : List (TermOver O C A)) (lin₁ : LeftLinear (f ∷ [])) (lin₂ : LeftLinear (g ∷ [])) (sides : Apart f g)
      (room : ℕ) (xs : List (Bindings E)) (found : searching E room (field_on left f) (field_on right g) ≡ answers xs) where
    one₁ : OneList f
    one₁ = lin₁.1.0

    one₂ : OneList g
    one₂ = lin₂.1.0

    abbrev L : Field E
    L = field_on left f

    abbrev M : Field E
    M = field_on right g

    linear : Linear E L M
    linear = fields_linear f g one₁ one₂ sides

    only : (k : List (TermOver O C A)) (w : List C.Con) (φ : FillingOver O C A) → map (fill φ) (k ∷ []) ≡ w ∷ [] → fill φ k ≡ w
    only k w φ e = head-eq_of_cons-eq e

    matched : (w : List C.Con) → Matches O C (f ∷ []) (w ∷ []) → Matches O C (g ∷ []) (w ∷ []) → (σ : Bindings E) × Memᴰ σ xs × InstanceOf f σ w
    matched w p q = (c.0, c.1, (ρ, c.2.0, typed, again))
      where
        ρ : Variable O.Kind A → C.Con
        ρ (of left k a) = (p.1 (basic k) a).0
        ρ (of right k a) = (q.1 (basic k) a).0

        m : S.Name → List C.Con
        m n = run_at left (lists f) (p.0 list) (run_at right (lists g) (q.0 list) [] n) n

        typed : WellTyped E ρ
        typed (of left k a) = (p.1 (basic k) a).2
        typed (of right k a) = (q.1 (basic k) a).2

        by_left : concat_map (ground E ρ m) (field_on left f) ≡ w
        by_left =
            values_by left p.0 ρ m (λ k a. (p.1 (basic k) a).1) f
            (λ a i. one_run left (lists f) (p.0 list) (run_at right (lists g) (q.0 list) [] (list_name left a)) one₁ a i)
            ∙ only f w p.0 p.2

        by_right : concat_map (ground E ρ m) (field_on right g) ≡ w
        by_right =
            values_by right q.0 ρ m (λ k a. (q.1 (basic k) a).1) g
            (λ b i. other_run left (lists f) (p.0 list) (run_at right (lists g) (q.0 list) [] (list_name right b)) (list_name right b) (λ a j. sides a b j i)
            ∙ one_run right (lists g) (q.0 list) [] one₂ b i)
            ∙ only g w q.0 q.2

        c : (σ : Bindings E) × Memᴰ σ xs
            × ((m' : S.Name → List C.Con) × ((t : Tm E) → StandsIn E L M t → ground E ρ m t ≡ concat_map (ground E ρ m') (σ t)))
        c = searching_complete E room L M xs linear found ρ m typed (by_left ∙ sym by_right)

        again : concat_map (ground E ρ c.2.0) (concat_map c.0 (field_on left f)) ≡ w
        again =
            concat_map_twice (ground E ρ c.2.0) c.0 L
            ∙ sym (concat_map_agree (ground E ρ m) (λ t. concat_map (ground E ρ c.2.0) (c.0 t)) L
            (all_from (λ t. ground E ρ m t ≡ concat_map (ground E ρ c.2.0) (c.0 t)) L (λ t i. c.2.1 t (inl i))))
            ∙ by_left

    matches_of : (w : List C.Con) (σ : Bindings E) → Memᴰ σ xs → InstanceOf f σ w → Matches O C (f ∷ []) (w ∷ []) × Matches O C (g ∷ []) (w ∷ [])
    matches_of w σ i h = (
      (filling_by left v.0 v.1, filling_typed left v.0 v.1 v.2, ap (λ (l : List C.Con). l ∷ []) (filled_by left v.0 v.1 f ∙ by_left)),
      (
        filling_by right v.0 v.1,
        filling_typed right v.0 v.1 v.2,
        ap (λ (l : List C.Con). l ∷ []) (filled_by right v.0 v.1 g ∙ sym v.4 ∙ by_left),
      ),
    )
      where
        v : (ρ' : Variable O.Kind A → C.Con) × (m' : S.Name → List C.Con) × WellTyped E ρ'
            × ((t : Tm E) → ground E ρ' m' t ≡ concat_map (ground E h.0 h.1) (σ t))
            × (concat_map (ground E ρ' m') (field_on left f) ≡ concat_map (ground E ρ' m') (field_on right g))
        v = instances E L M σ (all_mem (Solves E L M) xs (searching_sound E room L M xs linear found) σ i) h.0 h.1 h.2

        by_left : concat_map (ground E v.0 v.1) (field_on left f) ≡ w
        by_left =
            concat_map_agree (ground E v.0 v.1) (λ t. concat_map (ground E h.0 h.1) (σ t)) L
            (all_from (λ t. ground E v.0 v.1 t ≡ concat_map (ground E h.0 h.1) (σ t)) L (λ t i. v.3 t))
            ∙ sym (concat_map_twice (ground E h.0 h.1) σ L)
            ∙ h.3

    -- A SLIP IS AN INSTANCE OF AN ANSWER EXACTLY WHEN IT FITS AN ENTRY
    pub same_slips : (w : List C.Con)
        → ((σ : Bindings E) × Memᴰ σ xs × InstanceOf f σ w)
        ↔ ((e : Entry O C A) × Memᴰ e (overlaps O C name_eq (f ∷ []) (g ∷ [])) × Matches O C e.fields (w ∷ []))
    same_slips w = (
      λ h. (exact O C name_eq (f ∷ []) (g ∷ []) lin₁ lin₂ (w ∷ [])).0 (matches_of w h.0 h.1 h.2),
      λ h. let b = (exact O C name_eq (f ∷ []) (g ∷ []) lin₁ lin₂ (w ∷ [])).1 h in matched w b.0 b.1,
    )

-- document 01's numbers for list variables, "a right-side variable counting 16 above its number"
pub sixteen_apart : (O : Order) (C : Consts O) (f g : List (TermOver O C ℕ)) → All (λ n. n < numbers_of_side) (lists f)
    → Apart O C ℕ_discrete numbers sixteen_above f g
sixteen_apart O C f g h a b i j e = omega (arith, all_mem (λ n. n < numbers_of_side) (lists f) h a i, e)
