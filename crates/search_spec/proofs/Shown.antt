-- DEMAND 2 of the values that the search's lines show, for two fields that stand on the left sides of accepted rules.
--     lines-answers                     the lines are the texts of the answers, in their order; `lines_nine`: nine is refusal 9
--     shown-solves                      "The search's answers all solve the equation": what a line shows is a solution in document 01's sense
--     shown-complete                    "When it isn't refused, every solution by constants is an instance of one of them"
--     shown-none                        "and no answer means no solution"
use mathlib.Core.Path.{◌≡◌, refl, sym, ◌∙◌, ap, ap₂, subst}
use mathlib.Core.Logic.{◌⊎◌, inl, inr, ◌↔◌}
use mathlib.Core.Bool.{Bool, cond}
use mathlib.Core.List.Memᴰ
use mathlib.Core.List.{List, [], ◌∷◌, ◌++◌, map, map-append, head-eq_of_cons-eq, tail-eq_of_cons-eq, Memᴰ}
use Prim.Native.Nat.{ℕ, ◌+◌, ◌-◌, ◌<◌}
use native.Mathlib.Omega.{arith}
use native.Mathlib.Decide.{ℕ_discrete}
use lib.Dec.{ltb}
use lib.ListN.{length}
use borrow.Author.Tests.{lt-ltb, le-ltb}
use Rattle.base_limits.specs.Limits.{numbers_of_side}
use Rattle.base_lists.specs.Seqs.{All, all_mem}
use Rattle.math_types.specs.Order.{basic, list}
use Rattle.math_types.specs.Types.{Basic, Kind, basics}
use Rattle.math_terms.specs.Terms.{con, var}
use Rattle.math_terms.specs.Constants.{TermOver}
use Rattle.math_terms.specs.Seqs.{concat_map}
use Rattle.math_terms.specs.Fillings.{Filling, Typed, value, fill, Occurs}
use Rattle.math_terms.specs.Matching.{Matches}
use Rattle.text_grammar.specs.Terms.{OurTerm}
use Rattle.text_grammar.specs.constants.Constants.{Con, consts}
use Rattle.text_grammar.specs.Limits.{TermIn, IsLeft}
use Rattle.text_grammar.proofs.Limited.{number_field}
use Rattle.math_overlaps.specs.Substitutions.{substitute, TypedSubst, TermsOf}
use Rattle.math_overlaps.specs.Shapes.{fixed, free, Side, left, right, side-eq, Variable, of}
use Rattle.math_overlaps.specs.Overlaps.{Origin, named, place, origin-eq, rename}
use Rattle.math_overlaps.proofs.Renumbered.{rename_substs, some_value_typed, some_value, renumbered_to}
use Rattle.math_overlaps.proofs.Typed.{rename_typed}
use Rattle.overlap_spec.specs.Fits.{Solution}
use Rattle.overlap_spec.specs.Variables as listed
use Rattle.overlap_spec.proofs.Variables.{in_variables}
use Rattle.math_search.specs.Problems.{atomic, listvar, Tm, Bindings, Problem}
use Rattle.math_search.specs.Queue.{Result, answers, refused, unfinished}
use Rattle.math_search.specs.Runs.{Queued, peak}
use Rattle.math_search.specs.Answers.{StandsIn, Fits, Solves, ground, WellTyped, Covers}
use Rattle.math_search.specs.Pairs.{sixteen_above}
use Rattle.math_search.specs.Pairs as pairs
use Rattle.math_search.specs.Fresh.{numbers}
use Rattle.math_search.proofs.Peak.{refused_peak, refused_queued}
use Rattle.search_spec.specs.Answers.{setting, field_on, found, origin_of, value_of, values_on, values_of, number_in, shown_on, answer_text, Lines, lines, nine}
use Rattle.search_spec.specs.Answers.{lines_in, lines_of}
use Rattle.search_spec.proofs.Search.{found_ends, answers_solve, answers_complete}

-- ---- the lines and the answers

abbrev IsLines : Lines → Type 0
IsLines (lines ls) = Unit {0}
IsLines nine = ⊥

lines_once : {a b : List (List ℕ)} → lines a ≡ lines b → a ≡ b
lines_once e = cc

pub lines_answers : (room : ℕ) (f g : List OurTerm) (ls : List (List ℕ)) → lines_of room f g ≡ lines ls
    → (xs : List (Bindings setting)) × (found room f g ≡ answers xs) × (ls ≡ map (answer_text f g) xs)
lines_answers room f g ls e = go (found room f g) refl e
  where
    go : (r : Result setting) → found room f g ≡ r → lines_in f g r ≡ lines ls
        → (xs : List (Bindings setting)) × (found room f g ≡ answers xs) × (ls ≡ map (answer_text f g) xs)
    go (answers xs) q e = (xs, q, sym (lines_once e))
    go refused q e = absurd (subst IsLines (sym e) tt)
    go unfinished q e = absurd (subst IsLines (sym e) tt)

pub lines_nine : (room : ℕ) (f g : List OurTerm) → lines_of room f g ≡ nine → found room f g ≡ refused
lines_nine room f g e = go (found room f g) refl e
  where
    go : (r : Result setting) → found room f g ≡ r → lines_in f g r ≡ nine → found room f g ≡ refused
    go (answers xs) q e = absurd (subst IsLines e tt)
    go refused q e = q
    go unfinished q e = absurd (found_ends room f g q)

-- THE CASE OF 9, by the run without a row: more problems wait at once than the row has records
pub nine_peak : (room : ℕ) (f g : List OurTerm) → (lines_of room f g ≡ nine) ↔ (room < peak setting (field_on left f) (field_on right g))
nine_peak room f g =
    let r = refused_peak setting room (field_on left f) (field_on right g) in
    (λ e. r.0 (lines_nine room f g e), λ h. ap (lines_in f g) (r.1 h))

-- that is, some queue of that run has more problems
pub nine_queued : (room : ℕ) (f g : List OurTerm)
    → (lines_of room f g ≡ nine) ↔ ((q : List (Problem setting)) × Queued setting (field_on left f) (field_on right g) q × (room < length q))
nine_queued room f g =
    let r = refused_queued setting room (field_on left f) (field_on right g) in
    (λ e. r.0 (lines_nine room f g e), λ h. ap (lines_in f g) (r.1 h))

-- ---- what a line shows solves the equation

module _ (f g : List OurTerm) (σ : Bindings setting) (h : Solves setting (field_on left f) (field_on right g) σ) where
  value_typed : (d : Side) → TypedSubst basics consts (value_of d σ)
  value_typed d list n = tt
  value_typed d (basic k) n = go (h.1 (atomic (free (of d k n))))
    where
      go : Fits setting (atomic (free (of d k n))) (σ (atomic (free (of d k n)))) → TermsOf basics consts (basic k) (value_of d σ (basic k) n)
      go (fixed c, e, l) = (con c, ap (map origin_of) e, l)
      go (free (of s j m), e, l) = (var (basic j) (named s m), ap (map origin_of) e, l)

  -- a field with its values is the side under the answer's bindings
  substituted : (d : Side) (e : List OurTerm) → substitute (value_of d σ) e ≡ map origin_of (concat_map σ (field_on d e))
  substituted d [] = refl
  substituted d (con c ∷ e) =
      ap (λ (r : List (TermOver basics consts (Origin ℕ))). con c ∷ r) (substituted d e)
      ∙ ap (λ (t : List (Tm setting)). map origin_of (t ++ concat_map σ (field_on d e))) (sym (h.1 (atomic (fixed c))))
  substituted d (var (basic k) n ∷ e) =
      ap (λ (r : List (TermOver basics consts (Origin ℕ))). value_of d σ (basic k) n ++ r) (substituted d e)
      ∙ sym (map-append origin_of (σ (atomic (free (of d k n)))) (concat_map σ (field_on d e)))
  substituted d (var list n ∷ e) =
      ap (λ (r : List (TermOver basics consts (Origin ℕ))). value_of d σ list n ++ r) (substituted d e)
      ∙ sym (map-append origin_of (σ (listvar (sixteen_above d n))) (concat_map σ (field_on d e)))

  pub shown_solution : Solution (f ∷ []) (g ∷ []) ℕ
  shown_solution =
      record {
        left = shown_on left f g σ;
        right = shown_on right f g σ;
        typed_left = rename_typed basics consts (value_of left σ) (value_typed left) (number_in f g σ);
        typed_right = rename_typed basics consts (value_of right σ) (value_typed right) (number_in f g σ);
        same =
            sym (rename_substs (number_in f g σ) (value_of left σ) (f ∷ []))
            ∙ ap (map (map (rename (number_in f g σ)))) equal
            ∙ rename_substs (number_in f g σ) (value_of right σ) (g ∷ []);
      }
    where
      equal : map (substitute (value_of left σ)) (f ∷ []) ≡ map (substitute (value_of right σ)) (g ∷ [])
      equal = ap (λ (e : List (TermOver basics consts (Origin ℕ))). e ∷ []) (substituted left f ∙ ap (map origin_of) h.0 ∙ sym (substituted right g))

-- ---- a solution by constants: a filling of each field, each by its type, that makes the two equal

module _ (φ ψ : Filling Con Kind ℕ) (t : Typed basics consts φ) (u : Typed basics consts ψ) where
  abbrev constant_of : Variable Basic ℕ → Con
  constant_of (of left k n) = (t (basic k) n).0
  constant_of (of right k n) = (u (basic k) n).0

  constant_typed : WellTyped setting constant_of
  constant_typed (of left k n) = (t (basic k) n).2
  constant_typed (of right k n) = (u (basic k) n).2

  -- "a right-side variable counting 16 above its number"
  abbrev list_of : ℕ → List Con
  list_of n = cond (ltb n numbers_of_side) (φ list n) (ψ list (n - numbers_of_side))

  left_term : (e : OurTerm) → TermIn e → ground setting constant_of list_of (pairs.side_term basics consts ℕ_discrete numbers sixteen_above left e) ≡ value φ e
  left_term (con c) i = refl
  left_term (var (basic k) n) i = sym (t (basic k) n).1
  left_term (var list n) i = ap (λ (b : Bool). cond b (φ list n) (ψ list (n - numbers_of_side))) (lt-ltb n numbers_of_side (omega (arith, i)))

  right_term : (e : OurTerm) → ground setting constant_of list_of (pairs.side_term basics consts ℕ_discrete numbers sixteen_above right e) ≡ value ψ e
  right_term (con c) = refl
  right_term (var (basic k) n) = sym (u (basic k) n).1
  right_term (var list n) =
      ap (λ (b : Bool). cond b (φ list (numbers_of_side + n)) (ψ list (numbers_of_side + n - numbers_of_side)))
      (le-ltb (numbers_of_side + n) numbers_of_side (omega arith))
      ∙ ap (ψ list) (let z : numbers_of_side + n - numbers_of_side ≡ n = omega arith in z)

  filled_left : (e : List OurTerm) → All TermIn e → concat_map (ground setting constant_of list_of) (field_on left e) ≡ fill φ e
  filled_left [] i = refl
  filled_left (x ∷ e) i = ap₂ (λ (a b : List Con). a ++ b) (left_term x i.0) (filled_left e i.1)

  filled_right : (e : List OurTerm) → concat_map (ground setting constant_of list_of) (field_on right e) ≡ fill ψ e
  filled_right [] = refl
  filled_right (x ∷ e) = ap₂ (λ (a b : List Con). a ++ b) (right_term x) (filled_right e)

-- ---- values of an answer's variables, by their origins

module _ (ρ : Variable Basic ℕ → Con) (m : ℕ → List Con) where
  abbrev by_origins : Filling Con Kind (Origin ℕ)
  by_origins (basic k) (named d n) = ρ (of d k n) ∷ []
  by_origins (basic k) (place n) = some_value basics consts (basic k)
  by_origins list (named d n) = []
  by_origins list (place n) = m n

  origins_typed : WellTyped setting ρ → Typed basics consts by_origins
  origins_typed t (basic k) (named d n) = (ρ (of d k n), refl, t (of d k n))
  origins_typed t (basic k) (place n) = some_value_typed basics consts (basic k)
  origins_typed t list (named d n) = tt
  origins_typed t list (place n) = tt

  fill_origins : (ts : List (Tm setting)) → fill by_origins (map origin_of ts) ≡ concat_map (ground setting ρ m) ts
  fill_origins [] = refl
  fill_origins (atomic (fixed c) ∷ ts) = ap (λ (r : List Con). c ∷ r) (fill_origins ts)
  fill_origins (atomic (free (of d k n)) ∷ ts) = ap (λ (r : List Con). ρ (of d k n) ∷ r) (fill_origins ts)
  fill_origins (listvar n ∷ ts) = ap (λ (r : List Con). m n ++ r) (fill_origins ts)

module _ {A B C : Type 0} (a : B → C) (b : A → B) (c : A → C) where
  -- where two maps agree, they agree at each member
  maps_at : (l : List A) → map a (map b l) ≡ map c l → (v : A) → Memᴰ v l → a (b v) ≡ c v
  maps_at [] e v i = absurd (Memᴰ.not-nil i)
  maps_at (x ∷ l) e v i = go (Memᴰ.cases_cons i) (λ j. maps_at l (tail-eq_of_cons-eq e) v j)
    where
      go : (v ≡ x) ⊎ Memᴰ v l → (Memᴰ v l → a (b v) ≡ c v) → a (b v) ≡ c v
      go (inl q) rec = ap (λ (y : A). a (b y)) q ∙ head-eq_of_cons-eq e ∙ ap c (sym q)
      go (inr j) rec = rec j

abbrev pub term_on : Side → OurTerm → Tm setting
term_on d e = pairs.side_term basics consts ℕ_discrete numbers sixteen_above d e

-- a variable of a field stands on its side
pub stands_on : (d : Side) (k : Kind) (n : ℕ) (e : List OurTerm) → Occurs k n e → Memᴰ (term_on d (var k n)) (field_on d e)
stands_on d k n [] o = absurd o
stands_on d k n (con c ∷ e) o = Memᴰ.tail (stands_on d k n e o)
stands_on d k n (var j m ∷ e) (inl q) = Memᴰ.head (ap₂ (λ (a : Kind) (b : ℕ). term_on d (var a b)) q.0 q.1)
stands_on d k n (var j m ∷ e) (inr o) = Memᴰ.tail (stands_on d k n e o)

pub value_on : (d : Side) (σ : Bindings setting) (k : Kind) (n : ℕ) → value_of d σ k n ≡ map origin_of (σ (term_on d (var k n)))
value_on d σ (basic k) n = refl
value_on d σ list n = refl

-- the fillings φ and ψ of the two fields are an instance of the values of σ: by a filling χ of the line's variables, each by its type
abbrev pub InstanceOf : List OurTerm → List OurTerm → Bindings setting → Filling Con Kind ℕ → Filling Con Kind ℕ → Type 0
InstanceOf f g σ φ ψ =
    (χ : Filling Con Kind ℕ) × Typed basics consts χ
    × ((k : Kind) (n : ℕ) → Occurs k n f → φ k n ≡ fill χ (shown_on left f g σ k n))
    × ((k : Kind) (n : ℕ) → Occurs k n g → ψ k n ≡ fill χ (shown_on right f g σ k n))

module _ (f g : List OurTerm) (is_f : IsLeft (f ∷ [])) (is-g : IsLeft (g ∷ []))
    (room : ℕ) (xs : List (Bindings setting)) (is : found room f g ≡ answers xs) where
  -- EVERY LINE'S VALUES solve the equation
  pub shown_solves : (σ : Bindings setting) → Memᴰ σ xs → Solution (f ∷ []) (g ∷ []) ℕ
  shown_solves σ i = shown_solution f g σ (all_mem (Solves setting (field_on left f) (field_on right g)) xs (answers_solve f g is_f is-g room xs is) σ i)

  -- and are those that the line shows
  pub shown_left : (σ : Bindings setting) (i : Memᴰ σ xs) → (shown_solves σ i).left ≡ shown_on left f g σ
  unfolding shown_solves shown_solution
  shown_left σ i = refl

  pub shown_right : (σ : Bindings setting) (i : Memᴰ σ xs) → (shown_solves σ i).right ≡ shown_on right f g σ
  unfolding shown_solves shown_solution
  shown_right σ i = refl

  -- EVERY SOLUTION BY CONSTANTS is an instance of a line
  pub shown_complete : (φ ψ : Filling Con Kind ℕ) → Typed basics consts φ → Typed basics consts ψ → fill φ f ≡ fill ψ g
      → (σ : Bindings setting) × Memᴰ σ xs × InstanceOf f g σ φ ψ
  shown_complete φ ψ t u e = (c.0, c.1, (r.0, r.1, lefts, rights))
    where
      c : (σ : Bindings setting) × Memᴰ σ xs × Covers setting (StandsIn setting (field_on left f) (field_on right g)) (constant_of φ ψ t u) (list_of φ ψ t u) σ
      c =
          answers_complete f g is_f is-g room xs is (constant_of φ ψ t u) (list_of φ ψ t u) (constant_typed φ ψ t u)
          (filled_left φ ψ t u f is_f.0.3.0 ∙ e ∙ sym (filled_right φ ψ t u g))

      r : Matches basics consts (map (map (rename (number_in f g c.0))) (values_of f g c.0))
          (map (fill (by_origins (constant_of φ ψ t u) c.2.0)) (values_of f g c.0))
      r =
          renumbered_to basics consts (origin-eq side-eq ℕ_discrete ℕ_discrete) (values_of f g c.0)
          (map (fill (by_origins (constant_of φ ψ t u) c.2.0)) (values_of f g c.0))
          (by_origins (constant_of φ ψ t u) c.2.0, origins_typed (constant_of φ ψ t u) c.2.0 (constant_typed φ ψ t u), refl)

      -- a value of the line, filled
      shown_at_lem : (d : Side) (k : Kind) (n : ℕ) → Memᴰ (value_of d c.0 k n) (values_of f g c.0)
          → StandsIn setting (field_on left f) (field_on right g) (term_on d (var k n))
          → ground setting (constant_of φ ψ t u) (list_of φ ψ t u) (term_on d (var k n)) ≡ fill r.0 (shown_on d f g c.0 k n)
      shown_at_lem d k n i s =
          c.2.1 (term_on d (var k n)) s
          ∙ sym (fill_origins (constant_of φ ψ t u) c.2.0 (c.0 (term_on d (var k n))))
          ∙ ap (fill (by_origins (constant_of φ ψ t u) c.2.0)) (sym (value_on d c.0 k n))
          ∙ sym (maps_at (fill r.0) (map (rename (number_in f g c.0)))
          (fill (by_origins (constant_of φ ψ t u) c.2.0)) (values_of f g c.0) r.2 (value_of d c.0 k n) i)

      lefts : (k : Kind) (n : ℕ) → Occurs k n f → φ k n ≡ fill r.0 (shown_on left f g c.0 k n)
      lefts k n o =
          sym (left_term φ ψ t u (var k n) (number_field k n f is_f.0.3.0 o))
          ∙ shown_at_lem left k n (Memᴰ.append_left (values_on right g c.0)
          (Memᴰ.map (λ (v : listed.Variable). value_of left c.0 v.0 v.1) ((in_variables (f ∷ []) is_f.0.3 k n).1 (inl o))))
          (inl (stands_on left k n f o))

      rights : (k : Kind) (n : ℕ) → Occurs k n g → ψ k n ≡ fill r.0 (shown_on right f g c.0 k n)
      rights k n o =
          sym (right_term φ ψ t u (var k n))
          ∙ shown_at_lem right k n (Memᴰ.append_right (values_on left f c.0)
          (Memᴰ.map (λ (v : listed.Variable). value_of right c.0 v.0 v.1) ((in_variables (g ∷ []) is-g.0.3 k n).1 (inl o))))
          (inr (stands_on right k n g o))

-- NO ANSWER, no solution
pub shown_none : (f g : List OurTerm) → IsLeft (f ∷ []) → IsLeft (g ∷ []) → (room : ℕ) → found room f g ≡ answers []
    → (φ ψ : Filling Con Kind ℕ) → Typed basics consts φ → Typed basics consts ψ → fill φ f ≡ fill ψ g → ⊥
shown_none f g is_f is-g room is φ ψ t u e = Memᴰ.not-nil (shown_complete f g is_f is-g room [] is φ ψ t u e).1
