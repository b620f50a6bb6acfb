-- HOW LONG an answer's line can get: where the values are of at most 17 terms, and their constants document 01's, `answer_short`.
use mathlib.Core.Path.{◌≡◌, refl, sym, ap, ap₂, subst}
use mathlib.Core.Logic.{◌⊎◌, inl, inr, ite}
use mathlib.Core.List.Memᴰ
use mathlib.Core.List.{List, [], ◌∷◌, map, Memᴰ}
use Prim.Native.Nat.{ℕ, zero, suc, ◌+◌, ◌*◌, ◌≤◌}
use native.Mathlib.Omega.{arith}
use native.Mathlib.Decide.{ℕ_discrete}
use lib.ListN.{length, length-append, length-map, length-drop}
use Rattle.base_limits.specs.Limits.{most_terms, largest_integer, largest_number, variable_places, longest_term}
use Rattle.base_lists.specs.Seqs.{All, all_append}
use Rattle.math_types.specs.Order.{basic, list, full-eq}
use Rattle.math_types.specs.Types.{Kind, basics}
use Rattle.math_terms.specs.Terms.{Term, con, var}
use Rattle.math_terms.specs.Constants.{TermOver}
use Rattle.math_terms.specs.Seqs.{concat_map}
use Rattle.math_terms.specs.Fillings.{Occurs}
use Rattle.text_grammar.specs.Terms.{OurTerm, OurFields}
use Rattle.text_grammar.specs.constants.Constants.{consts}
use Rattle.text_grammar.specs.Grammar.{colons}
use Rattle.text_grammar.specs.Plain.{raw_of, term_text, field_text}
use Rattle.text_grammar.specs.Limits.{TermIn}
use Rattle.text_grammar.proofs.Numbers.{digits_ten}
use Rattle.text_grammar.proofs.constants.Constants.{con_short}
use Rattle.math_overlaps.specs.Shapes.{fixed, free, Side, left, right, side-eq, of}
use Rattle.math_overlaps.specs.Overlaps.{place_of, without, firsts, names_of, rename, Origin, named, place, origin-eq}
use Rattle.overlap_spec.specs.Lines.{Binding, left_tag, right_tag, binding_text, bindings_text}
use Rattle.overlap_spec.specs.Variables.{Variable, every, occurs, variables}
use Rattle.overlap_spec.specs.Overlaps.{bindings_of}
use Rattle.overlap_spec.proofs.Rising.{keep_mem, keep_short}
use Rattle.overlap_spec.proofs.Variables.{every_mem, occurs_is}
use Rattle.math_search.specs.Problems.{atomic, listvar, Tm, Field, Bindings}
use Rattle.math_search.specs.Fresh.{numbers}
use Rattle.math_search.specs.Pairs.{side_term, sixteen_above}
use Rattle.math_search.specs.Answers.{StandsIn}
use Rattle.search_spec.specs.Answers.{setting, field_on, origin_of, value_of, values_on, values_of, number_in, AnswerLine, line_text, answer_line, answer_text}

-- a constant in a value is one of document 01's
abbrev pub Ours : Tm setting → Type 0
Ours (atomic (fixed c)) = TermIn (con c)
Ours (atomic (free x)) = Unit {0}
Ours (listvar n) = Unit {0}

-- a value of at most 17 terms
abbrev pub Small : Field setting → Type 0
Small L = (length L ≤ suc most_terms) × All Ours L

-- a value under its origins
abbrev OriginTerms : Type 0
OriginTerms = List (TermOver basics consts (Origin ℕ))

-- ---- the numbers of a line's names are at most as many as its values have terms

module _ {A : Type 0} (d : Discrete A) where
  place_most : (x : A) (l : List A) → place_of d x l ≤ length l
  place_most x [] = omega arith
  place_most x (y ∷ l) = go (d x y) (place_most x l)
    where
      go : (q : Dec (x ≡ y)) → place_of d x l ≤ length l → ite q zero (suc (place_of d x l)) ≤ suc (length l)
      go (yes e) r = omega arith
      go (no n) r = omega arith

  without_most : (x : A) (l : List A) → length (without d x l) ≤ length l
  without_most x [] = omega arith
  without_most x (y ∷ l) = go (d x y) (without_most x l)
    where
      go : (q : Dec (x ≡ y)) → length (without d x l) ≤ length l → length (ite q (without d x l) (y ∷ without d x l)) ≤ suc (length l)
      go (yes e) r = omega arith
      go (no n) r = omega arith

  firsts_most : (l : List A) → length (firsts d l) ≤ length l
  firsts_most [] = omega arith
  firsts_most (x ∷ l) = omega (arith, without_most x (firsts d l), firsts_most l)

module _ {C K B : Type 0} (kind_eq : Discrete K) (k : K) where
  names_most : (f : List (Term C K B)) → length (names_of kind_eq k f) ≤ length f
  names_most [] = omega arith
  names_most (con c ∷ f) = omega (arith, names_most f)
  names_most (var j b ∷ f) = go (kind_eq k j) (names_most f)
    where
      go : (q : Dec (k ≡ j)) → length (names_of kind_eq k f) ≤ length f → length (ite q (b ∷ names_of kind_eq k f) (names_of kind_eq k f)) ≤ suc (length f)
      go (yes e) r = omega arith
      go (no n) r = omega arith

  all_names_most : (fs : List (List (Term C K B))) → All (λ f. length f ≤ suc most_terms) fs
      → length (concat_map (names_of kind_eq k) fs) ≤ suc most_terms * length fs
  all_names_most [] h = omega arith
  all_names_most (f ∷ fs) h =
      omega (arith, length-append (names_of kind_eq k f) (concat_map (names_of kind_eq k) fs), names_most f, h.0, all_names_most fs h.1)

-- ---- the text of a value, under numbers that have at most ten digits

module _ (ν : Kind → Origin ℕ → ℕ) (few : (k : Kind) (b : Origin ℕ) → ν k b ≤ largest_integer) where
  abbrev shown_term : Tm setting → OurTerm
  shown_term t = rename ν (origin_of t)

  -- the terms behind the first
  abbrev behind : Field setting → List ℕ
  behind L = colons (map raw_of (map (rename ν) (map origin_of L)))

  term_short : (t : Tm setting) → Ours t → length (term_text (shown_term t)) ≤ longest_term
  term_short (atomic (fixed c)) o = con_short c o
  term_short (atomic (free (of d k n))) o = omega (arith, digits_ten (ν (basic k) (named d n)) (few (basic k) (named d n)))
  term_short (listvar n) o = omega (arith, digits_ten (ν list (place n)) (few list (place n)))

  terms_short : (L : Field setting) → All Ours L → length (behind L) ≤ suc longest_term * length L
  terms_short [] h = omega arith
  terms_short (t ∷ L) h = omega (arith, length-append (term_text (shown_term t)) (behind L), term_short t h.0, terms_short L h.1)

  value_short : (L : Field setting) → Small L → length (field_text (map (rename ν) (map origin_of L))) ≤ 305
  value_short [] h = omega arith
  value_short (t ∷ L) h = omega (arith, length-append (term_text (shown_term t)) (behind L), term_short t h.1.0, terms_short L h.1.1, h.0)

-- ---- the text of bindings

-- a variable whose name and value are short
abbrev Short : (Kind → ℕ → List OurTerm) → Variable → Type 0
Short θ v = (v.1 ≤ largest_number) × (length (field_text (θ v.0 v.1)) ≤ 305)

module _ (tag : ℕ) (θ : Kind → ℕ → List OurTerm) where
  abbrev binding_of : Variable → Binding
  binding_of v = record { kind = v.0; number = v.1; value = θ v.0 v.1 }

  binding_short : (v : Variable) → Short θ v → length (binding_text tag (binding_of v)) ≤ 319
  binding_short v h =
      omega (arith, length-append (term_text (var v.0 v.1)) (61 ∷ field_text (θ v.0 v.1)), digits_ten v.1 (omega (arith, h.0)), h.1)

  bindings_short : (vs : List Variable) → ((v : Variable) → Memᴰ v vs → Short θ v)
      → length (bindings_text tag (map binding_of vs)) ≤ 319 * length vs
  bindings_short [] h = omega arith
  bindings_short (v ∷ vs) h =
      let first = binding_short v (h v (Memᴰ.head refl)) in
      let others = bindings_short vs (λ u i. h u (Memᴰ.tail i)) in
      omega (arith, length-append (binding_text tag (binding_of v)) (bindings_text tag (map binding_of vs)), first, others)

-- ---- the variables of a field

every_many : length every ≡ variable_places
every_many = refl

variables_most : (r : OurFields) → length (variables r) ≤ variable_places
variables_most r = omega (arith, keep_short (λ (v : Variable). occurs v.0 v.1 r) every, every_many)

-- what occurs is a term of the field
pub occurring : (k : Kind) (n : ℕ) (f : List OurTerm) → Occurs k n f → Memᴰ (var k n) f
occurring k n [] o = absurd o
occurring k n (con c ∷ f) o = Memᴰ.tail (occurring k n f o)
occurring k n (var j m ∷ f) (inl e) = Memᴰ.head (ap₂ (λ (i : Kind) (x : ℕ). var i x) e.0 e.1)
occurring k n (var j m ∷ f) (inr o) = Memᴰ.tail (occurring k n f o)

-- the values on a side, whose field's terms have small ones
module _ (d : Side) (f : List OurTerm) (σ : Bindings setting) (h : (t : Tm setting) → Memᴰ t (field_on d f) → Small (σ t)) where
  stands : (k : Kind) (n : ℕ) → Occurs k n f → Memᴰ (side_term basics consts ℕ_discrete numbers sixteen_above d (var k n)) (field_on d f)
  stands k n o = Memᴰ.map (side_term basics consts ℕ_discrete numbers sixteen_above d) (occurring k n f o)

  listed : (k : Kind) (n : ℕ) → Memᴰ (k, n) (variables (f ∷ [])) → (n ≤ largest_number) × Occurs k n f
  listed k n i =
      let m = (keep_mem (λ (v : Variable). occurs v.0 v.1 (f ∷ [])) (k, n) every).0 i in
      ((every_mem k n).0 m.0, only ((occurs_is k n (f ∷ [])).0 m.1))
    where
      only : Occurs k n f ⊎ ⊥ → Occurs k n f
      only (inl o) = o
      only (inr o) = absurd o

  small_value : (k : Kind) (n : ℕ) → Memᴰ (k, n) (variables (f ∷ [])) → (L : Field setting) × (value_of d σ k n ≡ map origin_of L) × Small L
  small_value (basic k) n i = (σ (atomic (free (of d k n))), refl, h (atomic (free (of d k n))) (stands (basic k) n (listed (basic k) n i).1))
  small_value list n i = (σ (listvar (sixteen_above d n)), refl, h (listvar (sixteen_above d n)) (stands list n (listed list n i).1))

  values_few : (vs : List Variable) → ((v : Variable) → Memᴰ v vs → Memᴰ v (variables (f ∷ [])))
      → All (λ (w : OriginTerms). length w ≤ suc most_terms) (map (λ (v : Variable). value_of d σ v.0 v.1) vs)
  values_few [] u = tt
  values_few (v ∷ vs) u =
      let s = small_value v.0 v.1 (u v (Memᴰ.head refl)) in
      (omega (arith, ap (λ (w : OriginTerms). length w) s.1, length-map s.0 origin_of, s.2.0), values_few vs (λ w i. u w (Memᴰ.tail i)))

  side_few_lem : All (λ (w : OriginTerms). length w ≤ suc most_terms) (values_on d f σ)
  side_few_lem = values_few (variables (f ∷ [])) (λ v i. i)

  -- what a line shows of the side, under numbers of at most ten digits
  side_short : (tag : ℕ) (ν : Kind → Origin ℕ → ℕ) → ((k : Kind) (b : Origin ℕ) → ν k b ≤ largest_integer)
      → length (bindings_text tag (bindings_of (f ∷ []) (λ k n. map (rename ν) (value_of d σ k n)))) ≤ 20416
  side_short tag ν few =
      omega (arith, variables_most (f ∷ []), bindings_short tag (λ k n. map (rename ν) (value_of d σ k n)) (variables (f ∷ [])) (λ v i. each v.0 v.1 i))
    where
      each : (k : Kind) (n : ℕ) → Memᴰ (k, n) (variables (f ∷ [])) → (n ≤ largest_number) × (length (field_text (map (rename ν) (value_of d σ k n))) ≤ 305)
      each k n i =
          let s = small_value k n i in
          ((listed k n i).0, subst (λ (w : OriginTerms). length (field_text (map (rename ν) w)) ≤ 305) (sym s.1) (value_short ν few s.0 s.2))

-- ---- THE LINE

-- the newline stands in place of the first blank
line_short : (l : AnswerLine) (n : ℕ) → 1 ≤ n → length (bindings_text left_tag l.left) ≤ n → length (bindings_text right_tag l.right) ≤ n
    → length (line_text l) ≤ n + n
line_short l n some p q = simp (length-append, length-drop) (omega arith)

module _ (f g : List OurTerm) (σ : Bindings setting)
    (h : (t : Tm setting) → StandsIn setting (field_on left f) (field_on right g) t → (length (σ t) ≤ suc most_terms) × All Ours (σ t)) where
  values_short : All (λ (w : OriginTerms). length w ≤ suc most_terms) (values_of f g σ)
  values_short =
      let l = side_few_lem left f σ (λ t i. h t (inl i)) in
      let r = side_few_lem right g σ (λ t i. h t (inr i)) in
      all_append (λ (w : OriginTerms). length w ≤ suc most_terms) (values_on left f σ) (values_on right g σ) l r

  values_most : length (values_of f g σ) ≤ variable_places + variable_places
  values_most =
      let l = length-map (variables (f ∷ [])) (λ v. value_of left σ v.0 v.1) in
      let r = length-map (variables (g ∷ [])) (λ v. value_of right σ v.0 v.1) in
      omega (arith, length-append (values_on left f σ) (values_on right g σ), l, r, variables_most (f ∷ []), variables_most (g ∷ []))

  number_few : (k : Kind) (b : Origin ℕ) → number_in f g σ k b ≤ largest_integer
  number_few k b =
      let eq = origin-eq side-eq ℕ_discrete ℕ_discrete in
      let names = concat_map (names_of (full-eq basics.kind_eq) k) (values_of f g σ) in
      omega (
        arith,
        place_most eq b (firsts eq names),
        firsts_most eq names,
        all_names_most (full-eq basics.kind_eq) k (values_of f g σ) values_short,
        values_most,
      )

  -- 319 bytes for each of at most 128 bindings
  pub answer_short : length (answer_text f g σ) ≤ 40832
  answer_short =
      let short-l = side_short left f σ (λ t i. h t (inl i)) left_tag (number_in f g σ) number_few in
      let short-r = side_short right g σ (λ t i. h t (inr i)) right_tag (number_in f g σ) number_few in
      line_short (answer_line f g σ) 20416 (omega arith) short-l short-r
