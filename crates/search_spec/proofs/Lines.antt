-- THE LINES OF THE SEARCH determine what they say, and what they say is what demand 2 asks.
--     answer-line-one, answer-lines-one    the bytes of a line, and of a list of lines, determine the bindings
--     lines-writable                       the lines of the answers can be written
--     lines-named                          a line binds the variables of the two fields, each once, in order
--     lines-solve                          the values that a line shows solve the equation
--     lines-complete                       every solution by constants is an instance of what some line shows
use mathlib.Core.Path.{◌≡◌, refl, sym, ◌∙◌, ap, ap₂, subst}
use mathlib.Core.Logic.{◌≢◌, ◌⊎◌, inl, inr}
use mathlib.Core.List.Memᴰ
use mathlib.Core.List.{List, [], ◌∷◌, ◌++◌, map, append_assoc, nil≢cons, head-eq_of_cons-eq, Memᴰ}
use Prim.Native.Nat.{ℕ}
use native.Mathlib.Omega.{arith}
use lib.ListN.{drop}
use Rattle.base_lists.specs.Seqs.{All}
use Rattle.math_types.specs.Order.{basic, list}
use Rattle.math_types.specs.Types.{Kind, basics}
use Rattle.math_terms.specs.Terms.{con, var}
use Rattle.math_terms.specs.Constants.{TermOver}
use Rattle.math_terms.specs.Fillings.{Filling, Typed, fill, Occurs}
use Rattle.text_grammar.specs.Ascii.{newline}
use Rattle.text_grammar.specs.Terms.{OurTerm}
use Rattle.text_grammar.specs.constants.Constants.{Con, consts}
use Rattle.text_grammar.specs.Plain.{TermOk, plain}
use Rattle.text_grammar.specs.Limits.{TermIn, IsLeft}
use Rattle.math_overlaps.specs.Substitutions.{Subst}
use Rattle.math_overlaps.specs.Shapes.{fixed, free, Side, left, right, of}
use Rattle.math_overlaps.specs.Overlaps.{Origin, rename}
use Rattle.overlap_spec.specs.Lines as listing
use Rattle.overlap_spec.specs.Lines.{Binding, Line, left_tag, right_tag, bindings_text, WritableBinding}
use Rattle.overlap_spec.specs.Variables.{Variable, variables}
use Rattle.overlap_spec.specs.Fits.{name_of, Solution}
use Rattle.overlap_spec.proofs.Lines.{line_one}
use Rattle.overlap_spec.proofs.Variables.{in_variables}
use Rattle.math_search.specs.Problems.{atomic, listvar, Tm, Bindings}
use Rattle.math_search.specs.Queue.{answers}
use Rattle.math_search.specs.Answers.{StandsIn}
use Rattle.math_search.proofs.Origins.{answers_from}
use Rattle.search_spec.specs.Answers.{setting, field_on, found, origin_of, number_in, shown_on, AnswerLine, bindings_part, line_text, lines_text, WritableAnswer}
use Rattle.search_spec.specs.Answers.{Gives, InstanceOfLine, answer_line}
use Rattle.search_spec.proofs.Search.{equation_linear}
use Rattle.search_spec.proofs.Short.{Ours}
use Rattle.search_spec.proofs.Shown.{term_on, stands_on, value_on, shown_solves, shown_left, shown_right, shown_complete}
use Rattle.text_grammar.proofs.constants.Constants.{in_ok}

-- ---- the bytes determine the lines

-- nothing, or a blank and a byte that is no newline
abbrev Blank : List ℕ → Type 0
Blank [] = Unit {0}
Blank (c ∷ []) = ⊥
Blank (c ∷ (b ∷ t)) = (c ≡ 32) × (b ≢ 10)

part_blank : (a b : List Binding) → Blank (bindings_text left_tag a ++ bindings_text right_tag b)
part_blank [] [] = tt
part_blank [] (x ∷ b) = (refl, λ e. omega arith)
part_blank (x ∷ a) b = (refl, λ e. omega arith)

-- without the blank at its front it says as much
with_blank : (p q u v : List ℕ) → Blank p → Blank q → (drop 1 p ++ newline) ++ u ≡ (drop 1 q ++ newline) ++ v → p ++ 10 ∷ u ≡ q ++ 10 ∷ v
with_blank [] [] u v h k e = e
with_blank [] (d ∷ []) u v h k e = absurd k
with_blank [] (d ∷ (c ∷ t)) u v h k e = absurd (k.1 (sym (head-eq_of_cons-eq e)))
with_blank (c ∷ []) q u v h k e = absurd h
with_blank (c ∷ (b ∷ s)) [] u v h k e = absurd (h.1 (head-eq_of_cons-eq e))
with_blank (c ∷ (b ∷ s)) (d ∷ []) u v h k e = absurd k
with_blank (c ∷ (b ∷ s)) (d ∷ (y ∷ t)) u v h k e =
    ap₂ (λ (x : ℕ) (l : List ℕ). x ∷ l) (h.0 ∙ sym k.0) (sym (append_assoc (b ∷ s) newline u) ∙ e ∙ append_assoc (y ∷ t) newline v)

-- a line of the overlap list with these bindings
abbrev as_line : AnswerLine → Line
as_line l = record { fields = [] ∷ []; left = l.left; right = l.right }

as_parts : (l : AnswerLine) (u : List ℕ) → listing.line_text (as_line l) ++ u ≡ plain ([] ∷ []) ++ (bindings_part l ++ 10 ∷ u)
as_parts l u = simp append_assoc

-- A LINE is determined by any text that begins with it, and so is the rest
pub answer_line_one : (l m : AnswerLine) (u v : List ℕ) → WritableAnswer l → WritableAnswer m → line_text l ++ u ≡ line_text m ++ v → (l ≡ m) × (u ≡ v)
answer_line_one l m u v p q e =
    let whole = with_blank (bindings_part l) (bindings_part m) u v (part_blank l.left l.right) (part_blank m.left m.right) e in
    let same = as_parts l u ∙ ap (λ (t : List ℕ). plain ([] ∷ []) ++ t) whole ∙ sym (as_parts m v) in
    let r = line_one (as_line l) (as_line m) u v ((tt, (tt, tt)), p.0, p.1) ((tt, (tt, tt)), q.0, q.1) same in
    (λ i. record { left = (r.0 i).left; right = (r.0 i).right }, r.1)

-- a line has bytes
line_some : (l : AnswerLine) (u : List ℕ) → [] ≡ line_text l ++ u → ⊥
line_some l u e = none_before (drop 1 (bindings_part l)) e
  where
    none_before : (s : List ℕ) → [] ≡ (s ++ newline) ++ u → ⊥
    none_before [] e = nil≢cons e
    none_before (x ∷ s) e = nil≢cons e

-- A LIST OF LINES is determined by its bytes
pub answer_lines_one : (ls ms : List AnswerLine) → All WritableAnswer ls → All WritableAnswer ms → lines_text ls ≡ lines_text ms → ls ≡ ms
answer_lines_one [] [] p q e = refl
answer_lines_one [] (m ∷ ms) p q e = absurd (line_some m (lines_text ms) e)
answer_lines_one (l ∷ ls) [] p q e = absurd (line_some l (lines_text ls) (sym e))
answer_lines_one (l ∷ ls) (m ∷ ms) p q e =
    let f = answer_line_one l m (lines_text ls) (lines_text ms) p.0 q.0 e in
    ap₂ (λ (x : AnswerLine) (y : List AnswerLine). x ∷ y) f.0 (answer_lines_one ls ms p.1 q.1 f.1)

-- ---- the lines of the answers can be written

-- a term of document 01's can be written under any number
term_ok_lem : (ν : Kind → Origin ℕ → ℕ) (t : Tm setting) → Ours t → TermOk (rename ν (origin_of t))
term_ok_lem ν (atomic (fixed c)) o = in_ok c o
term_ok_lem ν (atomic (free (of d k n))) o = tt
term_ok_lem ν (listvar n) o = tt

terms_ok : (ν : Kind → Origin ℕ → ℕ) (ts : List (Tm setting)) → All Ours ts → All TermOk (map (rename ν) (map origin_of ts))
terms_ok ν [] h = tt
terms_ok ν (t ∷ ts) h = (term_ok_lem ν t h.0, terms_ok ν ts h.1)

side_ours : (d : Side) (f : List OurTerm) → All TermIn f → All Ours (field_on d f)
side_ours d [] h = tt
side_ours d (con c ∷ f) h = (h.0, side_ours d f h.1)
side_ours d (var (basic k) n ∷ f) h = (tt, side_ours d f h.1)
side_ours d (var list n ∷ f) h = (tt, side_ours d f h.1)

module _ (θ : Subst Con Kind ℕ ℕ) where
  abbrev binding_of : Variable → Binding
  binding_of v = record { kind = v.0; number = v.1; value = θ v.0 v.1 }

  names_are : (vs : List Variable) → map name_of (map binding_of vs) ≡ vs
  names_are [] = refl
  names_are (v ∷ vs) = ap (λ (l : List Variable). v ∷ l) (names_are vs)

  bindings_writable : (vs : List Variable) → ((v : Variable) → Memᴰ v vs → All TermOk (θ v.0 v.1)) → All WritableBinding (map binding_of vs)
  bindings_writable [] h = tt
  bindings_writable (v ∷ vs) h = (h v (Memᴰ.head refl), bindings_writable vs (λ w i. h w (Memᴰ.tail i)))

  -- the bindings give what θ gives
  bindings_give : (vs : List Variable) → Gives θ (map binding_of vs)
  bindings_give vs b i =
      let v = Memᴰ.of_map binding_of vs i in
      subst (λ (c : Binding). θ c.kind c.number ≡ c.value) v.2 refl

-- what is listed occurs in the one field
occurs_in_lem : (f : List OurTerm) → IsLeft (f ∷ []) → (k : Kind) (n : ℕ) → Memᴰ (k, n) (variables (f ∷ [])) → Occurs k n f
occurs_in_lem f is k n i = only ((in_variables (f ∷ []) is.0.3 k n).0 i)
  where
    only : Occurs k n f ⊎ ⊥ → Occurs k n f
    only (inl o) = o
    only (inr o) = absurd o

-- ---- the theorems

module _ (f g : List OurTerm) (is_f : IsLeft (f ∷ [])) (is-g : IsLeft (g ∷ [])) (room : ℕ) (xs : List (Bindings setting))
    (is : found room f g ≡ answers xs) where
  -- an answer's values have document 01's constants only
  values_ours : All (λ σ. (t : Tm setting) → StandsIn setting (field_on left f) (field_on right g) t → All Ours (σ t)) xs
  values_ours =
      answers_from setting Ours (λ n. tt) (field_on left f) (field_on right g) (side_ours left f is_f.0.3.0) (side_ours right g is-g.0.3.0)
      (equation_linear f g is_f is-g) room xs is

  pub lines_writable : All WritableAnswer (map (answer_line f g) xs)
  lines_writable = go xs values_ours
    where
      side : (d : Side) (e : List OurTerm) → IsLeft (e ∷ []) → (σ : Bindings setting) → ((t : Tm setting) → Memᴰ t (field_on d e) → All Ours (σ t))
          → All WritableBinding (map (binding_of (shown_on d f g σ)) (variables (e ∷ [])))
      side d e is σ h = bindings_writable (shown_on d f g σ) (variables (e ∷ [])) (λ v i.
          subst (λ (m : List (TermOver basics consts (Origin ℕ))). All TermOk (map (rename (number_in f g σ)) m)) (sym (value_on d σ v.0 v.1))
          (terms_ok (number_in f g σ) (σ (term_on d (var v.0 v.1)))
          (h (term_on d (var v.0 v.1)) (stands_on d v.0 v.1 e (occurs_in_lem e is v.0 v.1 i)))))

      go : (ys : List (Bindings setting)) → All (λ σ. (t : Tm setting) → StandsIn setting (field_on left f) (field_on right g) t → All Ours (σ t)) ys
          → All WritableAnswer (map (answer_line f g) ys)
      go [] h = tt
      go (σ ∷ ys) h = ((side left f is_f σ (λ t i. h.0 t (inl i)), side right g is-g σ (λ t i. h.0 t (inr i))), go ys h.1)

  pub lines_named : (l : AnswerLine) → Memᴰ l (map (answer_line f g) xs)
      → (map name_of l.left ≡ variables (f ∷ [])) × (map name_of l.right ≡ variables (g ∷ []))
  lines_named l i =
      let x = Memᴰ.of_map (answer_line f g) xs i in
      subst (λ (m : AnswerLine). (map name_of m.left ≡ variables (f ∷ [])) × (map name_of m.right ≡ variables (g ∷ []))) x.2
      (names_are (shown_on left f g x.0) (variables (f ∷ [])), names_are (shown_on right f g x.0) (variables (g ∷ [])))

  -- WHAT A LINE SHOWS solves the equation
  pub lines_solve : (l : AnswerLine) → Memᴰ l (map (answer_line f g) xs)
      → (x : Solution (f ∷ []) (g ∷ []) ℕ) × Gives x.left l.left × Gives x.right l.right
  lines_solve l i =
      let x = Memᴰ.of_map (answer_line f g) xs i in
      subst (λ (m : AnswerLine). (x : Solution (f ∷ []) (g ∷ []) ℕ) × Gives x.left m.left × Gives x.right m.right) x.2 (
        shown_solves f g is_f is-g room xs is x.0 x.1,
        subst (λ (θ : Subst Con Kind ℕ ℕ). Gives θ (answer_line f g x.0).left) (sym (shown_left f g is_f is-g room xs is x.0 x.1))
            (bindings_give (shown_on left f g x.0) (variables (f ∷ []))),
        subst (λ (θ : Subst Con Kind ℕ ℕ). Gives θ (answer_line f g x.0).right) (sym (shown_right f g is_f is-g room xs is x.0 x.1))
            (bindings_give (shown_on right f g x.0) (variables (g ∷ []))),
      )

  -- EVERY SOLUTION BY CONSTANTS is an instance of what a line shows
  pub lines_complete : (φ ψ : Filling Con Kind ℕ) → Typed basics consts φ → Typed basics consts ψ → fill φ f ≡ fill ψ g
      → (l : AnswerLine) × Memᴰ l (map (answer_line f g) xs) × InstanceOfLine l φ ψ
  lines_complete φ ψ t u e =
      let c = shown_complete f g is_f is-g room xs is φ ψ t u e in (
        answer_line f g c.0,
        Memᴰ.map (answer_line f g) c.1,
        (c.2.0, c.2.1, at f is_f (shown_on left f g c.0) φ c.2.0 c.2.2, at g is-g (shown_on right f g c.0) ψ c.2.0 c.2.3),
      )
    where
      at : (h : List OurTerm) → IsLeft (h ∷ []) → (θ : Subst Con Kind ℕ ℕ) (φ χ : Filling Con Kind ℕ)
          → ((k : Kind) (n : ℕ) → Occurs k n h → φ k n ≡ fill χ (θ k n))
          → (b : Binding) → Memᴰ b (map (binding_of θ) (variables (h ∷ []))) → φ b.kind b.number ≡ fill χ b.value
      at h is θ φ χ k b i =
          let v = Memᴰ.of_map (binding_of θ) (variables (h ∷ [])) i in
          subst (λ (c : Binding). φ c.kind c.number ≡ fill χ c.value) v.2 (k v.0.0 v.0.1 (occurs_in_lem h is v.0.0 v.0.1 v.1))
