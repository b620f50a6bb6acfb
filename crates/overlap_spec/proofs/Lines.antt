-- The bytes of a line, and of a list of lines, determine what they say; a line's only newline is its last byte.
use mathlib.Core.Path.{◌≡◌, refl, sym, ◌∙◌, ap, ap₂, subst}
use mathlib.Core.Logic.{◌≢◌, ◌⊎◌, inl, inr}
use mathlib.Core.List.{List, [], ◌∷◌, ◌++◌, map, append_assoc, append-nil, nil≢cons, head-eq_of_cons-eq, tail-eq_of_cons-eq}
use Prim.Native.Nat.{ℕ, ◌≤◌}
use native.Mathlib.Omega.{arith}
use Rattle.base_lists.specs.Seqs.{All, all_append, all_map}
use Rattle.math_types.specs.Types.{Kind}
use Rattle.math_terms.specs.Terms.{var}
use Rattle.text_grammar.specs.Letters.{letter_lower}
use Rattle.text_grammar.specs.Bytes.{Digit}
use Rattle.text_grammar.specs.Grammar.{Grammar}
use Rattle.text_grammar.specs.Numbers.{digits_of}
use Rattle.text_grammar.specs.Terms.{OurTerm, OurFields}
use Rattle.text_grammar.specs.Plain.{raw_field, field_text, plain, TermOk, RuleOk}
use Rattle.text_grammar.proofs.Numbers.{digits_number, number_digits}
use Rattle.text_grammar.proofs.Plain.{plain_says, plain_one}
use Rattle.overlap_spec.specs.Lines.{Binding, Line, name_text, binding_text, left_tag, right_tag, bindings_text, line_text, list_text, WritableBinding}
use Rattle.overlap_spec.specs.Lines.{WritableLine}
use Rattle.overlap_spec.proofs.Cut.{Printable, Closed, grammar_closed, grammar_printable, closed_byte, Starts, closed_one}

-- ---- the fields

plain_grammar : (r : OurFields) → RuleOk r → Grammar (plain r)
plain_grammar r h = (map raw_field r, plain_says r h)

plain_closed : (r : OurFields) → RuleOk r → Closed (plain r)
plain_closed r h = grammar_closed (plain r) (plain_grammar r h)

-- THE FIELD TEXT, followed by a blank or a newline, determines the fields
pub field_text_lem : (r s : OurFields) (u v : List ℕ) → RuleOk r → RuleOk s → Starts u → Starts v → plain r ++ u ≡ plain s ++ v → (r ≡ s) × (u ≡ v)
field_text_lem r s u v p q h k e =
    let f = closed_one (plain r) (plain s) u v (plain_closed r p) (plain_closed s q) h k e in
    (plain_one r s p q f.0, f.1)

-- ---- a value

value_ok : (v : List OurTerm) → All TermOk v → RuleOk (v ∷ [])
value_ok v h = (tt, (h, tt))

-- a value is the plain text of one field
value_plain : (v : List OurTerm) → plain (v ∷ []) ≡ field_text v
value_plain v = append-nil (field_text v)

value_closed : (v : List OurTerm) → All TermOk v → Closed (field_text v)
value_closed v h = subst Closed (value_plain v) (plain_closed (v ∷ []) (value_ok v h))

value_one : (v w : List OurTerm) → All TermOk v → All TermOk w → field_text v ≡ field_text w → v ≡ w
value_one v w p q e = head-eq_of_cons-eq (plain_one (v ∷ []) (w ∷ []) (value_ok v p) (value_ok w q) (value_plain v ∙ e ∙ sym (value_plain w)))

-- ---- a name

-- a letter and digits, so no `=`
abbrev InName : ℕ → Type 0
InName b = (48 ≤ b) × (b ≤ 126) × (b ≢ 61)

name_bytes : (k : Kind) (n : ℕ) → All InName (name_text k n)
name_bytes k n = let l = letter_lower k in (
  (omega arith, omega arith, λ e. omega arith),
  all_map Digit InName (λ d h. (omega arith, omega arith, λ e. omega arith)) (digits_of n) (number_digits (digits_of n) (digits_number n)).1,
)

name_closed : (s w : List ℕ) → All InName s → Closed w → Closed (s ++ w)
name_closed [] w a h = h
name_closed (b ∷ s) w a h = let l = a.0.0 in closed_byte b (s ++ w) (omega arith) (name_closed s w a.1 h)

-- a name ends at the first `=`
name_cut : (s z u v : List ℕ) → All InName s → All InName z → s ++ 61 ∷ u ≡ z ++ 61 ∷ v → (s ≡ z) × (u ≡ v)
name_cut [] [] u v p q e = (refl, tail-eq_of_cons-eq e)
name_cut [] (d ∷ z) u v p q e = absurd (q.0.2 (sym (head-eq_of_cons-eq e)))
name_cut (d ∷ s) [] u v p q e = absurd (p.0.2 (head-eq_of_cons-eq e))
name_cut (d ∷ s) (f ∷ z) u v p q e =
    let r = name_cut s z u v p.1 q.1 (tail-eq_of_cons-eq e) in
    (ap₂ (λ (a : ℕ) (l : List ℕ). a ∷ l) (head-eq_of_cons-eq e) r.0, r.1)

-- a name is the text of one variable
name_one : (j k : Kind) (m n : ℕ) → name_text j m ≡ name_text k n → (j ≡ k) × (m ≡ n)
name_one j k m n e =
    let f : var j m ∷ [] ≡ var k n ∷ [] = value_one (var j m ∷ []) (var k n ∷ []) (tt, tt) (tt, tt) (ap (λ (l : List ℕ). l ++ []) e) in
    let g : var j m ≡ var k n = head-eq_of_cons-eq f in
    (cc, cc)

-- ---- a binding

-- a binding without its blank
abbrev body : ℕ → Binding → List ℕ
body tag b = tag ∷ (name_text b.kind b.number ++ 61 ∷ field_text b.value)

body_closed : (tag : ℕ) (b : Binding) → 35 ≤ tag → WritableBinding b → Closed (body tag b)
body_closed tag b l h =
    closed_byte tag (name_text b.kind b.number ++ 61 ∷ field_text b.value) l
    (name_closed (name_text b.kind b.number) (61 ∷ field_text b.value) (name_bytes b.kind b.number)
    (closed_byte 61 (field_text b.value) (omega arith) (value_closed b.value h)))

body_one : (tag : ℕ) (b c : Binding) → WritableBinding b → WritableBinding c → body tag b ≡ body tag c → b ≡ c
body_one tag b c p q e =
    let d = name_cut (name_text b.kind b.number) (name_text c.kind c.number) (field_text b.value) (field_text c.value)
    (name_bytes b.kind b.number) (name_bytes c.kind c.number) (tail-eq_of_cons-eq e) in
    let n = name_one b.kind c.kind b.number c.number d.0 in
    let v = value_one b.value c.value p q d.1 in
    λ i. record { kind = n.0 i; number = n.1 i; value = v i }

-- ---- the bindings under one tag

-- a text that goes on with the newline, or with a blank and another byte than the tag
abbrev Past : ℕ → List ℕ → Type 0
Past tag [] = ⊥
Past tag (c ∷ []) = c ≡ 10
Past tag (c ∷ (d ∷ t)) = (c ≡ 10) ⊎ ((c ≡ 32) × (d ≢ tag))

past_starts : (tag : ℕ) (u : List ℕ) → Past tag u → Starts u
past_starts tag [] h = absurd h
past_starts tag (c ∷ []) h = inr h
past_starts tag (c ∷ (d ∷ t)) (inl h) = inr h
past_starts tag (c ∷ (d ∷ t)) (inr h) = inl h.0

past_end : (tag : ℕ) (t : List ℕ) → Past tag (10 ∷ t)
past_end tag [] = refl
past_end tag (d ∷ t) = inl refl

past_not : (tag : ℕ) (u t : List ℕ) → Past tag u → u ≡ 32 ∷ (tag ∷ t) → ⊥
past_not tag [] t h e = absurd h
past_not tag (c ∷ []) t h e = let f : c ≡ 32 = head-eq_of_cons-eq e in omega arith
past_not tag (c ∷ (d ∷ s)) t (inl h) e = let f : c ≡ 32 = head-eq_of_cons-eq e in omega arith
past_not tag (c ∷ (d ∷ s)) t (inr h) e = h.1 (head-eq_of_cons-eq (tail-eq_of_cons-eq e))

bindings_starts : (tag : ℕ) (bs : List Binding) (u : List ℕ) → Starts u → Starts (bindings_text tag bs ++ u)
bindings_starts tag [] u h = h
bindings_starts tag (b ∷ bs) u h = inl refl

bindings_one : (tag : ℕ) (bs cs : List Binding) (u v : List ℕ) → 35 ≤ tag → All WritableBinding bs → All WritableBinding cs
    → Past tag u → Past tag v → bindings_text tag bs ++ u ≡ bindings_text tag cs ++ v → (bs ≡ cs) × (u ≡ v)
bindings_one tag [] [] u v l p q h k e = (refl, e)
bindings_one tag [] (c ∷ cs) u v l p q h k e = absurd (past_not tag u _ h e)
bindings_one tag (b ∷ bs) [] u v l p q h k e = absurd (past_not tag v _ k (sym e))
bindings_one tag (b ∷ bs) (c ∷ cs) u v l p q h k e =
    let f =
    closed_one (body tag b) (body tag c) (bindings_text tag bs ++ u) (bindings_text tag cs ++ v) (body_closed tag b l p.0) (body_closed tag c l q.0)
    (bindings_starts tag bs u (past_starts tag u h)) (bindings_starts tag cs v (past_starts tag v k))
    (sym (append_assoc (body tag b) (bindings_text tag bs) u) ∙ tail-eq_of_cons-eq e ∙ append_assoc (body tag c) (bindings_text tag cs) v) in
    let r = bindings_one tag bs cs u v l p.1 q.1 h k f.1 in
    (ap₂ (λ (x : Binding) (y : List Binding). x ∷ y) (body_one tag b c p.0 q.0 f.0) r.0, r.1)

-- the bindings of the right rule are past those of the left one
right_past : (bs : List Binding) (t : List ℕ) → Past left_tag (bindings_text right_tag bs ++ 10 ∷ t)
right_past [] t = past_end left_tag t
right_past (b ∷ bs) t = inr (refl, λ e. omega arith)

-- ---- lines

-- what follows the fields
abbrev tail_text : Line → List ℕ → List ℕ
tail_text l u = bindings_text left_tag l.left ++ (bindings_text right_tag l.right ++ 10 ∷ u)

line_parts : (l : Line) (u : List ℕ) → line_text l ++ u ≡ plain l.fields ++ tail_text l u
line_parts l u = rw (append_assoc, append_assoc, append_assoc)

tail_starts : (l : Line) (u : List ℕ) → Starts (tail_text l u)
tail_starts l u = bindings_starts left_tag l.left (bindings_text right_tag l.right ++ 10 ∷ u) (bindings_starts right_tag l.right (10 ∷ u) (inr refl))

-- A LINE is determined by any text that begins with it, and so is the rest
pub line_one : (l m : Line) (u v : List ℕ) → WritableLine l → WritableLine m → line_text l ++ u ≡ line_text m ++ v → (l ≡ m) × (u ≡ v)
line_one l m u v p q e =
    let f = field_text_lem l.fields m.fields (tail_text l u) (tail_text m v) p.0 q.0 (tail_starts l u) (tail_starts m v)
    (sym (line_parts l u) ∙ e ∙ line_parts m v) in
    let g = bindings_one left_tag l.left m.left (bindings_text right_tag l.right ++ 10 ∷ u)
    (bindings_text right_tag m.right ++ 10 ∷ v) (omega arith) p.1 q.1 (right_past l.right u) (right_past m.right v) f.1 in
    let h = bindings_one right_tag l.right m.right (10 ∷ u) (10 ∷ v) (omega arith) p.2 q.2 (past_end right_tag u) (past_end right_tag v) g.1 in
    (λ i. record { fields = f.0 i; left = g.0 i; right = h.0 i }, tail-eq_of_cons-eq h.1)

-- a line has bytes
line_some : (l : Line) (u : List ℕ) → [] ≡ line_text l ++ u → ⊥
line_some l u e = none_before (plain l.fields) (tail_text l u) (tail_starts l u) (e ∙ line_parts l u)
  where
    none_before : (s t : List ℕ) → Starts t → [] ≡ s ++ t → ⊥
    none_before [] [] h e = h
    none_before [] (c ∷ t) h e = nil≢cons e
    none_before (x ∷ s) t h e = nil≢cons e

-- A LIST OF LINES is determined by its bytes
pub lines_one : (ls ms : List Line) → All WritableLine ls → All WritableLine ms → list_text ls ≡ list_text ms → ls ≡ ms
lines_one [] [] p q e = refl
lines_one [] (m ∷ ms) p q e = absurd (line_some m (list_text ms) e)
lines_one (l ∷ ls) [] p q e = absurd (line_some l (list_text ls) (sym e))
lines_one (l ∷ ls) (m ∷ ms) p q e =
    let f = line_one l m (list_text ls) (list_text ms) p.0 q.0 e in
    ap₂ (λ (x : Line) (y : List Line). x ∷ y) f.0 (lines_one ls ms p.1 q.1 f.1)

-- ---- a line's only newline is its last byte

binding_printable : (tag : ℕ) (b : Binding) → Printable tag → WritableBinding b → All Printable (binding_text tag b)
binding_printable tag b m h = (
  (omega arith, omega arith),
  (
    m,
    all_append Printable (name_text b.kind b.number) (61 ∷ field_text b.value)
        (all_map InName Printable (λ c i. (omega arith, omega arith)) (name_text b.kind b.number) (name_bytes b.kind b.number)) (
          (omega arith, omega arith),
          subst (All Printable) (value_plain b.value) (grammar_printable (plain (b.value ∷ [])) (plain_grammar (b.value ∷ []) (value_ok b.value h))),
        ),
  ),
)

bindings_printable : (tag : ℕ) (bs : List Binding) → Printable tag → All WritableBinding bs → All Printable (bindings_text tag bs)
bindings_printable tag [] m h = tt
bindings_printable tag (b ∷ bs) m h =
    all_append Printable (binding_text tag b) (bindings_text tag bs) (binding_printable tag b m h.0) (bindings_printable tag bs m h.1)

pub line_printable : (l : Line) → WritableLine l → (t : List ℕ) × (line_text l ≡ t ++ 10 ∷ []) × All Printable t
line_printable l h = (
  plain l.fields ++ (bindings_text left_tag l.left ++ bindings_text right_tag l.right),
  sym (rw (append_assoc, append_assoc)),
  all_append Printable (plain l.fields) (bindings_text left_tag l.left ++ bindings_text right_tag l.right)
      (grammar_printable (plain l.fields) (plain_grammar l.fields h.0))
      (all_append Printable (bindings_text left_tag l.left) (bindings_text right_tag l.right)
      (bindings_printable left_tag l.left (omega arith, omega arith) h.1) (bindings_printable right_tag l.right (omega arith, omega arith) h.2)),
)
