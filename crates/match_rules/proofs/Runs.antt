-- What an answer of yes holds: a list variable's run has the items of its value, and an atom variable's place has its constant.
use mathlib.Core.Path.{◌≡◌, refl, sym, ◌∙◌, ap, ap₂, subst}
use mathlib.Core.Logic.{◌⊎◌, inl, inr}
use mathlib.Core.Bool.{true, false}
use mathlib.Core.Option.{some}
use mathlib.Core.List.{List, [], ◌∷◌, ◌++◌, map, cons≢nil, head-eq_of_cons-eq, tail-eq_of_cons-eq}
use Prim.Native.Nat.{ℕ, zero, suc, ◌+◌, ◌-◌, ◌*◌, ◌/◌, ◌%◌, ◌<◌, ◌≤◌}
use native.Mathlib.Omega.{arith}
use native.Mathlib.Decide.{ℕ_discrete}
use lib.ListN.{length, get_or, set, take, drop, replicate, length-set, length-append, length-drop}
use borrow.Author.Tests.{leb-true, eqb-true}
use lib.Seq.{get_or-set_same, get_or-set_other, get_or-drop, drop-drop}
use Rattle.base_limits.specs.Limits.{largest_number, numbers_of_side, atom_places}
use Rattle.base_lists.specs.Seqs.{All, Any, all_left, all_right, tabulate, tabulate_at}
use Rattle.math_types.specs.Order.{basic, list, list≢basic}
use Rattle.math_types.specs.Types.{Basic, Kind, basics, rank, rank_basic, kind_at, kind_at_rank}
use Rattle.math_terms.specs.Terms.{con, var}
use Rattle.math_terms.specs.Fillings.{Filling, Typed, fill, Occurs}
use Rattle.math_terms.specs.Matcher.{atoms, complete, room, has_room}
use Rattle.math_terms.specs.Linear.{lists, OneList}
use Rattle.math_terms.proofs.Slices.{Slices, field_iff}
use Rattle.text_grammar.specs.Terms.{OurTerm, OurFields, SlipFields}
use Rattle.text_grammar.specs.constants.Constants.{Con, consts}
use Rattle.text_grammar.specs.Limits.{Linear}
use Rattle.text_grammar.specs.constants.Matching.{matcher}
use Rattle.text_grammar.proofs.constants.Linear.{left_linear}
use Rattle.text_grammar.proofs.constants.Matching.{match_yes, match_is}
use Rattle.text_values.specs.Values.{blank_term}
use Rattle.match_fields.specs.declared.bindings.Run.{Run}
use Rattle.match_fields.specs.bindings.Values.{slot, blank_run}
use Rattle.match_rules.specs.Answers.{is_known, value_term, encode_values, runs_field, runs_from, runs_of, items_at, LiesIn}
use Rattle.match_rules.proofs.Found.{none_set}

-- ---- runs of a field

none_occurs : (n : ℕ) (f : List OurTerm) → lists f ≡ [] → Occurs list n f → ⊥
none_occurs n [] e o = o
none_occurs n (con c ∷ f) e o = none_occurs n f e o
none_occurs n (var (basic k) m ∷ f) e (inl p) = list≢basic p.0
none_occurs n (var (basic k) m ∷ f) e (inr o) = none_occurs n f e o
none_occurs n (var list m ∷ f) e o = cons≢nil e

runs_long : (j gap i : ℕ) (f : List OurTerm) (rs : List Run) → length (runs_field j gap i f rs) ≡ length rs
runs_long j gap i [] rs = refl
runs_long j gap i (con c ∷ f) rs = runs_long j gap (i + 1) f rs
runs_long j gap i (var (basic k) m ∷ f) rs = runs_long j gap (i + 1) f rs
runs_long j gap i (var list m ∷ f) rs =
    runs_long j gap (i + 1) f (set rs m (record { field = j; start = i; count = gap })) ∙ length-set rs m (record { field = j; start = i; count = gap })

no_more : {A : Type 0} (a : A) (l : List A) → length (a ∷ l) ≤ 1 → l ≡ []
no_more a [] h = refl
no_more a (b ∷ l) h = absurd (omega arith)

-- a field that has room has as many items as atoms at least
room_least : {A : Type 0} (l : List A) (h n : ℕ) → room l h n ≡ true → h ≤ n
room_least [] h n e = omega (arith, eqb-true h n e)
room_least (a ∷ l) h n e = leb-true h n e

-- each term's value is its part of the slip's field: so a run that is set lies there and has the items of its variable's value, and others
-- are kept
module _ (slip : SlipFields) (ψ : Filling Con Kind ℕ) (n : ℕ) where
  abbrev GoodRun : Run → Type 0
  GoodRun r = (items_at slip r ≡ ψ list n) × LiesIn slip r

  abbrev Good : List Run → Type 0
  Good rs = GoodRun (get_or rs n blank_run)

  field_good : (j gap i : ℕ) (w : List Con) (f : List OurTerm) (rs : List Run) → get_or slip j [] ≡ w → j < length slip → n < length rs → OneList f
      → i + atoms f + gap ≤ length w → Slices ψ gap w f i → Good rs ⊎ Occurs list n f → Good (runs_field j gap i f rs)
  field_good j gap i w [] rs e b l o m s (inl g) = g
  field_good j gap i w [] rs e b l o m s (inr x) = absurd x
  field_good j gap i w (con c ∷ f) rs e b l o m s g = field_good j gap (i + 1) w f rs e b l o (omega arith) s.1 g
  field_good j gap i w (var (basic k) a ∷ f) rs e b l o m s (inl g) = field_good j gap (i + 1) w f rs e b l o (omega arith) s.1 (inl g)
  field_good j gap i w (var (basic k) a ∷ f) rs e b l o m s (inr (inl p)) = absurd (list≢basic p.0)
  field_good j gap i w (var (basic k) a ∷ f) rs e b l o m s (inr (inr x)) = field_good j gap (i + 1) w f rs e b l o (omega arith) s.1 (inr x)
  field_good j gap i w (var list a ∷ f) rs e b l o m s g =
      subst Good (sym (none_set j gap (i + 1) f (set rs a run) (no_more a (lists f) o))) (go (ℕ_discrete n a))
    where
      run : Run
      run = record { field = j; start = i; count = gap }

      lies : LiesIn slip run
      lies = record { there = b; whole = omega (arith, ap length e) }

      go : Dec (n ≡ a) → Good (set rs a run)
      go (yes p) =
          let q : get_or (set rs a run) n blank_run ≡ run = ap (λ (x : ℕ). get_or (set rs a run) x blank_run) p ∙ get_or-set_same rs a run blank_run (omega arith) in
          let is : items_at slip run ≡ ψ list n = ap (λ (v : List Con). take gap (drop i v)) e ∙ sym s.0 ∙ ap (ψ list) (sym p) in
          subst GoodRun (sym q) (is, lies)
      go (no ne) = subst GoodRun (sym (get_or-set_other rs a n run blank_run ne)) (kept g)
        where
          kept : Good rs ⊎ Occurs list n (var list a ∷ f) → Good rs
          kept (inl h) = h
          kept (inr (inl p)) = absurd (ne p.1)
          kept (inr (inr x)) = absurd (none_occurs n f (no_more a (lists f) o) x)

  module _ (one : (k : Basic) (a : ℕ) → length (ψ (basic k) a) ≡ 1) where
    fields_good : (j : ℕ) (fs : OurFields) (ws : SlipFields) (rs : List Run)
        → map (fill ψ) fs ≡ ws → drop j slip ≡ ws → n < length rs → All OneList fs
        → Good rs ⊎ Any (Occurs list n) fs → Good (runs_from j fs ws rs)
    fields_good j [] ws rs e d l o (inl g) = g
    fields_good j [] ws rs e d l o (inr x) = absurd x
    fields_good j (f ∷ fs) [] rs e d l o g = absurd (cons≢nil e)
    fields_good j (f ∷ fs) (w ∷ ws) rs e d l o g =
        fields_good (j + 1) fs ws (runs_field j gap 0 f rs) (tail-eq_of_cons-eq e) (sym (drop-drop 1 j slip) ∙ ap (drop 1) d)
        (omega (arith, runs_long j gap 0 f rs)) o.1 (here g)
      where
        gap : ℕ
        gap = length w - atoms f

        at_j : get_or slip j [] ≡ w
        at_j = ap (λ (a : ℕ). get_or slip a []) (let z : j ≡ j + 0 = omega arith in z) ∙ sym (get_or-drop j slip 0 []) ∙ ap (λ (v : SlipFields). get_or v 0 []) d

        below : j < length slip
        below = omega (arith, length-drop j slip, ap length d)

        parts : (has_room f (length w) ≡ true) × Slices ψ gap w f 0
        parts = (field_iff ψ one f o.0 w).0 (head-eq_of_cons-eq e)

        step : Good rs ⊎ Occurs list n f → Good (runs_field j gap 0 f rs)
        step = field_good j gap 0 w f rs at_j below l o.0 (omega (arith, room_least (lists f) (atoms f) (length w) parts.0)) parts.1

        here : Good rs ⊎ Any (Occurs list n) (f ∷ fs) → Good (runs_field j gap 0 f rs) ⊎ Any (Occurs list n) fs
        here (inl a) = inl (step (inl a))
        here (inr (inl x)) = inl (step (inr x))
        here (inr (inr x)) = inr x

-- a list variable that the rule lacks keeps its blank run
field_kept : (j gap i n : ℕ) (f : List OurTerm) (rs : List Run) → (Occurs list n f → ⊥) → get_or (runs_field j gap i f rs) n blank_run ≡ get_or rs n blank_run
field_kept j gap i n [] rs o = refl
field_kept j gap i n (con c ∷ f) rs o = field_kept j gap (i + 1) n f rs o
field_kept j gap i n (var (basic k) a ∷ f) rs o = field_kept j gap (i + 1) n f rs (λ x. o (inr x))
field_kept j gap i n (var list a ∷ f) rs o =
    field_kept j gap (i + 1) n f (set rs a (record { field = j; start = i; count = gap })) (λ x. o (inr x))
    ∙ get_or-set_other rs a n (record { field = j; start = i; count = gap }) blank_run (λ p. o (inl (refl, p)))

fields_kept : (j n : ℕ) (fs : OurFields) (ws : SlipFields) (rs : List Run) → (Any (Occurs list n) fs → ⊥)
    → get_or (runs_from j fs ws rs) n blank_run ≡ get_or rs n blank_run
fields_kept j n [] ws rs o = refl
fields_kept j n (f ∷ fs) [] rs o = refl
fields_kept j n (f ∷ fs) (w ∷ ws) rs o =
    fields_kept (j + 1) n fs ws (runs_field j (length w - atoms f) 0 f rs) (λ x. o (inr x))
    ∙ field_kept j (length w - atoms f) 0 n f rs (λ x. o (inl x))

all_blank : (m n : ℕ) → get_or (replicate m blank_run) n blank_run ≡ blank_run
all_blank zero n = refl
all_blank (suc m) zero = refl
all_blank (suc m) (suc n) = all_blank m n

pub run_blank : (rule : OurFields) (slip : SlipFields) (n : ℕ) → (Any (Occurs list n) rule → ⊥) → get_or (runs_of rule slip) n blank_run ≡ blank_run
run_blank rule slip n o = fields_kept 0 n rule slip (replicate numbers_of_side blank_run) o ∙ all_blank numbers_of_side n

-- ---- values are parts of the slip's fields

module _ (ψ : Filling Con Kind ℕ) (k : Kind) (a : ℕ) where
  fill_all : (P : Con → Type 0) (f : List OurTerm) → Occurs k a f → All P (fill ψ f) → All P (ψ k a)
  fill_all P [] o h = absurd o
  fill_all P (con c ∷ f) o h = fill_all P f o h.1
  fill_all P (var j b ∷ f) (inl p) h =
      subst (λ (i : Kind). All P (ψ i a)) (sym p.0) (subst (λ (i : ℕ). All P (ψ j i)) (sym p.1) (all_left P (ψ j b) (fill ψ f) h))
  fill_all P (var j b ∷ f) (inr o) h = fill_all P f o (all_right P (ψ j b) (fill ψ f) h)

  fill_long : (f : List OurTerm) → Occurs k a f → length (ψ k a) ≤ length (fill ψ f)
  fill_long [] o = absurd o
  fill_long (con c ∷ f) o = omega (arith, fill_long f o)
  fill_long (var j b ∷ f) (inl p) =
      subst (λ (i : Kind). length (ψ i a) ≤ length (ψ j b ++ fill ψ f)) (sym p.0)
      (subst (λ (i : ℕ). length (ψ j i) ≤ length (ψ j b ++ fill ψ f)) (sym p.1) (omega (arith, length-append (ψ j b) (fill ψ f))))
  fill_long (var j b ∷ f) (inr o) = omega (arith, length-append (ψ j b) (fill ψ f), fill_long f o)

  fields_all : (P : Con → Type 0) (fs : OurFields) → Any (Occurs k a) fs → All (All P) (map (fill ψ) fs) → All P (ψ k a)
  fields_all P [] o h = absurd o
  fields_all P (f ∷ fs) (inl o) h = fill_all P f o h.0
  fields_all P (f ∷ fs) (inr o) h = fields_all P fs o h.1

  fields_long : (m : ℕ) (fs : OurFields) → Any (Occurs k a) fs → All (λ (w : List Con). length w ≤ m) (map (fill ψ) fs) → length (ψ k a) ≤ m
  fields_long m [] o h = absurd o
  fields_long m (f ∷ fs) (inl o) h = omega (arith, fill_long f o, h.0)
  fields_long m (f ∷ fs) (inr o) h = fields_long m fs o h.1

-- ---- the places of atom variables

module _ {A : Type 0} (of : List Con → A) (d : A) (φ : Filling Con Kind ℕ) (n : ℕ) (h : n ≤ largest_number) where
  at : ℕ → A
  at i = of (φ (kind_at (i / numbers_of_side)) (i % numbers_of_side))

  at_slot : (k : Basic) → get_or (tabulate atom_places at) (slot (basic k) n) d ≡ of (φ (basic k) n)
  unfolding at
  at_slot k =
      let q = rank (basic k) in
      tabulate_at atom_places at (numbers_of_side * q + n) d (omega (arith, rank_basic k))
      ∙ ap₂ (λ (a b : ℕ). of (φ (kind_at a) b)) (let z : (numbers_of_side * q + n) / numbers_of_side ≡ q = omega arith in z)
      (let z : (numbers_of_side * q + n) % numbers_of_side ≡ n = omega arith in z)
      ∙ ap (λ (j : Kind). of (φ j n)) (kind_at_rank (basic k))

pub atom_at : (φ : Filling Con Kind ℕ) (k : Basic) (n : ℕ) → n ≤ largest_number
    → get_or (encode_values φ).terms (slot (basic k) n) blank_term ≡ value_term (φ (basic k) n)
unfolding at
atom_at φ k n h = at_slot value_term blank_term φ n h k

pub known_at : (φ : Filling Con Kind ℕ) (k : Basic) (n : ℕ) → n ≤ largest_number
    → get_or (encode_values φ).known (slot (basic k) n) false ≡ is_known (φ (basic k) n)
unfolding at
known_at φ k n h = at_slot is_known false φ n h k

-- ---- an answer of yes

module _ (rule : OurFields) (linear : Linear rule) (slip : SlipFields) (φ : Filling Con Kind ℕ) (yes-φ : matcher rule slip ≡ some φ) where
  abbrev ψ : Filling Con Kind ℕ
  ψ = complete basics consts φ

  typed : Typed basics consts ψ
  typed = (match_yes rule linear slip φ yes-φ).0

  filled : map (fill ψ) rule ≡ slip
  filled = (match_yes rule linear slip φ yes-φ).1

  completed : (k : Kind) (a : ℕ) → Any (Occurs k a) rule → ψ k a ≡ φ k a
  completed = (match_is rule linear slip φ yes-φ ψ typed).0 filled

  good : (n : ℕ) → n ≤ largest_number → Any (Occurs list n) rule → GoodRun slip ψ n (get_or (runs_of rule slip) n blank_run)
  good n h o =
      fields_good slip ψ n (λ k a. ap length (typed (basic k) a).1) 0 rule slip (replicate numbers_of_side blank_run) filled refl
      (omega arith)
      (left_linear rule linear).1
      (inr o)

  -- THE RUN of a list variable has exactly the items of its value
  pub run_items_lem : (n : ℕ) → n ≤ largest_number → Any (Occurs list n) rule → items_at slip (get_or (runs_of rule slip) n blank_run) ≡ φ list n
  run_items_lem n h o = (good n h o).0

  -- and lies within a field of the slip
  pub run_lies : (n : ℕ) → n ≤ largest_number → Any (Occurs list n) rule → LiesIn slip (get_or (runs_of rule slip) n blank_run)
  run_lies n h o = (good n h o).1

  -- an atom variable's value is one constant
  pub atom_value_lem : (k : Basic) (n : ℕ) → Any (Occurs (basic k) n) rule → (c : Con) × (φ (basic k) n ≡ c ∷ [])
  atom_value_lem k n o = let t = typed (basic k) n in (t.0, sym (completed (basic k) n o) ∙ t.1)

  pub value_all : (P : Con → Type 0) → All (All P) slip → (k : Kind) (n : ℕ) → Any (Occurs k n) rule → All P (φ k n)
  value_all P h k n o = subst (All P) (completed k n o) (fields_all ψ k n P rule o (subst (All (All P)) (sym filled) h))

  pub value_long : (m : ℕ) → All (λ (w : List Con). length w ≤ m) slip → (k : Kind) (n : ℕ) → Any (Occurs k n) rule → length (φ k n) ≤ m
  value_long m h k n o = omega (arith, ap length (completed k n o), fields_long ψ k n m rule o (subst (All (λ (w : List Con). length w ≤ m)) (sym filled) h))
