-- How many items matching compares: the tests as the matcher makes them, one after the other, are those of the definition.
use mathlib.Core.Path.{◌≡◌, refl, sym, ◌∙◌, ap, subst}
use mathlib.Core.Logic.{◌↔◌, inl, inr, ◌≢◌, ite}
use mathlib.Core.Bool.{Bool, true, false, cond, ◌&&◌, false≢true}
use mathlib.Core.Option.{Option, none, some, IsSome}
use mathlib.Core.List.{List, [], ◌∷◌, ◌++◌, append_assoc, append-nil}
use Prim.Native.Nat.{ℕ, ◌+◌, ◌-◌, ◌≤◌}
use native.Mathlib.Omega.{arith}
use borrow.Author.Tests.{eq-eqb, ne_eqb, eqb-true}
use lib.Dec.{eqb}
use lib.ListN.{length, take, drop, get_elem?}
use Rattle.base_lists.specs.Seqs.{All, both?}
use Rattle.math_types.specs.Order.{Order, Full, basic, list, full-eq}
use Rattle.math_terms.specs.Terms.{con, var}
use Rattle.math_terms.specs.Constants.{Consts, TermOver}
use Rattle.math_terms.specs.Fillings.{FillingOver}
use Rattle.math_terms.specs.Matcher.{and_then, atoms, width, has_room, blank, bind, same, meets, test, walk, match_field, match_fields, matcher}
use Rattle.math_terms.specs.Compared.{Test, whole, Passes, reached, all_items, CountIs, all_atoms, Pair, pairs_from, pairs}
use Rattle.math_terms.specs.Compared.{earlier, suits_variable, holds, atom_tests, behind, field_tests, fields_tests, tests, compared}

-- ---- THE COUNT, said in the other way

first_cons : (t : Test) (ts : List Test) (k : ℕ) → t.passes ≡ true → CountIs ts k → CountIs (t ∷ ts) (t.items + k)
first_cons t ts k e (inl h) = inl ((e, h.0), omega (arith, h.1))
first_cons t ts k e (inr (before, u, others, is, pass, fails, n)) =
    inr (t ∷ before, u, others, ap (λ (l : List Test). t ∷ l) is, (e, pass), fails, omega (arith, n))

count_is : (ts : List Test) → CountIs ts (reached ts)
count_is [] = inl (tt, refl)
count_is (t ∷ ts) = go t.passes refl (count_is ts)
  where
    go : (b : Bool) → t.passes ≡ b → CountIs ts (reached ts) → CountIs (t ∷ ts) (t.items + cond b (reached ts) 0)
    go true e h = first_cons t ts (reached ts) e h
    go false e h = inr ([], t, ts, refl, tt, e, omega arith)

reached_all : (ts : List Test) → All Passes ts → reached ts ≡ all_items ts
reached_all [] h = refl
reached_all (t ∷ ts) h = ap (λ (b : Bool). t.items + cond b (reached ts) 0) h.0 ∙ ap (λ (n : ℕ). t.items + n) (reached_all ts h.1)

reached_first : (before : List Test) (t : Test) (others : List Test) → All Passes before → t.passes ≡ false
    → reached (before ++ t ∷ others) ≡ all_items before + t.items
reached_first [] t others h e = ap (λ (b : Bool). t.items + cond b (reached others) 0) e ∙ omega arith
reached_first (u ∷ before) t others h e =
    ap (λ (b : Bool). u.items + cond b (reached (before ++ t ∷ others)) 0) h.0
    ∙ ap (λ (n : ℕ). u.items + n) (reached_first before t others h.1 e)
    ∙ omega arith

-- the count is k exactly when k items are compared before or at the first test that fails, all of them where none fails
pub reached_exactly : (ts : List Test) (k : ℕ) → (reached ts ≡ k) ↔ CountIs ts k
reached_exactly ts k = (λ e. subst (CountIs ts) e (count_is ts), back)
  where
    back : CountIs ts k → reached ts ≡ k
    back (inl h) = reached_all ts h.0 ∙ sym h.1
    back (inr (before, t, others, is, pass, fails, n)) = ap reached is ∙ reached_first before t others pass fails ∙ sym n

pub reached_most : (ts : List Test) → reached ts ≤ all_items ts
reached_most [] = omega arith
reached_most (t ∷ ts) = go t.passes (reached_most ts)
  where
    go : (b : Bool) → reached ts ≤ all_items ts → t.items + cond b (reached ts) 0 ≤ t.items + all_items ts
    go true h = omega arith
    go false h = omega arith

-- ---- tests one after the other, beside a walk that ends at the first that fails

abbrev pass_all : List Test → Bool
pass_all [] = true
pass_all (t ∷ ts) = t.passes && pass_all ts

pub all_passed : (ts : List Test) → pass_all ts ≡ true → All Passes ts
all_passed [] e = tt
all_passed (t ∷ ts) e = go t.passes refl e (all_passed ts)
  where
    go : (b : Bool) → t.passes ≡ b → (b && pass_all ts) ≡ true → (pass_all ts ≡ true → All Passes ts) → All Passes (t ∷ ts)
    go true p e rec = (p, rec e)
    go false p e rec = absurd (false≢true e)

pass_all_lem : (ts : List Test) → All Passes ts → pass_all ts ≡ true
pass_all_lem [] h = refl
pass_all_lem (t ∷ ts) h = ap (λ (b : Bool). b && pass_all ts) h.0 ∙ pass_all_lem ts h.1

module _ {X : Type 0} where
  -- count on if the test before passed
  abbrev pub count_then : Option X → (X → ℕ) → ℕ
  count_then none g = 0
  count_then (some x) g = g x

  -- the tests ts, whatever tests follow, have compared n items and end with the answer o, of which P holds where it is a yes
  abbrev Ran : (X → Type 0) → List Test → ℕ → Option X → Type 0
  Ran P ts n none = (rest : List Test) → (reached (ts ++ rest) ≡ n) × (pass_all (ts ++ rest) ≡ false)
  Ran P ts n (some x) = P x × ((rest : List Test) → (reached (ts ++ rest) ≡ n + reached rest) × (pass_all (ts ++ rest) ≡ pass_all rest))

  ran_then : (P Q : X → Type 0) (ts us : List Test) (n : ℕ) (o : Option X) (g : X → Option X) (c : X → ℕ) → Ran P ts n o
      → ((x : X) → P x → Ran Q us (c x) (g x)) → Ran Q (ts ++ us) (n + count_then o c) (and_then o g)
  ran_then P Q ts us n none g c h k = λ rest.
      let r = h (us ++ rest) in
      let z = append_assoc ts us rest in
      (ap reached z ∙ r.0 ∙ omega arith, ap pass_all z ∙ r.1)
  ran_then P Q ts us n (some x) g c h k = go (g x) (k x h.0)
    where
      go : (o : Option X) → Ran Q us (c x) o → Ran Q (ts ++ us) (n + c x) o
      go none r = λ rest.
          let a = h.1 (us ++ rest) in
          let b = r rest in
          let z = append_assoc ts us rest in
          (ap reached z ∙ a.0 ∙ ap (λ (m : ℕ). n + m) b.0, ap pass_all z ∙ a.1 ∙ b.1)
      go (some y) r = (
        r.0,
        λ rest.
            let a = h.1 (us ++ rest) in
            let b = r.1 rest in
            let z = append_assoc ts us rest in
            (ap reached z ∙ a.0 ∙ ap (λ (m : ℕ). n + m) b.0 ∙ omega arith, ap pass_all z ∙ a.1 ∙ b.1),
      )

-- ---- the walk of the matcher, counted

module _ (O : Order) (C : Consts O) {A : Type 0} (name_eq : Discrete A) where
  open O use {Kind, kind_eq, le}
  open C use {Con, con_eq, con_kind}

  abbrev pub compared_walk : ℕ → List Con → List (TermOver O C A) → ℕ → FillingOver O C A → ℕ
  compared_walk gap w [] p φ = 0
  compared_walk gap w (t ∷ f) p φ = atoms (t ∷ []) + count_then (test O C name_eq gap w p t φ) (λ ψ. compared_walk gap w f (p + width gap t) ψ)

  abbrev pub compared_field : List (TermOver O C A) → List Con → FillingOver O C A → ℕ
  compared_field f w φ = cond (has_room f (length w)) (compared_walk (length w - atoms f) w f 0 φ) 0

  abbrev pub compared_fields : List (List (TermOver O C A)) → List (List Con) → FillingOver O C A → ℕ
  compared_fields [] ws φ = 0
  compared_fields (f ∷ fs) [] φ = 0
  compared_fields (f ∷ fs) (w ∷ ws) φ = compared_field f w φ + count_then (match_field O C name_eq f w φ) (λ ψ. compared_fields fs ws ψ)

  -- ---- the filling so far has the earlier values

  abbrev held : Option Con → List Con
  held none = []
  held (some c) = c ∷ []

  abbrev Keeps : List (Pair O C A) → FillingOver O C A → Type 0
  Keeps before φ = (k : Kind) (a : A) → φ (basic k) a ≡ held (earlier O C name_eq (basic k) a before)

  abbrev Tested : List (Pair O C A) → List (Pair O C A) → ℕ → Option (FillingOver O C A) → Type 0
  Tested before ps n o = Ran (Keeps (behind O C before ps)) (atom_tests O C name_eq before ps) n o

  module _ (before : List (Pair O C A)) (φ : FillingOver O C A) (keeps : Keeps before φ) where
    -- a test that passes, and one that fails
    passed : (ψ : FillingOver O C A) (x : Pair O C A) → Keeps (x ∷ before) ψ → holds O C name_eq before x ≡ true → Tested before (x ∷ []) 1 (some ψ)
    passed ψ x h e = (h, λ rest. (ap (λ (b : Bool). 1 + cond b (reached rest) 0) e, ap (λ (b : Bool). b && pass_all rest) e))

    failed : (x : Pair O C A) → holds O C name_eq before x ≡ false → Tested before (x ∷ []) 1 none
    failed x e rest = (ap (λ (b : Bool). 1 + cond b (reached rest) 0) e, ap (λ (b : Bool). b && pass_all rest) e)

    con_tested : (d : Con) (o : Option Con) → Tested before ((con d, o) ∷ []) 1 (and_then o (λ c. same O C name_eq d c φ))
    con_tested d none = failed (con d, none) refl
    con_tested d (some c) = go (con_eq c d) refl
      where
        go : (q : Dec (c ≡ d)) → con_eq c d ≡ q → Tested before ((con d, some c) ∷ []) 1 (ite q (some φ) none)
        go (yes e) is = passed φ (con d, some c) keeps (ap (λ (q : Dec (c ≡ d)). ite q true false) is)
        go (no n) is = failed (con d, some c) (ap (λ (q : Dec (c ≡ d)). ite q true false) is)

    -- the filling keeps what it has, or has c for the variable from now on
    again : (k : Kind) (a : A) (c : Con) → φ (basic k) a ≡ c ∷ [] → Keeps ((var (basic k) a, some c) ∷ before) φ
    again k a c e j b = go (full-eq kind_eq (basic j) (basic k)) (name_eq b a)
      where
        go : (p : Dec (basic j ≡ basic k)) (q : Dec (b ≡ a)) → φ (basic j) b ≡ held (ite (both? p q) (some c) (earlier O C name_eq (basic j) b before))
        go (yes p) (yes q) = ap (λ (z : Full Kind). φ z b) p ∙ ap (φ (basic k)) q ∙ e
        go (yes p) (no n) = keeps j b
        go (no n) q = keeps j b

    bound : (k : Kind) (a : A) (c : Con) → Keeps ((var (basic k) a, some c) ∷ before) (bind (full-eq kind_eq) name_eq (basic k) a (c ∷ []) φ)
    bound k a c j b = go (full-eq kind_eq (basic j) (basic k)) (name_eq b a)
      where
        go : (p : Dec (basic j ≡ basic k)) (q : Dec (b ≡ a)) → ite (both? p q) (c ∷ []) (φ (basic j) b) ≡ held
            (ite (both? p q) (some c) (earlier O C name_eq (basic j) b before))
        go (yes p) (yes q) = refl
        go (yes p) (no n) = keeps j b
        go (no n) q = keeps j b

    var_tested : (k : Kind) (a : A) (o : Option Con) → Tested before ((var (basic k) a, o) ∷ []) 1 (and_then o (λ c. meets O C name_eq k a (φ (basic k) a) c φ))
    var_tested k a none = failed (var (basic k) a, none) refl
    var_tested k a (some c) = go (earlier O C name_eq (basic k) a before) refl
      where
        first : (b : Bool) → le (con_kind c) k ≡ b → earlier O C name_eq (basic k) a before ≡ none
            → Tested before ((var (basic k) a, some c) ∷ []) 1 (cond b (some (bind (full-eq kind_eq) name_eq (basic k) a (c ∷ []) φ)) none)
        first true e is =
            passed (bind (full-eq kind_eq) name_eq (basic k) a (c ∷ []) φ) (var (basic k) a, some c) (bound k a c)
            (ap (λ (o : Option Con). suits_variable O C k o c) is ∙ e)
        first false e is = failed (var (basic k) a, some c) (ap (λ (o : Option Con). suits_variable O C k o c) is ∙ e)

        later : (d : Con) (q : Dec (c ≡ d)) → con_eq c d ≡ q → earlier O C name_eq (basic k) a before ≡ some d
            → Tested before ((var (basic k) a, some c) ∷ []) 1 (ite q (some φ) none)
        later d (yes e) is was =
            passed φ (var (basic k) a, some c) (again k a c (keeps k a ∙ ap held was ∙ ap (λ (z : Con). z ∷ []) (sym e)))
            (ap (λ (o : Option Con). suits_variable O C k o c) was ∙ ap (λ (q : Dec (c ≡ d)). ite q true false) is)
        later d (no n) is was =
            failed (var (basic k) a, some c) (ap (λ (o : Option Con). suits_variable O C k o c) was ∙ ap (λ (q : Dec (c ≡ d)). ite q true false) is)

        go : (was : Option Con) → earlier O C name_eq (basic k) a before ≡ was → Tested before ((var (basic k) a, some c) ∷ []) 1
            (meets O C name_eq k a (φ (basic k) a) c φ)
        go none is =
            subst (λ (l : List Con). Tested before ((var (basic k) a, some c) ∷ []) 1 (meets O C name_eq k a l c φ)) (sym (keeps k a ∙ ap held is))
            (first (le (con_kind c) k) refl is)
        go (some d) is =
            subst (λ (l : List Con). Tested before ((var (basic k) a, some c) ∷ []) 1 (meets O C name_eq k a l c φ)) (sym (keeps k a ∙ ap held is))
            (later d (con_eq c d) refl is)

  -- ---- a field

  walk_ran : (gap : ℕ) (w : List Con) (f : List (TermOver O C A)) (p : ℕ) (before : List (Pair O C A)) (φ : FillingOver O C A) → Keeps before φ
      → Tested before (pairs_from O C gap w f p) (compared_walk gap w f p φ) (walk O C name_eq gap w f p φ)
  walk_ran gap w [] p before φ h = (h, λ rest. (omega arith, refl))
  walk_ran gap w (con d ∷ f) p before φ h =
      ran_then (Keeps ((con d, get_elem? w p) ∷ before)) (Keeps (behind O C ((con d, get_elem? w p) ∷ before) (pairs_from O C gap w f (p + 1))))
      (atom_tests O C name_eq before ((con d, get_elem? w p) ∷ [])) (atom_tests O C name_eq ((con d, get_elem? w p) ∷ before) (pairs_from O C gap w f (p + 1)))
      1 (test O C name_eq gap w p (con d) φ) (λ ψ. walk O C name_eq gap w f (p + 1) ψ) (λ ψ. compared_walk gap w f (p + 1) ψ)
      (con_tested before φ h d (get_elem? w p)) (λ ψ k. walk_ran gap w f (p + 1) ((con d, get_elem? w p) ∷ before) ψ k)
  walk_ran gap w (var (basic k) a ∷ f) p before φ h =
      ran_then (Keeps ((var (basic k) a, get_elem? w p) ∷ before))
      (Keeps (behind O C ((var (basic k) a, get_elem? w p) ∷ before) (pairs_from O C gap w f (p + 1))))
      (atom_tests O C name_eq before ((var (basic k) a, get_elem? w p) ∷ []))
      (atom_tests O C name_eq ((var (basic k) a, get_elem? w p) ∷ before) (pairs_from O C gap w f (p + 1)))
      1 (test O C name_eq gap w p (var (basic k) a) φ) (λ ψ. walk O C name_eq gap w f (p + 1) ψ) (λ ψ. compared_walk gap w f (p + 1) ψ)
      (var_tested before φ h k a (get_elem? w p)) (λ ψ k'. walk_ran gap w f (p + 1) ((var (basic k) a, get_elem? w p) ∷ before) ψ k')
  walk_ran gap w (var list a ∷ f) p before φ h =
      let ψ = bind (full-eq kind_eq) name_eq list a (take gap (drop p w)) φ in
      subst (λ (n : ℕ). Tested before (pairs_from O C gap w f (p + gap)) n (walk O C name_eq gap w f (p + gap) ψ))
      (let z : compared_walk gap w f (p + gap) ψ ≡ 0 + compared_walk gap w f (p + gap) ψ = omega arith in z)
      (walk_ran gap w f (p + gap) before ψ h)

  field_ran : (f : List (TermOver O C A)) (w : List Con) (before : List (Pair O C A)) (φ : FillingOver O C A) → Keeps before φ
      → Ran (Keeps (behind O C before (pairs O C f w))) (field_tests O C name_eq before f w) (compared_field f w φ) (match_field O C name_eq f w φ)
  field_ran f w before φ h = go (has_room f (length w))
    where
      inside : (o : Option (FillingOver O C A)) (n : ℕ) → Tested before (pairs O C f w) n o
          → Ran (Keeps (behind O C before (pairs O C f w))) (whole true ∷ atom_tests O C name_eq before (pairs O C f w)) n o
      inside none n r = λ rest. (omega (arith, (r rest).0), (r rest).1)
      inside (some ψ) n r = (r.0, λ rest. (omega (arith, (r.1 rest).0), (r.1 rest).1))

      go : (b : Bool) → Ran (Keeps (behind O C before (pairs O C f w))) (whole b ∷ atom_tests O C name_eq before (pairs O C f w))
          (cond b (compared_walk (length w - atoms f) w f 0 φ) 0) (cond b (walk O C name_eq (length w - atoms f) w f 0 φ) none)
      go true =
          inside (walk O C name_eq (length w - atoms f) w f 0 φ) (compared_walk (length w - atoms f) w f 0 φ) (walk_ran (length w - atoms f) w f 0 before φ h)
      go false = λ rest. (refl, refl)

  -- ---- the fields

  abbrev Any-filling : FillingOver O C A → Type 0
  Any-filling φ = Unit {0}

  fields_ran : (fs : List (List (TermOver O C A))) (ws : List (List Con)) (before : List (Pair O C A)) (φ : FillingOver O C A) → length fs ≡ length
      ws → Keeps before φ
      → Ran Any-filling (fields_tests O C name_eq before fs ws) (compared_fields fs ws φ) (match_fields O C name_eq fs ws φ)
  fields_ran [] [] before φ e h = (tt, λ rest. (omega arith, refl))
  fields_ran [] (w ∷ ws) before φ e h = absurd (omega (arith, e))
  fields_ran (f ∷ fs) [] before φ e h = absurd (omega (arith, e))
  fields_ran (f ∷ fs) (w ∷ ws) before φ e h =
      ran_then (Keeps (behind O C before (pairs O C f w))) Any-filling (field_tests O C name_eq before f w)
      (fields_tests O C name_eq (behind O C before (pairs O C f w)) fs ws)
      (compared_field f w φ) (match_field O C name_eq f w φ) (λ ψ. match_fields O C name_eq fs ws ψ) (λ ψ. compared_fields fs ws ψ)
      (field_ran f w before φ h) (λ ψ k. fields_ran fs ws (behind O C before (pairs O C f w)) ψ (omega (arith, e)) k)

  -- ---- there is a test for each atom

  items_append : (ts us : List Test) → all_items (ts ++ us) ≡ all_items ts + all_items us
  items_append [] us = omega arith
  items_append (t ∷ ts) us = omega (arith, items_append ts us)

  atom_items : (gap : ℕ) (w : List Con) (f : List (TermOver O C A)) (p : ℕ) (before : List (Pair O C A)) → all_items
      (atom_tests O C name_eq before (pairs_from O C gap w f p)) ≡ atoms f
  atom_items gap w [] p before = refl
  atom_items gap w (con d ∷ f) p before = omega (arith, atom_items gap w f (p + 1) ((con d, get_elem? w p) ∷ before))
  atom_items gap w (var (basic k) a ∷ f) p before = omega (arith, atom_items gap w f (p + 1) ((var (basic k) a, get_elem? w p) ∷ before))
  atom_items gap w (var list a ∷ f) p before = atom_items gap w f (p + gap) before

  fields_items : (fs : List (List (TermOver O C A))) (ws : List (List Con)) (before : List (Pair O C A)) → length fs ≡ length ws → all_items
      (fields_tests O C name_eq before fs ws) ≡ all_atoms fs
  fields_items [] ws before e = refl
  fields_items (f ∷ fs) [] before e = absurd (omega (arith, e))
  fields_items (f ∷ fs) (w ∷ ws) before e =
      items_append (field_tests O C name_eq before f w) (fields_tests O C name_eq (behind O C before (pairs O C f w)) fs ws)
      ∙ omega (arith, atom_items (length w - atoms f) w f 0 before, fields_items fs ws (behind O C before (pairs O C f w)) (omega (arith, e)))

  -- ---- RULE AND SLIP

  module _ (rule : List (List (TermOver O C A))) (slip : List (List Con)) where
    -- the count is k exactly when k atoms stand before or at the first test that fails, all of them where none fails
    pub compared_exactly : (k : ℕ) → (compared O C name_eq rule slip ≡ k) ↔ CountIs (tests O C name_eq rule slip) k
    compared_exactly = reached_exactly (tests O C name_eq rule slip)

    -- "0 where the field counts differ"
    pub compared_none : length rule ≢ length slip → compared O C name_eq rule slip ≡ 0
    compared_none n = ap (λ (b : Bool). 0 + cond b (reached (fields_tests O C name_eq [] rule slip)) 0) (ne_eqb (length rule) (length slip) n)

    -- where they are the same, it is what the matcher's walk compares
    pub compared_walked : length rule ≡ length slip → compared O C name_eq rule slip ≡ compared_fields rule slip blank
    compared_walked e =
        ap (λ (b : Bool). 0 + cond b (reached (fields_tests O C name_eq [] rule slip)) 0) (eq-eqb (length rule) (length slip) e)
        ∙ omega arith
        ∙ ap reached (sym (append-nil (fields_tests O C name_eq [] rule slip)))
        ∙ go (match_fields O C name_eq rule slip blank) (fields_ran rule slip [] blank e (λ k a. refl))
      where
        go : (o : Option (FillingOver O C A)) → Ran Any-filling (fields_tests O C name_eq [] rule slip) (compared_fields rule slip blank) o
            → reached (fields_tests O C name_eq [] rule slip ++ []) ≡ compared_fields rule slip blank
        go none r = (r []).0
        go (some ψ) r = (r.1 []).0 ∙ omega arith

    -- the matcher says yes exactly when all the tests pass
    pub yes_passes : IsSome (matcher O C name_eq rule slip) ↔ All Passes (tests O C name_eq rule slip)
    yes_passes = go (eqb (length rule) (length slip)) refl
      where
        fields_passed : length rule ≡ length slip → (o : Option (FillingOver O C A)) → Ran Any-filling (fields_tests O C name_eq [] rule slip)
            (compared_fields rule slip blank) o
            → IsSome o ↔ (pass_all (fields_tests O C name_eq [] rule slip ++ []) ≡ true)
        fields_passed e none r = (λ h. absurd h, λ h. absurd (false≢true (sym (r []).1 ∙ h)))
        fields_passed e (some ψ) r = (λ h. (r.1 []).1, λ h. tt)

        go : (b : Bool) → eqb (length rule) (length slip) ≡ b
            → IsSome (cond b (match_fields O C name_eq rule slip blank) none) ↔ ((b ≡ true) × All Passes (fields_tests O C name_eq [] rule slip))
        go false e = (λ h. absurd h, λ h. absurd (false≢true h.0))
        go true e =
            let same = eqb-true (length rule) (length slip) e in
            let z = append-nil (fields_tests O C name_eq [] rule slip) in
            let h = fields_passed same (match_fields O C name_eq rule slip blank) (fields_ran rule slip [] blank same (λ k a. refl)) in
            let ts = fields_tests O C name_eq [] rule slip in
            (λ y. (refl, all_passed ts (ap pass_all (sym z) ∙ h.0 y)), λ p. h.1 (ap pass_all z ∙ pass_all_lem ts p.1))

    -- a yes compares as many items as the rule has atoms, and a no never more
    pub compared_yes : IsSome (matcher O C name_eq rule slip) → compared O C name_eq rule slip ≡ all_atoms rule
    compared_yes y =
        let h = yes_passes.0 y in
        reached_all (tests O C name_eq rule slip) h ∙ omega (arith, fields_items rule slip [] (eqb-true (length rule) (length slip) h.0))

    pub compared_most : compared O C name_eq rule slip ≤ all_atoms rule
    compared_most = go (eqb (length rule) (length slip)) refl
      where
        go : (b : Bool) → eqb (length rule) (length slip) ≡ b → 0 + cond b (reached (fields_tests O C name_eq [] rule slip)) 0 ≤ all_atoms rule
        go true e = omega (arith, reached_most (fields_tests O C name_eq [] rule slip), fields_items rule slip [] (eqb-true (length rule) (length slip) e))
        go false e = omega arith
