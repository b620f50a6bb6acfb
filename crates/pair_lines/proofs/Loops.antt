-- What the loops over fields and items keep: which fields are left, and what of the items is laid out and named.
use Rattle.std.specs.Bool.{MatchBool}
use Rattle.std.specs.List.{AllWithin, HoldsAt}
use mathlib.Core.Path.{subst, ◌≡◌, refl, sym, ◌∙◌, ap, ap₂}
use mathlib.Core.Bool.{Bool, true, false, ◌&&◌}
use mathlib.Core.List.{List, [], ◌∷◌, ◌++◌, foldl-append}
use Prim.Native.Nat.{ℕ, zero, suc, ◌+◌, ◌-◌, ◌*◌, ◌≤◌, ◌<◌}
use native.Mathlib.Omega.{arith}
use Rattle.std.proofs.lemmas.List.{get_or-take}
use lib.Dec.{leb}
use lib.ListN.{take, length-take, length, set, replicate}
use lib.Seq.{sets}
use borrow.Author.Tests.{le-leb, lt-leb}
use Rattle.base_limits.specs.Limits.{entry_terms, pair_items, entry_places}
use Rattle.base_lists.specs.Seqs.{tabulate, tabulate_long, tabulate_last}
use Rattle.base_lists.specs.Arrays.{sets_append}
use Rattle.math_codes.specs.Tables.{Table}
use Rattle.math_codes.specs.Names.{Names, no_names, name_code, name_codes, name_fields}
use Rattle.pair_row.specs.Row.{table_in}
use Rattle.overlap_entries.specs.declared.Candidate.{Candidate}
use Rattle.overlap_entries.specs.declared.Choice.{Choice}
use Rattle.overlap_entries.specs.Entries.{no_candidate, item_count}
use Rattle.pair_lines.specs.Lines.{Few, count_at, fits_from, fits, field_in, laid_from, runs_over}
use Rattle.pair_lines.proofs.Laying.{field_long}
use Rattle.pair_lines.proofs.Naming.{name_long, few_name}

-- ---- whether all fields fit

each_fits : (c : Choice) (n j : ℕ) → ((i : ℕ) → i < n → count_at c (j + i) ≤ entry_terms) → fits_from c j n ≡ true
each_fits c zero j h = refl
each_fits c (suc n) j h =
    let z : j + 0 ≡ j = omega arith in
    ap₂ (λ (a b : Bool). a && b) (le-leb (count_at c j) entry_terms (subst (λ (k : ℕ). count_at c k ≤ entry_terms) z (h 0 (omega arith))))
    (each_fits c n (suc j)
    (λ i l. let e : j + suc i ≡ suc j + i = omega arith in subst (λ (k : ℕ). count_at c k ≤ entry_terms) e (h (suc i) (omega arith))))

one_large : (c : Choice) (n j i : ℕ) → i < n → entry_terms < count_at c (j + i) → fits_from c j n ≡ false
one_large c zero j i l h = absurd (omega arith)
one_large c (suc n) j zero l h =
    let z : j + 0 ≡ j = omega arith in
    ap (λ (a : Bool). a && fits_from c (suc j) n) (lt-leb (count_at c j) entry_terms (subst (λ (k : ℕ). entry_terms < count_at c k) z h))
one_large c (suc n) j (suc i) l h =
    let e : j + suc i ≡ suc j + i = omega arith in
    ap (λ (b : Bool). leb (count_at c j) entry_terms && b) (one_large c n (suc j) i (omega arith) (subst (λ (k : ℕ). entry_terms < count_at c k) e h))
    ∙ neither (leb (count_at c j) entry_terms)
  where
    neither : (t : Bool) → (t && false) ≡ false
    neither true = refl
    neither false = refl

-- what a look at the first n fields says
pub fits_all : (n : ℕ) (c : Choice) → n ≤ 4 → length c.fields ≡ 4 → (r : Bool)
    → let fs = take n c.fields in
    MatchBool r (AllWithin (λ x. item_count x.items x.long ≤ entry_terms) fs 0 (length fs))
    ((i : ℕ) × (i < length fs) × HoldsAt (λ x. entry_terms < item_count x.items x.long) fs i) → r ≡ fits n c
fits_all n c w l true h =
    let few : length (take n c.fields) ≡ n = omega (arith, length-take n c.fields) in
    sym (rw (le-leb n 4 w) (each_fits c n 0 (λ i b.
    let z : i ≡ 0 + i = omega arith in
    subst (λ (k : ℕ). count_at c k ≤ entry_terms) z
    (subst (λ (x : Candidate). item_count x.items x.long ≤ entry_terms) (get_or-take n c.fields i no_candidate b) (h i no_candidate (omega arith) (omega arith))))))
fits_all n c w l false (i, b, h) =
    let m : i < n = omega (arith, length-take n c.fields) in
    let z : i ≡ 0 + i = omega arith in
    sym (rw (le-leb n 4 w) (one_large c n 0 i m (subst (λ (k : ℕ). entry_terms < count_at c k) z
    (subst (λ (x : Candidate). entry_terms < item_count x.items x.long) (get_or-take n c.fields i no_candidate m) (h no_candidate)))))

-- ---- the runs of a rule's list variables, from the last field on: those from field j on are noted

module _ (row : List ℕ) (right : Bool) (n : ℕ) (c : Choice) (old : List ℕ) where
  abbrev pub RunsFrom : ℕ → List ℕ → Type 0
  RunsFrom j runs = (j ≤ n) × (runs ≡ runs_over row right c old j (n - j))

-- ---- the items of a field: the first i of them are laid out and named

few_names : (T : Table) (cs : List ℕ) (m : ℕ) (x : Names) → Few m x.counts → Few (m + length cs) (name_codes T x cs).counts
few_names T [] m x h = rw (let e : m + 0 ≡ m = omega arith in e) h
few_names T (c ∷ cs) m x h =
    rw (let e : m + suc (length cs) ≡ m + 1 + length cs = omega arith in e) (few_names T cs (m + 1) (name_code T x c) (few_name T m x c h))

pub names_long : (T : Table) (cs : List ℕ) (x : Names)
    → (length (name_codes T x cs).counts ≡ length x.counts) × (length (name_codes T x cs).numbers ≡ length x.numbers)
names_long T [] x = (refl, refl)
names_long T (c ∷ cs) x =
    let r = names_long T cs (name_code T x c) in
    let e = name_long T x c in
    (r.0 ∙ e.0, r.1 ∙ e.1)

module _ (T : Table) (old : List ℕ) (x : Names) (from m : ℕ) (f : ℕ → ℕ) where
  abbrev pub Named : ℕ → List ℕ → Names → Type 0
  Named i items y = (items ≡ sets old from (tabulate i f)) × (y ≡ name_codes T x (tabulate i f)) × Few (m + i) y.counts

  -- item i is put in its place and named
  pub named_one : (i : ℕ) (items : List ℕ) (y : Names) → Named i items y → (c : ℕ) → c ≡ f i → (items' : List ℕ) (y' : Names) → items' ≡ set items (from + i) c
      → y' ≡ name_code T y c
      → Named (i + 1) items' y'
  named_one i items y v c e items' y' o p = (
    o
        ∙ ap₂ (λ (l : List ℕ) (k : ℕ). set l (from + k) c) v.0 (sym (tabulate_long i f))
        ∙ ap (set (sets old from (tabulate i f)) (from + length (tabulate i f))) e
        ∙ sets_append (tabulate i f) (f i ∷ []) old from
        ∙ ap (sets old from) (sym (tabulate_last i f)),
    p
        ∙ ap (λ (z : Names). name_code T z c) v.1
        ∙ ap (name_code T (name_codes T x (tabulate i f))) e
        ∙ sym (ap (name_codes T x) (tabulate_last i f) ∙ foldl-append (name_code T) x (tabulate i f) (f i ∷ [])),
    λ k. rw (p, let z : m + (i + 1) ≡ m + i + 1 = omega arith in z) (few_name T (m + i) y c v.2 k),
  )

-- ---- the fields: the first j of them

laid_last : (fs : List (List ℕ)) (f : List ℕ) (at : ℕ) (items : List ℕ)
    → laid_from at (fs ++ f ∷ []) items ≡ sets (laid_from at fs items) (at + entry_terms * length fs) f
laid_last [] f at items = ap (λ (k : ℕ). sets items k f) (let e : at ≡ at + entry_terms * 0 = omega arith in e)
laid_last (g ∷ fs) f at items =
    laid_last fs f (at + entry_terms) (sets items at g)
    ∙ ap (λ (k : ℕ). sets (laid_from (at + entry_terms) fs (sets items at g)) k f)
    (let e : at + entry_terms + entry_terms * length fs ≡ at + entry_terms * suc (length fs) = omega arith in e)

pub all_named : (T : Table) (fs : List (List ℕ)) (x : Names)
    → (length (name_fields T x fs).counts ≡ length x.counts) × (length (name_fields T x fs).numbers ≡ length x.numbers)
all_named T [] x = (refl, refl)
all_named T (f ∷ fs) x =
    let r = all_named T fs (name_codes T x f) in
    let e = names_long T f x in
    (r.0 ∙ e.0, r.1 ∙ e.1)

module _ (row : List ℕ) (c : Choice) (atoms : List ℕ) where
  abbrev pub Lays : ℕ → List ℕ → Names → Type 0
  Lays j items y =
      (items ≡ laid_from 0 (tabulate j (field_in row c atoms)) (replicate entry_places 0))
      × (y ≡ name_fields (table_in row) (no_names pair_items 4) (tabulate j (field_in row c atoms))) × Few (entry_terms * j) y.counts

  pub lays_one : (j : ℕ) (items : List ℕ) (y : Names) → Lays j items y → count_at c j ≤ entry_terms → (items' : List ℕ) (y' : Names)
      → items' ≡ sets items (entry_terms * j) (field_in row c atoms j)
      → y' ≡ name_codes (table_in row) y (field_in row c atoms j)
      → Lays (j + 1) items' y'
  lays_one j items y v le items' y' o p = (
    o
        ∙ ap₂ (λ (l : List ℕ) (k : ℕ). sets l k (F j)) v.0
        (let e : entry_terms * j ≡ 0 + entry_terms * length (tabulate j F) = omega (arith, tabulate_long j F) in e)
        ∙ sym (laid_last (tabulate j F) (F j) 0 (replicate entry_places 0))
        ∙ ap (λ (fs : List (List ℕ)). laid_from 0 fs (replicate entry_places 0)) (sym (tabulate_last j F)),
    p
        ∙ ap (λ (z : Names). name_codes T z (F j)) v.1
        ∙ sym (ap (name_fields T (no_names pair_items 4)) (tabulate_last j F) ∙ foldl-append (name_codes T) (no_names pair_items 4) (tabulate j F) (F j ∷ [])),
    λ k. rw p (let z = few_names T (F j) (entry_terms * j) y v.2 k in omega (arith, z, field_long row c atoms j)),
  )
    where
      F : ℕ → List ℕ
      F = field_in row c atoms

      T : Table
      T = table_in row
