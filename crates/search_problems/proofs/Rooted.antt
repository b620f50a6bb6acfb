-- THE ROOT: the record that is read from the tables of two of document 01's fields is that of their equation.
use mathlib.Core.Path.{◌≡◌, refl, sym, ◌∙◌, ap, ap₂, subst}
use mathlib.Core.Bool.{Bool, true, false, cond}
use mathlib.Core.Option.{Option, none, some}
use mathlib.Core.List.{List, [], ◌∷◌, ◌++◌, map, append-nil}
use mathlib.Core.Logic.{inl, inr}
use Prim.Native.Nat.{ℕ, suc, ◌+◌, ◌≤◌, ◌<◌}
use native.Mathlib.Nat.{mod-eq_of_lt}
use native.Mathlib.Omega.{arith}
use native.Mathlib.Decide.{ℕ_discrete}
use lib.ListN.{length, get_or, length-map}
use Rattle.base_limits.specs.Limits.{numbers_of_side, numbers_of_pair, rule_places, pair_places}
use Rattle.base_lists.specs.Seqs.{All, tabulate_at, all_mem}
use Rattle.math_types.specs.Order.{basic, list}
use Rattle.math_types.specs.Types.{basics}
use Rattle.math_terms.specs.Terms.{con, var}
use Rattle.math_terms.specs.Linear.{lists, OneList}
use Rattle.text_grammar.specs.Terms.{OurTerm}
use Rattle.text_grammar.specs.Limits.{TermIn, IsLeft}
use Rattle.text_grammar.specs.constants.Constants.{consts}
use Rattle.text_grammar.proofs.constants.Linear.{left_linear}
use Rattle.text_grammar.proofs.Limited.{lists_small}
use Rattle.math_overlaps.specs.Shapes.{fixed, free, of, Side, left, right, Shape, closed, gapped, with_atom, with_list}
use Rattle.math_overlaps.specs.Candidates.{range}
use Rattle.math_search.specs.Problems.{atomic, Tm, Field, unbound, names_in, root}
use Rattle.math_search.specs.Fresh.{numbers}
use Rattle.math_search.specs.Rules.{start}
use Rattle.math_search.specs.Answers.{StandsIn}
use Rattle.math_search.specs.Pairs.{sixteen_above}
use Rattle.math_search.specs.Pairs as pairs
use Rattle.math_search.proofs.Slips.{fields_linear, sixteen_apart}
use Rattle.search_problems.specs.variables.Sets.{set_of, with_name}
use Rattle.search_problems.proofs.variables.Laws.{with_one}
use Rattle.math_codes.specs.Tables.{Holds, Made}
use Rattle.math_codes.specs.Entries.{place_shape}
use Rattle.math_codes.specs.Spots.{spot_shape, spot_of}
use Rattle.math_codes.specs.Lines.{OurAtom, our_vars, our_ranks}
use Rattle.math_codes.proofs.Tables.{holds_below}
use Rattle.math_codes.proofs.Joins.{represents_start}
use Rattle.math_codes.proofs.Places.{Stands}
use Rattle.math_codes.proofs.Spots.{scan_agrees}
use Rattle.search_spec.specs.Answers.{setting, field_on}
use Rattle.pair_row.specs.declared.Shape as row-shape
use Rattle.pair_row.specs.Row.{table_in, shape_in, spot_in}
use Rattle.pair_row.specs.Row as rows
use Rattle.search_items.specs.codes.Codes.{code_tm, codes_of, On}
use Rattle.search_items.specs.declared.Items.{Items}
use Rattle.search_items.specs.Items.{collect}
use Rattle.search_items.specs.Values.{items_value}
use Rattle.search_problems.specs.Roots.{list_number, own_items, with_own, side_codes, side_items, root_value}
use Rattle.search_problems.proofs.Holds.{Equation, value_in}
use Rattle.search_problems.proofs.Holds as records
use Rattle.search_problems.proofs.Runs.{number_low}

abbrev is_right : Side → Bool
is_right left = false
is_right right = true

-- a term as it stands on a side of the equation
abbrev term_on : Side → OurTerm → Tm setting
term_on d u = pairs.side_term basics consts ℕ_discrete numbers sixteen_above d u

-- ---- list variables

number_is : (d : Side) (n : ℕ) → n < numbers_of_side → list_number (is_right d) n ≡ sixteen_above d n
number_is left n h = mod-eq_of_lt h
number_is right n h = ap (λ (k : ℕ). numbers_of_side + k) (mod-eq_of_lt h)

numbers_are : (d : Side) (u : List ℕ) → All (λ n. n < numbers_of_side) u → map (list_number (is_right d)) u ≡ map (sixteen_above d) u
numbers_are d [] h = refl
numbers_are d (n ∷ u) h = ap₂ (λ (k : ℕ) (v : List ℕ). k ∷ v) (number_is d n h.0) (numbers_are d u h.1)

names_on : (d : Side) (f : List OurTerm) → map (sixteen_above d) (lists f) ≡ names_in setting (field_on d f)
names_on d [] = refl
names_on d (con c ∷ f) = names_on d f
names_on d (var (basic k) n ∷ f) = names_on d f
names_on d (var list n ∷ f) = ap (λ (u : List ℕ). sixteen_above d n ∷ u) (names_on d f)

-- ---- a field with at most one list variable has a shape over places

no_list : (b : ℕ) (f : List OurTerm) → length (lists f) ≤ 0 → place_shape b f ≡ some (closed (range b (length f)))
no_list b [] h = refl
no_list b (con c ∷ f) h = ap (with_atom b) (no_list (suc b) f h)
no_list b (var (basic k) n ∷ f) h = ap (with_atom b) (no_list (suc b) f h)
no_list b (var list n ∷ f) h = absurd (omega arith)

atom_before : (b : ℕ) (o : Option (Shape ℕ ℕ)) (S : Shape ℕ ℕ) → o ≡ some S → (R : Shape ℕ ℕ) × (with_atom b o ≡ some R)
atom_before b o (closed xs) e = (closed (b ∷ xs), ap (with_atom b) e)
atom_before b o (gapped xs l ys) e = (gapped (b ∷ xs) l ys, ap (with_atom b) e)

has_shape : (b : ℕ) (f : List OurTerm) → OneList f → (S : Shape ℕ ℕ) × (place_shape b f ≡ some S)
has_shape b [] h = (closed [], refl)
has_shape b (con c ∷ f) h = let r = has_shape (suc b) f h in atom_before b (place_shape (suc b) f) r.0 r.1
has_shape b (var (basic k) n ∷ f) h = let r = has_shape (suc b) f h in atom_before b (place_shape (suc b) f) r.0 r.1
has_shape b (var list n ∷ f) h = (gapped [] n (range (suc b) (length f)), ap (with_list n) (no_list (suc b) f (omega arith)))

-- ---- the codes of a shape, by the code at a place and that of a list variable

abbrev shape_codes : (ℕ → ℕ) → (ℕ → ℕ) → Shape ℕ ℕ → List ℕ
shape_codes c l (closed ps) = map c ps
shape_codes c l (gapped ps n qs) = map c ps ++ (l n ∷ map c qs)

abbrev gap_names : Shape ℕ ℕ → List ℕ
gap_names (closed ps) = []
gap_names (gapped ps n qs) = n ∷ []

-- the list variable of a shape in the row
abbrev own_names : row-shape.Shape → List ℕ
own_names s = cond s.gapped (s.list ∷ []) []

own_names_lem : (s : row-shape.Shape) → own_names s ≡ gap_names (spot_shape (rows.spot_of s))
own_names_lem s = go s.gapped
  where
    go : (b : Bool) → cond b (s.list ∷ []) []
        ≡ gap_names (spot_shape (record { base = s.base; head = s.head; tail = s.tail; name = cond b (some s.list) none }))
    go true = refl
    go false = refl

side_spot : (row : List ℕ) (r : Bool) (s : row-shape.Shape)
    → side_codes row r s ≡ shape_codes (λ p. get_or row p 0) (λ n. pair_places + list_number r n) (spot_shape (rows.spot_of s))
side_spot row r s = go s.gapped
  where
    code : ℕ → ℕ
    code p = get_or row p 0

    go : (b : Bool) → map code (range s.base s.head)
        ++ cond b ((pair_places + list_number r s.list) ∷ map code (range (suc (s.base + s.head)) s.tail)) []
        ≡ shape_codes code (λ n. pair_places + list_number r n)
        (spot_shape (record { base = s.base; head = s.head; tail = s.tail; name = cond b (some s.list) none }))
    go true = refl
    go false = append-nil (map code (range s.base s.head))

-- ---- over the pair's table t, which the row has

module _ (t : List (Option OurAtom)) (long : length t ≡ pair_places) (row : List ℕ) (made : Made basics consts our_vars our_ranks (table_in row) t) where
  -- the code at a place
  code_at : (p : ℕ) (a : OurAtom) → Holds t p a → get_or row p 0 ≡ code_tm t (atomic a)
  code_at p a h =
      sym (tabulate_at pair_places (λ p. get_or row p 0) p 0 (let l = holds_below t p a h in omega arith)) ∙ made.firsts p a h

  module _ (d : Side) where
    abbrev list_code : ℕ → ℕ
    list_code n = pair_places + list_number (is_right d) n

    -- the shape over places reads as the field
    abbrev Reads : Option (Shape ℕ ℕ) → List OurTerm → Type 0
    Reads none f = Unit {0}
    Reads (some S) f = (shape_codes (λ p. get_or row p 0) list_code S ≡ codes_of t (field_on d f)) × (gap_names S ≡ lists f)

    reads_atom : (p : ℕ) (o : Option (Shape ℕ ℕ)) (u : OurTerm) (f : List OurTerm) → get_or row p 0 ≡ code_tm t (term_on d u) → lists f ≡ lists (u ∷ f)
        → Reads o f → Reads (with_atom p o) (u ∷ f)
    reads_atom p none u f e q h = tt
    reads_atom p (some (closed xs)) u f e q h = (ap₂ (λ (c : ℕ) (l : List ℕ). c ∷ l) e h.0, h.1 ∙ q)
    reads_atom p (some (gapped xs n ys)) u f e q h = (ap₂ (λ (c : ℕ) (l : List ℕ). c ∷ l) e h.0, h.1 ∙ q)

    reads_list : (n : ℕ) (o : Option (Shape ℕ ℕ)) (f : List OurTerm) → n < numbers_of_side → Reads o f → Reads (with_list n o) (var list n ∷ f)
    reads_list n none f l h = tt
    reads_list n (some (closed xs)) f l h =
        (ap₂ (λ (k : ℕ) (s : List ℕ). (pair_places + k) ∷ s) (number_is d n l) h.0, ap (λ (u : List ℕ). n ∷ u) h.1)
    reads_list n (some (gapped xs m ys)) f l h = tt

    field_reads : (b : ℕ) (f : List OurTerm) → All TermIn f → Stands t d b f → Reads (place_shape b f) f
    field_reads b [] h k = (refl, refl)
    field_reads b (con c ∷ f) h k =
        reads_atom b (place_shape (suc b) f) (con c) f (code_at b (fixed c) k.0) refl (field_reads (suc b) f h.1 k.1)
    field_reads b (var (basic j) n ∷ f) h k =
        reads_atom b (place_shape (suc b) f) (var (basic j) n) f (code_at b (free (of d j n)) k.0) refl (field_reads (suc b) f h.1 k.1)
    field_reads b (var list n ∷ f) h k = reads_list n (place_shape (suc b) f) f (omega (arith, h.0)) (field_reads (suc b) f h.1 k.1)

    -- of a shape of the row
    module _ (s : row-shape.Shape) (b : ℕ) (f : List OurTerm) (small : All TermIn f) (one : OneList f) (stands : Stands t d b f)
        (is-s : rows.spot_of s ≡ spot_of b f) where
      reads_spot : Reads (some (spot_shape (rows.spot_of s))) f
      reads_spot =
          let r = has_shape b f one in
          subst (λ (S : Shape ℕ ℕ). Reads (some S) f) (sym (scan_agrees b f r.0 r.1) ∙ ap spot_shape (sym is-s))
          (subst (λ (o : Option (Shape ℕ ℕ)). Reads o f) r.1 (field_reads b f small stands))

      side_agrees : side_items row (is_right d) s ≡ items_value t (field_on d f)
      side_agrees = ap collect (side_spot row (is_right d) s ∙ reads_spot.0)

      -- its list variable's number
      own_are : map (list_number (is_right d)) (own_names s) ≡ names_in setting (field_on d f)
      own_are =
          ap (map (list_number (is_right d))) (own_names_lem s ∙ reads_spot.1) ∙ numbers_are d (lists f) (lists_small f small) ∙ names_on d f

      own_agrees : own_items (is_right d) s ≡ value_in t (unbound setting) (names_in setting (field_on d f))
      own_agrees = go s.gapped ∙ ap (value_in t (unbound setting)) own_are
        where
          go : (g : Bool) → cond g (collect ((pair_places + list_number (is_right d) s.list) ∷ [])) (collect [])
              ≡ value_in t (unbound setting) (map (list_number (is_right d)) (cond g (s.list ∷ []) []))
          go true = refl
          go false = refl

      with_agrees : (v : List ℕ) → with_own (set_of v) (is_right d) s ≡ set_of (names_in setting (field_on d f) ++ v)
      with_agrees v = go s.gapped ∙ ap (λ (u : List ℕ). set_of (u ++ v)) own_are
        where
          n : ℕ
          n = list_number (is_right d) s.list

          go : (g : Bool) → cond g (with_name (set_of v) n) (set_of v) ≡ set_of (map (list_number (is_right d)) (cond g (s.list ∷ []) []) ++ v)
          go true = with_one n v (omega (arith, number_low (is_right d) s.list))
          go false = refl

    -- the field's terms have codes
    on_side : (b : ℕ) (f : List OurTerm) → All TermIn f → Stands t d b f → All (On t) (field_on d f)
    on_side b [] h k = tt
    on_side b (con c ∷ f) h k = ((b, k.0), on_side (suc b) f h.1 k.1)
    on_side b (var (basic j) n ∷ f) h k = ((b, k.0), on_side (suc b) f h.1 k.1)
    on_side b (var list n ∷ f) h k = (below d n (omega (arith, h.0)), on_side (suc b) f h.1 k.1)
      where
        below : (d : Side) (n : ℕ) → n < numbers_of_side → sixteen_above d n < numbers_of_pair
        below left n h = omega arith
        below right n h = omega arith

  -- ---- the root of two of document 01's fields

  module _ (f g : List OurTerm) (p : IsLeft (f ∷ [])) (q : IsLeft (g ∷ [])) (stand_f : Stands t left 0 f) (stand_g : Stands t right rule_places g) where
    abbrev A : Field setting
    A = field_on left f

    abbrev B : Field setting
    B = field_on right g

    one_f : OneList f
    one_f = (left_linear (f ∷ []) p.1).1.0

    one_g : OneList g
    one_g = (left_linear (g ∷ []) q.1).1.0

    -- their equation
    pub equation_of : Equation t A B
    equation_of =
        record {
          linear = fields_linear basics consts ℕ_discrete numbers sixteen_above f g one_f one_g
              (sixteen_apart basics consts f g (lists_small f p.0.3.0));
          left_short = omega (arith, p.0.2.0, length-map f (term_on left));
          right_short = omega (arith, q.0.2.0, length-map g (term_on right));
          left_in = on_side left 0 f p.0.3.0 stand_f;
          right_in = on_side right rule_places g q.0.3.0 stand_g;
        }

    -- THE ROOT
    pub root_holds : spot_in row false 0 ≡ spot_of 0 f → spot_in row true 0 ≡ spot_of rule_places g
        → records.Holds t A B (root_value row) (root setting A B)
    root_holds is_f is-g =
        record {
          met = start;
          opens = refl;
          left = side_agrees left a 0 f p.0.3.0 one_f stand_f is_f;
          right = side_agrees right b rule_places g q.0.3.0 one_g stand_g is-g;
          atoms = represents_start basics consts our_vars t our_ranks (table_in row) made;
          lists = ap₂ (λ (v w : Items). v ∷ (w ∷ [])) (own_agrees left a 0 f p.0.3.0 one_f stand_f is_f)
              (own_agrees right b rule_places g q.0.3.0 one_g stand_g is-g);
          used =
              ap (λ (n : ℕ). with_own n false a) (with_agrees right b rule_places g q.0.3.0 one_g stand_g is-g [])
              ∙ with_agrees left a 0 f p.0.3.0 one_f stand_f is_f (names_in setting B ++ [])
              ∙ ap (λ (u : List ℕ). set_of (names_in setting A ++ u)) (append-nil (names_in setting B));
          rest_in = (equation_of.left_in, equation_of.right_in);
          values_in_lem = stands;
        }
      where
        a : row-shape.Shape
        a = shape_in row false 0

        b : row-shape.Shape
        b = shape_in row true 0

        stands : (x : Tm setting) → StandsIn setting A B x → All (On t) (x ∷ [])
        stands x (inl i) = (all_mem (On t) A equation_of.left_in x i, tt)
        stands x (inr i) = (all_mem (On t) B equation_of.right_in x i, tt)
