-- The renumbering on codes is the overlap list's.
use mathlib.Core.Path.{◌≡◌, refl, sym, ap, ap₂, ◌∙◌, subst}
use mathlib.Core.Logic.{◌⊎◌, inl, inr, ite}
use mathlib.Core.Bool.{Bool, true, false, cond}
use mathlib.Core.Option.{Option}
use mathlib.Core.List.{List, [], ◌∷◌, ◌++◌, append-nil, append_assoc}
use Prim.Native.Nat.{ℕ, suc, ◌+◌, ◌<◌}
use native.Mathlib.Omega.{arith}
use native.Mathlib.Decide.{ℕ_discrete}
use borrow.Author.Tests.{eq-eqb, ne_eqb}
use lib.Dec.{eqb}
use lib.ListN.{length, get_or, set, length-set, length-append, length-replicate, get_or-replicate}
use lib.Seq.{get_or-set_same, get_or-set_other}
use Rattle.base_lists.specs.Seqs.{Any}
use Rattle.math_terms.specs.Terms.{Term, con, var, kind_once, name_once}
use Rattle.math_terms.specs.Seqs.{concat_map}
use Rattle.math_terms.specs.Fillings.{Occurs}
use Rattle.math_overlaps.specs.Overlaps.{place_of, firsts, names_of, number}
use Rattle.math_codes.specs.Tables.{IsCode, Table}
use Rattle.math_codes.specs.Names.{Names, no_names, counted, name_code, name_codes, name_fields, MadeTerms}
use Rattle.math_codes.proofs.Tables.{holds_below, same_code, same_atom}
use Rattle.math_codes.proofs.Seqs.{Each}
use Rattle.math_codes.proofs.Firsts.{has, has_left, has_right, has_head, has_firsts, added, firsts_more, number_from, number_other, number_new}
use Rattle.math_codes.proofs.Firsts.{number_none, number_place}

-- ---- the names of a field

module _ {C K B : Type 0} (kind_eq : Discrete K) where
  names_append : (k : K) (f g : List (Term C K B)) → names_of kind_eq k (f ++ g) ≡ names_of kind_eq k f ++ names_of kind_eq k g
  names_append k [] g = refl
  names_append k (con c ∷ f) g = names_append k f g
  names_append k (var j b ∷ f) g = go (kind_eq k j) (names_append k f g)
    where
      go : (d : Dec (k ≡ j)) → names_of kind_eq k (f ++ g) ≡ names_of kind_eq k f ++ names_of kind_eq k g
          → ite d (b ∷ names_of kind_eq k (f ++ g)) (names_of kind_eq k (f ++ g)) ≡ ite d (b ∷ names_of kind_eq k f) (names_of kind_eq k f) ++ names_of kind_eq k g
      go (yes e) q = ap (λ (l : List B). b ∷ l) q
      go (no n) q = q

  module _ (name_eq : Discrete B) where
    -- a variable of a field has a name there
    has_name : (k : K) (b : B) (f : List (Term C K B)) → Occurs k b f → has name_eq b (names_of kind_eq k f) ≡ true
    has_name k b [] o = absurd o
    has_name k b (con c ∷ f) o = has_name k b f o
    has_name k b (var j a ∷ f) o = go (kind_eq k j) (name_eq b a) o (has_name k b f)
      where
        go : (d : Dec (k ≡ j)) (e : Dec (b ≡ a)) → ((k ≡ j) × (b ≡ a)) ⊎ Occurs k b f → (Occurs k b f → has name_eq b (names_of kind_eq k f) ≡ true)
            → has name_eq b (ite d (a ∷ names_of kind_eq k f) (names_of kind_eq k f)) ≡ true
        go (yes d) e (inl p) rec = subst (λ (z : B). has name_eq b (z ∷ names_of kind_eq k f) ≡ true) p.1 (has_head name_eq b (names_of kind_eq k f))
        go (no n) e (inl p) rec = absurd (n p.0)
        go (yes d) e (inr p) rec = has_right name_eq b (a ∷ []) (names_of kind_eq k f) (rec p)
        go (no n) e (inr p) rec = rec p

    has_names : (k : K) (b : B) (fs : List (List (Term C K B))) → Any (Occurs k b) fs → has name_eq b (concat_map (names_of kind_eq k) fs) ≡ true
    has_names k b [] o = absurd o
    has_names k b (f ∷ fs) (inl o) = has_left name_eq b (names_of kind_eq k f) (concat_map (names_of kind_eq k) fs) (has_name k b f o)
    has_names k b (f ∷ fs) (inr o) = has_right name_eq b (names_of kind_eq k f) (concat_map (names_of kind_eq k) fs) (has_names k b fs o)

module _ {C K B : Type 0} (kind_eq : Discrete K) (name_eq : Discrete B) (term-eq : Discrete (Term C K B))
    (rank : K → ℕ) (ranks : ℕ) (rank_below : (k : K) → rank k < ranks) (rank_once : (j k : K) → rank j ≡ rank k → j ≡ k)
    (t : List (Option (Term C K B))) (T : Table) (m : MadeTerms rank T t) where
  abbrev pub CodesT : ℕ → Term C K B → Type 0
  CodesT c u = IsCode term-eq t c u

  abbrev first_names : List B → List B
  first_names l = firsts name_eq l

  -- ---- the names hold the first occurrences so far; L k are the names of kind k met so far

  pub record NamesHold (x : Names) (L : K → List B) : Type 0 where
    pub counts_long : length x.counts ≡ ranks
    pub numbers_long : length x.numbers ≡ length t
    pub counts_are : (k : K) → get_or x.counts (rank k) 0 ≡ length (first_names (L k))
    pub numbers_are : (c : ℕ) (k : K) (b : B) → CodesT c (var k b) → get_or x.numbers c 0 ≡ number_from name_eq 0 b (first_names (L k))

  hold_as : (x : Names) (L M : K → List B) → ((k : K) → L k ≡ M k) → NamesHold x L → NamesHold x M
  hold_as x L M e h =
      record {
        counts_long = h.counts_long;
        numbers_long = h.numbers_long;
        counts_are = λ k. h.counts_are k ∙ ap (λ (l : List B). length (first_names l)) (e k);
        numbers_are = λ c k b i. h.numbers_are c k b i ∙ ap (λ (l : List B). number_from name_eq 0 b (first_names l)) (e k);
      }

  hold_none : NamesHold (no_names (length t) ranks) (λ k. [])
  hold_none =
      record {
        counts_long = length-replicate ranks 0;
        numbers_long = length-replicate (length t) 0;
        counts_are = λ k. get_or-replicate {A = ℕ} ranks (rank k) 0 0 (rank_below k);
        numbers_are = λ c k b i. get_or-replicate {A = ℕ} (length t) c 0 0 (holds_below t c (var k b) i.0);
      }

  -- ---- a variable is met

  module _ (x : Names) (L : K → List B) (h : NamesHold x L) (c : ℕ) (j : K) (b : B) (i : CodesT c (var j b)) where
    abbrev more : K → List B
    more k = L k ++ names_of {C = C} kind_eq k (var j b ∷ [])

    -- of another kind nothing is met
    more_other : (k : K) → (k ≡ j → ⊥) → more k ≡ L k
    more_other k n = go (kind_eq k j)
      where
        go : (d : Dec (k ≡ j)) → L k ++ ite d (b ∷ []) [] ≡ L k
        go (yes e) = absurd (n e)
        go (no q) = append-nil (L k)

    more_same : more j ≡ L j ++ b ∷ []
    more_same = go (kind_eq j j)
      where
        go : (d : Dec (j ≡ j)) → L j ++ ite d (b ∷ []) [] ≡ L j ++ b ∷ []
        go (yes e) = refl
        go (no q) = absurd (q refl)

    first_same : first_names (more j) ≡ added name_eq (first_names (L j)) b
    first_same = ap first_names more_same ∙ firsts_more name_eq (L j) b

    -- it was met before
    hold_old : has name_eq b (first_names (L j)) ≡ true → NamesHold x more
    hold_old q =
        let same : first_names (more j) ≡ first_names (L j) = first_same ∙ rw q in
        record {
          counts_long = h.counts_long;
          numbers_long = h.numbers_long;
          counts_are = λ k. h.counts_are k ∙ ap length (sym (first_as same k (kind_eq k j)));
          numbers_are = λ c' k b' i'. h.numbers_are c' k b' i' ∙ ap (number_from name_eq 0 b') (sym (first_as same k (kind_eq k j)));
        }
      where
        first_as : first_names (more j) ≡ first_names (L j) → (k : K) → Dec (k ≡ j) → first_names (more k) ≡ first_names (L k)
        first_as same k (yes e) = ap (λ (z : K). first_names (more z)) e ∙ same ∙ ap (λ (z : K). first_names (L z)) (sym e)
        first_as same k (no n) = ap first_names (more_other k n)

    -- it is new
    module _ (q : has name_eq b (first_names (L j)) ≡ false) where
      abbrev next : ℕ
      next = get_or x.counts (rank j) 0 + 1

      abbrev grown : Names
      grown = record { counts = set x.counts (rank j) next; numbers = set x.numbers c next }

      first_new : first_names (more j) ≡ first_names (L j) ++ b ∷ []
      first_new = first_same ∙ rw q

      next_is : next ≡ suc (length (first_names (L j)))
      next_is = omega (arith, h.counts_are j)

      new_count : (k : K) → Dec (k ≡ j) → get_or grown.counts (rank k) 0 ≡ length (first_names (more k))
      new_count k (yes e) =
          ap (λ (z : K). get_or grown.counts (rank z) 0) e
          ∙ get_or-set_same x.counts (rank j) next 0 (let r = rank_below j in omega (arith, h.counts_long))
          ∙ next_is
          ∙ (let z : suc (length (first_names (L j))) ≡ length (first_names (L j) ++ b ∷ []) = omega (arith, length-append (first_names (L j)) (b ∷ [])) in z)
          ∙ ap length (sym first_new)
          ∙ ap (λ (z : K). length (first_names (more z))) (sym e)
      new_count k (no n) =
          get_or-set_other x.counts (rank j) (rank k) next 0 (λ e. n (rank_once k j e))
          ∙ h.counts_are k
          ∙ ap (λ (l : List B). length (first_names l)) (sym (more_other k n))

      -- the code itself
      own_number : number_from name_eq 0 b (first_names (more j)) ≡ next
      own_number = ap (number_from name_eq 0 b) first_new ∙ number_new name_eq b (first_names (L j)) 0 q ∙ omega (arith, next_is)

      -- another code
      other_number : (k : K) (b' : B) → (◌≡◌ {A = Term C K B} (var k b') (var j b) → ⊥) → Dec (k ≡ j)
          → number_from name_eq 0 b' (first_names (L k)) ≡ number_from name_eq 0 b' (first_names (more k))
      other_number k b' n (yes e) =
          ap (λ (z : K). number_from name_eq 0 b' (first_names (L z))) e
          ∙ sym (number_other name_eq b' b (λ p. n (ap₂ (λ (z : K) (y : B). var z y) e p)) (first_names (L j)) 0)
          ∙ ap (number_from name_eq 0 b') (sym first_new)
          ∙ ap (λ (z : K). number_from name_eq 0 b' (first_names (more z))) (sym e)
      other_number k b' n (no d) = ap (λ (l : List B). number_from name_eq 0 b' (first_names l)) (sym (more_other k d))

      new_number : (c' : ℕ) (k : K) (b' : B) → CodesT c' (var k b') → Dec (c' ≡ c) → get_or grown.numbers c' 0 ≡ number_from name_eq 0 b' (first_names (more k))
      new_number c' k b' i' (yes e) =
          let u = same_atom term-eq t c' c (var k b') (var j b) i' i e in
          ap (λ (z : ℕ). get_or grown.numbers z 0) e
          ∙ get_or-set_same x.numbers c next 0 (let l = holds_below t c (var j b) i.0 in omega (arith, h.numbers_long))
          ∙ sym own_number
          ∙ sym (ap₂ (λ (z : K) (y : B). number_from name_eq 0 y (first_names (more z))) (kind_once u) (name_once u))
      new_number c' k b' i' (no n) =
          get_or-set_other x.numbers c c' next 0 n
          ∙ h.numbers_are c' k b' i'
          ∙ other_number k b' (λ e. n (same_code term-eq t c' c (var k b') (var j b) i' i e)) (kind_eq k j)

      hold_new : NamesHold grown more
      hold_new =
          record {
            counts_long = length-set x.counts (rank j) next ∙ h.counts_long;
            numbers_long = length-set x.numbers c next ∙ h.numbers_long;
            counts_are = λ k. new_count k (kind_eq k j);
            numbers_are = λ c' k b' i'. new_number c' k b' i' (ℕ_discrete c' c);
          }

    hold_variable : NamesHold (name_code T x c) more
    hold_variable = rw (m.variables c (var j b) i.0) (go (has name_eq b (first_names (L j))) refl)
      where
        go : (q : Bool) → has name_eq b (first_names (L j)) ≡ q → NamesHold (cond (eqb (get_or x.numbers c 0) 0) (counted T x c) x) more
        go true q =
            let n = h.numbers_are c j b i ∙ number_place name_eq b (first_names (L j)) 0 q in
            rw (ne_eqb (get_or x.numbers c 0) 0 (λ e. omega (arith, n, e))) (hold_old q)
        go false q =
            let n = h.numbers_are c j b i ∙ number_none name_eq b (first_names (L j)) 0 q in
            rw (eq-eqb (get_or x.numbers c 0) 0 n, m.kinds c j b i.0) (hold_new q)

  hold_code : (x : Names) (L : K → List B) (c : ℕ) (u : Term C K B) → CodesT c u → NamesHold x L
      → NamesHold (name_code T x c) (λ k. L k ++ names_of kind_eq k (u ∷ []))
  hold_code x L c (con d) i h = rw (m.variables c (con d) i.0) (hold_as x L (λ k. L k ++ []) (λ k. sym (append-nil (L k))) h)
  hold_code x L c (var j b) i h = hold_variable x L h c j b i

  hold_codes : (cs : List ℕ) (f : List (Term C K B)) → Each CodesT cs f → (x : Names) (L : K → List B) → NamesHold x L
      → NamesHold (name_codes T x cs) (λ k. L k ++ names_of kind_eq k f)
  hold_codes [] [] i x L h = hold_as x L (λ k. L k ++ []) (λ k. sym (append-nil (L k))) h
  hold_codes [] (u ∷ f) i x L h = absurd i
  hold_codes (c ∷ cs) [] i x L h = absurd i
  hold_codes (c ∷ cs) (u ∷ f) i x L h =
      let M : K → List B = λ k. L k ++ names_of kind_eq k (u ∷ []) in
      hold_as (name_codes T (name_code T x c) cs) (λ k. M k ++ names_of kind_eq k f) (λ k. L k ++ names_of kind_eq k (u ∷ f))
      (λ k. append_assoc (L k) (names_of kind_eq k (u ∷ [])) (names_of kind_eq k f) ∙ ap (λ (l : List B). L k ++ l) (sym (names_append kind_eq k (u ∷ []) f)))
      (hold_codes cs f i.1 (name_code T x c) M (hold_code x L c u i.0 h))

  hold_fields : (is : List (List ℕ)) (fs : List (List (Term C K B))) → Each (Each CodesT) is fs → (x : Names) (L : K → List B) → NamesHold x L
      → NamesHold (name_fields T x is) (λ k. L k ++ concat_map (names_of kind_eq k) fs)
  hold_fields [] [] i x L h = hold_as x L (λ k. L k ++ []) (λ k. sym (append-nil (L k))) h
  hold_fields [] (f ∷ fs) i x L h = absurd i
  hold_fields (cs ∷ is) [] i x L h = absurd i
  hold_fields (cs ∷ is) (f ∷ fs) i x L h =
      let M : K → List B = λ k. L k ++ names_of kind_eq k f in
      hold_as (name_fields T (name_codes T x cs) is) (λ k. M k ++ concat_map (names_of kind_eq k) fs) (λ k. L k ++ concat_map (names_of kind_eq k) (f ∷ fs))
      (λ k. append_assoc (L k) (names_of kind_eq k f) (concat_map (names_of kind_eq k) fs))
      (hold_fields is fs i.1 (name_codes T x cs) M (hold_codes cs f i.0 x L h))

  -- THE NUMBERS: a variable that stands in the fields has at its code the number that the list gives it, and one
  pub number_agrees : (is : List (List ℕ)) (fs : List (List (Term C K B))) → Each (Each CodesT) is fs → (c : ℕ) (k : K) (b : B) → CodesT c (var k b)
      → Any (Occurs k b) fs
      → get_or (name_fields T (no_names (length t) ranks) is).numbers c 0 ≡ suc (number kind_eq name_eq fs k b)
  number_agrees is fs i c k b j o =
      let N = concat_map (names_of kind_eq k) fs in
      (hold_fields is fs i (no_names (length t) ranks) (λ k. []) hold_none).numbers_are c k b j
      ∙ number_place name_eq b (first_names N) 0 (has_firsts name_eq b N ∙ has_names kind_eq name_eq k b fs o)
      ∙ (let z : suc (0 + place_of name_eq b (first_names N)) ≡ suc (place_of name_eq b (first_names N)) = omega arith in z)
