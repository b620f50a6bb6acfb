-- Any place of an atom will do; what a byte can hold; a line's size; whether there is an entry.
use mathlib.Core.Path.{◌≡◌, refl, sym, ap, ap₂, ◌∙◌}
use mathlib.Core.Bool.{Bool, true, false, cond, ◌||◌}
use mathlib.Core.Option.{Option, none, some}
use mathlib.Core.List.{List, [], ◌∷◌, ◌++◌, map, Memᴰ}
use Prim.Native.Nat.{ℕ, zero, suc, ◌+◌, ◌-◌, ◌/◌, ◌≤◌, ◌<◌}
use native.Mathlib.Omega.{arith}
use native.Mathlib.Decide.{dec_lt}
use borrow.Author.Tests.{lt-ltb, le-ltb}
use lib.Dec.{eqb}
use lib.ListN.{length, get_or, set, length-append, replicate}
use Rattle.base_lists.specs.Seqs.{All}
use Rattle.math_types.specs.Order.{Order}
use Rattle.math_terms.specs.Constants.{Consts}
use Rattle.math_terms.specs.Seqs.{concat_map}
use Rattle.text_grammar.specs.Letters.{letter_at}
use Rattle.text_grammar.specs.Numbers.{digits_of}
use Rattle.text_grammar.proofs.Numbers.{one_digit, one_more}
use Rattle.math_overlaps.specs.Shapes.{Vars}
use Rattle.math_overlaps.specs.Candidates.{Cand, range, cands}
use Rattle.math_overlaps.specs.Joins.{At, State}
use Rattle.math_overlaps.specs.Entries.{equations, chosen, branch}
use Rattle.overlap_spec.specs.Lines.{left_tag, right_tag}
use Rattle.math_codes.specs.Tables.{Holds, Table}
use Rattle.math_codes.specs.States.{replaced, joined_by, takes, join_places, joins_places}
use Rattle.math_codes.specs.Entries.{entries_on}
use Rattle.math_codes.specs.Names.{Names, counted, name_code, name_codes, name_fields}
use Rattle.math_codes.specs.Lines.{item_text, colon_texts, items_text, bar_texts, fields_text, colons_size, items_size}
use Rattle.math_codes.specs.Lines.{bars_size, fields_size}
use Rattle.math_codes.specs.Spots.{Spot, spot_shape}
use Rattle.math_codes.specs.Walks.{joins_on}
use Rattle.math_codes.specs.Whole.{run_on}
use Rattle.math_codes.specs.Index.{name_at, has_at, value_at, bound_text, ranked_value, rank_values, indexed_values, indexed_items}
use Rattle.math_codes.specs.Makers.{or_clash, any_of, some_on, digits_size, item_size, sum_of, bound_size, ranked_size, rank_sizes, values_size, size_items}
use Rattle.math_codes.proofs.Joins.{Represents}
use Rattle.math_codes.proofs.Spots.{spot_cands_lem}
use Rattle.math_codes.proofs.Walks.{joins_on_lem}

-- ---- any place of an atom will do

module _ (O : Order) (C : Consts O) (N : Vars O) (t : List (Option (At O C N))) where
  pub place_any : (atoms : List ℕ) (s : State O C N) → Represents O C N t atoms s → (p q : ℕ) (a : At O C N) → Holds t p a → Holds t q a → get_or atoms p 0
      ≡ get_or atoms q 0
  place_any atoms s r p q a h k = sym (r.held p a h).1 ∙ (r.held q a k).1

-- ---- what a byte can hold: the array's codes stay below n, and a count goes up by one at most

module _ (n : ℕ) where
  abbrev pub Below : List ℕ → Type 0
  Below atoms = All (λ c. c < n) atoms

  pub at_below : (atoms : List ℕ) → Below atoms → (p : ℕ) → p < length atoms → get_or atoms p 0 < n
  at_below [] h p l = absurd (omega arith)
  at_below (c ∷ atoms) h zero l = h.0
  at_below (c ∷ atoms) h (suc p) l = at_below atoms h.1 p (omega arith)

  replaced_below : (x w : ℕ) → w < n → (atoms : List ℕ) → Below atoms → Below (replaced x w atoms)
  replaced_below x w l [] h = tt
  replaced_below x w l (c ∷ atoms) h = (go (eqb c x), replaced_below x w l atoms h.1)
    where
      go : (b : Bool) → cond b w c < n
      go true = l
      go false = h.0

  abbrev pub BelowNext : Option (List ℕ) → Type 0
  BelowNext none = Unit {0}
  BelowNext (some next) = Below next

  pub join_below : (below : ℕ → ℕ → Bool) (T : Table) (p q : ℕ) (atoms : List ℕ) → Below atoms → p < length atoms → q < length atoms
      → BelowNext (join_places below T p q atoms)
  join_below below T p q atoms h lp lq =
      go (eqb (get_or atoms p 0) (get_or atoms q 0)) (takes below T (get_or atoms p 0) (get_or atoms q 0)) (takes below T (get_or atoms q 0) (get_or atoms p 0))
    where
      go : (b c d : Bool) → BelowNext (joined_by b c d (get_or atoms p 0) (get_or atoms q 0) atoms)
      go true c d = h
      go false true d = replaced_below (get_or atoms p 0) (get_or atoms q 0) (at_below atoms h q lq) atoms h
      go false false true = replaced_below (get_or atoms q 0) (get_or atoms p 0) (at_below atoms h p lp) atoms h
      go false false false = tt

abbrev pub AtMost : ℕ → List ℕ → Type 0
AtMost m l = All (λ c. c ≤ m) l

pub at_most : (m : ℕ) (l : List ℕ) → AtMost m l → (i : ℕ) → get_or l i 0 ≤ m
at_most m [] h i = omega arith
at_most m (x ∷ l) h zero = h.0
at_most m (x ∷ l) h (suc i) = at_most m l h.1 i

pub zeros : (m n : ℕ) → AtMost m (replicate n 0)
zeros m zero = tt
zeros m (suc n) = (omega arith, zeros m n)

at_most_more : (m : ℕ) (l : List ℕ) → AtMost m l → AtMost (suc m) l
at_most_more m [] h = tt
at_most_more m (x ∷ l) h = (let z = h.0 in omega arith, at_most_more m l h.1)

at_most_set : (m : ℕ) (l : List ℕ) (i v : ℕ) → AtMost m l → v ≤ m → AtMost m (set l i v)
at_most_set m [] i v h k = tt
at_most_set m (x ∷ l) zero v h k = (k, h.1)
at_most_set m (x ∷ l) (suc i) v h k = (h.0, at_most_set m l i v h.1 k)

-- after m items no count and no number is above m
pub counts_few : (T : Table) (m : ℕ) (x : Names) (c : ℕ) → AtMost m x.counts × AtMost m x.numbers
    → AtMost (suc m) (name_code T x c).counts × AtMost (suc m) (name_code T x c).numbers
counts_few T m x c h = go (T.variable c) (eqb (get_or x.numbers c 0) 0)
  where
    old : AtMost (suc m) x.counts × AtMost (suc m) x.numbers
    old = (at_most_more m x.counts h.0, at_most_more m x.numbers h.1)

    go : (a b : Bool) → AtMost (suc m) (cond a (cond b (counted T x c) x) x).counts × AtMost (suc m) (cond a (cond b (counted T x c) x) x).numbers
    go true true =
        let k = at_most m x.counts h.0 (T.kind c) in
        let next = get_or x.counts (T.kind c) 0 + 1 in
        (at_most_set (suc m) x.counts (T.kind c) next old.0 (omega arith), at_most_set (suc m) x.numbers c next old.1 (omega arith))
    go true false = old
    go false b = old

codes_few : (T : Table) (cs : List ℕ) (m : ℕ) (x : Names) → AtMost m x.counts × AtMost m x.numbers
    → AtMost (m + length cs) (name_codes T x cs).counts × AtMost (m + length cs) (name_codes T x cs).numbers
codes_few T [] m x h = rw (let e : m + 0 ≡ m = omega arith in e) h
codes_few T (c ∷ cs) m x h = rw (let e : m + suc (length cs) ≡ suc m + length cs = omega arith in e)
    (codes_few T cs (suc m) (name_code T x c) (counts_few T m x c h))

abbrev pub item_count : List (List ℕ) → ℕ
item_count [] = 0
item_count (f ∷ is) = length f + item_count is

pub names_few : (T : Table) (is : List (List ℕ)) (m : ℕ) (x : Names) → AtMost m x.counts × AtMost m x.numbers
    → AtMost (m + item_count is) (name_fields T x is).counts × AtMost (m + item_count is) (name_fields T x is).numbers
names_few T [] m x h = rw (let e : m + 0 ≡ m = omega arith in e) h
names_few T (f ∷ is) m x h =
    rw (let e : m + (length f + item_count is) ≡ m + length f + item_count is = omega arith in e)
    (names_few T is (m + length f) (name_codes T x f) (codes_few T f m x h))

-- ---- sizes

two_digits : (n : ℕ) → 10 ≤ n → n < 100 → length (digits_of n) ≡ 2
two_digits n h l = omega (arith, one_more n h, one_digit (n / 10) (omega arith))

three_digits : (n : ℕ) → 100 ≤ n → n < 1000 → length (digits_of n) ≡ 3
three_digits n h l = omega (arith, one_more n (omega arith), two_digits (n / 10) (omega arith) (omega arith))

pub digits_size_lem : (n : ℕ) → n < 1000 → length (digits_of n) ≡ digits_size n
digits_size_lem n h = go (dec_lt n 10) (dec_lt n 100)
  where
    go : Dec (n < 10) → Dec (n < 100) → length (digits_of n) ≡ digits_size n
    go (yes p) q = rw (lt-ltb n 10 p) (one_digit n p)
    go (no p) (yes q) = rw (le-ltb n 10 (omega arith), lt-ltb n 100 q) (two_digits n (omega arith) q)
    go (no p) (no q) = rw (le-ltb n 10 (omega arith), le-ltb n 100 (omega arith)) (three_digits n (omega arith) h)

-- an item's size
pub item_size_lem : (T : Table) (texts : ℕ → List ℕ) (sizes : ℕ → ℕ) (numbers : List ℕ) (c : ℕ) → sizes c ≡ length (texts c)
    → get_or numbers c 0 ≤ 1000
    → length (item_text T texts numbers c) ≡ item_size T sizes numbers c
item_size_lem T texts sizes numbers c e h = go (T.variable c)
  where
    go : (b : Bool) → length (cond b (letter_at (T.kind c) ∷ digits_of (get_or numbers c 0 - 1)) (texts c))
        ≡ cond b (1 + digits_size (get_or numbers c 0 - 1)) (sizes c)
    go true = let z = digits_size_lem (get_or numbers c 0 - 1) (omega arith) in omega arith
    go false = sym e

module _ (T : Table) (texts : ℕ → List ℕ) (numbers : List ℕ) (size : ℕ → ℕ) (h : (c : ℕ) → length (item_text T texts numbers c) ≡ size c) where
  colons_size_lem : (cs : List ℕ) → length (colon_texts T texts numbers cs) ≡ colons_size size cs
  colons_size_lem [] = refl
  colons_size_lem (c ∷ cs) = omega (arith, length-append (item_text T texts numbers c) (colon_texts T texts numbers cs), h c, colons_size_lem cs)

  items_size_lem : (cs : List ℕ) → length (items_text T texts numbers cs) ≡ items_size size cs
  items_size_lem [] = refl
  items_size_lem (c ∷ cs) = omega (arith, length-append (item_text T texts numbers c) (colon_texts T texts numbers cs), h c, colons_size_lem cs)

  bars_size_lem : (is : List (List ℕ)) → length (bar_texts T texts numbers is) ≡ bars_size size is
  bars_size_lem [] = refl
  bars_size_lem (f ∷ is) = omega (arith, length-append (items_text T texts numbers f) (bar_texts T texts numbers is), items_size_lem f, bars_size_lem is)

  fields_size_lem : (is : List (List ℕ)) → length (fields_text T texts numbers is) ≡ fields_size size is
  fields_size_lem [] = refl
  fields_size_lem (f ∷ is) = omega (arith, length-append (items_text T texts numbers f) (bar_texts T texts numbers is), items_size_lem f, bars_size_lem is)

  bound_size_lem : (tag k n : ℕ) (cs : List ℕ) → length (bound_text T texts numbers tag k n cs) ≡ bound_size size n cs
  bound_size_lem tag k n cs = omega (arith, length-append (name_at k n) (61 ∷ items_text T texts numbers cs), items_size_lem cs)

  -- what a loop writes is as long as its parts
  loop_size : (f : ℕ → List ℕ) (g : ℕ → ℕ) → ((n : ℕ) → length (f n) ≡ g n) → (ns : List ℕ) → length (concat_map f ns) ≡ sum_of g ns
  loop_size f g e [] = refl
  loop_size f g e (n ∷ ns) = length-append (f n) (concat_map f ns) ∙ ap₂ (λ (a b : ℕ). a + b) (e n) (loop_size f g e ns)

  module _ (tag : ℕ) (ix tops : ℕ → ℕ) (atoms : List ℕ) (runs : ℕ → List ℕ) where
    ranked_size_lem : (k n : ℕ) → length (ranked_value T texts numbers tag ix atoms runs k n) ≡ ranked_size size ix atoms runs k n
    ranked_size_lem k n = go (has_at ix k n)
      where
        go : (b : Bool) → length (cond b (bound_text T texts numbers tag k n (value_at ix atoms runs k n)) [])
            ≡ cond b (bound_size size n (value_at ix atoms runs k n)) 0
        go true = bound_size_lem tag k n (value_at ix atoms runs k n)
        go false = refl

    rank_size : (k : ℕ) → length (rank_values T texts numbers tag ix tops atoms runs k) ≡ rank_sizes size ix tops atoms runs k
    rank_size k = loop_size (ranked_value T texts numbers tag ix atoms runs k) (ranked_size size ix atoms runs k) (ranked_size_lem k) (range 0 (tops k))

    pub values_size_lem : length (indexed_values T texts numbers tag ix tops atoms runs) ≡ values_size size ix tops atoms runs
    values_size_lem = loop_size (rank_values T texts numbers tag ix tops atoms runs) (rank_sizes size ix tops atoms runs) rank_size (range 0 4)

  -- THE SIZE of a line is a sum
  pub line_size : (x₁ t₁ x₂ t₂ : ℕ → ℕ) (Ps Qs : List (Spot ℕ)) (atoms : List ℕ) (is : List (List ℕ))
      → length (indexed_items T texts x₁ t₁ x₂ t₂ Ps Qs atoms is numbers) ≡ size_items size x₁ t₁ x₂ t₂ Ps Qs atoms is
  line_size x₁ t₁ x₂ t₂ Ps Qs atoms is =
      let a = fields_text T texts numbers is in
      let b = indexed_values T texts numbers left_tag x₁ t₁ atoms (run_on Ps is) in
      let c = indexed_values T texts numbers right_tag x₂ t₂ atoms (run_on Qs is) in
      length-append a (b ++ (c ++ 10 ∷ []))
      ∙ ap₂ (λ (m n : ℕ). m + n) (fields_size_lem is)
      (length-append b (c ++ 10 ∷ []) ∙ ap₂ (λ (m n : ℕ). m + n) (values_size_lem left_tag x₁ t₁ atoms (run_on Ps is))
      (length-append c (10 ∷ []) ∙ ap (λ (m : ℕ). m + 1) (values_size_lem right_tag x₂ t₂ atoms (run_on Qs is))))

-- ---- do two rules overlap

module _ {A : Type 0} where
  abbrev pub has_some : List A → Bool
  has_some [] = false
  has_some (x ∷ l) = true

  some_append : (s t : List A) → has_some (s ++ t) ≡ (has_some s || has_some t)
  some_append [] t = refl
  some_append (x ∷ s) t = refl

pub some_map : {A B : Type 0} (f : A → B) (s : List A) → has_some (map f s) ≡ has_some s
some_map f [] = refl
some_map f (x ∷ s) = refl

some_chosen : (k : List ℕ → List (List Cand × List ℕ)) (c : Cand) (o : Option (List ℕ)) → has_some (chosen c o k) ≡ or_clash o (λ next. has_some (k next))
some_chosen k c none = refl
some_chosen k c (some next) = some_map (λ e. (c ∷ e.0, e.1)) (k next)

clash_same : (o : Option (List ℕ)) (f g : List ℕ → Bool) → ((next : List ℕ) → f next ≡ g next) → or_clash o f ≡ or_clash o g
clash_same none f g h = refl
clash_same (some next) f g h = h next

module _ (below : ℕ → ℕ → Bool) (T : Table) {L M : Type 0} where
  -- THE TEST finds an entry exactly where there is one
  pub some_agrees : (Ps : List (Spot L)) (Qs : List (Spot M)) (atoms : List ℕ) → has_some (entries_on below T L M (map spot_shape Ps) (map spot_shape Qs) atoms)
      ≡ some_on below T Ps Qs atoms
  some_agrees [] [] atoms = refl
  some_agrees [] (Q ∷ Qs) atoms = refl
  some_agrees (P ∷ Ps) [] atoms = refl
  some_agrees (P ∷ Ps) (Q ∷ Qs) atoms =
      go (cands (spot_shape P) (spot_shape Q)) (λ c i. i) (λ next. some_agrees Ps Qs next) ∙ ap (any_of step) (spot_cands_lem P Q)
    where
      rest : List ℕ → List (List Cand × List ℕ)
      rest next = entries_on below T L M (map spot_shape Ps) (map spot_shape Qs) next

      step : Cand → Bool
      step c = or_clash (joins_on below T P Q c atoms) (λ next. some_on below T Ps Qs next)

      j : Cand → Option (List ℕ)
      j c = joins_places below T (equations (spot_shape P) (spot_shape Q) c) atoms

      go : (cs : List Cand) → ((c : Cand) → Memᴰ c cs → Memᴰ c (cands (spot_shape P) (spot_shape Q)))
          → ((next : List ℕ) → has_some (rest next) ≡ some_on below T Ps Qs next)
          → has_some (branch cs j rest) ≡ any_of step cs
      go [] i rec = refl
      go (c ∷ cs) i rec =
          some_append (chosen c (j c) rest) (branch cs j rest)
          ∙ ap₂ (λ (a b : Bool). a || b)
          (some_chosen rest c (j c)
          ∙ ap (λ (o : Option (List ℕ)). or_clash o (λ next. has_some (rest next))) (joins_on_lem below T P Q c (i c (Memᴰ.head refl)) atoms)
          ∙ clash_same (joins_on below T P Q c atoms) (λ next. has_some (rest next)) (λ next. some_on below T Ps Qs next) rec)
          (go cs (λ c' m. i c' (Memᴰ.tail m)) rec)
