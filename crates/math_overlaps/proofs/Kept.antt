-- What holds of the atoms of both rules holds of the atoms of the entries, whatever it is.
use mathlib.Core.Path.{◌≡◌, sym, subst as along}
use mathlib.Core.Logic.{ite}
use mathlib.Core.Bool.{Bool, true, false, cond}
use mathlib.Core.Option.{Option, none, some}
use mathlib.Core.List.{List, [], ◌∷◌, ◌++◌, map}
use mathlib.Core.List.Memᴰ
use mathlib.Core.List.{Memᴰ}
use Prim.Native.Nat.{ℕ, zero, suc, ◌+◌, ◌-◌, max}
use lib.ListN.{length, take, drop, replicate}
use Rattle.base_lists.specs.Seqs.{All, all_append, all_map, all_mapped}
use Rattle.math_types.specs.Order.{Order, Full, basic, list}
use Rattle.math_terms.specs.Terms.{Term, con, var}
use Rattle.math_terms.specs.Constants.{Consts}
use Rattle.math_terms.specs.Matcher.{and_then}
use Rattle.math_overlaps.specs.Shapes.{Atom, fixed, free, Vars, Side, Variable, of, Shape, closed, gapped, with_atom, with_list, both, shape_of, shapes_of}
use Rattle.math_overlaps.specs.Candidates.{Cand, exact, long, before, cands}
use Rattle.math_overlaps.specs.Joins.{At, State, start, resolve, replace, bind, join_classes, join, joins}
use Rattle.math_overlaps.specs.Entries.{row, meeting, merge, span, cells, equations, field_for, fields_for, entries}
use Rattle.math_overlaps.specs.Overlaps.{map_shape}
use Rattle.math_overlaps.proofs.Walks.{From, branch_from}

module _ {A : Type 0} (P : A → Type 0) where
  pub all_take : (n : ℕ) (l : List A) → All P l → All P (take n l)
  all_take zero l h = tt
  all_take (suc n) [] h = tt
  all_take (suc n) (x ∷ l) h = (h.0, all_take n l h.1)

  pub all_drop : (n : ℕ) (l : List A) → All P l → All P (drop n l)
  all_drop zero l h = h
  all_drop (suc n) [] h = tt
  all_drop (suc n) (x ∷ l) h = all_drop n l h.1

-- ---- the shapes of a rule's fields

module _ {C K A : Type 0} (Q : Atom C (Variable K A) → Type 0) (d : Side) where
  -- Q holds of the atom that the term is
  abbrev pub OnTerm : Term C (Full K) A → Type 0
  OnTerm (con c) = Q (fixed c)
  OnTerm (var (basic k) a) = Q (free (of d k a))
  OnTerm (var list a) = Unit {0}

module _ {A : Type 0} (P : A → Type 0) where
  module _ {L : Type 0} where
    -- P holds of every atom of the shape
    abbrev pub Every : Shape A L → Type 0
    Every (closed xs) = All P xs
    Every (gapped f l t) = All P f × All P t

module _ {C K A : Type 0} (Q : Atom C (Variable K A) → Type 0) (d : Side) where
  abbrev EverySome : Option (Shape (Atom C (Variable K A)) A) → Type 0
  EverySome none = Unit {0}
  EverySome (some S) = Every Q S

  with_atom_lem : (a : Atom C (Variable K A)) → Q a → (o : Option (Shape (Atom C (Variable K A)) A)) → EverySome o → EverySome (with_atom a o)
  with_atom_lem a h none k = tt
  with_atom_lem a h (some (closed xs)) k = (h, k)
  with_atom_lem a h (some (gapped p l t)) k = ((h, k.0), k.1)

  with_list_lem : (l : A) (o : Option (Shape (Atom C (Variable K A)) A)) → EverySome o → EverySome (with_list l o)
  with_list_lem l none k = tt
  with_list_lem l (some (closed xs)) k = (tt, k)
  with_list_lem l (some (gapped p m t)) k = tt

  shape_every : (f : List (Term C (Full K) A)) → All (OnTerm Q d) f → EverySome (shape_of d f)
  shape_every [] h = tt
  shape_every (con c ∷ f) h = with_atom_lem (fixed c) h.0 (shape_of d f) (shape_every f h.1)
  shape_every (var (basic k) a ∷ f) h = with_atom_lem (free (of d k a)) h.0 (shape_of d f) (shape_every f h.1)
  shape_every (var list a ∷ f) h = with_list_lem a (shape_of d f) (shape_every f h.1)

  abbrev AllSome : Option (List (Shape (Atom C (Variable K A)) A)) → Type 0
  AllSome none = Unit {0}
  AllSome (some Ss) = All (Every Q) Ss

  shapes_every : (r : List (List (Term C (Full K) A))) → All (All (OnTerm Q d)) r → AllSome (shapes_of d r)
  shapes_every [] h = tt
  shapes_every (f ∷ r) h = go (shape_of d f) (shape_every f h.0) (shapes_of d r) (shapes_every r h.1)
    where
      go : (o : Option (Shape (Atom C (Variable K A)) A)) → EverySome o → (p : Option (List (Shape (Atom C (Variable K A)) A))) → AllSome p → AllSome (both o p)
      go none k p k' = tt
      go (some S) k none k' = tt
      go (some S) k (some Ss) k' = (k, k')

  pub rule_every : (r : List (List (Term C (Full K) A))) (Ss : List (Shape (Atom C (Variable K A)) A))
      → shapes_of d r ≡ some Ss → All (All (OnTerm Q d)) r → All (Every Q) Ss
  rule_every r Ss e h = along AllSome e (shapes_every r h)

-- ---- rows and their merging

module _ {A : Type 0} (P : A → Type 0) where
  abbrev OnSome : Option A → Type 0
  OnSome none = Unit {0}
  OnSome (some a) = P a

  abbrev Both : A × A → Type 0
  Both e = P e.0 × P e.1

  all_some : (xs : List A) → All P xs → All OnSome (map some xs)
  all_some [] h = tt
  all_some (x ∷ xs) h = (h.0, all_some xs h.1)

  all_none : (n : ℕ) → All OnSome (replicate n none)
  all_none zero = tt
  all_none (suc n) = (tt, all_none n)

  all_meeting : (r q : List (Option A)) → All OnSome r → All OnSome q → All Both (meeting r q)
  all_meeting [] q h h' = tt
  all_meeting (o ∷ r) [] h h' = tt
  all_meeting (none ∷ r) (p ∷ q) h h' = all_meeting r q h.1 h'.1
  all_meeting (some a ∷ r) (none ∷ q) h h' = all_meeting r q h.1 h'.1
  all_meeting (some a ∷ r) (some b ∷ q) h h' = ((h.0, h'.0), all_meeting r q h.1 h'.1)

  all_merge : (r q : List (Option A)) → All OnSome r → All OnSome q → All P (merge r q)
  all_merge [] q h h' = tt
  all_merge (o ∷ r) [] h h' = tt
  all_merge (some a ∷ r) (p ∷ q) h h' = (h.0, all_merge r q h.1 h'.1)
  all_merge (none ∷ r) (some b ∷ q) h h' = (h'.0, all_merge r q h.1 h'.1)
  all_merge (none ∷ r) (none ∷ q) h h' = all_merge r q h.1 h'.1

  module _ {L : Type 0} where
    all_row : (n : ℕ) (S : Shape A L) → Every P S → All OnSome (row n S)
    all_row n (closed xs) h = all_some xs h
    all_row n (gapped f l t) h =
        let mid = replicate (n - (length f + length t)) none in
        all_append OnSome (map some f) (mid ++ map some t) (all_some f h.0)
        (all_append OnSome mid (map some t) (all_none (n - (length f + length t))) (all_some t h.1))

  module _ {L M : Type 0} where
    pub all_equations : (S : Shape A L) (T : Shape A M) (c : Cand) → Every P S → Every P T → All Both (equations S T c)
    all_equations S T c h h' = all_meeting (row (span S T c) S) (row (span S T c) T) (all_row (span S T c) S h) (all_row (span S T c) T h')

    all_cells : (S : Shape A L) (T : Shape A M) (c : Cand) → Every P S → Every P T → All P (cells S T c)
    all_cells S T c h h' = all_merge (row (span S T c) S) (row (span S T c) T) (all_row (span S T c) S h) (all_row (span S T c) T h')

    every_field : (g : ℕ) (S : Shape A L) (T : Shape A M) (c : Cand) → Every P S → Every P T → Every P (field_for g S T c)
    every_field g S T (exact n) h h' = all_cells S T (exact n) h h'
    every_field g S T long h h' =
        let H = max (before S) (before T) in
        let z = all_cells S T long h h' in
        (all_take P H (cells S T long) z, all_drop P H (cells S T long) z)

    pub every_fields : (g : ℕ) (Ss : List (Shape A L)) (Ts : List (Shape A M)) (cs : List Cand)
        → All (Every P) Ss → All (Every P) Ts → All (Every P) (fields_for g Ss Ts cs)
    every_fields g [] Ts cs h h' = tt
    every_fields g (S ∷ Ss) [] cs h h' = tt
    every_fields g (S ∷ Ss) (T ∷ Ts) [] h h' = tt
    every_fields g (S ∷ Ss) (T ∷ Ts) (c ∷ cs) h h' = (every_field g S T c h.0 h'.0, every_fields (suc g) Ss Ts cs h.1 h'.1)

module _ {A : Type 0} (P : A → Type 0) (f : A → A) (keeps : (a : A) → P a → P (f a)) where
  all_kept : (xs : List A) → All P xs → All P (map f xs)
  all_kept xs h = all_mapped P f xs (all_map P (λ a. P (f a)) keeps xs h)

  module _ {L : Type 0} where
    every_mapped : (S : Shape A L) → Every P S → Every P (map_shape f S)
    every_mapped (closed xs) h = all_kept xs h
    every_mapped (gapped p l t) h = (all_kept p h.0, all_kept t h.1)

    pub all_shapes_mapped : (Ss : List (Shape A L)) → All (Every P) Ss → All (Every P) (map (map_shape f) Ss)
    all_shapes_mapped [] h = tt
    all_shapes_mapped (S ∷ Ss) h = (every_mapped S h.0, all_shapes_mapped Ss h.1)

-- ---- states

module _ (O : Order) (C : Consts O) (N : Vars O) (P : At O C N → Type 0) where
  -- what the state has for an atom with P has P
  abbrev pub Keeps : State O C N → Type 0
  Keeps s = (a : At O C N) → P a → P (resolve O C N s a)

  abbrev KeepsSome : Option (State O C N) → Type 0
  KeepsSome none = Unit {0}
  KeepsSome (some s) = Keeps s

  pub start_keeps : Keeps (start O C N)
  start_keeps (fixed c) h = h
  start_keeps (free x) h = h

  replace_keeps : (x : N.Var) (w : At O C N) → P w → (a : At O C N) → P a → P (replace O C N x w a)
  replace_keeps x w hw (fixed c) h = h
  replace_keeps x w hw (free z) h = go (N.var_eq z x)
    where
      go : (d : Dec (z ≡ x)) → P (ite d w (free z))
      go (yes e) = hw
      go (no n) = h

  bind_keeps : (s : State O C N) → Keeps s → (x : N.Var) (w : At O C N) → P w → Keeps (bind O C N x w s)
  bind_keeps s k x w hw (fixed c) h = h
  bind_keeps s k x w hw (free z) h = replace_keeps x w hw (s z) (k (free z) h)

  cond_keeps : (b : Bool) (o p : Option (State O C N)) → KeepsSome o → KeepsSome p → KeepsSome (cond b o p)
  cond_keeps true o p h k = h
  cond_keeps false o p h k = k

  classes_keep : (s : State O C N) → Keeps s → (a b : At O C N) → P a → P b → KeepsSome (join_classes O C N s a b)
  classes_keep s k (fixed c) (fixed d) h h' = go (C.con_eq c d)
    where
      go : (q : Dec (c ≡ d)) → KeepsSome (ite q (some s) none)
      go (yes e) = k
      go (no n) = tt
  classes_keep s k (fixed c) (free y) h h' =
      cond_keeps (O.le (C.con_kind c) (N.sort y)) (some (bind O C N y (fixed c) s)) none (bind_keeps s k y (fixed c) h) tt
  classes_keep s k (free x) (fixed d) h h' =
      cond_keeps (O.le (C.con_kind d) (N.sort x)) (some (bind O C N x (fixed d) s)) none (bind_keeps s k x (fixed d) h') tt
  classes_keep s k (free x) (free y) h h' = go (N.var_eq x y)
    where
      rest : Option (State O C N)
      rest = cond (O.le (N.sort x) (N.sort y)) (some (bind O C N y (free x) s)) none

      go : (q : Dec (x ≡ y))
          → KeepsSome (ite q (some s)
          (cond (O.le (N.sort y) (N.sort x)) (some (bind O C N x (free y) s)) (cond (O.le (N.sort x) (N.sort y)) (some (bind O C N y (free x) s)) none)))
      go (yes e) = k
      go (no n) = cond_keeps (O.le (N.sort y) (N.sort x)) (some (bind O C N x (free y) s)) rest (bind_keeps s k x (free y) h')
          (cond_keeps (O.le (N.sort x) (N.sort y)) (some (bind O C N y (free x) s)) none (bind_keeps s k y (free x) h) tt)

  joins_keep : (es : List (At O C N × At O C N)) → All (Both P) es → (s : State O C N) → Keeps s → KeepsSome (joins O C N es s)
  joins_keep [] h s k = k
  joins_keep (e ∷ es) h s k =
      go (join O C N s e.0 e.1)
      (classes_keep s k (resolve O C N s e.0) (resolve O C N s e.1) (k e.0 h.0.0) (k e.1 h.0.1)) (λ s' k'. joins_keep es h.1 s' k')
    where
      go : (o : Option (State O C N)) → KeepsSome o → ((s' : State O C N) → Keeps s' → KeepsSome (joins O C N es s'))
          → KeepsSome (and_then o (λ s'. joins O C N es s'))
      go none k' rec = tt
      go (some s') k' rec = rec s' k'

  module _ (L M : Type 0) where
    pub entries_keep : (Ss : List (Shape (At O C N) L)) (Ts : List (Shape (At O C N) M)) → All (Every P) Ss → All (Every P) Ts → (s : State O C N) → Keeps s
        → (e : List Cand × State O C N) → Memᴰ e (entries O C N L M Ss Ts s) → Keeps e.1
    entries_keep [] [] h h' s k e i = along (λ (x : List Cand × State O C N). Keeps x.1) (sym (Memᴰ.eq_of_singleton i)) k
    entries_keep [] (T ∷ Ts) h h' s k e i = absurd (Memᴰ.not-nil i)
    entries_keep (S ∷ Ss) [] h h' s k e i = absurd (Memᴰ.not-nil i)
    entries_keep (S ∷ Ss) (T ∷ Ts) h h' s k e i =
        along (λ (x : List Cand × State O C N). Keeps x.1) (sym f.is) (entries_keep Ss Ts h.1 h'.1 f.next next f.rest f.rest_in)
      where
        f : From (cands S T) (λ c. joins O C N (equations S T c) s) (λ s'. entries O C N L M Ss Ts s') e
        f = branch_from (cands S T) (λ c. joins O C N (equations S T c) s) (λ s'. entries O C N L M Ss Ts s') e i

        next : Keeps f.next
        next = along KeepsSome f.joined (joins_keep (equations S T f.cand) (all_equations P S T f.cand h.0 h'.0) s k)

    -- the fields of an entry, every atom as its state has it
    pub entry_every : (Ss : List (Shape (At O C N) L)) (Ts : List (Shape (At O C N) M)) → All (Every P) Ss
        → All (Every P) Ts → (e : List Cand × State O C N) → Memᴰ e (entries O C N L M Ss Ts (start O C N))
        → Keeps e.1 × All (Every P) (map (map_shape (resolve O C N e.1)) (fields_for 0 Ss Ts e.0))
    entry_every Ss Ts h h' e i =
        let k = entries_keep Ss Ts h h' (start O C N) start_keeps e i in
        (k, all_shapes_mapped P (resolve O C N e.1) k (fields_for 0 Ss Ts e.0) (every_fields P 0 Ss Ts e.0 h h'))
