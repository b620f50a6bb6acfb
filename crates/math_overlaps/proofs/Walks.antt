-- Along the fields: a filling of both rules goes to an entry, and a filling of an entry fills both rules.
use mathlib.Core.Path.{◌≡◌, refl, sym, ◌∙◌, ap, ap₂, subst as along}
use mathlib.Core.Logic.{◌⊎◌, inl, inr}
use mathlib.Core.Option.{Option, none, some, none-ne-some, some-injective}
use mathlib.Core.List.{List, [], ◌∷◌, ◌++◌, head-eq_of_cons-eq, tail-eq_of_cons-eq}
use mathlib.Core.List.Memᴰ
use mathlib.Core.List.{Memᴰ}
use Prim.Native.Nat.{ℕ, suc}
use lib.ListN.{length}
use Rattle.math_types.specs.Order.{Order}
use Rattle.math_terms.specs.Constants.{Consts}
use Rattle.math_terms.specs.Seqs.{Distinct}
use Rattle.math_overlaps.specs.Shapes.{val, Vars, Shape}
use Rattle.math_overlaps.specs.Candidates.{Cand, cands}
use Rattle.math_overlaps.specs.Joins.{At, State, joins}
use Rattle.math_overlaps.specs.Entries.{equations, field_for, fields_for, chosen, branch, entries}
use Rattle.math_overlaps.proofs.Seqs.{SolvesV, distinct_append, distinct_map}
use Rattle.math_overlaps.proofs.Joins.{val_g, Good, Typed, Respects, joins_out, Solves, Out, RespectsY, joins_snd, Snd}
use Rattle.math_overlaps.proofs.Candidates.{pick, cands_distinct}
use Rattle.math_overlaps.proofs.Rows.{Inst}
use Rattle.math_overlaps.proofs.Pairs.{pair_to, pair_from, entry_pick}

module _ {S : Type 0} where
  pub in_branch : (cs : List Cand) (j : Cand → Option S) (k : S → List (List Cand × S)) (c : Cand) → Memᴰ c cs → (s : S) → j c ≡ some s
      → (e : List Cand × S) → Memᴰ e (k s) → Memᴰ (c ∷ e.0, e.1) (branch cs j k)
  in_branch [] j k c i s h e m = absurd (Memᴰ.not-nil i)
  in_branch (d ∷ cs) j k c i s h e m = go (Memᴰ.cases_cons i) (λ i'. in_branch cs j k c i' s h e m)
    where
      here : (o : Option S) → o ≡ some s → Memᴰ (c ∷ e.0, e.1) (chosen c o k)
      here none q = absurd (none-ne-some s q)
      here (some s₁) q = Memᴰ.map (λ e. (c ∷ e.0, e.1)) (along (λ (z : S). Memᴰ e (k z)) (sym (some-injective s₁ s q)) m)

      go : (c ≡ d) ⊎ Memᴰ c cs → (Memᴰ c cs → Memᴰ (c ∷ e.0, e.1) (branch cs j k))
          → Memᴰ (c ∷ e.0, e.1) (chosen d (j d) k ++ branch cs j k)
      go (inl q) rec = Memᴰ.append_left (branch cs j k) (along (λ (z : Cand). Memᴰ (c ∷ e.0, e.1) (chosen z (j z) k)) q (here (j c) h))
      go (inr q) rec = Memᴰ.append_right (chosen d (j d) k) (rec q)

  pub record From (cs : List Cand) (j : Cand → Option S) (k : S → List (List Cand × S)) (e : List Cand × S) : Type 0 where
    pub cand : Cand
    pub cand_in : Memᴰ cand cs
    pub next : S
    pub joined : j cand ≡ some next
    pub rest : List Cand × S
    pub rest_in : Memᴰ rest (k next)
    pub is : e ≡ (cand ∷ rest.0, rest.1)

  pub branch_from : (cs : List Cand) (j : Cand → Option S) (k : S → List (List Cand × S)) (e : List Cand × S) → Memᴰ e (branch cs j k) → From cs j k e
  branch_from [] j k e i = absurd (Memᴰ.not-nil i)
  branch_from (c ∷ cs) j k e i = go (Memᴰ.append_cases (chosen c (j c) k) i) (λ i'. branch_from cs j k e i')
    where
      here : (o : Option S) → j c ≡ o → Memᴰ e (chosen c o k) → From (c ∷ cs) j k e
      here none q m = absurd (Memᴰ.not-nil m)
      here (some s) q m =
          let u = Memᴰ.of_map (λ e. (c ∷ e.0, e.1)) (k s) m in
          record { cand = c; cand_in = Memᴰ.head refl; next = s; joined = q; rest = u.0; rest_in = u.1; is = sym u.2 }

      wider : From cs j k e → From (c ∷ cs) j k e
      wider r =
          record { cand = r.cand; cand_in = Memᴰ.tail r.cand_in; next = r.next; joined = r.joined; rest = r.rest; rest_in = r.rest_in; is = r.is }

      go : Memᴰ e (chosen c (j c) k) ⊎ Memᴰ e (branch cs j k) → (Memᴰ e (branch cs j k) → From cs j k e) → From (c ∷ cs) j k e
      go (inl m) rec = here (j c) refl m
      go (inr m) rec = wider (rec m)

  pub branch_distinct : (cs : List Cand) (j : Cand → Option S) (k : S → List (List Cand × S))
      → Distinct cs → ((s : S) → Distinct (k s)) → Distinct (branch cs j k)
  branch_distinct [] j k d h = tt
  branch_distinct (c ∷ cs) j k d h =
      distinct_append (chosen c (j c) k) (branch cs j k) (own (j c)) (branch_distinct cs j k d.1 h) (λ z p q. apart z (j c) p (branch_from cs j k z q))
    where
      own : (o : Option S) → Distinct (chosen c o k)
      own none = tt
      own (some s) = distinct_map (λ e. (c ∷ e.0, e.1)) (k s) (λ x y p. same x y p) (h s)
        where
          same : (x y : List Cand × S) → ◌≡◌ {A = List Cand × S} (c ∷ x.0, x.1) (c ∷ y.0, y.1) → x ≡ y
          same x y p = λ i. (tail-eq_of_cons-eq (ap (λ (e : List Cand × S). e.0) p) i, (p i).1)

      apart : (z : List Cand × S) (o : Option S) → Memᴰ z (chosen c o k) → From cs j k z → ⊥
      apart z none p r = Memᴰ.not-nil p
      apart z (some s) p r =
          let u = Memᴰ.of_map (λ e. (c ∷ e.0, e.1)) (k s) p in
          d.0 (Memᴰ.cast (head-eq_of_cons-eq (ap (λ (e : List Cand × S). e.0) (u.2 ∙ r.is))) r.cand_in)

-- the candidates that a slip picks
module _ {A C L M : Type 0} where
  abbrev pub picks : List (Shape A L) → List (Shape A M) → List (List C) → List Cand
  picks [] Ts ws = []
  picks (S ∷ Ss) [] ws = []
  picks (S ∷ Ss) (T ∷ Ts) [] = []
  picks (S ∷ Ss) (T ∷ Ts) (w ∷ ws) = pick S T (length w) ∷ picks Ss Ts ws

module _ {A C : Type 0} (v : A → C) where
  -- a slip is an instance of shapes: as many fields, and each an instance
  module _ {L : Type 0} where
    abbrev pub Insts : List (Shape A L) → List (List C) → Type 0
    Insts [] [] = Unit {0}
    Insts [] (w ∷ ws) = ⊥
    Insts (S ∷ Ss) [] = ⊥
    Insts (S ∷ Ss) (w ∷ ws) = Inst v S w × Insts Ss ws

module _ (O : Order) (C : Consts O) (N : Vars O) (L M : Type 0) where
  abbrev Sh : Type 0
  Sh = Shape (At O C N) L

  abbrev Sh' : Type 0
  Sh' = Shape (At O C N) M

  pub entries_distinct : (Ss : List Sh) (Ts : List Sh') (s : State O C N) → Distinct (entries O C N L M Ss Ts s)
  entries_distinct [] [] s = (λ i. Memᴰ.not-nil i, tt)
  entries_distinct [] (T ∷ Ts) s = tt
  entries_distinct (S ∷ Ss) [] s = tt
  entries_distinct (S ∷ Ss) (T ∷ Ts) s =
      branch_distinct (cands S T) (λ c. joins O C N (equations S T c) s) (λ s'. entries O C N L M Ss Ts s') (cands_distinct S T)
      (λ s'. entries_distinct Ss Ts s')

  -- ONE WAY: a filling of both sides goes along the choice that the slip picks, to a state that it respects
  pub walk_to : (g : ℕ) (θ : N.Var → C.Con) → Typed O C N θ
      → (Ss : List Sh) (Ts : List Sh') (ws : List (List C.Con)) (s : State O C N) → Good O C N s → Respects O C N θ s
      → Insts (val_g θ) Ss ws → Insts (val_g θ) Ts ws
      → (s' : State O C N) × Memᴰ (picks Ss Ts ws, s') (entries O C N L M Ss Ts s)
      × Respects O C N θ s' × Insts (val_g θ) (fields_for g Ss Ts (picks Ss Ts ws)) ws
  walk_to g θ ty [] [] [] s gd r p q = (s, Memᴰ.head refl, r, tt)
  walk_to g θ ty [] [] (w ∷ ws) s gd r p q = absurd p
  walk_to g θ ty [] (T ∷ Ts) [] s gd r p q = absurd q
  walk_to g θ ty [] (T ∷ Ts) (w ∷ ws) s gd r p q = absurd p
  walk_to g θ ty (S ∷ Ss) Ts [] s gd r p q = absurd p
  walk_to g θ ty (S ∷ Ss) [] (w ∷ ws) s gd r p q = absurd q
  walk_to g θ ty (S ∷ Ss) (T ∷ Ts) (w ∷ ws) s gd r p q =
      go (joins O C N es s) refl (joins_out O C N es s gd) (λ s₁ g₁ r₁. walk_to (suc g) θ ty Ss Ts ws s₁ g₁ r₁ p.1 q.1)
    where
      c : Cand
      c = pick S T (length w)

      es : List (At O C N × At O C N)
      es = equations S T c

      m : Memᴰ c (cands S T) × SolvesV (val_g θ) es × Inst (val_g θ) (field_for g S T c) w
      m = pair_to (val_g θ) g S T w p.0 q.0

      After : State O C N → Type 0
      After s₁ =
          (s' : State O C N) × Memᴰ (picks Ss Ts ws, s') (entries O C N L M Ss Ts s₁)
          × Respects O C N θ s' × Insts (val_g θ) (fields_for (suc g) Ss Ts (picks Ss Ts ws)) ws

      go : (o : Option (State O C N)) → joins O C N es s ≡ o → Out O C N s (Solves O C N es) o
          → ((s₁ : State O C N) → Good O C N s₁ → Respects O C N θ s₁ → After s₁)
          → (s' : State O C N) × Memᴰ (c ∷ picks Ss Ts ws, s') (entries O C N L M (S ∷ Ss) (T ∷ Ts) s)
          × Respects O C N θ s' × Insts (val_g θ) (fields_for g (S ∷ Ss) (T ∷ Ts) (c ∷ picks Ss Ts ws)) (w ∷ ws)
      go none e h rec = absurd (h θ ty r m.1)
      go (some s₁) e h rec =
          let a = rec s₁ h.0 ((h.1 θ ty).0 (r, m.1)) in (
            a.0,
            in_branch (cands S T) (λ c. joins O C N (equations S T c) s) (λ s'. entries O C N L M Ss Ts s') c m.0 s₁ e (picks Ss Ts ws, a.0) a.1,
            a.2,
            (m.2, a.3),
          )

  -- THE OTHER WAY: a filling (by constants, or by terms) that respects an entry's state and fills its fields fills both sides the same
  module _ {Y : Type 0} (ι : C.Con → Y) (θ : N.Var → Y) where
    pub walk_back : (g : ℕ) (Ss : List Sh) (Ts : List Sh') (s : State O C N) → Good O C N s
        → (e : List Cand × State O C N) → Memᴰ e (entries O C N L M Ss Ts s)
        → RespectsY O C N ι θ e.1 → (ws : List (List Y)) → Insts (val ι θ) (fields_for g Ss Ts e.0) ws
        → RespectsY O C N ι θ s × Insts (val ι θ) Ss ws × Insts (val ι θ) Ts ws
    walk_back g [] [] s gd e i r ws k = (along (RespectsY O C N ι θ) (ap (λ (x : List Cand × State O C N). x.1) (Memᴰ.eq_of_singleton i)) r, k, k)
    walk_back g [] (T ∷ Ts) s gd e i r ws k = absurd (Memᴰ.not-nil i)
    walk_back g (S ∷ Ss) [] s gd e i r ws k = absurd (Memᴰ.not-nil i)
    walk_back g (S ∷ Ss) (T ∷ Ts) s gd e i r ws k =
        go ws (along (λ (x : List Cand × State O C N). Insts (val ι θ) (fields_for g (S ∷ Ss) (T ∷ Ts) x.0) ws) f.is k)
        (λ us j. walk_back (suc g) Ss Ts f.next good₁.0 f.rest f.rest_in
        (along (λ (x : List Cand × State O C N). RespectsY O C N ι θ x.1) f.is r) us j)
      where
        f : From (cands S T) (λ c. joins O C N (equations S T c) s) (λ s'. entries O C N L M Ss Ts s') e
        f = branch_from (cands S T) (λ c. joins O C N (equations S T c) s) (λ s'. entries O C N L M Ss Ts s') e i

        es : List (At O C N × At O C N)
        es = equations S T f.cand

        good₁ : Out O C N s (Solves O C N es) (some f.next)
        good₁ = along (Out O C N s (Solves O C N es)) f.joined (joins_out O C N es s gd)

        solved : (θ : N.Var → Y) → RespectsY O C N ι θ f.next → RespectsY O C N ι θ s × SolvesV (val ι θ) es
        solved = along (Snd O C N ι s (λ θ. SolvesV (val ι θ) es)) f.joined (joins_snd O C N ι es s gd)

        go : (ws : List (List Y)) → Insts (val ι θ) (fields_for g (S ∷ Ss) (T ∷ Ts) (f.cand ∷ f.rest.0)) ws
            → ((us : List (List Y)) → Insts (val ι θ) (fields_for (suc g) Ss Ts f.rest.0) us
            → RespectsY O C N ι θ f.next × Insts (val ι θ) Ss us × Insts (val ι θ) Ts us)
            → RespectsY O C N ι θ s × Insts (val ι θ) (S ∷ Ss) ws × Insts (val ι θ) (T ∷ Ts) ws
        go [] k rec = absurd k
        go (w ∷ ws) k rec =
            let t = rec ws k.1 in
            let u = solved θ t.0 in
            let x = pair_from (val ι θ) g S T f.cand f.cand_in w u.1 k.0 in
            (u.0, (x.0, t.1), (x.1, t.2))

  -- an entry's state is good, and what fits its fields picks its choice
  pub record Known (g : ℕ) (Ss : List Sh) (Ts : List Sh') (e : List Cand × State O C N) : Type 0 where
    pub good : Good O C N e.1
    pub picked : (v : At O C N → C.Con) (ws : List (List C.Con)) → Insts v (fields_for g Ss Ts e.0) ws → picks Ss Ts ws ≡ e.0

  pub known : (g : ℕ) (Ss : List Sh) (Ts : List Sh') (s : State O C N) → Good O C N s
      → (e : List Cand × State O C N) → Memᴰ e (entries O C N L M Ss Ts s) → Known g Ss Ts e
  known g [] [] s gd e i = along (Known g [] []) (sym (Memᴰ.eq_of_singleton i)) (record { good = gd; picked = λ v ws h. refl })
  known g [] (T ∷ Ts) s gd e i = absurd (Memᴰ.not-nil i)
  known g (S ∷ Ss) [] s gd e i = absurd (Memᴰ.not-nil i)
  known g (S ∷ Ss) (T ∷ Ts) s gd e i = along (Known g (S ∷ Ss) (T ∷ Ts)) (sym f.is) (go (known (suc g) Ss Ts f.next good₁.0 f.rest f.rest_in))
    where
      f : From (cands S T) (λ c. joins O C N (equations S T c) s) (λ s'. entries O C N L M Ss Ts s') e
      f = branch_from (cands S T) (λ c. joins O C N (equations S T c) s) (λ s'. entries O C N L M Ss Ts s') e i

      good₁ : Out O C N s (Solves O C N (equations S T f.cand)) (some f.next)
      good₁ = along (Out O C N s (Solves O C N (equations S T f.cand))) f.joined (joins_out O C N (equations S T f.cand) s gd)

      go : Known (suc g) Ss Ts f.rest → Known g (S ∷ Ss) (T ∷ Ts) (f.cand ∷ f.rest.0, f.rest.1)
      go b = record { good = b.good; picked = picked₁ }
        where
          picked₁ : (v : At O C N → C.Con) (ws : List (List C.Con))
              → Insts v (fields_for g (S ∷ Ss) (T ∷ Ts) (f.cand ∷ f.rest.0)) ws → picks (S ∷ Ss) (T ∷ Ts) ws ≡ f.cand ∷ f.rest.0
          picked₁ v [] k = absurd k
          picked₁ v (w ∷ ws) k = ap₂ (λ (x : Cand) (y : List Cand). x ∷ y) (entry_pick v g S T f.cand f.cand_in w k.0) (b.picked v ws k.1)
