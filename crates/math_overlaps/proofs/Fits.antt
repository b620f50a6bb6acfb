-- A slip that both rules match fits an entry; a slip that fits an entry picks its choice; and an entry is known by its choice.
use mathlib.Core.Path.{◌≡◌, refl, sym, ◌∙◌, ap, ap₂, subst as along, fun_ext}
use mathlib.Core.Option.{some-injective}
use mathlib.Core.List.{List, [], ◌∷◌, ◌++◌, map, map-map, head-eq_of_cons-eq, tail-eq_of_cons-eq}
use mathlib.Core.List.Memᴰ
use mathlib.Core.List.{Memᴰ}
use Prim.Native.Nat.{ℕ}
use Rattle.math_types.specs.Order.{Order}
use Rattle.math_terms.specs.Constants.{Consts}
use Rattle.math_overlaps.specs.Shapes.{Vars, Shape, closed, gapped}
use Rattle.math_overlaps.specs.Candidates.{Cand, cands}
use Rattle.math_overlaps.specs.Joins.{At, State, start, joins}
use Rattle.math_overlaps.specs.Entries.{equations, fields_for, entries}
use Rattle.math_overlaps.specs.Overlaps.{map_shape}
use Rattle.math_overlaps.proofs.Joins.{val_g, sub_a, val_sub, start_good, start_respects, Typed, Respects, val_respects}
use Rattle.math_overlaps.proofs.Rows.{Inst}
use Rattle.math_overlaps.proofs.Walks.{From, branch_from, Insts, picks, walk_to, known, Known}

module _ {A B C L : Type 0} where
  inst_map : (v : B → C) (f : A → B) (S : Shape A L) (w : List C) → Inst v (map_shape f S) w ≡ Inst (λ a. v (f a)) S w
  inst_map v f (closed xs) w = ap (λ (l : List C). w ≡ l) (map-map v f xs)
  inst_map v f (gapped p l t) w = ap₂ (λ (x y : List C). (m : List C) × (w ≡ x ++ (m ++ y))) (map-map v f p) (map-map v f t)

  pub insts_map : (v : B → C) (f : A → B) (Ss : List (Shape A L)) (ws : List (List C)) → Insts v (map (map_shape f) Ss) ws ≡ Insts (λ a. v (f a)) Ss ws
  insts_map v f [] [] = refl
  insts_map v f [] (w ∷ ws) = refl
  insts_map v f (S ∷ Ss) [] = refl
  insts_map v f (S ∷ Ss) (w ∷ ws) = ap₂ (λ (X Y : Type 0). X × Y) (inst_map v f S w) (insts_map v f Ss ws)

module _ (O : Order) (C : Consts O) (N : Vars O) (L M : Type 0) where
  -- both rules match the slip
  abbrev pub Shared : List (Shape (At O C N) L) → List (Shape (At O C N) M) → List (List C.Con) → Type 0
  Shared Ss Ts ws = (θ : N.Var → C.Con) × Typed O C N θ × Insts (val_g θ) Ss ws × Insts (val_g θ) Ts ws

  -- the fields of an entry, resolved by its state
  abbrev pub resolved : List (Shape (At O C N) L) → List (Shape (At O C N) M) → List Cand × State O C N → List (Shape (At O C N) ℕ)
  resolved Ss Ts e = map (map_shape (sub_a e.1)) (fields_for 0 Ss Ts e.0)

  abbrev pub FitsEntry : List (Shape (At O C N) L) → List (Shape (At O C N) M) → List Cand × State O C N → List (List C.Con) → Type 0
  FitsEntry Ss Ts e ws = (τ : N.Var → C.Con) × Typed O C N τ × Insts (val_g τ) (resolved Ss Ts e) ws

  abbrev pub the_entries : List (Shape (At O C N) L) → List (Shape (At O C N) M) → List (List Cand × State O C N)
  the_entries Ss Ts = entries O C N L M Ss Ts (start O C N)

  module _ (Ss : List (Shape (At O C N) L)) (Ts : List (Shape (At O C N) M)) where
    -- a filling that respects the entry's state fills the entry's resolved fields as it fills the unresolved ones
    same_fields : (e : List Cand × State O C N) (θ : N.Var → C.Con) → Respects O C N θ e.1 → (ws : List (List C.Con))
        → Insts (val_g θ) (resolved Ss Ts e) ws ≡ Insts (val_g θ) (fields_for 0 Ss Ts e.0) ws
    same_fields e θ r ws = insts_map (val_g θ) (sub_a e.1) (fields_for 0 Ss Ts e.0) ws
        ∙ ap (λ (v : At O C N → C.Con). Insts v (fields_for 0 Ss Ts e.0) ws) (fun_ext (λ a. val_respects O C N θ e.1 r a))

    through_fields : (e : List Cand × State O C N) (τ : N.Var → C.Con) (ws : List (List C.Con))
        → Insts (val_g τ) (resolved Ss Ts e) ws ≡ Insts (val_g (λ x. val_g τ (e.1 x))) (fields_for 0 Ss Ts e.0) ws
    through_fields e τ ws = insts_map (val_g τ) (sub_a e.1) (fields_for 0 Ss Ts e.0) ws
        ∙ ap (λ (v : At O C N → C.Con). Insts v (fields_for 0 Ss Ts e.0) ws) (fun_ext (λ a. val_sub (λ c. c) τ e.1 a))

    from_start : (e : List Cand × State O C N) → Memᴰ e (the_entries Ss Ts) → Known O C N L M 0 Ss Ts e
    from_start e i = known O C N L M 0 Ss Ts (start O C N) (start_good O C N) e i

    -- a slip that both rules match fits an entry
    pub has_entry : (ws : List (List C.Con)) → Shared Ss Ts ws → (e : List Cand × State O C N) × Memᴰ e (the_entries Ss Ts) × FitsEntry Ss Ts e ws
    has_entry ws h =
        let r = walk_to O C N L M 0 h.0 h.1 Ss Ts ws (start O C N) (start_good O C N) (start_respects O C N h.0) h.2 h.3 in
        ((picks Ss Ts ws, r.0), r.1, (h.0, h.1, along (λ (X : Type 0). X) (sym (same_fields (picks Ss Ts ws, r.0) h.0 r.2 ws)) r.3))

    -- a slip that fits an entry picks its choice
    pub fits_picks : (e : List Cand × State O C N) → Memᴰ e (the_entries Ss Ts)
        → (ws : List (List C.Con)) → FitsEntry Ss Ts e ws → picks Ss Ts ws ≡ e.0
    fits_picks e i ws h = (from_start e i).picked (val_g (λ x. val_g h.0 (e.1 x))) ws (along (λ (X : Type 0). X) (through_fields e h.0 ws) h.2)

  -- an entry is known by its choice
  pub by_choice : (Ss : List (Shape (At O C N) L)) (Ts : List (Shape (At O C N) M)) (s : State O C N) (e e' : List Cand × State O C N)
      → Memᴰ e (entries O C N L M Ss Ts s) → Memᴰ e' (entries O C N L M Ss Ts s) → e.0 ≡ e'.0 → e ≡ e'
  by_choice [] [] s e e' i i' p = Memᴰ.eq_of_singleton i ∙ sym (Memᴰ.eq_of_singleton i')
  by_choice [] (T ∷ Ts) s e e' i i' p = absurd (Memᴰ.not-nil i)
  by_choice (S ∷ Ss) [] s e e' i i' p = absurd (Memᴰ.not-nil i)
  by_choice (S ∷ Ss) (T ∷ Ts) s e e' i i' p = go (λ s₁ x y m m' q. by_choice Ss Ts s₁ x y m m' q)
      (branch_from (cands S T) (λ c. joins O C N (equations S T c) s) (λ s'. entries O C N L M Ss Ts s') e i)
      (branch_from (cands S T) (λ c. joins O C N (equations S T c) s) (λ s'. entries O C N L M Ss Ts s') e' i')
    where
      Fr : List Cand × State O C N → Type 0
      Fr x = From (cands S T) (λ c. joins O C N (equations S T c) s) (λ s'. entries O C N L M Ss Ts s') x

      go : ((s₁ : State O C N) (x y : List Cand × State O C N) → Memᴰ x (entries O C N L M Ss Ts s₁)
          → Memᴰ y (entries O C N L M Ss Ts s₁) → x.0 ≡ y.0 → x ≡ y)
          → Fr e → Fr e' → e ≡ e'
      go rec a b = a.is ∙ ap₂ (λ (c : Cand) (x : List Cand × State O C N). (c ∷ x.0, x.1)) hc hr ∙ sym b.is
        where
          whole : a.cand ∷ a.rest.0 ≡ b.cand ∷ b.rest.0
          whole = sym (ap (λ (x : List Cand × State O C N). x.0) a.is) ∙ p ∙ ap (λ (x : List Cand × State O C N). x.0) b.is

          hc : a.cand ≡ b.cand
          hc = head-eq_of_cons-eq whole

          hn : a.next ≡ b.next
          hn = some-injective a.next b.next (sym a.joined ∙ ap (λ (c : Cand). joins O C N (equations S T c) s) hc ∙ b.joined)

          hr : a.rest ≡ b.rest
          hr =
              rec b.next a.rest b.rest
              (along (λ (z : State O C N). Memᴰ a.rest (entries O C N L M Ss Ts z)) hn a.rest_in) b.rest_in (tail-eq_of_cons-eq whole)
