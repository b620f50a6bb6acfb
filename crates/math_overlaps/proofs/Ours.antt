-- The constants of the entries, in their fields and in the values shown, are constants of the rules.
use mathlib.Core.Path.{◌≡◌}
use mathlib.Core.Logic.{ite}
use mathlib.Core.Option.{some}
use mathlib.Core.List.{List, [], ◌∷◌, map}
use mathlib.Core.List.{Memᴰ}
use Prim.Native.Nat.{ℕ, ◌+◌, ◌-◌}
use lib.ListN.{length, drop}
use Rattle.base_lists.specs.Seqs.{All, all_append, all_map}
use Rattle.math_types.specs.Order.{Order, Full, basic, list}
use Rattle.math_terms.specs.Terms.{Term, con, var}
use Rattle.math_terms.specs.Constants.{Consts}
use Rattle.math_terms.specs.Fillings.{Filling, fill}
use Rattle.math_overlaps.specs.Constants.{ConstantIn}
use Rattle.math_overlaps.specs.Shapes.{Atom, fixed, free, Side, left, right, Variable, of, pair_vars, Shape, closed, gapped, shapes_of}
use Rattle.math_overlaps.specs.Candidates.{Cand}
use Rattle.math_overlaps.specs.Joins.{resolve}
use Rattle.math_overlaps.specs.Entries.{fields_for}
use Rattle.math_overlaps.specs.Overlaps.{place, term_of, field_of, map_shape, middle, run_of, rename, PairShape, PairState, origin_fields, origin_value}
use Rattle.math_overlaps.specs.Overlaps.{numbers_of}
use Rattle.math_overlaps.specs.Overlaps.{shown}
use Rattle.math_overlaps.proofs.Kept.{all_take, all_drop, Every, OnTerm, rule_every, Keeps, entry_every}
use Rattle.math_overlaps.proofs.Listed.{raw}

module _ {A : Type 0} (P : A → Type 0) where
  all_middle : (p q : ℕ) (w : List A) → All P w → All P (middle p q w)
  all_middle p q w h = all_take P (length w - (p + q)) (drop p w) (all_drop P p w h)

module _ {A L Y : Type 0} (name_eq : Discrete L) (P : Y → Type 0) where
  all_run : (Ss : List (Shape A L)) (ws : List (List Y)) → All (All P) ws → (l : L) → All P (run_of name_eq Ss ws l)
  all_run [] ws h l = tt
  all_run (S ∷ Ss) [] h l = tt
  all_run (closed xs ∷ Ss) (w ∷ ws) h l = all_run Ss ws h.1 l
  all_run (gapped f m t ∷ Ss) (w ∷ ws) h l = go (name_eq l m) (all_run Ss ws h.1 l)
    where
      go : (d : Dec (l ≡ m)) → All P (run_of name_eq Ss ws l) → All P (ite d (middle (length f) (length t) w) (run_of name_eq Ss ws l))
      go (yes e) r = all_middle P (length f) (length t) w h.0
      go (no n) r = r

module _ {C X : Type 0} (P : C → Type 0) where
  abbrev pub AtomIn : Atom C X → Type 0
  AtomIn (fixed c) = P c
  AtomIn (free x) = Unit {0}

module _ {C K A : Type 0} (P : C → Type 0) where
  on_term : (d : Side) (t : Term C (Full K) A) → ConstantIn P t → OnTerm (AtomIn P) d t
  on_term d (con c) h = h
  on_term d (var (basic k) a) h = tt
  on_term d (var list a) h = tt

  pub rule_in : (d : Side) (r : List (List (Term C (Full K) A))) (Ss : List (Shape (Atom C (Variable K A)) A))
      → shapes_of d r ≡ some Ss → All (All (ConstantIn P)) r → All (Every (AtomIn P)) Ss
  rule_in d r Ss e h =
      rule_every (AtomIn P) d r Ss e
      (all_map (All (ConstantIn P)) (All (OnTerm (AtomIn P) d)) (λ f k. all_map (ConstantIn P) (OnTerm (AtomIn P) d) (on_term d) f k) r h)

  term_in : (a : Atom C (Variable K A)) → AtomIn P a → ConstantIn P (term_of a)
  term_in (fixed c) h = h
  term_in (free (of s k a)) h = tt

  terms_in_lem : (xs : List (Atom C (Variable K A))) → All (AtomIn P) xs → All (ConstantIn P) (map term_of xs)
  terms_in_lem [] h = tt
  terms_in_lem (a ∷ xs) h = (term_in a h.0, terms_in_lem xs h.1)

  field_in : (S : Shape (Atom C (Variable K A)) ℕ) → Every (AtomIn P) S → All (ConstantIn P) (field_of S)
  field_in (closed xs) h = terms_in_lem xs h
  field_in (gapped f g t) h = all_append (ConstantIn P) (map term_of f) (var list (place g) ∷ map term_of t) (terms_in_lem f h.0) (tt, terms_in_lem t h.1)

  fields_in : (Ss : List (Shape (Atom C (Variable K A)) ℕ)) → All (Every (AtomIn P)) Ss → All (All (ConstantIn P)) (map field_of Ss)
  fields_in [] h = tt
  fields_in (S ∷ Ss) h = (field_in S h.0, fields_in Ss h.1)

module _ {C K A B : Type 0} (P : C → Type 0) (ν : K → A → B) where
  renamed_in : (f : List (Term C K A)) → All (ConstantIn P) f → All (ConstantIn P) (map (rename ν) f)
  renamed_in [] h = tt
  renamed_in (con c ∷ f) h = (h.0, renamed_in f h.1)
  renamed_in (var k a ∷ f) h = (tt, renamed_in f h.1)

  all_renamed_in : (fs : List (List (Term C K A))) → All (All (ConstantIn P)) fs → All (All (ConstantIn P)) (map (map (rename ν)) fs)
  all_renamed_in [] h = tt
  all_renamed_in (f ∷ fs) h = (renamed_in f h.0, all_renamed_in fs h.1)

-- filled by such constants, a field has no others
module _ {C K A : Type 0} (P : C → Type 0) (φ : Filling C K A) (h : (k : K) (a : A) → All P (φ k a)) where
  filled_in : (f : List (Term C K A)) → All (ConstantIn P) f → All P (fill φ f)
  filled_in [] k = tt
  filled_in (con c ∷ f) k = (k.0, filled_in f k.1)
  filled_in (var j a ∷ f) k = all_append P (φ j a) (fill φ f) (h j a) (filled_in f k.1)

  pub all_filled_in : (fs : List (List (Term C K A))) → All (All (ConstantIn P)) fs → All (All P) (map (fill φ) fs)
  all_filled_in [] k = tt
  all_filled_in (f ∷ fs) k = (filled_in f k.0, all_filled_in fs k.1)

module _ (O : Order) (C : Consts O) {A : Type 0} (name_eq : Discrete A) (Ss Ts : List (PairShape O C name_eq)) (P : C.Con → Type 0)
    (in₁ : All (Every (AtomIn P)) Ss) (in₂ : All (Every (AtomIn P)) Ts) (e : List Cand × PairState O C name_eq) (i : Memᴰ e (raw O C name_eq Ss Ts)) where
  kept : Keeps O C (pair_vars O name_eq) (AtomIn P) e.1
      × All (Every (AtomIn P)) (map (map_shape (resolve O C (pair_vars O name_eq) e.1)) (fields_for 0 Ss Ts e.0))
  kept = entry_every O C (pair_vars O name_eq) (AtomIn P) A A Ss Ts in₁ in₂ e i

  original_in : All (All (ConstantIn P)) (origin_fields O C name_eq Ss Ts e)
  original_in = fields_in P (map (map_shape (resolve O C (pair_vars O name_eq) e.1)) (fields_for 0 Ss Ts e.0)) kept.1

  original_value_in : (d : Side) (Rs : List (PairShape O C name_eq)) (k : Full O.Kind) (a : A)
      → All (ConstantIn P) (origin_value O C name_eq d Rs e.1 (origin_fields O C name_eq Ss Ts e) k a)
  original_value_in d Rs (basic k) a = (term_in P (e.1 (of d k a)) (kept.0 (free (of d k a)) tt), tt)
  original_value_in d Rs list a = all_run name_eq (ConstantIn P) Rs (origin_fields O C name_eq Ss Ts e) original_in a

  pub fields_ours : All (All (ConstantIn P)) (shown O C name_eq Ss Ts e).fields
  fields_ours = all_renamed_in P (numbers_of O C name_eq (origin_fields O C name_eq Ss Ts e)) (origin_fields O C name_eq Ss Ts e) original_in

  pub left_ours : (k : Full O.Kind) (a : A) → All (ConstantIn P) ((shown O C name_eq Ss Ts e).left k a)
  left_ours k a =
      let fs = origin_fields O C name_eq Ss Ts e in
      renamed_in P (numbers_of O C name_eq fs) (origin_value O C name_eq left Ss e.1 fs k a) (original_value_in left Ss k a)

  pub right_ours : (k : Full O.Kind) (a : A) → All (ConstantIn P) ((shown O C name_eq Ss Ts e).right k a)
  right_ours k a =
      let fs = origin_fields O C name_eq Ss Ts e in
      renamed_in P (numbers_of O C name_eq fs) (origin_value O C name_eq right Ts e.1 fs k a) (original_value_in right Ts k a)
