-- Named list variables: where no list variable is twice in the rule, instances field by field are instances by one filling.
use mathlib.Core.Path.{◌≡◌, refl, sym, ◌∙◌, ap, ap₂}
use mathlib.Core.Logic.{if_pos, if_neg}
use mathlib.Core.List.{List, [], ◌∷◌, ◌++◌, map, head-eq_of_cons-eq, tail-eq_of_cons-eq, nil≢cons, cons≢nil}
use mathlib.Core.List.Memᴰ
use mathlib.Core.List.{Memᴰ}
use Prim.Native.Nat.{ℕ, ◌+◌, ◌-◌}
use native.Mathlib.Omega.{arith}
use lib.ListN.{length, take, length-append, length-map}
use lib.Seq.{take_at, drop_at}
use Rattle.math_terms.specs.Seqs.{Distinct}
use Rattle.math_overlaps.specs.Shapes.{Shape, closed, gapped}
use Rattle.math_overlaps.specs.Overlaps.{middle, run_of}
use Rattle.math_overlaps.proofs.Rows.{Inst}
use Rattle.math_overlaps.proofs.Walks.{Insts}

module _ {A L : Type 0} where
  -- the list variables of a rule
  abbrev pub gaps : List (Shape A L) → List L
  gaps [] = []
  gaps (closed xs ∷ Ss) = gaps Ss
  gaps (gapped f l t ∷ Ss) = l ∷ gaps Ss

module _ {A L Y : Type 0} (v : A → Y) where
  -- a shape filled: its atoms by v, its list variable by m
  abbrev pub fill_shape : (L → List Y) → Shape A L → List Y
  fill_shape m (closed xs) = map v xs
  fill_shape m (gapped f l t) = map v f ++ (m l ++ map v t)

  named_inst : (m : L → List Y) (S : Shape A L) (w : List Y) → fill_shape m S ≡ w → Inst v S w
  named_inst m (closed xs) w e = sym e
  named_inst m (gapped f l t) w e = (m l, sym e)

  pub named_from : (m : L → List Y) (Ss : List (Shape A L)) (ws : List (List Y)) → map (fill_shape m) Ss ≡ ws → Insts v Ss ws
  named_from m [] [] e = tt
  named_from m [] (w ∷ ws) e = absurd (nil≢cons e)
  named_from m (S ∷ Ss) [] e = absurd (cons≢nil e)
  named_from m (S ∷ Ss) (w ∷ ws) e = (named_inst m S w (head-eq_of_cons-eq e), named_from m Ss ws (tail-eq_of_cons-eq e))

  agree : (m m' : L → List Y) (Ss : List (Shape A L)) → ((l : L) → Memᴰ l (gaps Ss) → m l ≡ m' l) → map (fill_shape m) Ss ≡ map (fill_shape m') Ss
  agree m m' [] h = refl
  agree m m' (closed xs ∷ Ss) h = ap (λ (r : List (List Y)). map v xs ∷ r) (agree m m' Ss h)
  agree m m' (gapped f l t ∷ Ss) h =
      ap₂ (λ (x : List Y) (r : List (List Y)). (map v f ++ (x ++ map v t)) ∷ r) (h l (Memᴰ.head refl)) (agree m m' Ss (λ k i. h k (Memᴰ.tail i)))

module _ {Y : Type 0} where
  middle_is : (a m b : List Y) (p q : ℕ) → length a ≡ p → length b ≡ q → middle p q (a ++ (m ++ b)) ≡ m
  middle_is a m b p q ha hb =
      ap (take (length (a ++ (m ++ b)) - (p + q))) (drop_at a (m ++ b) p ha) ∙ take_at m b (length (a ++ (m ++ b)) - (p + q)) (simp length-append (omega arith))

module _ {A L Y : Type 0} (v : A → Y) (name_eq : Discrete L) where
  -- the runs at the places of the list variables are such a filling
  pub named_to : (Ss : List (Shape A L)) → Distinct (gaps Ss) → (ws : List (List Y)) → Insts v Ss ws → map (fill_shape v (run_of name_eq Ss ws)) Ss ≡ ws
  named_to [] d [] h = refl
  named_to [] d (w ∷ ws) h = absurd h
  named_to (S ∷ Ss) d [] h = absurd h
  named_to (closed xs ∷ Ss) d (w ∷ ws) h = ap₂ (λ (x : List Y) (y : List (List Y)). x ∷ y) (sym h.0) (named_to Ss d ws h.1)
  named_to (gapped f l t ∷ Ss) d (w ∷ ws) h = go (named_to Ss d.1 ws h.1)
    where
      m : L → List Y
      m = run_of name_eq Ss ws

      r : List Y
      r = middle (length f) (length t) w

      is : r ≡ h.0.0
      is = ap (middle (length f) (length t)) h.0.1 ∙ middle_is (map v f) h.0.0 (map v t) (length f) (length t) (length-map f v) (length-map t v)

      go : map (fill_shape v m) Ss ≡ ws → map (fill_shape v (run_of name_eq (gapped f l t ∷ Ss) (w ∷ ws))) (gapped f l t ∷ Ss) ≡ w ∷ ws
      go rec = ap₂ (λ (x : List Y) (y : List (List Y)). x ∷ y)
          (ap (λ (z : List Y). map v f ++ (z ++ map v t)) (if_pos (name_eq l l) refl r (m l) ∙ is) ∙ sym h.0.1)
          (agree v (run_of name_eq (gapped f l t ∷ Ss) (w ∷ ws)) m Ss (λ k i. if_neg (name_eq k l) (λ e. d.0 (Memᴰ.cast (sym e) i)) r (m k)) ∙ rec)
