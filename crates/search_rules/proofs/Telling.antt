-- What is known of a move before it is made: whether its rule applies, and whether it brings in the fresh list variable. Assumes nothing.
use mathlib.Core.Path.{◌≡◌, refl}
use mathlib.Core.Bool.{Bool, true, false, cond, ◌&&◌}
use mathlib.Core.List.{List, [], ◌∷◌}
use Prim.Native.Nat.{ℕ, zero, suc}
use Rattle.std.specs.Prelude.{Option, Some, None, is_some}
use lib.ListN.{get_or}
use Rattle.math_codes.specs.Tables.{Table}
use Rattle.search_items.specs.declared.Items.{Items}
use Rattle.search_items.specs.Items.{items_of}
use Rattle.search_rules.specs.declared.Move.{Move}
use Rattle.search_rules.specs.Heads.{head_of}
use Rattle.search_rules.specs.Tests.{list_end, fresh_code}
use Rattle.search_rules.specs.Moves.{no_move, tests_by, made_by, fresh_rules, applies_value, move_value}

-- a move is made, and brings the fresh list variable in
abbrev pub brings : Option Move → Bool
brings None = false
brings (Some m) = m.fresh

-- a move that is made, with the fresh list variable or without
abbrev Told : Option Move → Bool → Type 0
Told m f = (is_some m ≡ true) × (brings m ≡ f)

-- each of a list with its test
abbrev AllTold : List Bool → List (Option Move) → List Bool → Type 0
AllTold [] [] [] = Unit {0}
AllTold [] [] (f ∷ fs) = ⊥
AllTold [] (m ∷ ms) fs = ⊥
AllTold (b ∷ bs) [] fs = ⊥
AllTold (b ∷ bs) (m ∷ ms) [] = ⊥
AllTold (b ∷ bs) (m ∷ ms) (f ∷ fs) = Told m f × AllTold bs ms fs

-- what is told of the rule r
abbrev Tells : Option Move → Bool → Bool → Type 0
Tells m b f = (is_some m ≡ b) × (brings m ≡ b && f)

tell : (bs : List Bool) (ms : List (Option Move)) (fs : List Bool) → AllTold bs ms fs → (r : ℕ)
    → Tells (cond (get_or bs r false) (get_or ms r no_move) no_move) (get_or bs r false) (get_or fs r false)
tell [] [] [] h r = (refl, refl)
tell [] [] (f ∷ fs) h r = absurd h
tell [] (m ∷ ms) fs h r = absurd h
tell (b ∷ bs) [] fs h r = absurd h
tell (b ∷ bs) (m ∷ ms) [] h r = absurd h
tell (true ∷ bs) (m ∷ ms) (f ∷ fs) h zero = h.0
tell (false ∷ bs) (m ∷ ms) (f ∷ fs) h zero = (refl, refl)
tell (b ∷ bs) (m ∷ ms) (f ∷ fs) h (suc r) = tell bs ms fs h.1 r

-- OF A MOVE
module _ (T : Table) (r : ℕ) (l m : Items) (f : ℕ) where
  told : Tells (move_value T r l m f) (applies_value T r l m) (get_or fresh_rules r false)
  told =
      let a = head_of T (items_of l) in
      let b = head_of T (items_of m) in
      let all = made_by a.first b.first l m (items_of l) (items_of m) (fresh_code f) in
      tell (tests_by a b (list_end (items_of m)) (items_of l) (items_of m)) all fresh_rules (
        (refl, refl),
        (
          (refl, refl),
          (
            (refl, refl),
            (
              (refl, refl),
              (
                (refl, refl),
                (
                  (refl, refl),
                  (
                    (refl, refl),
                    ((refl, refl), ((refl, refl), ((refl, refl), ((refl, refl), ((refl, refl), ((refl, refl), ((refl, refl), tt))))))),
                  ),
                ),
              ),
            ),
          ),
        ),
      )
      r

  pub applies_is : is_some (move_value T r l m f) ≡ applies_value T r l m
  applies_is = told.0

  pub fresh_is : brings (move_value T r l m f) ≡ applies_value T r l m && get_or fresh_rules r false
  fresh_is = told.1
