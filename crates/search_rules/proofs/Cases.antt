-- The ways that `move_of` ends. Assumes nothing.
use mathlib.Core.Path.{◌≡◌, sym, ◌∙◌, ap, ap₂}
use mathlib.Core.Bool.{Bool, true, false, cond, not}
use Prim.Native.Nat.{ℕ}
use Rattle.std.specs.Prelude.{Option}
use lib.ListN.{get_or}
use borrow.Author.Tests.{not-true, not-false}
use Rattle.math_codes.specs.Tables.{Table}
use Rattle.search_items.specs.declared.Items.{Items}
use Rattle.search_items.specs.Items.{items_of}
use Rattle.search_rules.specs.declared.Head.{Head}
use Rattle.search_rules.specs.declared.Move.{Move}
use Rattle.search_rules.specs.Heads.{head_of}
use Rattle.search_rules.specs.Tests.{fresh_code}
use Rattle.search_rules.specs.Moves.{no_move, made_by, applies_by, move_by, move_value}

module _ (T : Table) (r : ℕ) (l m : Items) (f : ℕ) (a b : Head) (is-a : a ≡ head_of T (items_of l)) (is_b : b ≡ head_of T (items_of m))
    (t : Bool) (is-t : t ≡ applies_by a b (items_of l) (items_of m) r) where
  abbrev made : ℕ → Option Move
  made n = get_or (made_by a.first b.first l m (items_of l) (items_of m) n) r no_move

  by_test : (d : Bool) → t ≡ d → cond d (made (fresh_code f)) no_move ≡ move_value T r l m f
  by_test d e =
      ap (λ (d : Bool). cond d (made (fresh_code f)) no_move) (sym e ∙ is-t)
      ∙ ap₂ (λ (a b : Head). move_by a b l m (items_of l) (items_of m) (fresh_code f) r) is-a is_b

  pub not_applied : {v : Option Move} → v ≡ no_move → not t ≡ true → v ≡ move_value T r l m f
  not_applied e h = e ∙ by_test false (not-true t h)

  pub applied : {v : Option Move} (n : ℕ) → n ≡ fresh_code f → not t ≡ false → v ≡ made n → v ≡ move_value T r l m f
  applied n is_n h e = e ∙ ap made is_n ∙ by_test true (not-false t h)
