-- The terms behind those of one field change nothing of it: a pass for that field may end there.
use mathlib.Core.Path.{◌≡◌, refl, ◌∙◌, ap}
use mathlib.Core.Logic.{ite}
use mathlib.Core.Bool.{Bool, cond}
use mathlib.Core.List.{List, [], ◌∷◌, foldl}
use Prim.Native.Nat.{ℕ, zero, suc, ◌+◌, ◌-◌, ◌<◌}
use native.Mathlib.Omega.{arith}
use native.Mathlib.Decide.{ℕ_discrete}
use borrow.Author.Tests.{ne_eqb}
use lib.ListN.{length, drop}
use Rattle.text_grammar.specs.Grammar.{spell}
use Rattle.text_grammar.specs.Walk.{front, walk_on, walk}
use Rattle.text_values.specs.declared.Terms.{Terms}
use Rattle.text_refusals.specs.declared.At.{At}
use Rattle.text_passes.specs.Places.{tokens_from}
use Rattle.text_passes.specs.Build.{add_raw}
use Rattle.text_passes.specs.Fields.{add_to}

module _ {w : ℕ} (j : ℕ) where
  -- the fields behind field j change nothing
  past : (room : ℕ) (z : List ℕ) (p n i : ℕ) (x : Terms w) → j + 1 < n → foldl (add_to j) x (walk room z p n i) ≡ x
  past zero z p n i x h = refl
  past (suc room) [] p n i x h = refl
  past (suc room) (b ∷ z) p n i x h =
      let r = front (b ∷ z) in
      let q = p + length (spell r) in
      let y = drop (length (spell r)) (b ∷ z) in
      ap (λ (c : Bool). foldl (add_to j) (cond c (add_raw x r) x) (walk_on (walk room) q n i y)) (ne_eqb n (j + 1) (λ e. omega arith))
      ∙ on q y (λ z' p' n' i' h'. past room z' p' n' i' x h')
    where
      on : (q : ℕ) (y : List ℕ) → ((z' : List ℕ) (p' n' i' : ℕ) → j + 1 < n' → foldl (add_to j) x (walk room z' p' n' i') ≡ x)
          → foldl (add_to j) x (walk_on (walk room) q n i y) ≡ x
      on q [] rec = refl
      on q (c ∷ y) rec = go (ℕ_discrete c 58)
        where
          go : (d : Dec (c ≡ 58)) → foldl (add_to j) x (ite d (walk room y (suc q) n (suc i)) (walk room y (suc q) (suc n) 1)) ≡ x
          go (yes e) = rec y (suc q) n (suc i) h
          go (no e) = rec y (suc q) (suc n) 1 (omega arith)

  pub picked_past : (t : List ℕ) (a : At) (x : Terms w) → j + 1 < a.field → foldl (add_to j) x (tokens_from t a) ≡ x
  picked_past t a x h = past (length t - a.place) (drop a.place t) a.place a.field a.index x h
