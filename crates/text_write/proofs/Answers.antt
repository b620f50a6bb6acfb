-- Laws of a writer's answer: each answer with what it leaves in the lent bytes. Assumes nothing.
use Rattle.std.specs.Prelude.{Ok, Err}
use mathlib.Core.Path.{◌≡◌, ap, ◌∙◌}
use mathlib.Core.Bool.{Bool, cond}
use mathlib.Core.Option.{none, some}
use mathlib.Core.List.{List, [], ◌∷◌, ◌++◌}
use Prim.Native.Nat.{ℕ, ◌≤◌, ◌<◌}
use native.Mathlib.Nat.{zero-add}
use native.Mathlib.Omega.{arith}
use lib.ListN.{length, drop}
use lib.Seq.{sets, sets-eq}
use borrow.Author.Tests.{le-leb, lt-leb}
use Rattle.text_write.specs.Answers.{after, Writes}

module _ (t l : List ℕ) where
  abbrev left_by : Bool → List ℕ
  left_by b = cond b (t ++ drop (length t) l) l

  -- what is left, by the room
  pub after_fits : length t ≤ length l → after t l ≡ t ++ drop (length t) l
  after_fits h = ap left_by (le-leb (length t) (length l) h)

  pub after_small : length l < length t → after t l ≡ l
  after_small h = ap left_by (lt-leb (length t) (length l) h)

  pub wrote : {n : ℕ} {m : List ℕ} → length t ≤ length l → n ≡ length t → m ≡ sets l 0 t → Writes t l (Ok n) m
  wrote h e q =
      let b = le-leb (length t) (length l) h in
      record {
        answer = rw b (ap (λ (k : ℕ). record { number = none; values = k ∷ [] }) e);
        bytes = rw b (q ∙ sets-eq t l 0 (omega arith) ∙ ap (λ (k : ℕ). t ++ drop k l) (zero-add (length t)));
      }

  pub refused : {n : ℕ} → length l < length t → n ≡ length t → Writes t l (Err (record { needed = n })) l
  refused h e = let b = lt-leb (length t) (length l) h in record { answer = rw b (ap (λ (k : ℕ). record { number = some 8; values = k ∷ [] }) e); bytes = rw b }
