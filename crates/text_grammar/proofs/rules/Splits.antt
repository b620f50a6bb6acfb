-- A text of the grammar of one side ends where a byte comes that can't follow a term: so the `=` of `=>` is found in one way only.
use mathlib.Core.Path.{◌≡◌, refl, sym, ◌∙◌, ap, ap₂, subst}
use mathlib.Core.Logic.{◌≢◌}
use mathlib.Core.Option.{Option, none, some, IsSome}
use mathlib.Core.List.{List, [], ◌∷◌, ◌++◌, append-nil, head-eq_of_cons-eq, tail-eq_of_cons-eq}
use Prim.Native.Nat.{ℕ, ◌≤◌}
use native.Mathlib.Omega.{arith}
use Rattle.text_grammar.specs.Bytes.{Digit, Follows, f_digit, f_colon, f_bar, f_none, follows}
use Rattle.text_grammar.specs.Grammar.{Grammar}
use Rattle.text_grammar.specs.Place.{Viable}
use Rattle.text_grammar.specs.Machine.{State, after, minus, digits, number, done, quoted, must, Move, go_d, go_e, move, Final}
use Rattle.text_grammar.proofs.Place.{run, then_run, onward, Accepts, grammar_run, viable_run, run_append}

-- no text goes on with c where it may end
abbrev pub Foreign : ℕ → Type 0
Foreign c = (q : State) → Final q → move q c ≡ none

pub foreign : (c : ℕ) → (Digit c → ⊥) → c ≢ 58 → c ≢ 124 → Foreign c
foreign c d k b after h = absurd h
foreign c d k b digits h = go (follows c)
  where
    go : (x : Follows c) → go_d c x ≡ none
    go (f_digit x) = absurd (d x)
    go (f_colon x) = absurd (k x)
    go (f_bar x) = absurd (b x)
    go (f_none x y z) = refl
foreign c d k b number h = absurd h
foreign c d k b done h = go (follows c)
  where
    go : (x : Follows c) → go_e c x ≡ none
    go (f_digit x) = refl
    go (f_colon x) = absurd (k x)
    go (f_bar x) = absurd (b x)
    go (f_none x y z) = refl
foreign c d k b minus h = absurd h
foreign c d k b quoted h = absurd h
foreign c d k b (must x xs) h = absurd h

-- `=` is such a byte
pub equals : Foreign 61
equals = foreign 61 (λ h. let u : 61 ≤ 57 = h.1 in omega arith) (λ e. omega arith) (λ e. omega arith)

-- a text of the grammar begins one
pub grammar_viable : (t : List ℕ) → Grammar t → Viable t
grammar_viable t g = ([], subst Grammar (sym (append-nil t)) g)

module _ (c : ℕ) (out : Foreign c) where
  -- what goes on with c where it may end begins no text
  pub no_viable : (a u : List ℕ) → Grammar a → Viable (a ++ c ∷ u) → ⊥
  no_viable a u g v = go (run a after) ((grammar_run a).0 g) (subst IsSome (run_append a (c ∷ u) after) ((viable_run (a ++ c ∷ u)).0 v))
    where
      go : (o : Option State) → Accepts o → IsSome (onward o (run (c ∷ u))) → ⊥
      go none h s = h
      go (some q) h s = subst IsSome (ap (λ (m : Move). then_run m (run u)) (out q h)) s

  no_more : (q : State) (b : ℕ) (t : List ℕ) → Final q → b ≡ c → Accepts (run (b ∷ t) q) → ⊥
  no_more q b t h e a = subst (λ (m : Move). Accepts (then_run m (run t))) (ap (move q) e ∙ out q h) a

  run_split : (t z u v : List ℕ) (q : State) → Accepts (run t q) → Accepts (run z q) → t ++ c ∷ u ≡ z ++ c ∷ v → (t ≡ z) × (u ≡ v)
  run_split [] [] u v q a b e = (refl, tail-eq_of_cons-eq e)
  run_split [] (d ∷ z) u v q a b e = absurd (no_more q d z a (sym (head-eq_of_cons-eq e)) b)
  run_split (d ∷ t) [] u v q a b e = absurd (no_more q d t b (head-eq_of_cons-eq e) a)
  run_split (d ∷ t) (f ∷ z) u v q a b e =
      go (move q d) a (subst (λ (x : ℕ). Accepts (run (x ∷ z) q)) (sym (head-eq_of_cons-eq e)) b)
      (λ q' a' b'. run_split t z u v q' a' b' (tail-eq_of_cons-eq e))
    where
      go : (m : Move) → Accepts (then_run m (run t)) → Accepts (then_run m (run z))
          → ((q' : State) → Accepts (run t q') → Accepts (run z q') → (t ≡ z) × (u ≡ v)) → (d ∷ t ≡ f ∷ z) × (u ≡ v)
      go none a b rec = absurd a
      go (some m) a b rec = let r = rec m.0 a b in (ap₂ (λ (x : ℕ) (l : List ℕ). x ∷ l) (head-eq_of_cons-eq e) r.0, r.1)

  -- ONE SPLIT at such a byte
  pub grammar_split : (t z u v : List ℕ) → Grammar t → Grammar z → t ++ c ∷ u ≡ z ++ c ∷ v → (t ≡ z) × (u ≡ v)
  grammar_split t z u v g h e = run_split t z u v after ((grammar_run t).0 g) ((grammar_run z).0 h) e
