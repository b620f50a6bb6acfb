-- The entries are the choices (one candidate a field, the first field slowest) that nothing kills, in the order of the choices.
use mathlib.Core.Path.{◌≡◌, refl, sym, ◌∙◌, ap, ap₂}
use mathlib.Core.Option.{Option, none, some}
use mathlib.Core.List.{List, [], ◌∷◌, ◌++◌, map}
use Rattle.math_types.specs.Order.{Order}
use Rattle.math_terms.specs.Constants.{Consts}
use Rattle.math_terms.specs.Matcher.{and_then}
use Rattle.math_overlaps.specs.Shapes.{Vars, Shape}
use Rattle.math_overlaps.specs.Candidates.{Cand, cands}
use Rattle.math_overlaps.specs.Joins.{At, State, joins}
use Rattle.math_overlaps.specs.Entries.{equations, branch, chosen, entries, times, choices, joined, keep, alive}

module _ {X S : Type 0} where
  keep_append : (x : X) (o : Option S) (r t : List (X × S)) → keep x o (r ++ t) ≡ keep x o r ++ t
  keep_append x none r t = refl
  keep_append x (some s) r t = refl

  alive_append : (f : X → Option S) (xs ys : List X) → alive f (xs ++ ys) ≡ alive f xs ++ alive f ys
  alive_append f [] ys = refl
  alive_append f (x ∷ xs) ys = ap (keep x (f x)) (alive_append f xs ys) ∙ keep_append x (f x) (alive f xs) (alive f ys)

  alive_none : (f : X → Option S) → ((x : X) → f x ≡ none) → (xs : List X) → alive f xs ≡ []
  alive_none f h [] = refl
  alive_none f h (x ∷ xs) = ap (λ (o : Option S). keep x o (alive f xs)) (h x) ∙ alive_none f h xs

module _ {S : Type 0} where
  alive_cons : (f : List Cand → Option S) (g : List Cand → Option S) (c : Cand) → ((x : List Cand) → f (c ∷ x) ≡ g x) → (r : List (List Cand))
      → alive f (map (λ x. c ∷ x) r) ≡ map (λ e. (c ∷ e.0, e.1)) (alive g r)
  alive_cons f g c h [] = refl
  alive_cons f g c h (x ∷ r) =
      ap (λ (o : Option S). keep (c ∷ x) o (alive f (map (λ x. c ∷ x) r))) (h x) ∙ ap (keep (c ∷ x) (g x)) (alive_cons f g c h r) ∙ go (g x)
    where
      go : (o : Option S) → keep (c ∷ x) o (map (λ e. (c ∷ e.0, e.1)) (alive g r)) ≡ map (λ e. (c ∷ e.0, e.1)) (keep x o (alive g r))
      go none = refl
      go (some s) = refl

module _ (O : Order) (C : Consts O) (N : Vars O) (L M : Type 0) where
  pub entries_are : (Ss : List (Shape (At O C N) L)) (Ts : List (Shape (At O C N) M)) (s : State O C N)
      → entries O C N L M Ss Ts s ≡ alive (λ cs. joined O C N L M Ss Ts cs s) (choices Ss Ts)
  entries_are [] [] s = refl
  entries_are [] (T ∷ Ts) s = refl
  entries_are (S ∷ Ss) [] s = refl
  entries_are (S ∷ Ss) (T ∷ Ts) s = go (cands S T) (λ s'. entries_are Ss Ts s')
    where
      f : List Cand → Option (State O C N)
      f cs = joined O C N L M (S ∷ Ss) (T ∷ Ts) cs s

      own : (c : Cand) (o : Option (State O C N)) → joins O C N (equations S T c) s ≡ o
          → ((s' : State O C N) → entries O C N L M Ss Ts s' ≡ alive (λ cs. joined O C N L M Ss Ts cs s') (choices Ss Ts))
          → chosen c o (λ s'. entries O C N L M Ss Ts s') ≡ alive f (map (λ x. c ∷ x) (choices Ss Ts))
      own c none e rec =
          sym (alive_cons f (λ x. none) c (λ x. ap (λ (o : Option (State O C N)). and_then o (λ s'. joined O C N L M Ss Ts x s')) e) (choices Ss Ts)
          ∙ ap (map (λ e. (c ∷ e.0, e.1))) (alive_none (λ x. none) (λ x. refl) (choices Ss Ts)))
      own c (some s₁) e rec = ap (map (λ e. (c ∷ e.0, e.1))) (rec s₁)
          ∙ sym (alive_cons f (λ cs. joined O C N L M Ss Ts cs s₁) c
          (λ x. ap (λ (o : Option (State O C N)). and_then o (λ s'. joined O C N L M Ss Ts x s')) e) (choices Ss Ts))

      go : (cs : List Cand) → ((s' : State O C N) → entries O C N L M Ss Ts s' ≡ alive (λ cs. joined O C N L M Ss Ts cs s') (choices Ss Ts))
          → branch cs (λ c. joins O C N (equations S T c) s) (λ s'. entries O C N L M Ss Ts s') ≡ alive f (times cs (choices Ss Ts))
      go [] rec = refl
      go (c ∷ cs) rec = ap₂ (λ (x y : List (List Cand × State O C N)). x ++ y) (own c (joins O C N (equations S T c) s) refl rec) (go cs rec)
          ∙ sym (alive_append f (map (λ x. c ∷ x) (choices Ss Ts)) (times cs (choices Ss Ts)))
