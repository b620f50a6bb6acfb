-- CARRYING OUT a rule (E1), over any type order, constants and names. A whole rule is its left side x and its right side y.
-- `carried_by_lem`, `yes_iff`, `over_iff`, `no_iff` of proofs/Carrying say that the answer does not depend on the filling found.
use Rattle.std.proofs.Math.Logic.{ite}
use Rattle.std.proofs.Math.Option.{Option, none, some}
use Rattle.std.specs.Prelude.{List, [], ◌∷◌, map, ℕ, ◌≤◌, ◌<◌, length}
use Rattle.std.proofs.Math.Decide.{dec_le}
use Rattle.base_lists.specs.Seqs.{All, Any, all?}
use Rattle.math_types.specs.Order.{Order, Full}
use Rattle.math_terms.specs.Constants.{Consts, TermOver}
use Rattle.math_terms.specs.Fillings.{FillingOver, fill, Occurs}
use Rattle.math_terms.specs.Matcher.{matcher, complete}

module _ (O : Order) (C : Consts O) where
  -- a side of a rule whose names are A: its fields; a slip: its fields, without variables
  abbrev pub RuleOver : Type 0 → Type 0
  RuleOver A = List (List (TermOver O C A))

  abbrev pub SlipOver : Type 0
  SlipOver = List (List C.Con)

module _ (O : Order) (C : Consts O) {A : Type 0} where
  -- every variable of y stands in x: no refusal 10, "a right-side variable that the left lacks"
  abbrev pub VarsIn : RuleOver O C A → RuleOver O C A → Type 0
  VarsIn y x = (k : Full O.Kind) (a : A) → Any (Occurs k a) y → Any (Occurs k a) x

-- ---- lengths

module _ {X : Type 0} where
  -- no field has more than n items
  abbrev pub Short : ℕ → List (List X) → Type 0
  Short n s = All (λ f. length f ≤ n) s

  -- some field has more
  abbrev pub Over : ℕ → List (List X) → Type 0
  Over n s = Any (λ f. n < length f) s

  abbrev pub short? : (n : ℕ) (s : List (List X)) → Dec (Short n s)
  short? n s = all? (λ f. length f ≤ n) (λ f. dec_le (length f) n) s

-- ---- the answer

-- yes with the result; no; refusal 11, "a result field over 64 terms"
pub data Carried (S : Type 0) : Type 0 where
  result : S → Carried S
  unmatched : Carried S
  too_long : Carried S

module _ {X : Type 0} (most : ℕ) where
  abbrev pub limited : List (List X) → Carried (List (List X))
  limited s = ite (short? most s) (result s) too_long

module _ (O : Order) (C : Consts O) {A : Type 0} (name_eq : Discrete A) (most : ℕ) where
  -- "the right side with the filling put in"
  abbrev pub carried_by : RuleOver O C A → Option (FillingOver O C A) → Carried (SlipOver O C)
  carried_by y none = unmatched
  carried_by y (some φ) = limited most (map (fill (complete O C φ)) y)

  -- "on a slip it doesn't match, or without a right side, the slip unchanged and a no"; a side without fields is none
  abbrev pub carried : RuleOver O C A → RuleOver O C A → SlipOver O C → Carried (SlipOver O C)
  carried x [] w = unmatched
  carried x (g ∷ y) w = carried_by (g ∷ y) (matcher O C name_eq x w)
