-- The code's table of steps, by one computed test over it, and the step that both tables have. Assumes nothing.
use denote.Enum.Declared.{tag_of}
use mathlib.Core.Path.{◌≡◌, refl, ◌∙◌, ap}
use mathlib.Core.Bool.{Bool}
use mathlib.Core.List.{List, [], ◌∷◌}
use Prim.Native.Nat.{ℕ, ◌+◌, ◌*◌, ◌<◌}
use native.Mathlib.Omega.{arith}
use lib.Dec.{T, eqb, eqb→eq}
use lib.ListN.{length, get_or}
use Rattle.base_lists.specs.Arrays.{entry_any}
use Rattle.base_lists.specs.Tables.{all_below, all_below_lem}
use Rattle.text_scan.specs.Classes.{class_count, fine_of}
use Rattle.text_scan.specs.Steps.{state_count, steps, next}
use Rattle.text_scan.specs.Tables.{class_number, state_number}
use Rattle.text_scan.specs.contracts.tables.ByteClass.{the_type as class_type}
use Rattle.text_scan.specs.contracts.tables.Reading.{the_type as state_type}
use Rattle.text_scan.specs.declared.tables.ByteClass.{ByteClass}
use Rattle.text_scan.specs.declared.tables.ByteClass.TheVariants.{Nowhere, Zero, Digit, Letter, Quote, Colon, Bar, E, M, P, T as Tee, Y, Inside, Minus}
use Rattle.text_scan.specs.declared.tables.Reading.{Reading}
use Rattle.text_scan.specs.declared.tables.Reading.TheVariants.{Before, InDigits, AtNumber, Behind, InString, AtM, AtP, AtT, AtY, AtDigits, Refused}
use Rattle.text_scan.proofs.Bytes.{fine_small}
use Rattle.text_scan.proofs.ClassTable.{classes, class_at}

-- ---- the table of steps

abbrev pub rows : List (List Reading)
rows =
    (Refused ∷ InDigits ∷ InDigits ∷ AtNumber ∷ InString ∷ Refused ∷ Refused ∷ AtM ∷ Refused ∷ Refused ∷ Refused ∷ Refused ∷ Refused ∷ AtDigits ∷ []) ∷
    (Refused ∷ InDigits ∷ InDigits ∷ Refused ∷ Refused ∷ Before ∷ Before ∷ Refused ∷ Refused ∷ Refused ∷ Refused ∷ Refused ∷ Refused ∷ Refused ∷ []) ∷
    (Refused ∷ Behind ∷ InDigits ∷ Refused ∷ Refused ∷ Refused ∷ Refused ∷ Refused ∷ Refused ∷ Refused ∷ Refused ∷ Refused ∷ Refused ∷ Refused ∷ []) ∷
    (Refused ∷ Refused ∷ Refused ∷ Refused ∷ Refused ∷ Before ∷ Before ∷ Refused ∷ Refused ∷ Refused ∷ Refused ∷ Refused ∷ Refused ∷ Refused ∷ []) ∷
    (Refused ∷ InString ∷ InString ∷ InString ∷ Behind ∷ InString ∷ InString ∷ InString ∷ InString ∷ InString ∷ InString ∷ InString ∷ InString ∷ InString ∷ []) ∷
    (Refused ∷ Refused ∷ Refused ∷ Refused ∷ Refused ∷ Refused ∷ Refused ∷ Refused ∷ AtP ∷ Refused ∷ Refused ∷ Refused ∷ Refused ∷ Refused ∷ []) ∷
    (Refused ∷ Refused ∷ Refused ∷ Refused ∷ Refused ∷ Refused ∷ Refused ∷ Refused ∷ Refused ∷ AtT ∷ Refused ∷ Refused ∷ Refused ∷ Refused ∷ []) ∷
    (Refused ∷ Refused ∷ Refused ∷ Refused ∷ Refused ∷ Refused ∷ Refused ∷ Refused ∷ Refused ∷ Refused ∷ AtY ∷ Refused ∷ Refused ∷ Refused ∷ []) ∷
    (Refused ∷ Refused ∷ Refused ∷ Refused ∷ Refused ∷ Refused ∷ Refused ∷ Refused ∷ Refused ∷ Refused ∷ Refused ∷ Behind ∷ Refused ∷ Refused ∷ []) ∷
    (Refused ∷ InDigits ∷ InDigits ∷ Refused ∷ Refused ∷ Refused ∷ Refused ∷ Refused ∷ Refused ∷ Refused ∷ Refused ∷ Refused ∷ Refused ∷ Refused ∷ []) ∷
    []

-- the state in a row and a column
abbrev pub cell : ℕ → ℕ → Reading
cell s c = get_or (get_or rows s []) c Before

abbrev same_cell : ℕ → ℕ → Bool
same_cell s c = eqb (state_number (cell s c)) (get_or steps (s * class_count + c) state_count)

all_same : T (all_below (λ s. all_below (same_cell s) class_count) state_count)
all_same = tt

pub cell_is : (s c : ℕ) → s < state_count → c < class_count → state_number (cell s c) ≡ get_or steps (s * class_count + c) state_count
cell_is s c hs hc = eqb→eq _ _ (all_below_lem (same_cell s) class_count (all_below_lem (λ s. all_below (same_cell s) class_count) state_count all_same s hs) c hc)

-- each row has a column for each class
abbrev whole_row : ℕ → Bool
whole_row s = eqb (length (get_or rows s [])) class_count

all_whole : T (all_below whole_row state_count)
all_whole = tt

row_length : (s : ℕ) → s < state_count → length (get_or rows s []) ≡ class_count
row_length s h = eqb→eq _ _ (all_below_lem whole_row state_count all_whole s h)

-- a cell by whatever stands for what no table has
module _ (s c : ℕ) (e : List Reading) (d : Reading) (hs : s < state_count) (hc : c < class_count) where
  cell_any : get_or (get_or rows s e) c d ≡ cell s c
  cell_any =
      ap (λ (r : List Reading). get_or r c d) (entry_any rows s e [] hs)
      ∙ entry_any (get_or rows s []) c d Before (omega (arith, row_length s hs))

-- ---- as the code indexes them, by the values' numbers

class_tag : (x : ByteClass) → tag_of class_type x ≡ class_number x
class_tag Nowhere = refl
class_tag Zero = refl
class_tag Digit = refl
class_tag Letter = refl
class_tag Quote = refl
class_tag Colon = refl
class_tag Bar = refl
class_tag E = refl
class_tag M = refl
class_tag P = refl
class_tag Tee = refl
class_tag Y = refl
class_tag Inside = refl
class_tag Minus = refl

state_tag : (x : Reading) → tag_of state_type x ≡ state_number x
state_tag Before = refl
state_tag InDigits = refl
state_tag AtNumber = refl
state_tag Behind = refl
state_tag InString = refl
state_tag AtM = refl
state_tag AtP = refl
state_tag AtT = refl
state_tag AtY = refl
state_tag AtDigits = refl
state_tag Refused = refl

-- the step that the code's tables have from a state at a byte is that of the step table
pub step_at : (s : Reading) (b : ℕ) (e : List Reading) (d : Reading) → state_number s < state_count → b < 256 →
    state_number (get_or (get_or rows (tag_of state_type s) e) (tag_of class_type (get_or classes b Nowhere)) d) ≡ next (state_number s) (fine_of b)
unfolding next
step_at s b e d hs hb =
    let small : class_number (get_or classes b Nowhere) < class_count = omega (arith, class_at b hb, fine_small b hb) in
    ap state_number
    (ap (λ (i : ℕ). get_or (get_or rows i e) (tag_of class_type (get_or classes b Nowhere)) d) (state_tag s)
    ∙ ap (λ (i : ℕ). get_or (get_or rows (state_number s) e) i d) (class_tag (get_or classes b Nowhere))
    ∙ cell_any (state_number s) (class_number (get_or classes b Nowhere)) e d hs small)
    ∙ cell_is (state_number s) (class_number (get_or classes b Nowhere)) hs small
    ∙ ap (λ (c : ℕ). get_or steps (state_number s * class_count + c) state_count) (class_at b hb)

-- the last state is the one whose number is behind the rows
pub is_refused : (x : Reading) → state_number x ≡ state_count → x ≡ Refused
is_refused Before h = absurd (omega (arith, h))
is_refused InDigits h = absurd (omega (arith, h))
is_refused AtNumber h = absurd (omega (arith, h))
is_refused Behind h = absurd (omega (arith, h))
is_refused InString h = absurd (omega (arith, h))
is_refused AtM h = absurd (omega (arith, h))
is_refused AtP h = absurd (omega (arith, h))
is_refused AtT h = absurd (omega (arith, h))
is_refused AtY h = absurd (omega (arith, h))
is_refused AtDigits h = absurd (omega (arith, h))
is_refused Refused h = refl
