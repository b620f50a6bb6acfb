-- What the class of a byte tells of it, each by one computed test over all bytes; and what a byte begins, by comparisons. Assumes nothing.
--     fine-small    there are `class_count` classes
--     begun-is      which term each class begins
--     starts_var    what a byte begins, by what the code compares it with
use mathlib.Core.Path.{◌≡◌, refl, sym, ◌∙◌, ap}
use mathlib.Core.Bool.{Bool, true, false, cond}
use mathlib.Core.List.{List, [], ◌∷◌}
use Prim.Native.Nat.{ℕ, zero, suc, ◌<◌}
use native.Mathlib.Decide.{ℕ_discrete, dec_le}
use lib.Dec.{T, eqb, eqb→eq, ltb, ltb→lt}
use Rattle.base_lists.specs.Tables.{all_below, all_below_lem}
use Rattle.math_types.specs.Order.{list}
use Rattle.math_types.specs.Types.{kinds, rank, kind_at, kind_at_rank, every_kind}
use Rattle.math_types.specs.Types as types
use Rattle.math_types.specs.Values.{kind_of, kind_from, kind_from_of}
use Rattle.text_grammar.specs.Letters.{letter}
use Rattle.text_grammar.proofs.Begun.{begun_letter}
use Rattle.text_grammar.specs.Bytes.{digit?, begins}
use Rattle.text_scan.specs.Classes.{within, class_count, fine_of}
use Rattle.text_scan.specs.Lexemes.{begun}
use Rattle.text_scan.specs.declared.Spelled.{Spelled}
use Rattle.text_scan.specs.declared.Literal.TheVariants.{Int, Str}
use Rattle.text_scan.specs.declared.Spelled.TheVariants.{Con, Var, Empty}

-- ---- the number of classes

small : T (all_below (λ b. ltb (fine_of b) class_count) 256)
unfolding fine_of
small = tt

pub fine_small : (b : ℕ) → b < 256 → fine_of b < class_count
fine_small b h = ltb→lt (fine_of b) class_count (all_below_lem (λ b. ltb (fine_of b) class_count) 256 small b h)

-- ---- which term a class begins

-- the type among some that a letter names
abbrev kind_named : ℕ → List types.Kind → types.Kind
kind_named b [] = list
kind_named b (k ∷ s) = cond (eqb b (letter k)) k (kind_named b s)

abbrev pub begun_class : ℕ → ℕ → Spelled
begun_class c b =
    cond (within 1 2 c) (Con (Int false))
    (cond (eqb c 13) (Con (Int true)) (cond (eqb c 3) (Var (kind_from (kind_named b kinds))) (cond (eqb c 4) (Con Str) Empty)))

abbrev number : Spelled → ℕ
number (Con (Int false)) = 0
number (Con (Int true)) = 1
number (Con Str) = 2
number Empty = 3
number (Var k) = suc (suc (suc (suc (rank (kind_of k)))))

abbrev numbered : ℕ → Spelled
numbered zero = Con (Int false)
numbered (suc zero) = Con (Int true)
numbered (suc (suc zero)) = Con Str
numbered (suc (suc (suc zero))) = Empty
numbered (suc (suc (suc (suc n)))) = Var (kind_from (kind_at n))

numbered_number : (s : Spelled) → numbered (number s) ≡ s
numbered_number (Con (Int false)) = refl
numbered_number (Con (Int true)) = refl
numbered_number (Con Str) = refl
numbered_number Empty = refl
numbered_number (Var k) = ap Var (ap kind_from (kind_at_rank (kind_of k)) ∙ kind_from_of k)

abbrev begun_same : ℕ → Bool
begun_same b = eqb (number (begun (begins b))) (number (begun_class (fine_of b) b))

begun_agree : T (all_below begun_same 256)
unfolding fine_of begins digit? dec_le ℕ_discrete
begun_agree = tt

pub begun_is : (b : ℕ) → b < 256 → begun (begins b) ≡ begun_class (fine_of b) b
begun_is b h =
    sym (numbered_number (begun (begins b)))
    ∙ ap numbered (eqb→eq (number (begun (begins b))) (number (begun_class (fine_of b) b)) (all_below_lem begun_same 256 begun_agree b h))
    ∙ numbered_number (begun_class (fine_of b) b)

-- ---- what the code answers of a byte b

module _ (b : ℕ) where
  pub starts_var : (k : types.Kind) → b ≡ letter k → Var (kind_from k) ≡ begun (begins b)
  starts_var k h = sym (ap begun (begun_letter k (begins (letter k))).1) ∙ ap (λ (n : ℕ). begun (begins n)) (sym h)
