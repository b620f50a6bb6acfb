-- Lists computed on codes.
use Prim.Native.Nat.{ℕ}
use mathlib.Core.Path.{◌≡◌, refl}
use mathlib.Core.Bool.{false}
use mathlib.Core.List.{List, [], ◌∷◌}
use native.Mathlib.Decide.{ℕ_discrete, dec_lt}
use Rattle.math_types.specs.Order.{basic, list}
use Rattle.math_types.specs.Types.{leaf, integer, atom, entry}
use Rattle.math_terms.specs.Terms.{con, var}
use Rattle.text_grammar.specs.Ascii.{ascii}
use Rattle.text_grammar.specs.Terms.{OurTerm}
use Rattle.text_grammar.specs.constants.Constants.{int}
use Rattle.math_overlaps.specs.Shapes.{left, right}
use Rattle.math_codes.specs.Tables.{Table}
use Rattle.math_codes.specs.Lines.{our_table, our_texts}
use Rattle.math_codes.specs.Whole.{spots_of}
use Rattle.math_codes.specs.Index.{our_index, our_tops, indexed_list, indexed_answer}
use Rattle.math_codes.specs.Makers.{some_on}

abbrev num : ℕ → OurTerm
num n = con (int false n)

abbrev a : ℕ → OurTerm
a n = var (basic atom) n

abbrev l : ℕ → OurTerm
l n = var list n

abbrev i : ℕ → OurTerm
i n = var (basic (leaf integer)) n

abbrev listed : List (List OurTerm) → List (List OurTerm) → List (List ℕ)
listed r₁ r₂ = indexed_list (our_table r₁ r₂) (our_texts r₁ r₂) r₁ r₂ (our_index r₁ r₂ left r₁) our_tops (our_index r₁ r₂ right r₂) our_tops

-- `a0:l0` and `l0:2`
abbrev r₁ : List (List OurTerm)
r₁ = (a 0 ∷ l 0 ∷ []) ∷ []

abbrev r₂ : List (List OurTerm)
r₂ = (l 0 ∷ num 2 ∷ []) ∷ []

abbrev table : Table
table = our_table r₁ r₂

first_list : listed r₁ r₂
    ≡ ascii "2 <a0=2 <l0=empty >l0=empty\n" ∷ ascii "a0:l0:2 <a0=a0 <l0=l0:2 >l0=a0:l0\n" ∷ []
unfolding ℕ_discrete dec_lt
first_list = refl

-- `i0:l0|i0` and `3|a0`
second_list : listed ((i 0 ∷ l 0 ∷ []) ∷ (i 0 ∷ []) ∷ []) ((num 3 ∷ []) ∷ (a 0 ∷ []) ∷ []) ≡ ascii "3|3 <i0=3 <l0=empty >a0=3\n" ∷ []
unfolding ℕ_discrete dec_lt
second_list = refl

-- `i1:a2` and `a0:a0`
kept_list : listed ((i 1 ∷ a 2 ∷ []) ∷ []) ((a 0 ∷ a 0 ∷ []) ∷ []) ≡ ascii "i0:i0 <i1=i0 <a2=i0 >a0=i0\n" ∷ []
unfolding ℕ_discrete dec_lt
kept_list = refl

-- `1` and `2` do not overlap
no_entry : some_on entry (our_table ((num 1 ∷ []) ∷ []) ((num 2 ∷ []) ∷ [])) (spots_of 16 0 ((num 1 ∷ []) ∷ [])) (spots_of 16 64 ((num 2 ∷ []) ∷ []))
    (our_table ((num 1 ∷ []) ∷ []) ((num 2 ∷ []) ∷ [])).first ≡ false
unfolding ℕ_discrete dec_lt
no_entry = refl

-- an answer of `a0:l0` and `l0:2`: `l0` on the left is `l0:2`, on the right `a0:l0`; 0 and 65 are the places of `a0` and `2`, 128 is `l0`
answer_line_lem : indexed_answer table (our_texts r₁ r₂) (our_index r₁ r₂ left r₁) our_tops (λ n. 128 ∷ 65 ∷ []) (our_index r₁ r₂ right r₂) our_tops
    (λ n. 0 ∷ 128 ∷ []) table.first ≡ ascii "<a0=a0 <l0=l0:2 >l0=a0:l0\n"
unfolding ℕ_discrete dec_lt
answer_line_lem = refl
