-- What the rules of the search ask of two heads, on codes, and the code of the fresh list variable.
use Rattle.std.specs.Prelude.{Bool, false, cond, ◌&&◌, not, List, [], ◌∷◌, ℕ, ◌+◌, ◌%◌, eqb, leb}
use Rattle.base_limits.specs.Limits.{pair_places}
use Rattle.math_types.specs.Types.{entry}
use Rattle.search_rules.specs.declared.Head.{Head}

-- the first term of the side of b is an atom that can replace the first of the side of a, a variable x of type atom or below.
-- Document 01: "type(a) at or below type(x)", "need x and a to differ"
abbrev pub replaces : Head → Head → Bool
replaces a b = cond (b.some && not b.list) (not (eqb b.first a.first) && entry b.kind a.kind) false

-- type < type, of ranks
abbrev pub strictly : ℕ → ℕ → Bool
strictly j k = entry j k && not (entry k j)

-- a side is a term and a list variable
abbrev pub list_end : List ℕ → Bool
list_end [] = false
list_end (c ∷ []) = false
list_end (c ∷ (d ∷ [])) = leb pair_places d
list_end (c ∷ (d ∷ (e ∷ cs))) = false

-- the fresh list variable of a number; numbers of a byte have a code by their remainder
abbrev pub fresh_code : ℕ → ℕ
fresh_code f = pair_places + f % pair_places
