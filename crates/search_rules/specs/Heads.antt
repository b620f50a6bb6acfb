-- What the rules of the search ask of a side of an equation, on codes. `head_agrees` of proofs/Heads says that it is so of the search's
-- fields.
use Rattle.std.specs.Prelude.{Bool, true, false, cond, List, [], ◌∷◌, ℕ, leb}
use Rattle.base_limits.specs.Limits.{pair_places}
use Rattle.math_types.specs.Order.{list}
use Rattle.math_types.specs.Types.{rank}
use Rattle.math_codes.specs.Tables.{Table}
use Rattle.search_rules.specs.declared.Head.{Head}

-- a side with no terms has the type list
abbrev pub no_head : Head
no_head = record { some = false; longer = false; variable = false; list = false; kind = rank list; whole = rank list; first = 0 }

-- "the type of a field: of one term that term's, else list"
abbrev pub whole_by : Bool → ℕ → ℕ
whole_by more k = cond more (rank list) k

abbrev pub is_some : List ℕ → Bool
is_some [] = false
is_some (c ∷ cs) = true

module _ (T : Table) where
  -- of a side that starts with c
  abbrev pub head_by : ℕ → Bool → Head
  head_by c more =
      record {
        some = true;
        longer = more;
        variable = T.variable c;
        list = leb pair_places c;
        kind = T.kind c;
        whole = whole_by more (T.kind c);
        first = c;
      }

  abbrev pub head_of : List ℕ → Head
  head_of [] = no_head
  head_of (c ∷ cs) = head_by c (is_some cs)
