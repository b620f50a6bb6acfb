-- The head of a side's value is the head of the search's field. Assumes nothing.
use mathlib.Core.Path.{◌≡◌, refl}
use mathlib.Core.Bool.{true}
use mathlib.Core.Option.{Option}
use mathlib.Core.List.{List, [], ◌∷◌}
use Prim.Native.Nat.{ℕ, ◌+◌}
use native.Mathlib.Omega.{arith}
use lib.ListN.{length}
use borrow.Author.Tests.{le-leb}
use Rattle.base_limits.specs.Limits.{pair_places}
use Rattle.base_lists.specs.Seqs.{All}
use Rattle.math_types.specs.Types.{basics, rank}
use Rattle.text_grammar.specs.constants.Constants.{consts}
use Rattle.math_search.specs.Problems.{Field, term_type, field_type}
use Rattle.math_codes.specs.Tables.{Table, Made}
use Rattle.math_codes.specs.Lines.{OurAtom, our_vars, our_ranks}
use Rattle.search_spec.specs.Answers.{setting}
use Rattle.pair_row.specs.Row.{table_in}
use Rattle.search_items.specs.codes.Codes.{code_tm, codes_of, On}
use Rattle.search_items.proofs.codes.Codes.{variable_tm, list_tm, ListsBehind, code_kind, code_variable, code_list}
use Rattle.search_rules.specs.declared.Head.{Head}
use Rattle.search_rules.specs.Heads.{no_head, whole_by, is_some, head_of}

-- in a row the items behind the places are list variables
pub lists_behind : (row : List ℕ) → ListsBehind (table_in row)
lists_behind row =
    record {
      kinds = λ n. rw (le-leb pair_places (pair_places + n) (omega arith));
      variables = λ n. rw (le-leb pair_places (pair_places + n) (omega arith));
    }

-- ---- heads

module _ (t : List (Option OurAtom)) where
  abbrev pub head_tm : Field setting → Head
  head_tm [] = no_head
  head_tm (x ∷ ts) =
      record {
        some = true;
        longer = is_some (codes_of t ts);
        variable = variable_tm x;
        list = list_tm x;
        kind = rank (term_type setting x);
        whole = whole_by (is_some (codes_of t ts)) (rank (term_type setting x));
        first = code_tm t x;
      }

  pub whole_is : (L : Field setting) → (head_tm L).whole ≡ rank (field_type setting L)
  whole_is [] = refl
  whole_is (x ∷ []) = refl
  whole_is (x ∷ (u ∷ L)) = refl

  module _ (long : length t ≡ pair_places) (T : Table) (m : Made basics consts our_vars our_ranks T t) (l : ListsBehind T) where
    pub head_agrees : (L : Field setting) → All (On t) L → head_of T (codes_of t L) ≡ head_tm L
    head_agrees [] h = refl
    head_agrees (x ∷ ts) h = rw (code_variable t long T m l x h.0, code_list t long x h.0, code_kind t long T m l x h.0)
