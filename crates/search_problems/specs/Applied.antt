-- What a move makes of a record, as code makes it. `applied_holds` of proofs/Moved says that it is the child that the rule gives.
use Rattle.std.specs.Prelude.{cond, map, ℕ, leb, get_or}
use Rattle.base_limits.specs.Limits.{pair_places}
use Rattle.math_terms.specs.Seqs.{concat_map}
use Rattle.search_problems.specs.variables.Sets.{with_name}
use Rattle.math_codes.specs.States.{replaced}
use Rattle.pair_state.specs.declared.State.{State}
use Rattle.search_items.specs.declared.Items.{Items}
use Rattle.search_items.specs.Items.{items_of, collect}
use Rattle.search_items.specs.Substitution.{put_code}
use Rattle.search_rules.specs.declared.Move.{Move}
use Rattle.search_problems.specs.declared.Problem.{Problem}

-- w{x ↦ s}
abbrev pub put_items : ℕ → Items → Items → Items
put_items x s w = collect (concat_map (put_code x (items_of s)) (items_of w))

-- an atom variable's value is one atom, and no list variable
abbrev pub bound_atoms : ℕ → Items → State → State
bound_atoms x s st = cond (leb pair_places x) st (record { atoms = replaced x (get_or (items_of s) 0 0) st.atoms })

-- σ ∘ {x ↦ s}
abbrev pub bound_to : ℕ → Items → Problem → Problem
bound_to x s p =
    record {
      «open» = p.«open»;
      left = p.left;
      right = p.right;
      atoms = bound_atoms x s p.atoms;
      lists = map (put_items x s) p.lists;
      used = p.used;
    }

-- what is left, and the fresh list variable among those used where the move brings it in
abbrev pub left_by : Move → ℕ → Problem → Problem
left_by m f p =
    record {
      «open» = m.«open»;
      left = m.left;
      right = m.right;
      atoms = p.atoms;
      lists = p.lists;
      used = cond m.fresh (with_name p.used f) p.used;
    }

-- the problem that a move makes of p, with the fresh list variable f
abbrev pub applied_value : Problem → Move → ℕ → Problem
applied_value p m f = let q = left_by m f p in cond m.binds (bound_to m.variable m.value q) q
