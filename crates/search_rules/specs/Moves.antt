-- The transformation rules on codes, as code makes them: whether a rule applies, by the heads a and b of the two sides and their codes ls
-- and ms; and what it makes of them, by the codes x and y that the sides begin with, the sides l and m, and the fresh list variable's
-- code n.
-- `move_agrees` of proofs/Moving says that on the values of the search's fields they are the rules of document 001 as document 01 amends
-- them.
use Rattle.std.specs.Prelude.{Bool, true, false, cond, ◌&&◌, not, List, [], ◌∷◌, ℕ, Option, Some, None, eqb, get_or, drop}
use Rattle.math_types.specs.Types.{entry}
use Rattle.math_terms.specs.Seqs.{concat_map}
use Rattle.math_codes.specs.Tables.{Table}
use Rattle.search_items.specs.declared.Items.{Items}
use Rattle.search_items.specs.Items.{blank_items, items_of, collect}
use Rattle.search_items.specs.Substitution.{put_code, same_codes, occurs_in}
use Rattle.search_rules.specs.declared.Head.{Head}
use Rattle.search_rules.specs.Heads.{head_of}
use Rattle.search_rules.specs.declared.Move.{Move}
use Rattle.search_rules.specs.Tests.{replaces, strictly, list_end, fresh_code}

-- ---- what a rule leaves

abbrev pub moved : Bool → Bool → Bool → ℕ → Items → Items → Items → Move
moved o b f x s l m = record { «open» = o; binds = b; fresh = f; variable = x; value = s; left = l; right = m }

-- the rule does not apply
abbrev pub no_move : Option Move
no_move = None

abbrev pub solved_move : Move
solved_move = moved false false false 0 blank_items blank_items blank_items

abbrev pub solved_by : ℕ → Items → Move
solved_by x s = moved false true false x s blank_items blank_items

abbrev pub kept : Items → Items → Move
kept l m = moved true false false 0 blank_items l m

abbrev pub bound : Bool → ℕ → Items → Items → Items → Move
bound f x s l m = moved true true f x s l m

-- ---- the rules: the test of each, and what it makes

abbrev pub decomp1? : Head → Head → Bool
decomp1? a b = a.list && a.longer && b.some

abbrev pub decomp1 : ℕ → ℕ → List ℕ → List ℕ → Move
decomp1 x y ls ms = bound false x (collect (y ∷ [])) (collect (drop 1 ls)) (collect (drop 1 ms))

-- all but the first code, where x is replaced by c
abbrev pub put_rest : ℕ → ℕ → List ℕ → Items
put_rest x c ls = collect (concat_map (put_code x (c ∷ [])) (drop 1 ls))

abbrev pub decomp1'? : Head → Head → Bool
decomp1'? a b = a.variable && not a.list && a.longer && replaces a b

abbrev pub decomp1' : ℕ → ℕ → List ℕ → List ℕ → Move
decomp1' x y ls ms = bound false x (collect (y ∷ [])) (put_rest x y ls) (put_rest x y ms)

-- of Decomp2' too
abbrev pub decomp2? : Head → Head → Bool
decomp2? a b = a.list && a.longer && b.list

-- of Subst3 too
abbrev pub decomp2 : ℕ → ℕ → List ℕ → List ℕ → ℕ → Move
decomp2 x y ls ms n = bound true x (collect (y ∷ (n ∷ []))) (collect (n ∷ drop 1 ls)) (collect (drop 1 ms))

abbrev pub decomp2' : ℕ → ℕ → List ℕ → List ℕ → ℕ → Move
decomp2' x y ls ms n = bound true y (collect (x ∷ (n ∷ []))) (collect (drop 1 ls)) (collect (n ∷ drop 1 ms))

abbrev pub decomp3? : Head → Head → Bool
decomp3? a b = a.some && b.some && eqb a.first b.first

abbrev pub decomp3 : List ℕ → List ℕ → Move
decomp3 ls ms = kept (collect (drop 1 ls)) (collect (drop 1 ms))

-- e: the right side is a term and a list variable
abbrev pub decomp4? : Head → Head → Bool → Bool
decomp4? a b e = cond (a.variable && not a.list && not a.longer) (e && replaces a b) false

abbrev pub decomp4 : ℕ → ℕ → List ℕ → Move
decomp4 x y ms = bound false x (collect (y ∷ [])) blank_items (collect (drop 1 ms))

abbrev pub subst1? : Head → Head → List ℕ → Bool
subst1? a b ms = cond (a.variable && not a.longer) (entry b.whole a.kind && not (occurs_in a.first ms)) false

abbrev pub subst2? : Head → Bool
subst2? a = a.list && a.longer

abbrev pub subst2 : ℕ → Items → List ℕ → Move
subst2 x m ls = bound false x blank_items (collect (drop 1 ls)) m

abbrev pub subst3? : Head → Head → Bool
subst3? a b = a.list && a.longer && b.some && not b.list

-- the rules Orient1 to Orient4 turn the equation round
abbrev pub orient1? : Head → Head → Bool
orient1? a b = a.some && not a.variable && b.variable

abbrev pub orient2? : Head → Head → Bool
orient2? a b = a.variable && a.longer && b.variable && not b.longer && eqb a.kind b.kind

abbrev pub orient3? : Head → Head → Bool
orient3? a b = a.variable && b.variable && strictly a.kind b.kind

abbrev pub orient4? : Head → Head → Bool
orient4? a b = not a.some && b.list

-- ---- all of them

-- "in this order: Remove, Decomp1, Decomp1', Decomp2, Decomp2', Decomp3, Decomp4, Subst1, Subst2, Subst3, Orient1 to Orient4"
abbrev pub tests_by : Head → Head → Bool → List ℕ → List ℕ → List Bool
tests_by a b e ls ms =
    same_codes ls ms ∷ (decomp1? a b ∷ (decomp1'? a b ∷ (decomp2? a b ∷ (decomp2? a b ∷ (decomp3? a b ∷ (decomp4? a b e ∷ (subst1? a b ms
    ∷ (subst2? a ∷ (subst3? a b ∷ (orient1? a b ∷ (orient2? a b ∷ (orient3? a b ∷ (orient4? a b ∷ [])))))))))))))

abbrev pub made_by : ℕ → ℕ → Items → Items → List ℕ → List ℕ → ℕ → List (Option Move)
made_by x y l m ls ms n =
    Some solved_move ∷ (Some (decomp1 x y ls ms) ∷ (Some (decomp1' x y ls ms) ∷ (Some (decomp2 x y ls ms n) ∷ (Some (decomp2' x y ls ms n)
    ∷ (Some (decomp3 ls ms) ∷ (Some (decomp4 x y ms) ∷ (Some (solved_by x m) ∷ (Some (subst2 x m ls) ∷ (Some (decomp2 x y ls ms n)
    ∷ (Some (kept m l) ∷ (Some (kept m l) ∷ (Some (kept m l) ∷ (Some (kept m l) ∷ [])))))))))))))

-- which of them bring in the fresh list variable
abbrev pub fresh_rules : List Bool
fresh_rules =
    false ∷ (false ∷ (false ∷ (true ∷ (true ∷ (false ∷ (false ∷
    (false ∷ (false ∷ (true ∷ (false ∷ (false ∷ (false ∷ (false ∷ [])))))))))))))

-- the rule of a number applies; no number beyond the last has a rule
abbrev pub applies_by : Head → Head → List ℕ → List ℕ → ℕ → Bool
applies_by a b ls ms r = get_or (tests_by a b (list_end ms) ls ms) r false

-- and makes the equation this
abbrev pub move_by : Head → Head → Items → Items → List ℕ → List ℕ → ℕ → ℕ → Option Move
move_by a b l m ls ms n r = cond (applies_by a b ls ms r) (get_or (made_by a.first b.first l m ls ms n) r no_move) no_move

module _ (T : Table) where
  abbrev pub applies_value : ℕ → Items → Items → Bool
  applies_value r l m = applies_by (head_of T (items_of l)) (head_of T (items_of m)) (items_of l) (items_of m) r

  abbrev pub move_value : ℕ → Items → Items → ℕ → Option Move
  move_value r l m f = move_by (head_of T (items_of l)) (head_of T (items_of m)) l m (items_of l) (items_of m) (fresh_code f) r
