use Rattle.std.proofs.Common.{◌≡◌, drop}
use mathlib.Core.List.{foldl}
use Rattle.math_terms.specs.Seqs.{concat_map}
use Rattle.search_items.specs.Items.{pushed, collect}
use Rattle.search_items.specs.Substitution.{put_code}
use Rattle.search_items.proofs.Items.put_in.Given as goal

-- what is left to put makes the whole
abbrev pub invariant-loop-c : goal.invariant-loop-c
invariant-loop-c l =
    let f = put_code l.x l.s in
    foldl pushed l.y (concat_map f (drop l.c-index l.codes)) ≡ collect (concat_map f l.codes)
