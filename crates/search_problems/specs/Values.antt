-- The blank record. What the records stand for is `Holds` of proofs/.
use Rattle.std.specs.Prelude.{false, replicate}
use Rattle.base_limits.specs.Limits.{pair_places}
use Rattle.search_items.specs.Items.{blank_items}
use Rattle.search_problems.specs.declared.Problem.{Problem}

-- document 01: "the blank record (every number in it zero)"
abbrev pub blank_problem : Problem
blank_problem =
    record {
      «open» = false;
      left = blank_items;
      right = blank_items;
      atoms = record { atoms = replicate pair_places 0 };
      lists = replicate 2 blank_items;
      used = 0;
    }
