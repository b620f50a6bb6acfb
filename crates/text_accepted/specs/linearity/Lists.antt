-- Left-linearity as code keeps it: which list variables were met, and whether one was met in this field.
-- `linear_is` of proofs/Linear says that this is document 01's left-linearity.
use Rattle.std.specs.Prelude.{Bool, true, false, ◌&&◌, not, ℕ, get_or, set, replicate}
use mathlib.Core.List.{List, foldl}
use Rattle.base_limits.specs.Limits.{numbers_of_side}
use Rattle.math_types.specs.Order.{basic, list}
use Rattle.math_terms.specs.Terms.{con, var}
use Rattle.text_grammar.specs.Terms.{OurTerm, OurFields, terms_of}
use Rattle.text_accepted.specs.declared.linearity.Lists.{Lists}

abbrev pub no_lists : Lists
no_lists = record { ok = true; here = false; seen = replicate numbers_of_side false }

abbrev pub next_field : Lists → Lists
next_field l = record { ok = l.ok; here = false; seen = l.seen }

-- the list variable of number v stands here: it is the first of its field, and none before had its number
abbrev pub still_ok : Lists → ℕ → Bool
still_ok l v = l.ok && (not l.here && not (get_or l.seen v false))

abbrev pub add_list : Lists → ℕ → Lists
add_list l v = record { ok = still_ok l v; here = true; seen = set l.seen v true }

abbrev pub add_term : Lists → OurTerm → Lists
add_term l (con c) = l
add_term l (var (basic k) v) = l
add_term l (var list v) = add_list l v

abbrev pub add_field : Lists → List OurTerm → Lists
add_field l f = foldl add_term (next_field l) f

abbrev pub linear : OurFields → Bool
linear r = (foldl add_field no_lists (terms_of r)).ok
