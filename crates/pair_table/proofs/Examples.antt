-- Tables computed: `empty` among other terms takes no place.
use Prim.Native.Nat.{ℕ}
use mathlib.Core.Path.{◌≡◌, refl}
use mathlib.Core.Bool.{false}
use mathlib.Core.List.{List, [], ◌∷◌}
use native.Mathlib.Decide.{ℕ_discrete, dec_le, dec_lt}
use Rattle.base_lists.specs.Seqs.{any?, tabulate}
use Rattle.math_terms.specs.Terms.{con}
use Rattle.text_grammar.specs.Ascii.{ascii}
use Rattle.text_grammar.specs.Bytes.{digit?, begins, follows, first, holds}
use Rattle.text_grammar.specs.Tokens.{fifth?, many?, over?, clash?, clash_of?}
use Rattle.text_grammar.specs.constants.Constants.{int}
use Rattle.text_grammar.specs.Terms.{OurFields}
use Rattle.text_grammar.specs.Read.{accepted, read_side}
use Rattle.math_codes.specs.Whole.{spots_of}
use Rattle.pair_row.specs.Row.{text_in, spot_in}
use Rattle.pair_table.specs.Notes.{rows_of}

abbrev said : OurFields
said = (con (int false 1) ∷ con (int false 7) ∷ []) ∷ []

reads : read_side (ascii "empty:1:empty:007") ≡ accepted said
unfolding digit? begins follows first holds fifth? many? over? clash? clash_of? any? ℕ_discrete dec_le dec_lt
reads = refl

abbrev rows : List ℕ × List ℕ
rows = rows_of (ascii "empty:1:empty:007") (ascii "7")

noted : tabulate 4 (text_in rows.0 rows.1) ≡ ascii "1" ∷ ascii "7" ∷ [] ∷ [] ∷ []
unfolding digit? begins follows first holds ℕ_discrete dec_le dec_lt
noted = refl

shaped : spot_in rows.0 false 0 ∷ [] ≡ spots_of 16 0 said
unfolding digit? begins follows first holds ℕ_discrete dec_le dec_lt
shaped = refl
