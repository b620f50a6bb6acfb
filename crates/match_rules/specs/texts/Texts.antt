-- The fields of a text, as values. `compared_texts` of proofs/Texts says that, of texts that are accepted, their comparison is that of what
-- they say.
use Rattle.std.specs.Prelude.{List, ℕ}
use Rattle.base_lists.specs.Seqs.{tabulate}
use Rattle.text_values.specs.Values.{Field, SlipField}
use Rattle.text_passes.specs.Fields.{field_count, side_field, slip_field}

abbrev pub side_fields : List ℕ → List Field
side_fields t = tabulate (field_count t) (side_field t)

abbrev pub slip_fields : List ℕ → List SlipField
slip_fields t = tabulate (field_count t) (slip_field t)
