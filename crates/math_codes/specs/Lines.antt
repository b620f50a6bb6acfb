-- The text of an entry's line, from items: an item's text is copied from the table, or a letter and a number.
use Rattle.std.specs.Prelude.{◌≡◌, Bool, false, cond, List, [], ◌∷◌, ◌++◌, map, ℕ, ◌+◌, ◌-◌, get_or}
use Rattle.std.proofs.Math.Option.{Option, none, some}
use Rattle.std.proofs.Math.Decide.{ℕ_discrete}
use Rattle.base_limits.specs.Limits.{most_fields, kind_count, field_places, rule_places, pair_places, list_items, pair_items}
use Rattle.math_types.specs.Order.{basic}
use Rattle.math_types.specs.Types.{Kind, basics, entry, entry_is, rank}
use Rattle.math_terms.specs.Terms.{Term, con, var}
use Rattle.math_terms.specs.Seqs.{concat_map}
use Rattle.text_grammar.specs.Letters.{letter_at}
use Rattle.text_grammar.specs.Numbers.{digits_of}
use Rattle.text_grammar.specs.Plain.{term_text}
use Rattle.text_grammar.specs.Terms.{OurTerm}
use Rattle.text_grammar.specs.constants.Constants.{Con, consts}
use Rattle.math_overlaps.specs.Shapes.{Vars, Side, left, right, pair_vars, Shape}
use Rattle.math_overlaps.specs.Candidates.{Cand}
use Rattle.math_overlaps.specs.Joins.{At}
use Rattle.math_overlaps.specs.Overlaps.{Origin}
use Rattle.overlap_spec.specs.Lines.{name_text, left_tag, right_tag}
use Rattle.overlap_spec.specs.Variables.{Variable, variables}
use Rattle.math_codes.specs.Tables.{Holds, Table, Ranks, table_of, Made}
use Rattle.math_codes.specs.Entries.{pair_row, place_shapes, entries_on}
use Rattle.math_codes.specs.Names.{no_names, name_fields, is_var, MadeTerms}
use Rattle.math_codes.specs.Items.{terms_row, entry_items, value_items}

-- ---- texts and sizes of items

-- `numbers` has by code the number and one, 0 for none
module _ (T : Table) (texts : ℕ → List ℕ) (numbers : List ℕ) where
  -- of a variable a letter and its number, of a constant its plain text
  abbrev pub item_text : ℕ → List ℕ
  item_text c = cond (T.variable c) (letter_at (T.kind c) ∷ digits_of (get_or numbers c 0 - 1)) (texts c)

  -- each with its separator in front
  abbrev pub colon_texts : List ℕ → List ℕ
  colon_texts [] = []
  colon_texts (c ∷ cs) = 58 ∷ (item_text c ++ colon_texts cs)

  -- a field's items; of none `empty`
  abbrev pub items_text : List ℕ → List ℕ
  items_text [] = 101 ∷ 109 ∷ 112 ∷ 116 ∷ 121 ∷ []
  items_text (c ∷ cs) = item_text c ++ colon_texts cs

  -- fields, each with its separator in front
  abbrev pub bar_texts : List (List ℕ) → List ℕ
  bar_texts [] = []
  bar_texts (f ∷ fs) = 124 ∷ (items_text f ++ bar_texts fs)

  -- an entry's fields
  abbrev pub fields_text : List (List ℕ) → List ℕ
  fields_text [] = []
  fields_text (f ∷ fs) = items_text f ++ bar_texts fs

  -- a variable and its value
  abbrev pub value_text : ℕ → Variable → List ℕ → List ℕ
  value_text tag v cs = 32 ∷ (tag ∷ (name_text v.0 v.1 ++ 61 ∷ items_text cs))

  -- those of variables in their order
  abbrev pub values_text : ℕ → (Variable → List ℕ) → List Variable → List ℕ
  values_text tag value vs = concat_map (λ v. value_text tag v (value v)) vs

-- the sizes as sums; `size` is an item's
module _ (size : ℕ → ℕ) where
  -- each with its separator
  abbrev pub colons_size : List ℕ → ℕ
  colons_size [] = 0
  colons_size (c ∷ cs) = 1 + (size c + colons_size cs)

  -- a field's; `empty` has 5 bytes
  abbrev pub items_size : List ℕ → ℕ
  items_size [] = 5
  items_size (c ∷ cs) = size c + colons_size cs

  -- fields, each with its separator
  abbrev pub bars_size : List (List ℕ) → ℕ
  bars_size [] = 0
  bars_size (f ∷ fs) = 1 + (items_size f + bars_size fs)

  -- an entry's fields
  abbrev pub fields_size : List (List ℕ) → ℕ
  fields_size [] = 0
  fields_size (f ∷ fs) = items_size f + bars_size fs

-- ---- the tables of two of document 01's rules

-- variables are named by numbers, each on its side
abbrev pub our_vars : Vars basics
our_vars = pair_vars basics ℕ_discrete

-- an atom of a pair
abbrev pub OurAtom : Type 0
OurAtom = At basics consts our_vars

-- a term of an entry before the renumbering
abbrev pub OurOriginTerm : Type 0
OurOriginTerm = Term Con Kind (Origin ℕ)

-- the ranks of types, and their table
abbrev pub our_ranks : Ranks basics
our_ranks = record { rank = λ k. rank (basic k); below = entry; below_is = λ j k. entry_is (basic j) (basic k) }

-- the pair's atoms by place
abbrev pub our_row : List (List OurTerm) → List (List OurTerm) → List (Option OurAtom)
our_row r₁ r₂ = pair_row field_places most_fields r₁ r₂

-- the terms by item
abbrev pub our_terms : List (List OurTerm) → List (List OurTerm) → List (Option OurOriginTerm)
our_terms r₁ r₂ = terms_row (our_row r₁ r₂) list_items

-- the tables, and the plain texts of constants, are those of the two rules
pub record OurTables (r₁ r₂ : List (List OurTerm)) (T : Table) (texts : ℕ → List ℕ) : Type 0 where
  pub atoms : Made basics consts our_vars our_ranks T (our_row r₁ r₂)
  pub terms : MadeTerms rank T (our_terms r₁ r₂)
  pub plain : (c : ℕ) (d : Con) → Holds (our_terms r₁ r₂) c (con d) → texts c ≡ term_text (con d)

-- such tables: by place and list variable the rank, whether it is a variable, and a constant's plain text
abbrev pub rank_term : Option OurOriginTerm → ℕ
rank_term none = 0
rank_term (some (con c)) = rank (basic (consts.con_kind c))
rank_term (some (var k b)) = rank k

-- whether it is a variable
abbrev pub var_term : Option OurOriginTerm → Bool
var_term none = false
var_term (some u) = is_var u

-- a constant's plain text
abbrev pub text_term : Option OurOriginTerm → List ℕ
text_term none = []
text_term (some (con c)) = term_text (con c)
text_term (some (var k b)) = []

-- the tables
abbrev pub our_table : List (List OurTerm) → List (List OurTerm) → Table
our_table r₁ r₂ =
    record {
      first = (table_of basics consts our_vars our_ranks (our_row r₁ r₂)).first;
      kind = λ p. rank_term (get_or (our_terms r₁ r₂) p none);
      variable = λ p. var_term (get_or (our_terms r₁ r₂) p none);
    }

-- the plain texts
abbrev pub our_texts : List (List OurTerm) → List (List OurTerm) → ℕ → List ℕ
our_texts r₁ r₂ c = text_term (get_or (our_terms r₁ r₂) c none)

-- ---- lines

module _ (r₁ r₂ : List (List OurTerm)) (T : Table) (texts : ℕ → List ℕ) where
  -- the values of the rule on a side
  abbrev pub values_on : List ℕ → ℕ → Side → List (List OurTerm) → List (Shape ℕ ℕ) → List ℕ → List (List ℕ) → List ℕ
  values_on numbers tag d r Ps atoms is =
      values_text T texts numbers tag (λ v. value_items basics consts ℕ_discrete (our_row r₁ r₂) d Ps atoms is v.0 v.1)
      (variables r)

  -- the line of an entry's items and their numbers
  abbrev pub line_from : List (Shape ℕ ℕ) → List (Shape ℕ ℕ) → List ℕ → List (List ℕ) → List ℕ → List ℕ
  line_from Ps Qs atoms is numbers =
      fields_text T texts numbers is
      ++ (values_on numbers left_tag left r₁ Ps atoms is ++ (values_on numbers right_tag right r₂ Qs atoms is ++ 10 ∷ []))

  -- the line of a choice and its last array; n places, m items
  abbrev pub line_on : ℕ → ℕ → List (Shape ℕ ℕ) → List (Shape ℕ ℕ) → List Cand × List ℕ → List ℕ
  line_on n m Ps Qs e = line_from Ps Qs e.1 (entry_items n Ps Qs e) (name_fields T (no_names m kind_count) (entry_items n Ps Qs e)).numbers

  -- the lines of the entries in their order; rules without shapes have none
  abbrev pub listed_on : Option (List (Shape ℕ ℕ)) → Option (List (Shape ℕ ℕ)) → List (List ℕ)
  listed_on none o = []
  listed_on (some Ps) none = []
  listed_on (some Ps) (some Qs) = map (line_on pair_places pair_items Ps Qs) (entries_on entry T ℕ ℕ Ps Qs T.first)

  -- THE LIST of two rules from their tables, line by line
  abbrev pub list_on : List (List ℕ)
  list_on = listed_on (place_shapes field_places 0 r₁) (place_shapes field_places rule_places r₂)
