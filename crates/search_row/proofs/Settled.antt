-- WHAT SEARCHING COMES TO: both runs end, and what they leave is the answer and the lines of the definition, for any two field values.
--     halts              both runs end
--     turns, enough      a number of turns that is enough for each
--     settled            what is promised of the answer, the output and the row
use mathlib.Core.Path.{◌≡◌, refl, sym, ◌∙◌, ap, ap₂, subst, subst₂}
use mathlib.Core.Bool.{Bool, true, false, ◌&&◌, cond}
use mathlib.Core.Option.{none, some}
use mathlib.Core.List.{List, [], ◌∷◌}
use Prim.Native.Nat.{ℕ, ◌+◌}
use native.Mathlib.Omega.{arith}
use lib.Dec.{leb}
use lib.ListN.{length}
use Rattle.text_grammar.specs.Terms.{OurTerm, OurFields}
use Rattle.text_grammar.specs.Limits.{IsLeft}
use Rattle.text_values.specs.Values.{Field}
use Rattle.text_values.specs.Values.{view_field, encode_field}
use Rattle.text_accepted.specs.Accepted.{accepted_field, counted_field}
use Rattle.text_accepted.proofs.Accepted.{encode_accepted_field, accepted_field_lem}
use Rattle.text_write.specs.Answers.{after}
use Rattle.search_problems.specs.declared.Problem.{Problem}
use Rattle.pair_lines.specs.Lines.{line_bound}
use Rattle.search_rules.specs.Values.{number}
use Rattle.text_write.specs.pieces.Stored as stored
use Rattle.search_spec.specs.Answers.{Lines, lines, nine, lines_of, lines_for, bytes_of}
use Rattle.search_steps.specs.declared.turns.State.{State}
use Rattle.search_steps.specs.Machine as machine
use Rattle.search_steps.specs.Machine.{Config, Reaches}
use Rattle.search_row.specs.Answers.{Searched, fitting, too_small, row_full, told, searched_of, Searches, reported, counting, writing, Halts, Enough, Done}
use Rattle.search_row.proofs.Left.{longer}
use Rattle.search_row.proofs.Finding.{reaches_once}
use Rattle.search_row.proofs.Twice.{Answered, counting_ends_none, writing_ends_none, twice_none}
use Rattle.search_row.proofs.Lines.{is_nine, shown_lines, counting_ends, writing_ends, twice_lines}
use Rattle.search_row.proofs.Agreed.{Held, agreed, line_short, root_held}

-- ---- a state that says what the lines are

bytes_same : (L : Lines) → stored.bytes_of (shown_lines L) ≡ bytes_of L
bytes_same (lines ls) = refl
bytes_same nine = refl

reported_as : (e₉ : Bool) (n b room : ℕ) (t : State) → t.refused ≡ e₉ → t.lines ≡ n
    → t.bytes ≡ b → reported t room ≡ cond e₉ row_full (cond (leb b room) (fitting n b) (too_small n b))
reported_as e₉ n b room t e f g =
    ap (λ (c : Bool). cond c row_full (cond (leb t.bytes room) (fitting t.lines t.bytes) (too_small t.lines t.bytes))) e
    ∙ ap₂ (λ (n b : ℕ). cond e₉ row_full (cond (leb b room) (fitting n b) (too_small n b))) f g

-- the number and the values of lines that have room, or have none
told_by : (n b : ℕ) (c : Bool) → told (cond c (fitting n b) (too_small n b)) ≡ record { number = cond c none (some 8); values = n ∷ (b ∷ []) }
told_by n b true = refl
told_by n b false = refl

said : (L : Lines) (room : ℕ) (t : State) → t.refused ≡ is_nine L → t.lines ≡ length (shown_lines L) → t.bytes ≡ length (stored.bytes_of (shown_lines L))
    → told (reported t room) ≡ searched_of L room
said (lines ls) room t e f g =
    ap told (reported_as false (length ls) (length (stored.bytes_of ls)) room t e f g)
    ∙ told_by (length ls) (length (stored.bytes_of ls)) (leb (length (stored.bytes_of ls)) room)
said nine room t e f g = ap told (reported_as true 0 0 room t e f g)

-- ---- what is promised

-- the answer and the output of the lines L
abbrev Leaves : Lines → List ℕ → Searched → List ℕ → Type 0
Leaves L out r out' = (told r ≡ searched_of L (length out)) × (out' ≡ after (bytes_of L) out)

leaves : (F G : Field) (row : List Problem) (out : List ℕ) (r : Searched) (row' : List Problem) (out' : List ℕ) (L : Lines) (d : Done F G row out r row' out')
    → Answered F G row out (is_nine L) (shown_lines L) d.counted d.written → Leaves L out r out'
leaves F G row out r row' out' L d a = (
  ap told d.answer ∙ said L (length out) d.counted.state a.refused_is a.lines_is a.bytes_is,
  d.leaves ∙ a.out_is ∙ ap (λ (b : List ℕ). after b out) (bytes_same L),
)

-- ---- two accepted fields

module _ (f g : List OurTerm) (is_f : IsLeft (f ∷ [])) (is-g : IsLeft (g ∷ [])) (row : List Problem) (out : List ℕ) where
  both : (accepted_field (encode_field f) && accepted_field (encode_field g)) ≡ true
  both = ap₂ ◌&&◌ (encode_accepted_field f is_f) (encode_accepted_field g is-g)

  halts_read : Halts (encode_field f) (encode_field g) row out
  halts_read = record {
    count =
        counting_ends f g (encode_field f) (encode_field g) row out is_f is-g both (Held f g is_f is-g) number (agreed f g is_f is-g) line_bound
        (line_short f g is_f is-g) (omega arith) (root_held f g is_f is-g);
    write =
        writing_ends f g (encode_field f) (encode_field g) row out is_f is-g both (Held f g is_f is-g) number (agreed f g is_f is-g) line_bound
        (line_short f g is_f is-g) (omega arith) (root_held f g is_f is-g);
  }

  leaves_read : (r : Searched) (row' : List Problem) (out' : List ℕ)
      → Done (encode_field f) (encode_field g) row out r row' out' → Leaves (lines_of (length row) f g) out r out'
  leaves_read r row' out' d = leaves (encode_field f) (encode_field g) row out r row' out' (lines_of (length row) f g) d
      (twice_lines f g (encode_field f) (encode_field g) row out is_f is-g both (Held f g is_f is-g) number (agreed f g is_f is-g) line_bound
      (line_short f g is_f is-g) (omega arith) (root_held f g is_f is-g)
      d.counted d.written d.counts d.writes)

-- ---- any two fields

-- what a field counts as, by the test
counted_by : (F : Field) (b : Bool) → accepted_field F ≡ b → counted_field F ≡ cond b (view_field F ∷ []) []
counted_by F b e = ap (λ (c : Bool). cond c (view_field F ∷ []) []) e

module _ (F G : Field) (row : List Problem) (out : List ℕ) where
  halts_by : (a b : Bool) → accepted_field F ≡ a → accepted_field G ≡ b → Halts F G row out
  halts_by true true p q =
      let i = accepted_field_lem F p in
      let j = accepted_field_lem G q in
      subst₂ (λ (F G : Field). Halts F G row out) i.1 j.1 (halts_read (view_field F) (view_field G) i.0 j.0 row out)
  halts_by true false p q = let z = ap₂ ◌&&◌ p q in record { count = counting_ends_none F G row out z; write = λ t r. writing_ends_none F G row out z t }
  halts_by false b p q = let z = ap₂ ◌&&◌ p q in record { count = counting_ends_none F G row out z; write = λ t r. writing_ends_none F G row out z t }

  -- BOTH RUNS END
  pub halts : Halts F G row out
  halts = halts_by (accepted_field F) (accepted_field G) refl refl

  -- where the run that counts ends
  abbrev counted_at : Config
  counted_at = machine.after halts.count.0 (counting F G row out)

  counted_there : Reaches (counting F G row out) counted_at
  counted_there = (halts.count.0, refl, halts.count.1)

  -- so many turns are enough for each
  pub turns : ℕ
  turns = halts.count.0 + (halts.write counted_at counted_there).0

  pub enough : Enough F G row out turns
  unfolding turns
  enough = record {
    count = longer halts.count.0 turns (counting F G row out) (omega arith) halts.count.1;
    write = λ c r.
        subst (λ (d : Config). (machine.after turns (writing F G row out d)).state.busy ≡ false)
        (reaches_once (counting F G row out) counted_at c counted_there r)
        (longer (halts.write counted_at counted_there).0 turns (writing F G row out counted_at) (omega arith) (halts.write counted_at counted_there).1);
  }

  module _ (r : Searched) (row' : List Problem) (out' : List ℕ) (d : Done F G row out r row' out') where
    left_none : (accepted_field F && accepted_field G) ≡ false → Leaves (lines []) out r out'
    left_none z = leaves F G row out r row' out' (lines []) d (twice_none F G row out z d.counted d.written d.counts d.writes)

    of : (L : Lines) → lines_for (length row) (counted_field F) (counted_field G) ≡ L → Leaves L out r out'
        → Leaves (lines_for (length row) (counted_field F) (counted_field G)) out r out'
    of L e h = subst (λ (M : Lines). Leaves M out r out') (sym e) h

    leaves_by : (a b : Bool) → accepted_field F ≡ a → accepted_field G ≡ b → Leaves (lines_for (length row) (counted_field F) (counted_field G)) out r out'
    leaves_by true true p q =
        let i = accepted_field_lem F p in
        let j = accepted_field_lem G q in
        of (lines_of (length row) (view_field F) (view_field G)) (ap₂ (lines_for (length row)) (counted_by F true p) (counted_by G true q))
        (leaves_read (view_field F) (view_field G) i.0 j.0 row out r row' out'
        (subst₂ (λ (F G : Field). Done F G row out r row' out') (sym i.1) (sym j.1) d))
    leaves_by true false p q = of (lines []) (ap₂ (lines_for (length row)) (counted_by F true p) (counted_by G false q)) (left_none (ap₂ ◌&&◌ p q))
    leaves_by false b p q = of (lines []) (ap (λ (c : OurFields). lines_for (length row) c (counted_field G)) (counted_by F false p))
        (left_none (ap₂ ◌&&◌ p q))

    -- WHAT IS PROMISED of the answer, the output and the row
    pub settled : Searches F G row out r row' out'
    settled = let h = leaves_by (accepted_field F) (accepted_field G) refl refl in record { answer = h.0; output = h.1; row = d.clears }
