-- DEMAND 2, its last two sentences: "The search's answers all solve the equation. When it isn't refused, every solution by constants is an
-- instance of one of them, and no answer means no solution." And demand 1 of the search: "each refusal comes in its stated case only".
--     Demand2          what is said of the bytes of the lines
--     SearchDemand     what is said of a call: its number, its values, the lent bytes, the lent row
--     search-demand    every call has it, by the record that the contracts of `search_row::search` and `search_row::own::search_in` cite
--     filled-by-laws, solved-by-laws    the equation as it is written, under GP 2's laws
--     steps-fall, no-chain              Theorem 1 of document 001
--     set_is                            the set of a problem's list variables
use Rattle.std.specs.Prelude.{◌≡◌, refl, ◌≢◌, ◌↔◌, ◌⊎◌, Bool, true, false, cond, ℕ, suc, ◌≤◌, ◌<◌, leb, length, take, drop}
use Rattle.std.proofs.Common.{sym, ◌∙◌, ap, ap₂, subst, inl, inr, arith, lt_of_not-le, take_at, drop_at, le-leb}
use Rattle.std.proofs.Math.Option.{Option, none, some, none-ne-some, some-injective}
use mathlib.Core.List.{List, [], ◌∷◌, ◌++◌, map, head-eq_of_cons-eq}
use mathlib.Core.List.Memᴰ
use mathlib.Core.List.{Memᴰ}
use Rattle.std.proofs.Math.Decide.{dec_le}
use Rattle.std.proofs.lemmas.List.{length-map}
use Rattle.base_lists.specs.Seqs.{All}
use Rattle.math_types.specs.Types.{Kind, basics}
use Rattle.math_terms.specs.Terms.{con}
use Rattle.math_terms.specs.Seqs.{concat_map}
use Rattle.math_terms.specs.Fillings.{Filling, Typed, value, fill}
use Rattle.math_terms.specs.Laws.{◌≈◌, flat, replace}
use Rattle.math_terms.proofs.Laws.{laws, flat_replace, filled_terms, cons_once}
use Rattle.text_grammar.specs.Told.{Told}
use Rattle.text_grammar.specs.Grammar.{Raw, Says}
use Rattle.text_grammar.specs.Terms.{OurTerm, OurFields, fields_of}
use Rattle.text_grammar.specs.constants.Constants.{Con, consts}
use Rattle.text_grammar.specs.Limits.{IsLeft}
use Rattle.text_grammar.specs.Read.{accepted}
use Rattle.text_grammar.specs.rules.Read.{read_rule}
use Rattle.text_grammar.proofs.rules.Before.{one_sided}
use Rattle.text_grammar.proofs.Told.{eight_iff, fits_iff}
use Rattle.text_grammar.proofs.Parse.{says_one}
use Rattle.text_grammar.proofs.Theorems.{rule_accepted}
use Rattle.text_grammar.specs.constants.Written.{written_field}
use Rattle.text_grammar.proofs.constants.Written.{flat_field}
use Rattle.math_overlaps.specs.Substitutions.{Subst, image, substitute}
use Rattle.math_overlaps.specs.Shapes.{left, right}
use Rattle.overlap_spec.specs.Variables.{variables}
use Rattle.overlap_spec.specs.Fits.{name_of, Solution}
use Rattle.math_search.specs.Problems.{Bindings, equation, problem, rest, used}
use Rattle.math_search.specs.Problems as searching
use Rattle.math_search.specs.Rules.{Rule, children, Met}
use Rattle.math_search.specs.Termination.{Lower}
use Rattle.math_search.specs.Runs.{Queued, peak}
use Rattle.math_search.specs.Answers.{ListVariableOf}
use Rattle.math_search.proofs.Searching as theorem
use Rattle.math_search.proofs.Ends as ends
use Rattle.math_search.proofs.Used.{used_is}
use Rattle.math_search.proofs.Peak as peaks
use Rattle.math_search.proofs.Peak.{peak_most, peak_met, refused_peak}
use Rattle.search_spec.specs.Answers.{setting, field_on, AnswerLine, line_text, lines_text, WritableAnswer, Gives, InstanceOfLine, answer_line}
use Rattle.search_spec.specs.Answers.{Lines as Found, lines, nine, lines_for, lines_of, bytes_of}
use Rattle.search_spec.proofs.Search.{equation_linear}
use Rattle.search_spec.proofs.Shown as shown
use Rattle.search_spec.proofs.Shown.{lines_answers, nine_peak}
use Rattle.search_spec.proofs.Lines.{answer_lines_one, lines_writable, lines_named, lines_solve, lines_complete}
use Rattle.text_values.specs.Values.{Field}
use Rattle.text_values.specs.Values.{view_field, view_side, one_field}
use Rattle.text_accepted.specs.Accepted.{accepted_field, counted_field}
use Rattle.text_accepted.proofs.Accepted.{accepted_field_lem}
use Rattle.text_write.specs.Answers.{after}
use Rattle.text_write.proofs.Answers.{after_fits, after_small}
use Rattle.search_problems.specs.declared.Problem.{Problem}
use Rattle.search_steps.specs.Row.{blanks}
use Rattle.search_row.specs.Answers.{Searched, told, searched_of, found_in, Searches}

-- What demand 2 says of the bytes of `count` lines for the fields f and g. A solution's lists are of any length.
pub record Demand2 (f g : List OurTerm) (count : ℕ) (bytes : List ℕ) : Type 0 where
  -- the bytes are the text of some lines, and of no others: so what the answers show is said of the bytes
  pub lines : List AnswerLine
  pub writable : All WritableAnswer lines
  pub written : bytes ≡ lines_text lines
  pub only : (others : List AnswerLine) → All WritableAnswer others → bytes ≡ lines_text others → others ≡ lines
  -- the returned line count
  pub counted : length lines ≡ count
  -- a line binds the variables of the left field and those of the right field, each once, in order
  pub named : (l : AnswerLine) → Memᴰ l lines
      → (map name_of l.left ≡ variables (f ∷ [])) × (map name_of l.right ≡ variables (g ∷ []))
  -- "The search's answers all solve the equation": the values that a line shows make the two fields equal, each by its type
  pub solve : (l : AnswerLine) → Memᴰ l lines
      → (x : Solution (f ∷ []) (g ∷ []) ℕ) × Gives x.left l.left × Gives x.right l.right
  -- "every solution by constants is an instance of one of them"
  pub complete : (φ ψ : Filling Con Kind ℕ) → Typed basics consts φ → Typed basics consts ψ → fill φ f ≡ fill ψ g
      → (l : AnswerLine) × Memᴰ l lines × InstanceOfLine l φ ψ
  -- "and no answer means no solution"
  pub none_solves : count ≡ 0 → (φ ψ : Filling Con Kind ℕ) → Typed basics consts φ → Typed basics consts ψ → fill φ f ≢ fill ψ g

-- "both fields" stand on accepted rules' left sides
abbrev pub BothAccepted : Field → Field → Type 0
BothAccepted v w = (accepted_field v ≡ true) × (accepted_field w ≡ true)

-- the most problems that wait at once in the search for the two fields, where nothing is refused: `most_met` and `none_more` say so
abbrev pub most : Field → Field → ℕ
most v w = peak setting (field_on left (view_field v)) (field_on right (view_field w))

-- WHAT THE DEMANDS SAY OF A CALL for the field values v and w, over the lent records and the lent bytes `old`, which answers r and leaves
-- records' and new
pub record SearchDemand (v w : Field) (records : List Problem) (old : List ℕ) (r : Searched) (records' : List Problem)
    (new : List ℕ) : Type 0 where
  -- THE LENT BUFFER, after a call that is not refused: n lines and b bytes are returned; the first bytes, as many as that, are the lines of
  -- demand 2, and the others are the old ones
  pub answered : BothAccepted v w → (n b : ℕ) → told r ≡ record { number = none; values = n ∷ (b ∷ []) }
      → Demand2 (view_field v) (view_field w) n (take b new) × (length (take b new) ≡ b) × (drop b new ≡ drop b old)
  -- "on a refusal the output buffer's old bytes"
  pub refused_old : (told r).number ≢ none → new ≡ old
  -- "every record of the row is the blank record", whatever is answered
  pub row_blank : records' ≡ blanks (length records)
  -- "each refusal comes in its stated case only". 9: "a problem is to be put in while as many wait as the row has records"
  pub nine_only : ((told r).number ≡ some 9) ↔ (BothAccepted v w × (length records < most v w))
  -- "both counts are 0"
  pub nine_counts : (told r).number ≡ some 9 → (told r).values ≡ 0 ∷ (0 ∷ [])
  -- 8: "the lines need more bytes than the output buffer has"; "9 is tried before 8", so that the row has records enough
  pub eight_only : ((told r).number ≡ some 8)
      ↔ (BothAccepted v w × (most v w ≤ length records) × (length old < length (bytes_of (found_in (length records) v w))))
  -- "the line count and the needed byte count are returned": those of lines that demand 2 holds of
  pub eight_counts : (n b : ℕ) → told r ≡ record { number = some 8; values = n ∷ (b ∷ []) }
      → (text : List ℕ) × Demand2 (view_field v) (view_field w) n text × (length text ≡ b) × (length old < b)
  -- and no other number comes
  pub no_other : (k : ℕ) → (told r).number ≡ some k → (k ≡ 8) ⊎ (k ≡ 9)
  -- "If either field stands on no accepted rule's left side, there are no lines, both counts are 0 and nothing is refused", whatever the
  -- row
  pub unaccepted : (accepted_field v ≡ false) ⊎ (accepted_field w ≡ false)
      → (told r ≡ record { number = none; values = 0 ∷ (0 ∷ []) }) × (new ≡ old)

-- ---- the most that wait at once

-- some queue of the run without a row has as many problems
pub most_met : (v w : Field)
    → (q : List (searching.Problem setting)) × Queued setting (field_on left (view_field v)) (field_on right (view_field w)) q
    × (length q ≡ most v w)
most_met v w = peak_met setting (field_on left (view_field v)) (field_on right (view_field w))

-- and none has more
pub none_more : (v w : Field) (q : List (searching.Problem setting))
    → Queued setting (field_on left (view_field v)) (field_on right (view_field w)) q
    → length q ≤ most v w
none_more v w q m = peak_most setting (field_on left (view_field v)) (field_on right (view_field w)) q m

-- ---- for the answers of the search

no_member : {A : Type 0} (x : A) (xs : List A) → length xs ≡ 0 → Memᴰ x xs → ⊥
no_member x [] e i = Memᴰ.not-nil i
no_member x (y ∷ xs) e i = omega (arith, e)

-- the bytes of the lines, by the records
texts_are : (f g : List OurTerm) (xs : List (Bindings setting))
    → bytes_of (lines (map (λ σ. line_text (answer_line f g σ)) xs)) ≡ lines_text (map (answer_line f g) xs)
texts_are f g [] = refl
texts_are f g (σ ∷ xs) = ap (λ (l : List ℕ). line_text (answer_line f g σ) ++ l) (texts_are f g xs)

of_answers : (f g : List OurTerm) → IsLeft (f ∷ []) → IsLeft (g ∷ []) → (room : ℕ) (ls : List (List ℕ)) → lines_of room f g ≡ lines ls
    → Demand2 f g (length ls) (bytes_of (lines ls))
of_answers f g is_f is-g room ls e =
    let x = lines_answers room f g ls e in
    let able = lines_writable f g is_f is-g room x.0 x.1 in
    let covers = lines_complete f g is_f is-g room x.0 x.1 in
    let text : bytes_of (lines ls) ≡ lines_text (map (answer_line f g) x.0) = ap (λ (l : List (List ℕ)). bytes_of (lines l)) x.2
    ∙ texts_are f g x.0 in
    let counts : length (map (answer_line f g) x.0) ≡ length ls =
    length-map x.0 (answer_line f g) ∙ sym (ap length x.2 ∙ length-map x.0 (λ σ. line_text (answer_line f g σ))) in
    record {
      lines = map (answer_line f g) x.0;
      writable = able;
      written = text;
      only = λ others h q. answer_lines_one others (map (answer_line f g) x.0) h able (sym q ∙ text);
      counted = counts;
      named = lines_named f g is_f is-g room x.0 x.1;
      solve = lines_solve f g is_f is-g room x.0 x.1;
      complete = covers;
      none_solves = λ z φ ψ t u same. let c = covers φ ψ t u same in no_member c.0 (map (answer_line f g) x.0) (counts ∙ z) c.1;
    }

-- ---- what is told of the lines

abbrev number_of : Told → Option ℕ
number_of t = t.number

abbrev first_of : List ℕ → ℕ
first_of [] = 0
first_of (n ∷ l) = n

abbrev second_of : List ℕ → ℕ
second_of [] = 0
second_of (n ∷ l) = first_of l

abbrev IsLines : Found → Type 0
IsLines (lines ls) = Unit {0}
IsLines nine = ⊥

abbrev size_of : Found → ℕ
size_of x = length (bytes_of x)

-- by whether there is room
abbrev by_fit : Bool → Option ℕ
by_fit c = cond c none (some 8)

fit_number : (c : Bool) (k : ℕ) → by_fit c ≡ some k → k ≡ 8
fit_number true k e = absurd (none-ne-some k e)
fit_number false k e = sym (some-injective 8 k e)

told_nine : (x : Found) (room : ℕ) → (searched_of x room).number ≡ some 9 → x ≡ nine
told_nine (lines ls) room e = let k = fit_number (leb (size_of (lines ls)) room) 9 e in absurd (omega (arith, k))
told_nine nine room e = refl

told_eight : (x : Found) (room : ℕ) → (searched_of x room).number ≡ some 8 → (ls : List (List ℕ)) × (x ≡ lines ls) × (room < size_of x)
told_eight (lines ls) room e = (ls, refl, (eight_iff (size_of (lines ls)) room (length ls ∷ (size_of (lines ls) ∷ []))).0 e)
told_eight nine room e = let k = some-injective 9 8 e in absurd (omega (arith, k))

told_none : (x : Found) (room : ℕ) → (searched_of x room).number ≡ none → (ls : List (List ℕ)) × (x ≡ lines ls) × (size_of x ≤ room)
told_none (lines ls) room e = (ls, refl, (fits_iff (size_of (lines ls)) room (length ls ∷ (size_of (lines ls) ∷ []))).0 e)
told_none nine room e = absurd (none-ne-some 9 (sym e))

told_other : (x : Found) (room k : ℕ) → (searched_of x room).number ≡ some k → (k ≡ 8) ⊎ (k ≡ 9)
told_other (lines ls) room k e = inl (fit_number (leb (size_of (lines ls)) room) k e)
told_other nine room k e = inr (sym (some-injective 9 k e))

-- more bytes than there is room for: 8
told_more : (x : Found) (room : ℕ) → room < size_of x → (searched_of x room).number ≡ some 8
told_more (lines ls) room h = (eight_iff (size_of (lines ls)) room (length ls ∷ (size_of (lines ls) ∷ []))).1 h
told_more nine room h = absurd (omega arith)

no_right : (room : ℕ) (r : OurFields) → lines_for room r [] ≡ lines []
no_right room [] = refl
no_right room (f ∷ r) = refl

-- where the bytes have no room, or there are none, the old ones stay
after_none : (t old : List ℕ) → (length old < length t) ⊎ (t ≡ []) → after t old ≡ old
after_none t old (inl h) = after_small t old h
after_none t old (inr e) = ap (λ (s : List ℕ). after s old) e ∙ ap (λ (c : Bool). cond c old old) (le-leb 0 (length old) (omega arith))

-- ---- the theorem

module _ (v w : Field) (records : List Problem) (old : List ℕ) (r : Searched) (records' : List Problem) (new : List ℕ)
    (searches : Searches v w records old r records' new) where
  abbrev there : Found
  there = found_in (length records) v w

  abbrev f : List OurTerm
  f = view_field v

  abbrev g : List OurTerm
  g = view_field w

  there_is : BothAccepted v w → there ≡ lines_of (length records) f g
  there_is a =
      ap₂ (λ (x y : OurFields). lines_for (length records) x y)
      (ap (λ (c : Bool). cond c (view_side (one_field v)) []) a.0)
      (ap (λ (c : Bool). cond c (view_side (one_field w)) []) a.1)

  there_none : (accepted_field v ≡ false) ⊎ (accepted_field w ≡ false) → there ≡ lines []
  there_none (inl a) = ap (λ (c : Bool). lines_for (length records) (cond c (view_side (one_field v)) []) (counted_field w)) a
  there_none (inr a) = ap (λ (c : Bool). lines_for (length records) (counted_field v) (cond c (view_side (one_field w)) [])) a
      ∙ no_right (length records) (counted_field v)

  decided : BothAccepted v w ⊎ ((accepted_field v ≡ false) ⊎ (accepted_field w ≡ false))
  decided = go (accepted_field v) (accepted_field w) refl refl
    where
      go : (a b : Bool) → accepted_field v ≡ a → accepted_field w ≡ b
          → BothAccepted v w ⊎ ((accepted_field v ≡ false) ⊎ (accepted_field w ≡ false))
      go true true a b = inl (a, b)
      go true false a b = inr (inr b)
      go false b a c = inr (inl a)

  number_is : (told r).number ≡ (searched_of there (length old)).number
  number_is = ap number_of searches.answer

  -- what is found of fields of which one is not accepted is neither nine nor has bytes
  both_of : (there ≡ nine) ⊎ (length old < size_of there) → BothAccepted v w
  both_of h = go decided h
    where
      go : BothAccepted v w ⊎ ((accepted_field v ≡ false) ⊎ (accepted_field w ≡ false)) → (there ≡ nine) ⊎ (length old < size_of there)
          → BothAccepted v w
      go (inl a) h = a
      go (inr n) (inl e) = absurd (subst IsLines (sym (there_none n) ∙ e) tt)
      go (inr n) (inr l) = absurd (omega (arith, ap size_of (there_none n)))

  nine_is : BothAccepted v w → (there ≡ nine) ↔ (length records < most v w)
  nine_is a =
      let p = nine_peak (length records) f g in
      (λ e. p.0 (sym (there_is a) ∙ e), λ h. there_is a ∙ p.1 h)

  -- the lines, where there are some
  demanded : BothAccepted v w → (ls : List (List ℕ)) → there ≡ lines ls → Demand2 f g (length ls) (bytes_of (lines ls))
  demanded a ls e = of_answers f g (accepted_field_lem v a.0).0 (accepted_field_lem w a.1).0 (length records) ls (sym (there_is a) ∙ e)

  -- the counts that are returned are those of the lines
  counts_are : (k : Option ℕ) (n b : ℕ) (ls : List (List ℕ)) → told r ≡ record { number = k; values = n ∷ (b ∷ []) } → there ≡ lines ls
      → (length ls ≡ n) × (length (bytes_of (lines ls)) ≡ b)
  counts_are k n b ls t e =
      let same : record { number = k; values = n ∷ (b ∷ []) } ≡ searched_of (lines ls) (length old) =
      sym t ∙ searches.answer ∙ ap (λ (x : Found). searched_of x (length old)) e in
      (sym (ap (λ (x : Told). first_of x.values) same), sym (ap (λ (x : Told). second_of x.values) same))

  answered_is : BothAccepted v w → (n b : ℕ) → told r ≡ record { number = none; values = n ∷ (b ∷ []) }
      → Demand2 f g n (take b new) × (length (take b new) ≡ b) × (drop b new ≡ drop b old)
  answered_is a n b t =
      let x = told_none there (length old) (sym number_is ∙ ap number_of t) in
      let c = counts_are none n b x.0 t x.1 in
      by x.0 x.1 c.0 c.1 (omega (arith, x.2, ap size_of x.1))
    where
      by : (ls : List (List ℕ)) → there ≡ lines ls → length ls ≡ n → length (bytes_of (lines ls)) ≡ b
          → length (bytes_of (lines ls)) ≤ length old
          → Demand2 f g n (take b new) × (length (take b new) ≡ b) × (drop b new ≡ drop b old)
      by ls e count size room =
          let text = bytes_of (lines ls) in
          let left_behind : new ≡ text ++ drop (length text) old = searches.output
          ∙ ap (λ (x : Found). after (bytes_of x) old) e
          ∙ after_fits text old room in
          let front : take b new ≡ text = ap (take b) left_behind ∙ take_at text (drop (length text) old) b size in
          let behind : drop b new ≡ drop b old = ap (drop b) left_behind ∙ drop_at text (drop (length text) old) b size
          ∙ ap (λ (m : ℕ). drop m old) size in (
            subst (Demand2 f g n) (sym front) (subst (λ (m : ℕ). Demand2 f g m text) count (demanded a ls e)),
            ap length front ∙ size,
            behind,
          )

  refused_old_is : (told r).number ≢ none → new ≡ old
  refused_old_is h = searches.output ∙ go there refl
    where
      go : (x : Found) → there ≡ x → after (bytes_of x) old ≡ old
      go nine e = after_none [] old (inr refl)
      go (lines ls) e = by (dec_le (size_of (lines ls)) (length old))
        where
          by : Dec (size_of (lines ls) ≤ length old) → after (bytes_of (lines ls)) old ≡ old
          by (yes l) = absurd (h (number_is ∙ ap (λ (x : Found). (searched_of x (length old)).number) e
              ∙ (fits_iff (size_of (lines ls)) (length old) (length ls ∷ (size_of (lines ls) ∷ []))).1 l))
          by (no l) = after_none (bytes_of (lines ls)) old (inl (lt_of_not-le l))

  nine_only_is : ((told r).number ≡ some 9) ↔ (BothAccepted v w × (length records < most v w))
  nine_only_is = (
    λ e. let n = told_nine there (length old) (sym number_is ∙ e) in let a = both_of (inl n) in (a, (nine_is a).0 n),
    λ h. number_is ∙ ap (λ (x : Found). (searched_of x (length old)).number) ((nine_is h.0).1 h.1),
  )

  nine_counts_is : (told r).number ≡ some 9 → (told r).values ≡ 0 ∷ (0 ∷ [])
  nine_counts_is e = ap (λ (t : Told). t.values) (searches.answer
      ∙ ap (λ (x : Found). searched_of x (length old)) (told_nine there (length old) (sym number_is ∙ e)))

  eight_only_is : ((told r).number ≡ some 8)
      ↔ (BothAccepted v w × (most v w ≤ length records) × (length old < length (bytes_of (found_in (length records) v w))))
  eight_only_is = (to, λ h. number_is ∙ told_more there (length old) h.2)
    where
      to : (told r).number ≡ some 8
          → BothAccepted v w × (most v w ≤ length records) × (length old < length (bytes_of (found_in (length records) v w)))
      to e =
          let x = told_eight there (length old) (sym number_is ∙ e) in
          let a = both_of (inr x.2) in
          (a, enough a x.0 x.1 (dec_le (most v w) (length records)), x.2)
        where
          enough : BothAccepted v w → (ls : List (List ℕ)) → there ≡ lines ls → Dec (most v w ≤ length records) → most v w ≤ length records
          enough a ls q (yes l) = l
          enough a ls q (no l) = absurd (subst IsLines (sym q ∙ (nine_is a).1 (lt_of_not-le l)) tt)

  eight_counts_is : (n b : ℕ) → told r ≡ record { number = some 8; values = n ∷ (b ∷ []) }
      → (text : List ℕ) × Demand2 f g n text × (length text ≡ b) × (length old < b)
  eight_counts_is n b t =
      let x = told_eight there (length old) (sym number_is ∙ ap number_of t) in
      let c = counts_are (some 8) n b x.0 t x.1 in
      let a = both_of (inr x.2) in (
        bytes_of (lines x.0),
        subst (λ (m : ℕ). Demand2 f g m (bytes_of (lines x.0))) c.0 (demanded a x.0 x.1),
        c.1,
        omega (arith, x.2, ap size_of x.1, c.1),
      )

  unaccepted_is : (accepted_field v ≡ false) ⊎ (accepted_field w ≡ false)
      → (told r ≡ record { number = none; values = 0 ∷ (0 ∷ []) }) × (new ≡ old)
  unaccepted_is n =
      let e = there_none n in (
        searches.answer ∙ ap (λ (x : Found). searched_of x (length old)) e
            ∙ ap (λ (c : Bool). record { number = by_fit c; values = 0 ∷ (0 ∷ []) }) (le-leb 0 (length old) (omega arith)),
        searches.output ∙ ap (λ (x : Found). after (bytes_of x) old) e ∙ after_none [] old (inr refl),
      )

  -- EVERY CALL is as demanded
  pub search_demand : SearchDemand v w records old r records' new
  search_demand =
      record {
        answered = answered_is;
        refused_old = refused_old_is;
        row_blank = searches.row;
        nine_only = nine_only_is;
        nine_counts = nine_counts_is;
        eight_only = eight_only_is;
        eight_counts = eight_counts_is;
        no_other = λ k e. told_other there (length old) k (sym number_is ∙ e);
        unaccepted = unaccepted_is;
      }

  -- 9 in the words of document 01: some queue of the run without a row has more problems than the row has records
  pub nine_queued : ((told r).number ≡ some 9) ↔ (BothAccepted v w
      × ((q : List (searching.Problem setting)) × Queued setting (field_on left f) (field_on right g) q × (length records < length q)))
  nine_queued =
      let n = shown.nine_queued (length records) f g in (
        λ e.
            let x = told_nine there (length old) (sym number_is ∙ e) in
            let a = both_of (inl x) in
            (a, n.0 (sym (there_is a) ∙ x)),
        λ h. number_is ∙ ap (λ (x : Found). (searched_of x (length old)).number) (there_is h.0 ∙ n.1 h.1),
      )

  -- "a row of none refuses every pair of accepted fields"
  pub row_of_none : BothAccepted v w → length records ≡ 0 → (told r).number ≡ some 9
  row_of_none a z =
      let h = (refused_peak setting 0 (field_on left f) (field_on right g)).0 (peaks.row_of_none setting (field_on left f) (field_on right g)) in
      nine_only_is.1 (a, omega (arith, h))

-- ---- the equation as it is written

-- what a filling gives a term, as terms
abbrev pub filled_term : Filling Con Kind ℕ → OurTerm → List OurTerm
filled_term φ t = map con (value φ t)

-- texts t and u that say one field each, x and y, and are read as rules with the fields f and g and without right side
module _ (t u : List ℕ) (f g : List OurTerm) (reads-t : read_rule t ≡ accepted (f ∷ [], [])) (reads-u : read_rule u ≡ accepted (g ∷ [], []))
    (x y : List Raw) (says-t : Says t (x ∷ [])) (says-u : Says u (y ∷ [])) where
  said : (s : List ℕ) (e : List OurTerm) (z : List Raw) → read_rule s ≡ accepted (e ∷ [], []) → Says s (z ∷ []) → flat (written_field z) ≡ e
  said s e z reads says =
      let a = ((rule_accepted s (e ∷ [])).0 ((one_sided s (e ∷ [])).0 reads)).1 in
      flat_field z ∙ head-eq_of_cons-eq (ap fields_of (says_one s (z ∷ []) a.0 says a.1) ∙ a.2)

  -- what is put for the terms of the two expressions makes them equal by the laws exactly when it makes the fields' terms the same
  replaced : {U : Type 0} (p q : OurTerm → List U)
      → (replace p (written_field x) ≈ replace q (written_field y)) ↔ (concat_map p f ≡ concat_map q g)
  replaced p q =
      let l = laws (replace p (written_field x)) (replace q (written_field y)) in
      let a = flat_replace p (written_field x) ∙ ap (concat_map p) (said t f x reads-t says-t) in
      let b = flat_replace q (written_field y) ∙ ap (concat_map q) (said u g y reads-u says-u) in
      (λ h. sym a ∙ l.0 h ∙ b, λ e. l.1 (a ∙ e ∙ sym b))

  -- FILLINGS of the two sides make the expressions as written equal by GP 2's laws exactly when they fill the fields alike
  pub filled_by_laws : (φ ψ : Filling Con Kind ℕ)
      → (replace (filled_term φ) (written_field x) ≈ replace (filled_term ψ) (written_field y)) ↔ (fill φ f ≡ fill ψ g)
  filled_by_laws φ ψ =
      let r = replaced (filled_term φ) (filled_term ψ) in (
        λ h. cons_once (fill φ f) (fill ψ g) (sym (filled_terms φ f) ∙ r.0 h ∙ filled_terms ψ g),
        λ e. r.1 (filled_terms φ f ∙ ap (map con) e ∙ sym (filled_terms ψ g)),
      )

  -- SUBSTITUTIONS likewise, as those of a `Solution`
  pub solved_by_laws : (σ τ : Subst Con Kind ℕ ℕ)
      → (replace (image σ) (written_field x) ≈ replace (image τ) (written_field y))
      ↔ (map (substitute σ) (f ∷ []) ≡ map (substitute τ) (g ∷ []))
  solved_by_laws σ τ =
      let r = replaced (image σ) (image τ) in
      (λ h. ap (λ (l : List OurTerm). l ∷ []) (r.0 h), λ e. r.1 (head-eq_of_cons-eq e))

-- ---- Theorem 1 of document 001, in the order that document 01 amends

-- every step lowers the order
pub steps_fall : (L M : searching.Field setting) (σ : Bindings setting) (u : List ℕ)
    → All (λ c. Lower setting (rest setting c.1) L M) (children setting (problem (equation L M) σ u))
steps_fall L M σ u = theorem.steps_fall setting L M σ u

-- THERE IS NO ENDLESS SEQUENCE of problems, each a child of the one before
pub no_chain : (s : ℕ → searching.Problem setting) → ((n : ℕ) → (r : Rule) × Memᴰ (r, s (suc n)) (children setting (s n))) → ⊥
no_chain s steps = ends.no_chain setting s steps

-- ---- the set of list variables

-- "the list variables of a problem and its bindings, bound ones too": those that the search for the two fields holds to be used, and
-- no others
pub set_is : (f g : List OurTerm) → IsLeft (f ∷ []) → IsLeft (g ∷ []) → (p : searching.Problem setting)
    → Met setting (field_on left f) (field_on right g) p
    → (n : ℕ) → Memᴰ n (used setting p) ↔ ListVariableOf setting (field_on left f) (field_on right g) p n
set_is f g a b p m n = used_is setting (field_on left f) (field_on right g) (equation_linear f g a b) p m n
