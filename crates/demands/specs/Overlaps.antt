-- DEMAND 3: "Whatever two accepted rules a listing is given, and whatever slip of any length comes, the slip fits an entry of the list
-- written exactly when both rules match it; it then fits that entry only, and both match it with the fillings that the entry shows. Every
-- entry has a slip. No list of solutions, written with our terms, that covers all shared slips has fewer solutions than the returned entry
-- count. The only premise is that the lent buffer has room for the whole list."
-- Document 02: "Overlaps look at left sides only": the rules of the demand are the left sides, and a rule is accepted with both its sides.
-- Over the relations that the contracts cite, for the lent bytes `old`, the answer r and the bytes `new` afterwards:
--     overlap_list::list_overlaps   of rule values v and w   `Lists (counted_rule v).0 (counted_rule w).0 old r new`
--     overlap_list::list_texts      of texts t and u         `TextsList t u old r new`
-- src/ has functions that call these and ensure what is said here.
use Rattle.std.specs.Prelude.{◌≡◌, refl, ◌↔◌, ◌⊎◌, ◌≢◌, Bool, true, false, cond, ℕ, ◌≤◌, ◌<◌, leb, length, take, drop}
use Rattle.std.proofs.Common.{sym, ◌∙◌, ap, ap₂, subst, subst₂, inl, inr, arith, take_at, drop_at, le-leb}
use Rattle.std.proofs.Math.Option.{Option, none, some}
use mathlib.Core.List.{List, [], ◌∷◌, map, Memᴰ}
use Rattle.std.proofs.Math.Decide.{dec_le}
use Rattle.std.proofs.Math.ListN.{get_elem?}
use Rattle.base_lists.specs.Seqs.{All}
use Rattle.math_types.specs.Types.{Kind, basics}
use Rattle.math_terms.specs.Fillings.{Filling, Typed, fill}
use Rattle.text_grammar.specs.Told.{Told}
use Rattle.text_grammar.specs.Terms.{OurFields, terms_of, SlipFields, items_of}
use Rattle.text_grammar.specs.constants.Constants.{Con, consts}
use Rattle.text_grammar.specs.Limits.{IsLeft}
use Rattle.text_grammar.specs.Read.{Reason, OutcomeOf, refused, accepted}
use Rattle.text_grammar.specs.rules.Read.{OurRule, read_rule}
use Rattle.text_grammar.specs.rules.Place.{left_text}
use Rattle.text_grammar.proofs.rules.Accepted.{rule_read_lem}
use Rattle.text_grammar.proofs.rules.Before.{one_sided}
use Rattle.text_grammar.proofs.rules.Left.{left_reads}
use Rattle.text_grammar.specs.constants.Matching.{Matches}
use Rattle.overlap_spec.specs.Lines.{Line, list_text, WritableLine}
use Rattle.overlap_spec.specs.Overlaps.{lines_of, overlap_text}
use Rattle.overlap_spec.specs.Fits.{OurSlip, Fits, Shows, Solution, Covers}
use Rattle.overlap_spec.proofs.Lines.{lines_one}
use Rattle.overlap_spec.proofs.Exact.{no_right, lines_exact, lines_once, lines_fillings, lines_slips, lines_least, lines_writable}
use Rattle.text_values.specs.declared.Rule.{Rule}
use Rattle.text_values.specs.Values.{encode_rule}
use Rattle.text_accepted.specs.rules.Rules.{accepted_rule, counted_rule}
use Rattle.text_accepted.proofs.rules.Rules.{accepted_rule_lem, counted_yes, counted_no, counted_encode, rule_value_iff}
use Rattle.text_refusals.specs.verdicts.Verdicts.{Accepted, Refused}
use Rattle.text_refusals.specs.verdicts.Verdicts.{reason_from, verdict_of}
use Rattle.text_read.specs.Answers.{left_said}
use Rattle.std.specs.Prelude.{Ok, Err}
use Rattle.overlap_counts.specs.declared.Counts.{Counts}
use Rattle.overlap_list.specs.declared.TextsListed.{TextsListed}
use Rattle.overlap_list.specs.Answers.{Listed, told, Lists, TextsList}
use Rattle.overlap_list.proofs.Answers.{eight_iff, fits_iff, counts_are, written, kept}
use Rattle.overlap_list.proofs.Lists.{lines_none}
use Rattle.overlap_list.proofs.Rules.{none_listed}
use Rattle.demands.specs.Entries.{Filled, lines_filled}

-- What demand 3 says of the bytes of a list of `count` entries of the rules r₁ and r₂. A slip's fields are of any length, and the
-- solutions' variables have any names B.
pub record Demand3 (B : Type 0) (r₁ r₂ : OurFields) (count : ℕ) (bytes : List ℕ) : Type 0 where
  -- the bytes are the text of some lines, and of no others: so "an entry of the list written" is said of the bytes
  pub lines : List Line
  pub writable : All WritableLine lines
  pub written : bytes ≡ list_text lines
  pub only : (others : List Line) → All WritableLine others → bytes ≡ list_text others → others ≡ lines
  -- "the returned entry count"
  pub counted : length lines ≡ count
  -- "the slip fits an entry of the list written exactly when both rules match it"
  pub exact : (w : SlipFields) → (Matches r₁ w × Matches r₂ w) ↔ ((i : ℕ) × (l : Line) × (get_elem? lines i ≡ some l) × Fits l w)
  -- "it then fits that entry only": entries at two places share no slip
  pub once : (i j : ℕ) (l m : Line) → get_elem? lines i ≡ some l → get_elem? lines j ≡ some m
      → (w : SlipFields) → Fits l w → Fits m w → i ≡ j
  -- "and both match it with the fillings that the entry shows": with no others
  pub fillings : (i : ℕ) (l : Line) → get_elem? lines i ≡ some l → (w : SlipFields) (ψ : Filling Con Kind ℕ)
      → Typed basics consts ψ → map (fill ψ) (terms_of l.fields) ≡ items_of w → Shows r₁ l.left ψ w × Shows r₂ l.right ψ w
  -- and with these
  pub filled : (i : ℕ) (l : Line) → get_elem? lines i ≡ some l → (w : SlipFields) (ψ : Filling Con Kind ℕ)
      → Typed basics consts ψ → map (fill ψ) (terms_of l.fields) ≡ items_of w → Filled r₁ l.left ψ w × Filled r₂ l.right ψ w
  -- "Every entry has a slip", one of document 01's constants
  pub slips : (i : ℕ) (l : Line) → get_elem? lines i ≡ some l → (w : SlipFields) × OurSlip w × Fits l w
  -- "No list of solutions, written with our terms, that covers all shared slips has fewer solutions than the returned entry count":
  -- the shared slips that must be covered are those of document 01's constants
  pub least : (xs : List (Solution r₁ r₂ B))
      → ((w : SlipFields) → OurSlip w → Matches r₁ w → Matches r₂ w
      → (x : Solution r₁ r₂ B) × Memᴰ x xs × Covers r₁ r₂ B x w)
      → count ≤ length xs

-- WHAT A LISTING ANSWERS AND LEAVES where the lent bytes `old` have room for the whole list: the two counts, and no refusal; the first
-- bytes, as many as are counted, are the list of demand 3, and the others are the old ones
pub record SharedSlips (B : Type 0) (x y : OurFields) (old : List ℕ) (r : Listed) (new : List ℕ) : Type 0 where
  pub answer : told r ≡ record { number = none; values = length (lines_of x y) ∷ length (overlap_text x y) ∷ [] }
  pub list : Demand3 B x y (length (lines_of x y)) (take (length (overlap_text x y)) new)
  pub behind : drop (length (overlap_text x y)) new ≡ drop (length (overlap_text x y)) old

-- "8: as in searching, with the entry count and the needed byte count, the old bytes left .. No refusal besides."
pub record RefusedByRoom (x y : OurFields) (old : List ℕ) (r : Listed) (new : List ℕ) : Type 0 where
  -- more bytes are needed than lent
  pub eight_only : ((told r).number ≡ some 8) ↔ (length old < length (overlap_text x y))
  -- refused or not
  pub counts : (told r).values ≡ length (lines_of x y) ∷ length (overlap_text x y) ∷ []
  pub refused_old : (told r).number ≡ some 8 → new ≡ old
  pub none_besides : ((told r).number ≡ none) ⊎ ((told r).number ≡ some 8)

-- ---- for the rules that reading returns

pub of_rules : (B : Type 0) (r₁ r₂ : OurFields) → IsLeft r₁ → IsLeft r₂
    → Demand3 B r₁ r₂ (length (lines_of r₁ r₂)) (overlap_text r₁ r₂)
of_rules B r₁ r₂ a b =
    record {
      lines = lines_of r₁ r₂;
      writable = lines_writable r₁ r₂ a b;
      written = refl;
      only = λ others h e. lines_one others (lines_of r₁ r₂) h (lines_writable r₁ r₂ a b) (sym e);
      counted = refl;
      exact = lines_exact r₁ r₂ a b;
      once = lines_once r₁ r₂ a b;
      fillings = lines_fillings r₁ r₂ a b;
      filled = lines_filled r₁ r₂ a b;
      slips = lines_slips r₁ r₂ a b;
      least = lines_least r₁ r₂ a b B;
    }

module _ {x y : OurFields} {old : List ℕ} {r : Listed} {new : List ℕ} (lists : Lists x y old r new) where
  abbrev text : List ℕ
  text = overlap_text x y

  abbrev counts : List ℕ
  counts = length (lines_of x y) ∷ length text ∷ []

  pub rules_3 : (B : Type 0) → IsLeft x → IsLeft y → length text ≤ length old → SharedSlips B x y old r new
  rules_3 B a b room =
      record {
        answer = lists.answer ∙ ap (λ (f : Bool). record { number = cond f none (some 8); values = counts }) fits;
        list = subst (Demand3 B x y (length (lines_of x y))) (sym front) (of_rules B x y a b);
        behind = ap (drop (length text)) (written lists room) ∙ drop_at text (drop (length text) old) (length text) refl;
      }
    where
      fits : leb (length text) (length old) ≡ true
      fits = le-leb (length text) (length old) room

      front : take (length text) new ≡ text
      front = ap (take (length text)) (written lists room) ∙ take_at text (drop (length text) old) (length text) refl

  -- 8 in its stated case only
  pub eight_demanded : RefusedByRoom x y old r new
  eight_demanded =
      record {
        eight_only = eight_iff lists;
        counts = counts_are lists;
        refused_old = λ e. kept lists ((eight_iff lists).0 e);
        none_besides = besides (dec_le (length text) (length old));
      }
    where
      besides : Dec (length text ≤ length old) → ((told r).number ≡ none) ⊎ ((told r).number ≡ some 8)
      besides (yes h) = inl ((fits_iff lists).1 h)
      besides (no h) = inr ((eight_iff lists).1 (omega arith))

counts_once : (a b : Counts) → a.entries ∷ a.bytes ∷ [] ≡ b.entries ∷ b.bytes ∷ [] → a ≡ b
counts_once a b v =
    let p : a.entries ≡ b.entries = cc in
    let q : a.bytes ≡ b.bytes = cc in
    ap₂ (λ (n m : ℕ). record { entries = n; bytes = m }) p q

-- the number and the values settle the answer
pub told_once : (r s : Listed) → told r ≡ told s → r ≡ s
told_once (Ok a) (Ok b) e = ap Ok (counts_once a b (ap (λ (t : Told). t.values) e))
told_once (Ok a) (Err b) e =
    let v : ◌≡◌ {A = Option ℕ} none (some 8) = ap (λ (a : Told). a.number) e in
    let z : ◌≡◌ {A = ℕ} 0 1 = cc in
    absurd (omega arith)
told_once (Err a) (Ok b) e =
    let v : ◌≡◌ {A = Option ℕ} (some 8) none = ap (λ (a : Told). a.number) e in
    let z : ◌≡◌ {A = ℕ} 0 1 = cc in
    absurd (omega arith)
told_once (Err a) (Err b) e = ap (λ (c : Counts). Err (record { counts = c })) (counts_once a.counts b.counts (ap (λ (t : Told). t.values) e))

-- ---- no entries: counts of 0, no refusal, the old bytes

pub record NoneListed (old : List ℕ) (r : Listed) (new : List ℕ) : Type 0 where
  pub answer : told r ≡ record { number = none; values = 0 ∷ 0 ∷ [] }
  pub bytes : new ≡ old

module _ {x y : OurFields} {old : List ℕ} {r : Listed} {new : List ℕ} (lists : Lists x y old r new) where
  none_of : lines_of x y ≡ [] → NoneListed old r new
  none_of e =
      let n = none_listed x y e old in
      record { answer = lists.answer ∙ sym n.answer; bytes = lists.bytes ∙ sym n.bytes }

  -- "A rule with no fields counts as having no entries"
  pub no_fields_left : x ≡ [] → NoneListed old r new
  no_fields_left e = none_of (ap (λ (z : OurFields). lines_of z y) e)

  pub no_fields_right : y ≡ [] → NoneListed old r new
  no_fields_right e = none_of (ap (lines_of x) e ∙ no_right x)

  -- "Rules with different field counts have no entries"
  pub counts_differ : length x ≢ length y → NoneListed old r new
  counts_differ n = none_of (lines_none x y n)

-- ---- of rule values, which no reading need have returned

pub is_left : (v : Rule) → accepted_rule v ≡ true → IsLeft (counted_rule v).0
is_left v h = subst (λ (w : OurRule). IsLeft w.0) (sym (counted_yes v h)) (accepted_rule_lem v h).0.0

pub not_counted : (v : Rule) → accepted_rule v ≡ false → (counted_rule v).0 ≡ []
not_counted v e = ap (λ (w : OurRule). w.0) (counted_no v e)

module _ (v w : Rule) {old : List ℕ} {r : Listed} {new : List ℕ} (lists : Lists (counted_rule v).0 (counted_rule w).0 old r new) where
  -- THE THEOREM, of what `list_overlaps` answers and leaves
  pub demand_3 : (B : Type 0) → accepted_rule v ≡ true → accepted_rule w ≡ true
      → length (overlap_text (counted_rule v).0 (counted_rule w).0) ≤ length old
      → SharedSlips B (counted_rule v).0 (counted_rule w).0 old r new
  demand_3 B a b room = rules_3 lists B (is_left v a) (is_left w b) room

  pub not_accepted_left : accepted_rule v ≡ false → NoneListed old r new
  not_accepted_left e = no_fields_left lists (not_counted v e)

  pub not_accepted_right : accepted_rule w ≡ false → NoneListed old r new
  not_accepted_right e = no_fields_right lists (not_counted w e)

-- "In demand 3 a rule is accepted when reading some text returns it with fields"
pub accepted_iff : (v : Rule) → (accepted_rule v ≡ true) ↔ ((t : List ℕ) × (x : OurRule) × (read_rule t ≡ accepted x) × (v ≡ encode_rule x))
accepted_iff = rule_value_iff

-- a value that reading a text returns counts as the rule that the text says
read_is : (t : List ℕ) (x : OurRule) → read_rule t ≡ accepted x → (counted_rule (encode_rule x)).0 ≡ x.0
read_is t x e = ap (λ (w : OurRule). w.0) (counted_encode x (rule_read_lem t x e))

-- the same of the values that reading the texts t and u returns
pub values_demand_3 : (B : Type 0) (t u : List ℕ) (x y : OurRule) {old : List ℕ} {r : Listed} {new : List ℕ}
    → read_rule t ≡ accepted x → read_rule u ≡ accepted y
    → Lists (counted_rule (encode_rule x)).0 (counted_rule (encode_rule y)).0 old r new → length (overlap_text x.0 y.0) ≤ length old
    → SharedSlips B x.0 y.0 old r new
values_demand_3 B t u x y {old} {r} {new} reads-t reads-u lists room =
    rules_3 (subst (λ (z : OurFields). Lists x.0 z old r new) (read_is u y reads-u)
    (subst (λ (z : OurFields). Lists z (counted_rule (encode_rule y)).0 old r new) (read_is t x reads-t) lists))
    B (rule_read_lem t x reads-t).0 (rule_read_lem u y reads-u).0 room

-- ---- of texts

-- what is answered of two texts that are read as rules with the left sides x and y, and what the lent bytes hold
pub record TextsShared (B : Type 0) (x y : OurFields) (old : List ℕ) (r : TextsListed) (new : List ℕ) : Type 0 where
  pub left : r.left ≡ Accepted
  pub right : r.right ≡ Accepted
  pub shared : SharedSlips B x y old r.listed new

module _ (t u : List ℕ) {old : List ℕ} {r : TextsListed} {new : List ℕ} (lists : TextsList t u old r new) where
  -- THE THEOREM, of what `list_texts` answers and leaves
  pub texts_demand_3 : (B : Type 0) (x y : OurRule) → read_rule t ≡ accepted x → read_rule u ≡ accepted y
      → length (overlap_text x.0 y.0) ≤ length old → TextsShared B x.0 y.0 old r new
  texts_demand_3 B x y reads-t reads-u room =
      record {
        left = lists.left ∙ ap verdict_of reads-t;
        right = lists.right ∙ ap verdict_of reads-u;
        shared = rules_3 said B (rule_read_lem t x reads-t).0 (rule_read_lem u y reads-u).0 room;
      }
    where
      said : Lists x.0 y.0 old r.listed new
      said = subst (λ (o : OutcomeOf OurRule). Lists x.0 (left_said o) old r.listed new) reads-u
          (subst (λ (o : OutcomeOf OurRule). Lists (left_said o) (left_said (read_rule u)) old r.listed new) reads-t lists.listed)

-- document 02: "Overlaps look at left sides only, so the list that our shops rely on is the same": texts that are read as rules have the
-- list that the texts of their left sides have
pub left_sides_only : (t u : List ℕ) (x y : OurRule) {old : List ℕ} {r : TextsListed} {new : List ℕ}
    → read_rule t ≡ accepted x → read_rule u ≡ accepted y → TextsList t u old r new ↔ TextsList (left_text t) (left_text u) old r new
left_sides_only t u x y {old} {r} {new} reads-t reads-u = (
  λ h. record {
    left = h.left ∙ verdicts t x reads-t;
    right = h.right ∙ verdicts u y reads-u;
    listed = both (said t x reads-t) (said u y reads-u) h.listed;
  },
  λ h. record {
    left = h.left ∙ sym (verdicts t x reads-t);
    right = h.right ∙ sym (verdicts u y reads-u);
    listed = both (sym (said t x reads-t)) (sym (said u y reads-u)) h.listed;
  },
)
  where
    alone : (s : List ℕ) (w : OurRule) → read_rule s ≡ accepted w → read_rule (left_text s) ≡ accepted (w.0, [])
    alone s w e = (one_sided (left_text s) w.0).1 (left_reads s w e)

    verdicts : (s : List ℕ) (w : OurRule) → read_rule s ≡ accepted w → verdict_of (read_rule s) ≡ verdict_of (read_rule (left_text s))
    verdicts s w e = ap verdict_of e ∙ sym (ap verdict_of (alone s w e))

    said : (s : List ℕ) (w : OurRule) → read_rule s ≡ accepted w → left_said (read_rule s) ≡ left_said (read_rule (left_text s))
    said s w e = ap left_said e ∙ sym (ap left_said (alone s w e))

    both : {a b c d : OurFields} → a ≡ b → c ≡ d → Lists a c old r.listed new → Lists b d old r.listed new
    both e f h = subst₂ (λ (k l : OurFields). Lists k l old r.listed new) e f h

-- ---- what src/ ensures

-- demand 3 of `list_overlaps`, at the numbers as names: of whatever two values, the answer and the lent bytes
pub record ListsSharedSlips (v w : Rule) (old : List ℕ) (r : Listed) (new : List ℕ) : Type 0 where
  pub shared : accepted_rule v ≡ true → accepted_rule w ≡ true → length (overlap_text (counted_rule v).0 (counted_rule w).0) ≤ length old
      → SharedSlips ℕ (counted_rule v).0 (counted_rule w).0 old r new
  pub by_room_lem : RefusedByRoom (counted_rule v).0 (counted_rule w).0 old r new
  pub left_none : accepted_rule v ≡ false → NoneListed old r new
  pub right_none : accepted_rule w ≡ false → NoneListed old r new
  pub other_count : length (counted_rule v).0 ≢ length (counted_rule w).0 → NoneListed old r new

pub lists_shared : (v w : Rule) {old : List ℕ} {r : Listed} {new : List ℕ} → Lists (counted_rule v).0 (counted_rule w).0 old r new
    → ListsSharedSlips v w old r new
lists_shared v w h =
    record {
      shared = demand_3 v w h ℕ;
      by_room_lem = eight_demanded h;
      left_none = not_accepted_left v w h;
      right_none = not_accepted_right v w h;
      other_count = counts_differ h;
    }

-- and of `list_texts`: of whatever two texts. "A refusal returns its number, its place and the rule with no fields", which has no entries
pub record TextsSharedSlips (t u old : List ℕ) (r : TextsListed) (new : List ℕ) : Type 0 where
  pub shared : (x y : OurRule) → read_rule t ≡ accepted x → read_rule u ≡ accepted y → length (overlap_text x.0 y.0) ≤ length old
      → TextsShared ℕ x.0 y.0 old r new
  pub by_room_lem : RefusedByRoom (left_said (read_rule t)) (left_said (read_rule u)) old r.listed new
  pub left_refused : (s : Reason) (p : ℕ) → read_rule t ≡ refused s p
      → (r.left ≡ Refused (reason_from s) p) × NoneListed old r.listed new
  pub right_refused : (s : Reason) (p : ℕ) → read_rule u ≡ refused s p
      → (r.right ≡ Refused (reason_from s) p) × NoneListed old r.listed new

pub texts_shared : (t u : List ℕ) {old : List ℕ} {r : TextsListed} {new : List ℕ} → TextsList t u old r new
    → TextsSharedSlips t u old r new
texts_shared t u h =
    record {
      shared = texts_demand_3 t u h ℕ;
      by_room_lem = eight_demanded h.listed;
      left_refused = λ s p e. (h.left ∙ ap verdict_of e, no_fields_left h.listed (ap left_said e));
      right_refused = λ s p e. (h.right ∙ ap verdict_of e, no_fields_right h.listed (ap left_said e));
    }
