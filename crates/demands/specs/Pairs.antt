-- DEMAND 3 OF `pairs`: what it prints for one line is the list of demand 3 under its title, or one line in the list's place.
-- Over the relation that the contract of `print_pairs::pair_answer` cites, for line number k, the line t and the lent bytes `old`:
-- `Writes (pair_answer k t) old r new`.
use Rattle.std.specs.Prelude.{◌≡◌, refl, Bool, true, cond, ℕ, suc, ◌≤◌, ◌<◌, leb, length, take, drop, Result}
use Rattle.std.proofs.Common.{◌∙◌, ap, ap₂, length-take, length-drop, take_at, drop_at, le-leb, le-ltb}
use Rattle.std.proofs.Math.Path.{subst}
use Rattle.std.proofs.Math.Option.{none, some}
use mathlib.Core.List.{List, [], ◌∷◌, ◌++◌}
use native.Mathlib.Omega.{arith, by_contra}
use Rattle.std.proofs.lemmas.Bool.{lt-leb}
use Rattle.base_bytes.specs.Bytes.{index_of}
use Rattle.base_limits.specs.Limits.{most_list_bytes, pair_line}
use Rattle.text_grammar.specs.Ascii.{ascii, newline}
use Rattle.text_grammar.specs.Numbers.{digits_of}
use Rattle.text_grammar.specs.Terms.{OurFields}
use Rattle.text_grammar.specs.Read.{Reason, number, OutcomeOf, refused, accepted, rule}
use Rattle.text_grammar.specs.rules.Read.{OurRule, read_rule}
use Rattle.text_grammar.proofs.rules.Read.{rule_accepted}
use Rattle.text_grammar.proofs.rules.Accepted.{rule_read_lem}
use Rattle.text_write.specs.declared.TooSmall.{TooSmall}
use Rattle.text_write.specs.Answers.{told, Writes}
use Rattle.text_write.proofs.Answers.{after_fits}
use Rattle.text_write.specs.pieces.Refusals.{number_at}
use Rattle.overlap_spec.specs.Overlaps.{lines_of, overlap_text}
use Rattle.print_pairs.specs.overlaps.Texts.{listed_text, read_text}
use Rattle.print_pairs.specs.Pairs.{tab, left_part, right_part, line_text, title_text, longest_answer, pair_answer}
use Rattle.print_pairs.proofs.Lengths.{line_long}
use Rattle.demands.specs.Overlaps.{Demand3, of_rules}

-- what is answered of a text that has room in the lent bytes: its size; they hold it in front of the old bytes
pub record Prints (text old : List ℕ) (r : Result ℕ TooSmall) (new : List ℕ) : Type 0 where
  pub answer : told r ≡ record { number = none; values = length text ∷ [] }
  pub front : take (length text) new ≡ text
  pub behind : drop (length text) new ≡ drop (length text) old

prints : {text old : List ℕ} {r : Result ℕ TooSmall} {new : List ℕ} → Writes text old r new → length text ≤ length old
    → Prints text old r new
prints {text} {old} {r} {new} is room =
    record {
      answer = is.answer ∙ ap (λ (b : Bool). record { number = cond b none (some 8); values = length text ∷ [] }) fits;
      front = ap (take (length text)) whole ∙ take_at text (drop (length text) old) (length text) refl;
      behind = ap (drop (length text)) whole ∙ drop_at text (drop (length text) old) (length text) refl;
    }
  where
    fits : leb (length text) (length old) ≡ true
    fits = le-leb (length text) (length old) room

    whole : new ≡ text ++ drop (length text) old
    whole = is.bytes ∙ after_fits text old room

-- ---- what is said of a line

-- a text that is read as a rule has at most 4,096 bytes
read_short : (t : List ℕ) (x : OurRule) → read_rule t ≡ accepted x → length t ≤ rule.bytes
read_short t x e = by_contra (length t) rule.bytes (λ h. ((rule_accepted t x).0 e).0.0 rule.bytes (h, refl))

-- so a line of two of them is not too long
both_short : (t : List ℕ) (x y : OurRule) → read_rule (left_part t) ≡ accepted x → read_rule (right_part t) ≡ accepted y
    → length t ≤ pair_line
both_short t x y e f =
    let i = index_of tab t in
    omega (arith, read_short (left_part t) x e, read_short (right_part t) y f, length-take i t, length-drop (suc i) t)

short_said : (t : List ℕ) → length t ≤ pair_line → line_text t ≡ read_text (read_rule (left_part t)) (read_rule (right_part t))
unfolding line_text
short_said t h =
    let both = read_text (read_rule (left_part t)) (read_rule (right_part t)) in
    ap (λ (b : Bool). cond b (ascii "line too long" ++ newline) both) (le-ltb pair_line (length t) h)

both_said : (t : List ℕ) (x y : OurRule) → read_rule (left_part t) ≡ accepted x → read_rule (right_part t) ≡ accepted y
    → line_text t ≡ listed_text (overlap_text x.0 y.0)
both_said t x y e f = short_said t (both_short t x y e f) ∙ ap₂ read_text e f

-- ---- the theorems, for line number k, the line t and lent bytes that have room for the answer

-- the title, and under it the list of demand 3 of rules with the left sides x and y
pub record PrintsShared (B : Type 0) (k : ℕ) (x y : OurFields) (old : List ℕ) (r : Result ℕ TooSmall) (new : List ℕ) : Type 0 where
  pub list : List ℕ
  pub demanded : Demand3 B x y (length (lines_of x y)) list
  pub printed : Prints (title_text k ++ list) old r new

module _ (k : ℕ) (t : List ℕ) {old : List ℕ} {r : Result ℕ TooSmall} {new : List ℕ} (is : Writes (pair_answer k t) old r new)
    (room : length (pair_answer k t) ≤ length old) where
  said : {s : List ℕ} → line_text t ≡ s → Prints (title_text k ++ s) old r new
  unfolding pair_answer
  said e = subst (λ (l : List ℕ). Prints (title_text k ++ l) old r new) e (prints is room)

  -- of a line whose two parts are read as the rules x and y, with a list of at most 65,536 bytes
  pub pair_demand_3 : (B : Type 0) (x y : OurRule)
      → read_rule (left_part t) ≡ accepted x → read_rule (right_part t) ≡ accepted y → length (overlap_text x.0 y.0) ≤ most_list_bytes
      → PrintsShared B k x.0 y.0 old r new
  pair_demand_3 B x y e f fits =
      record {
        list = overlap_text x.0 y.0;
        demanded = of_rules B x.0 y.0 (rule_read_lem (left_part t) x e).0 (rule_read_lem (right_part t) y f).0;
        printed = said (both_said t x y e f ∙ rw (le-leb (length (overlap_text x.0 y.0)) most_list_bytes fits));
      }

  -- "`too long B` where B bytes exceed its 65,536"
  pub pair_long : (x y : OurRule) → read_rule (left_part t) ≡ accepted x → read_rule (right_part t) ≡ accepted y
      → most_list_bytes < length (overlap_text x.0 y.0)
      → Prints (title_text k ++ (ascii "too long " ++ digits_of (length (overlap_text x.0 y.0)) ++ newline)) old r new
  pair_long x y e f more = said (both_said t x y e f ∙ rw (lt-leb (length (overlap_text x.0 y.0)) most_list_bytes more))

  -- "`refused left N at P`, or else `refused right N at P`, N the number and P the place"
  pub pair_left_refused : (s : Reason) (p : ℕ) → length t ≤ pair_line → read_rule (left_part t) ≡ refused s p
      → Prints (title_text k ++ (ascii "refused left " ++ number_at (number s) p ++ newline)) old r new
  pair_left_refused s p h e = said (short_said t h ∙ ap (λ (o : OutcomeOf OurRule). read_text o (read_rule (right_part t))) e)

  pub pair_right_refused : (x : OurRule) (s : Reason) (p : ℕ) → length t ≤ pair_line
      → read_rule (left_part t) ≡ accepted x → read_rule (right_part t) ≡ refused s p
      → Prints (title_text k ++ (ascii "refused right " ++ number_at (number s) p ++ newline)) old r new
  pair_right_refused x s p h e f = said (short_said t h ∙ ap₂ read_text e f)

  -- "`line too long` beyond" document 02's 8,193 bytes, "the newline not counted"
  pub pair_line_long : pair_line < length t → Prints (title_text k ++ (ascii "line too long" ++ newline)) old r new
  pair_line_long h = said (line_long t h)

-- ---- what src/ ensures

-- of `pair_answer`: of whatever line, demand 3 at the numbers as names, or the line in the list's place
pub record PairSaid (k : ℕ) (t old : List ℕ) (r : Result ℕ TooSmall) (new : List ℕ) : Type 0 where
  pub shared : (x y : OurRule) → read_rule (left_part t) ≡ accepted x → read_rule (right_part t) ≡ accepted y
      → length (overlap_text x.0 y.0) ≤ most_list_bytes → PrintsShared ℕ k x.0 y.0 old r new
  pub too_long : (x y : OurRule) → read_rule (left_part t) ≡ accepted x → read_rule (right_part t) ≡ accepted y
      → most_list_bytes < length (overlap_text x.0 y.0)
      → Prints (title_text k ++ (ascii "too long " ++ digits_of (length (overlap_text x.0 y.0)) ++ newline)) old r new
  pub left_refused : (s : Reason) (p : ℕ) → length t ≤ pair_line → read_rule (left_part t) ≡ refused s p
      → Prints (title_text k ++ (ascii "refused left " ++ number_at (number s) p ++ newline)) old r new
  pub right_refused : (x : OurRule) (s : Reason) (p : ℕ) → length t ≤ pair_line
      → read_rule (left_part t) ≡ accepted x → read_rule (right_part t) ≡ refused s p
      → Prints (title_text k ++ (ascii "refused right " ++ number_at (number s) p ++ newline)) old r new
  pub line_long : pair_line < length t → Prints (title_text k ++ (ascii "line too long" ++ newline)) old r new

pair_said : (k : ℕ) (t : List ℕ) {old : List ℕ} {r : Result ℕ TooSmall} {new : List ℕ} → Writes (pair_answer k t) old r new
    → length (pair_answer k t) ≤ length old → PairSaid k t old r new
pair_said k t is room =
    record {
      shared = pair_demand_3 k t is room ℕ;
      too_long = pair_long k t is room;
      left_refused = pair_left_refused k t is room;
      right_refused = pair_right_refused k t is room;
      line_long = pair_line_long k t is room;
    }

-- with the 65,562 bytes that no answer exceeds, all of it is said
abbrev pub PairSharedSlips : ℕ → List ℕ → List ℕ → Result ℕ TooSmall → List ℕ → Type 0
PairSharedSlips k t old r new = longest_answer ≤ length old → PairSaid k t old r new

pub pair_shared : (k : ℕ) (t : List ℕ) {old : List ℕ} {r : Result ℕ TooSmall} {new : List ℕ} → Writes (pair_answer k t) old r new
    → length (pair_answer k t) ≤ longest_answer → PairSharedSlips k t old r new
pair_shared k t is short enough = pair_said k t is (omega arith)
