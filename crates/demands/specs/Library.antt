-- THE STATIC LIBRARY: what is promised of reading, of the overlap list and of whether it has an entry holds of what another program is
-- answered and lent, of texts.
-- Over what the contracts cite, for texts t and u, the lent bytes `old`, the answer r and the bytes `new` afterwards:
--     yopobrush::yopobrush_read_rule       answers `reading_of (read_rule t)`
--     yopobrush::yopobrush_list_overlaps   `LibraryLists t u old r new`
--     yopobrush::yopobrush_texts_overlap   `LibraryOverlaps t u r`
use Rattle.std.specs.Prelude.{◌≡◌, refl, ◌≢◌, ◌↔◌, Bool, true, false, cond, List, [], ◌∷◌, ℕ, ◌≤◌, ◌<◌, length, take, drop}
use Rattle.std.proofs.Common.{sym, ◌∙◌, ap, subst, subst₂, inr, arith, le-leb}
use Rattle.std.proofs.Math.Logic.Iff
use Rattle.std.proofs.lemmas.Bool.{false≢true}
use Rattle.std.proofs.Math.Option.{Option, none, some}
use Rattle.base_lists.specs.Seqs.{cons_true}
use Rattle.text_grammar.specs.Told.{by_room}
use Rattle.text_grammar.proofs.Told as told_by
use Rattle.text_grammar.specs.Terms.{OurFields, SlipFields}
use Rattle.text_grammar.specs.Limits.{IsLeft}
use Rattle.text_grammar.specs.Read.{Reason, long, grammar, fields, terms, limits, linear, variable, unknown, number}
use Rattle.text_grammar.specs.Read.{OutcomeOf, refused, accepted, earlier, NoReason}
use Rattle.text_grammar.proofs.Refused.{number_once}
use Rattle.text_grammar.specs.rules.Read.{OurRule, RefusesRule, read_rule}
use Rattle.text_grammar.proofs.rules.Read.{rule_refused}
use Rattle.text_grammar.proofs.rules.Accepted.{rule_read_lem}
use Rattle.text_grammar.specs.constants.Matching.{Matches}
use Rattle.overlap_spec.specs.Overlaps.{lines_of, overlap_text, overlapping}
use Rattle.apply_spec.specs.Rules.{Readable}
use Rattle.book_spec.specs.Books.{gives}
use Rattle.book_spec.proofs.Books.{gives_iff, slip_overlaps, overlap_slip}
use Rattle.overlap_spec.proofs.Exact.{no_right}
use Rattle.overlap_list.proofs.Rules.{none_listed}
use Rattle.yopobrush.specs.declared.Reading.{Reading}
use Rattle.std.specs.Prelude.{Ok}
use Rattle.overlap_list.specs.asking.Answers.{counts_of}
use Rattle.text_write.proofs.Answers.{after_small}
use Rattle.text_read.specs.Answers.{left_said}
use Rattle.overlap_list.specs.Answers.{Lists}
use Rattle.yopobrush.specs.declared.Listing.{Listing}
use Rattle.yopobrush.specs.declared.Overlapping.{Overlapping}
use Rattle.yopobrush.specs.Answers.{reading_of, numbered, LibraryLists, LibraryOverlaps}
use Rattle.demands.specs.Overlaps.{Demand3, rules_3}

-- ---- reading

-- what is answered of a text that is accepted
abbrev pub accepting : Reading
accepting = record { refusal = 0; place = 0 }

not_zero : (r : Reason) → number r ≢ 0
not_zero long e = omega arith
not_zero grammar e = omega arith
not_zero fields e = omega arith
not_zero terms e = omega arith
not_zero limits e = omega arith
not_zero linear e = omega arith
not_zero variable e = omega arith
not_zero unknown e = omega arith

reading_refused : (o : OutcomeOf OurRule) (r : Reason) (p : ℕ)
    → (reading_of o ≡ record { refusal = number r; place = p }) ↔ (o ≡ refused r p)
reading_refused (refused s q) r p = (to, λ e. ap (λ (o : OutcomeOf OurRule). reading_of o) e)
  where
    to : reading_of {X = OurRule} (refused s q) ≡ record { refusal = number r; place = p }
        → ◌≡◌ {A = OutcomeOf OurRule} (refused s q) (refused r p)
    to e =
        let a : s ≡ r = number_once s r (ap (λ (a : Reading). a.refusal) e) in
        let b : q ≡ p = ap (λ (a : Reading). a.place) e in
        cc
reading_refused (accepted x) r p = (
  λ e. absurd (not_zero r (sym (ap (λ (a : Reading). a.refusal) e))),
  λ e. ap (λ (o : OutcomeOf OurRule). reading_of o) e,
)

-- DEMAND 1, "each refusal comes in its stated case only": the answer is r's number and the place p exactly when r applies there
-- and none that is tried before it applies anywhere
pub reading_refusals : (t : List ℕ) (r : Reason) (p : ℕ) → r ≢ variable
    → (reading_of (read_rule t) ≡ record { refusal = number r; place = p }) ↔ (NoReason (RefusesRule t) (earlier r) × RefusesRule t r p)
reading_refusals t r p n = Iff.trans (reading_refused (read_rule t) r p) (rule_refused r n t p)

-- the number is 0 exactly where a rule is read
pub reading_accepted : (t : List ℕ) → ((reading_of (read_rule t)).refusal ≡ 0) ↔ ((x : OurRule) × (read_rule t ≡ accepted x))
reading_accepted t = go (read_rule t)
  where
    go : (o : OutcomeOf OurRule) → ((reading_of o).refusal ≡ 0) ↔ ((x : OurRule) × (o ≡ accepted x))
    go (refused r p) = (λ e. absurd (not_zero r e), λ h. ap (λ (o : OutcomeOf OurRule). (reading_of o).refusal) h.1)
    go (accepted x) = (λ e. (x, refl), λ h. refl)

-- ---- the overlap list

-- DEMAND 3 OF THE LIBRARY, of texts that are read as rules with the left sides x and y, in lent bytes that have room for the list: nothing
-- is refused, the counts are the list's, the first bytes, as many as are counted, are the list of demand 3, and the others are the old ones
pub record LibraryShared (B : Type 0) (x y : OurFields) (old : List ℕ) (r : Listing) (new : List ℕ) : Type 0 where
  pub left : r.left ≡ accepting
  pub right : r.right ≡ accepting
  pub refusal : r.refusal ≡ 0
  pub entries : r.entries ≡ length (lines_of x y)
  pub bytes : r.bytes ≡ length (overlap_text x y)
  pub list : Demand3 B x y (length (lines_of x y)) (take (length (overlap_text x y)) new)
  pub behind : drop (length (overlap_text x y)) new ≡ drop (length (overlap_text x y)) old

-- document 01: "A refusal returns its number, its place and the rule with no fields", "A rule with no fields counts as having no entries":
-- where a text is refused, the list has no entries and no bytes and is not refused itself, and the lent bytes stay
pub record LibraryNone (t u old : List ℕ) (r : Listing) (new : List ℕ) : Type 0 where
  pub answer : r ≡ record { left = reading_of (read_rule t); right = reading_of (read_rule u); refusal = 0; entries = 0; bytes = 0 }
  pub bytes : new ≡ old

-- what is promised of the texts t and u
pub record LibrarySharedSlips (t u old : List ℕ) (r : Listing) (new : List ℕ) : Type 0 where
  pub shared : (x y : OurRule) → read_rule t ≡ accepted x → read_rule u ≡ accepted y → length (overlap_text x.0 y.0) ≤ length old
      → LibraryShared ℕ x.0 y.0 old r new
  -- "8: as in searching": exactly where more bytes are needed than lent, with the old bytes left
  pub eight_only : (r.refusal ≡ 8) ↔ (length old < length (overlap_text (left_said (read_rule t)) (left_said (read_rule u))))
  pub refused_old : r.refusal ≡ 8 → new ≡ old
  pub left_none : (s : Reason) (p : ℕ) → read_rule t ≡ refused s p → LibraryNone t u old r new
  pub right_none : (s : Reason) (p : ℕ) → read_rule u ≡ refused s p → LibraryNone t u old r new

-- a refusal's number is no 0, so it is told exactly where there is that refusal
pub numbered_iff : (o : Option ℕ) (n : ℕ) → 0 < n → (numbered o ≡ n) ↔ (o ≡ some n)
numbered_iff none n h = (λ e. absurd (omega (arith, e)), λ e. let z : ◌≡◌ {A = ℕ} 0 1 = cc in absurd (omega arith))
numbered_iff (some m) n h = (λ e. ap some e, λ e. cc)

module _ {t u old : List ℕ} {r : Listing} {new : List ℕ} (is : LibraryLists t u old r new) where
  abbrev x₀ : OurFields
  x₀ = left_said (read_rule t)

  abbrev y₀ : OurFields
  y₀ = left_said (read_rule u)

  abbrev size : ℕ
  size = length (overlap_text x₀ y₀)

  abbrev counts : List ℕ
  counts = length (lines_of x₀ y₀) ∷ size ∷ []

  refusal_is : r.refusal ≡ numbered (by_room size (length old) counts).number
  refusal_is = ap (λ (a : Listing). a.refusal) is.answer

  too_few : (r.refusal ≡ 8) ↔ (length old < size)
  too_few =
      let told = numbered_iff (by_room size (length old) counts).number 8 (omega arith) in
      let small = told_by.eight_iff size (length old) counts in
      (λ e. small.0 (told.0 (sym refusal_is ∙ e)), λ h. refusal_is ∙ told.1 (small.1 h))

  stays : length old < size → new ≡ old
  stays h = is.bytes ∙ after_small (overlap_text x₀ y₀) old h

  -- the list as the lister has it, where there is room
  lists : size ≤ length old → Lists x₀ y₀ old (Ok (counts_of x₀ y₀)) new
  lists room = record { answer = rw (le-leb size (length old) room); bytes = is.bytes }

  pub library_demand_3 : (B : Type 0) (x y : OurRule) → read_rule t ≡ accepted x → read_rule u ≡ accepted y
      → length (overlap_text x.0 y.0) ≤ length old → LibraryShared B x.0 y.0 old r new
  library_demand_3 B x y reads-t reads-u room =
      let e : x₀ ≡ x.0 = ap left_said reads-t in
      let f : y₀ ≡ y.0 = ap left_said reads-u in
      let fits : size ≤ length old = rw (reads-t, reads-u) room in
      let a : IsLeft x₀ = subst IsLeft (sym e) (rule_read_lem t x reads-t).0 in
      let b : IsLeft y₀ = subst IsLeft (sym f) (rule_read_lem u y reads-u).0 in
      let l = rules_3 (lists fits) B a b fits in
      subst₂ (λ (a b : OurFields). LibraryShared B a b old r new) e f (
      record {
        left = ap (λ (a : Listing). a.left) is.answer ∙ ap reading_of reads-t;
        right = ap (λ (a : Listing). a.right) is.answer ∙ ap reading_of reads-u;
        refusal = refusal_is ∙ ap (λ (g : Bool). numbered (cond g none (some 8))) (le-leb size (length old) fits);
        entries = ap (λ (a : Listing). a.entries) is.answer;
        bytes = ap (λ (a : Listing). a.bytes) is.answer;
        list = l.list;
        behind = l.behind;
      })

  none_left : lines_of x₀ y₀ ≡ [] → LibraryNone t u old r new
  none_left e =
      record {
        answer = is.answer ∙ rw (e, le-leb 0 (length old) (omega arith));
        bytes = is.bytes ∙ sym (none_listed x₀ y₀ e old).bytes;
      }

  pub library_shared : LibrarySharedSlips t u old r new
  library_shared =
      record {
        shared = library_demand_3 ℕ;
        eight_only = too_few;
        refused_old = λ e. stays (too_few.0 e);
        left_none = λ s p e. none_left (ap (λ (o : OutcomeOf OurRule). lines_of (left_said o) y₀) e);
        right_none = λ s p e. none_left (ap (λ (o : OutcomeOf OurRule). lines_of x₀ (left_said o)) e ∙ no_right x₀);
      }

-- ---- whether two texts overlap

-- E4 OF THE LIBRARY, of texts that are read as rules with the left sides x and y: document 02's "overlapping pair"
pub record LibraryMeets (x y : OurFields) (r : Overlapping) : Type 0 where
  -- "If some such pair has an entry, a slip within the reading limits exists": 1 exactly where both rules match such a slip
  pub one : (r.overlap ≡ 1) ↔ ((w : SlipFields) × Readable w × Matches x w × Matches y w)
  -- "for every slip": 0 exactly where they share none, of any length
  pub zero : (r.overlap ≡ 0) ↔ ((w : SlipFields) → Matches x w → Matches y w → ⊥)

-- what is promised of the texts t and u
pub record LibraryMeetingSlips (t u : List ℕ) (r : Overlapping) : Type 0 where
  pub left : r.left ≡ reading_of (read_rule t)
  pub right : r.right ≡ reading_of (read_rule u)
  pub shared : (x y : OurRule) → read_rule t ≡ accepted x → read_rule u ≡ accepted y → LibraryMeets x.0 y.0 r
  -- the rule with no fields, which a text that is refused says, overlaps none
  pub left_none : (s : Reason) (p : ℕ) → read_rule t ≡ refused s p → r.overlap ≡ 0
  pub right_none : (s : Reason) (p : ℕ) → read_rule u ≡ refused s p → r.overlap ≡ 0

one_is : (b : Bool) → (◌≡◌ {A = ℕ} (cond b 1 0) 1) ↔ (b ≡ true)
one_is true = (λ e. refl, λ e. refl)
one_is false = (λ e. absurd (omega (arith, e)), λ e. absurd (false≢true e))

zero_is : (b : Bool) → (◌≡◌ {A = ℕ} (cond b 1 0) 0) ↔ (b ≡ true → ⊥)
zero_is true = (λ e. absurd (omega (arith, e)), λ n. absurd (n refl))
zero_is false = (λ e q. false≢true q, λ n. refl)

module _ (x y : OurFields) (a : IsLeft x) (b : IsLeft y) where
  -- a slip that both match makes them overlap
  match_overlaps : (w : SlipFields) → Matches x w → Matches y w → overlapping x y ≡ true
  match_overlaps w m n =
      let p : gives x w ≡ true = (gives_iff x (inr a) w).1 (a.0.0, m) in
      let q : gives y w ≡ true = (gives_iff y (inr b) w).1 (b.0.0, n) in
      (cons_true (lines_of x y)).1 (slip_overlaps x y (inr a) (inr b) w p q)

  overlap_matches : overlapping x y ≡ true → (w : SlipFields) × Readable w × Matches x w × Matches y w
  overlap_matches e =
      let s = overlap_slip x y (inr a) (inr b) ((cons_true (lines_of x y)).0 e) in
      (s.0, s.1, ((gives_iff x (inr a) s.0).0 s.2).1, ((gives_iff y (inr b) s.0).0 s.3).1)

  meets : (r : Overlapping) → r.overlap ≡ cond (overlapping x y) 1 0 → LibraryMeets x y r
  meets r is =
      record {
        one = (
          λ e. overlap_matches ((one_is (overlapping x y)).0 (sym is ∙ e)),
          λ h. is ∙ (one_is (overlapping x y)).1 (match_overlaps h.0 h.2 h.3),
        );
        zero = (
          λ e w m n. (zero_is (overlapping x y)).0 (sym is ∙ e) (match_overlaps w m n),
          λ h. is ∙ (zero_is (overlapping x y)).1 (λ e. let s = overlap_matches e in h s.0 s.2 s.3),
        );
      }

module _ {t u : List ℕ} {r : Overlapping} (is : LibraryOverlaps t u r) where
  none_meet : lines_of (left_said (read_rule t)) (left_said (read_rule u)) ≡ [] → r.overlap ≡ 0
  none_meet e = is.overlap ∙ rw e

  pub library_meets : LibraryMeetingSlips t u r
  library_meets =
      record {
        left = is.left;
        right = is.right;
        shared = λ x y e f. meets x.0 y.0 (rule_read_lem t x e).0 (rule_read_lem u y f).0 r (is.overlap ∙ rw (e, f));
        left_none = λ s p e. none_meet (ap (λ (o : OutcomeOf OurRule). lines_of (left_said o) (left_said (read_rule u))) e);
        right_none = λ s p e. none_meet (
            ap (λ (o : OutcomeOf OurRule). lines_of (left_said (read_rule t)) (left_said o)) e ∙ no_right (left_said (read_rule t)));
      }
