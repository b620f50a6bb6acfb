-- DEMAND 3 OF A COMMIT. Document 02: "Listing splits into an ask, which returns the entry count and byte count and touches no buffer, and a
-- commit, which takes those two counts, the rules and the buffer. Ask then commit on the same rules leaves the bytes that the old call
-- left. The two counts are those of the definition's list. Refusal 13 is a commit whose counts aren't those of its rules, tried before 8;
-- it returns both counts as 0 and leaves the buffer's old bytes. For a commit, demand 3 has as its premises the counts that the ask
-- returned for its rules and the buffer's room for the list, and no others."
-- Over the relations that the contracts cite, x and y the left sides of what two rule values count as, or of what two texts say:
--     overlap_list::asking::ask, ask_texts         `c ≡ counts_of x y`, `TextsAsk t u r`
--     overlap_list::asking::commit, commit_texts   `Commits asked x y old r new`, `TextsCommit asked t u old r new`
-- The counts that an ask returned for the rules are those of its contract: the premise of demand 3 is `asked ≡ counts_of x y`.
use Rattle.std.specs.Prelude.{◌≡◌, refl, ◌↔◌, ◌⊎◌, ◌≢◌, true, false, List, [], ◌∷◌, ℕ, ◌≤◌, ◌<◌, length, take, drop}
use Rattle.std.proofs.Common.{sym, ◌∙◌, ap, ap₂, subst, subst₂, inl, inr, arith, le-leb}
use Rattle.std.proofs.Math.Option.{none, some}
use Rattle.std.proofs.Math.Decide.{dec_le}
use Rattle.text_grammar.specs.Told.{Told, by_room}
use Rattle.text_grammar.specs.Terms.{OurFields}
use Rattle.text_grammar.specs.Limits.{IsLeft}
use Rattle.text_grammar.specs.Read.{Reason, refused, accepted}
use Rattle.text_grammar.specs.rules.Read.{OurRule, read_rule}
use Rattle.text_grammar.proofs.rules.Accepted.{rule_read_lem}
use Rattle.overlap_spec.specs.Overlaps.{lines_of, overlap_text}
use Rattle.overlap_spec.proofs.Exact.{no_right}
use Rattle.text_values.specs.declared.Rule.{Rule}
use Rattle.text_accepted.specs.rules.Rules.{accepted_rule, counted_rule}
use Rattle.text_refusals.specs.verdicts.Verdicts.{Accepted, Refused}
use Rattle.text_refusals.specs.verdicts.Verdicts.{reason_from, verdict_of}
use Rattle.text_read.specs.Answers.{left_said}
use Rattle.text_write.specs.Answers.{after}
use Rattle.overlap_counts.specs.declared.Counts.{Counts}
use Rattle.overlap_counts.specs.Answers.{Committed, no_counts, told, commit_told}
use Rattle.overlap_counts.proofs.Answers.{told_fresh, told_stale, thirteen_iff, eight_iff, fits_iff, same_counts_lem}
use Rattle.overlap_counts.proofs.Answers.{leaves_fresh, leaves_stale, leaves_small}
use Rattle.std.specs.Prelude.{Ok}
use Rattle.overlap_list.specs.declared.asking.TextsAsked.{TextsAsked}
use Rattle.overlap_list.specs.declared.asking.TextsCommitted.{TextsCommitted}
use Rattle.overlap_list.specs.Answers as listing
use Rattle.overlap_list.specs.Answers.{Listed, Lists}
use Rattle.overlap_list.specs.asking.Answers.{counts_of, Commits, TextsAsk, TextsCommit}
use Rattle.overlap_list.proofs.Answers.{counts_are}
use Rattle.demands.specs.Overlaps.{Demand3, rules_3, is_left, not_counted}

-- ---- the ask

-- WHAT AN ASK RETURNS of the rules with the left sides x and y
pub record AskedCounts (x y : OurFields) (c : Counts) : Type 0 where
  -- "The two counts are those of the definition's list"
  pub entries : c.entries ≡ length (lines_of x y)
  pub bytes : c.bytes ≡ length (overlap_text x y)
  -- they are what the old call returns, whatever bytes it is lent, refused or not
  pub as_listed : {old : List ℕ} {s : Listed} {out : List ℕ} → Lists x y old s out → (listing.told s).values ≡ c.entries ∷ c.bytes ∷ []

pub asked_counts : (x y : OurFields) (c : Counts) → c ≡ counts_of x y → AskedCounts x y c
asked_counts x y c e =
    let n = ap (λ (a : Counts). a.entries) e in
    let b = ap (λ (a : Counts). a.bytes) e in
    record { entries = n; bytes = b; as_listed = λ l. counts_are l ∙ sym (ap₂ (λ (k m : ℕ). k ∷ m ∷ []) n b) }

-- "A rule with no fields counts as having no entries": its counts are 0 and 0
pub no_fields_left : (x y : OurFields) → x ≡ [] → counts_of x y ≡ no_counts
no_fields_left x y e = ap (λ (z : OurFields). counts_of z y) e

pub no_fields_right : (x y : OurFields) → y ≡ [] → counts_of x y ≡ no_counts
no_fields_right x y e = ap (counts_of x) e ∙ rw (no_right x)

-- ---- the commit

-- WHAT A COMMIT ANSWERS AND LEAVES where `asked` are the counts that the ask returned for its rules and the lent bytes `old` have room for
-- the list: these counts, and no refusal; the first bytes, as many as are counted, are the list of demand 3, and the others are the old
-- ones
pub record CommittedSlips (B : Type 0) (asked : Counts) (x y : OurFields) (old : List ℕ) (r : Committed) (new : List ℕ) : Type 0 where
  pub answer : told r ≡ record { number = none; values = asked.entries ∷ asked.bytes ∷ [] }
  pub list : Demand3 B x y asked.entries (take asked.bytes new)
  pub behind : drop asked.bytes new ≡ drop asked.bytes old

-- the refusals: each in its stated case only, with its values
pub record RefusedByCounts (asked : Counts) (x y : OurFields) (old : List ℕ) (r : Committed) (new : List ℕ) : Type 0 where
  -- "Refusal 13 is a commit whose counts aren't those of its rules, tried before 8": whatever bytes are lent
  pub thirteen_only : ((told r).number ≡ some 13) ↔ (asked ≢ counts_of x y)
  -- "it returns both counts as 0"
  pub thirteen_zero : (told r).number ≡ some 13 → (told r).values ≡ 0 ∷ 0 ∷ []
  -- 8 where the counts are those of the rules, and more bytes are needed than lent
  pub eight_only : ((told r).number ≡ some 8) ↔ ((asked ≡ counts_of x y) × (length old < length (overlap_text x y)))
  pub eight_counts : (told r).number ≡ some 8 → (told r).values ≡ length (lines_of x y) ∷ length (overlap_text x y) ∷ []
  -- both leave "the buffer's old bytes"
  pub refused_old : ((told r).number ≡ some 13) ⊎ ((told r).number ≡ some 8) → new ≡ old
  pub none_besides : ((told r).number ≡ none) ⊎ (((told r).number ≡ some 8) ⊎ ((told r).number ≡ some 13))

-- what the old call answers and leaves, of the same rules and lent bytes
pub record AsOldCall (x y : OurFields) (old : List ℕ) (r : Committed) (new : List ℕ) : Type 0 where
  pub answer : {s : Listed} {out : List ℕ} → Lists x y old s out → told r ≡ listing.told s
  pub bytes : {s : Listed} {out : List ℕ} → Lists x y old s out → new ≡ out

module _ (x y : OurFields) {asked : Counts} {old : List ℕ} {r : Committed} {new : List ℕ} (is : Commits asked x y old r new) where
  abbrev text : List ℕ
  text = overlap_text x y

  -- "Ask then commit on the same rules": `asked` is what the ask returned
  module _ (same : asked ≡ counts_of x y) where
    fresh : told r ≡ by_room (length text) (length old) (length (lines_of x y) ∷ length text ∷ [])
    fresh = is.answer ∙ told_fresh asked (counts_of x y) (length old) same

    fresh_bytes : new ≡ after text old
    fresh_bytes = is.bytes ∙ leaves_fresh asked (counts_of x y) text old same

    -- "leaves the bytes that the old call left", and answers as it does, also where they have no room
    pub old_call : AsOldCall x y old r new
    old_call = record { answer = λ l. fresh ∙ sym l.answer; bytes = λ l. fresh_bytes ∙ sym l.bytes }

    -- demand 3, of rules that reading returns
    pub rules_commit : (B : Type 0) → IsLeft x → IsLeft y → asked.bytes ≤ length old → CommittedSlips B asked x y old r new
    rules_commit B a b room =
        let fits : length text ≤ length old = subst (λ (c : Counts). c.bytes ≤ length old) same room in
        let e = le-leb (length text) (length old) fits in
        let listed : Lists x y old (Ok (counts_of x y)) new = record { answer = rw e; bytes = fresh_bytes } in
        let shared = rules_3 listed B a b fits in
        subst (λ (c : Counts). CommittedSlips B c x y old r new) (sym same)
        (record { answer = fresh ∙ rw e; list = shared.list; behind = shared.behind })

  number_is : (told r).number ≡ (commit_told asked (counts_of x y) (length old)).number
  number_is = ap (λ (a : Told). a.number) is.answer

  thirteen : ((told r).number ≡ some 13) ↔ (asked ≢ counts_of x y)
  thirteen =
      let iff = thirteen_iff asked (counts_of x y) (length old) in
      (λ e. iff.0 (sym number_is ∙ e), λ n. number_is ∙ iff.1 n)

  eight : ((told r).number ≡ some 8) ↔ ((asked ≡ counts_of x y) × (length old < length text))
  eight =
      let iff = eight_iff asked (counts_of x y) (length old) in
      (λ e. iff.0 (sym number_is ∙ e), λ h. number_is ∙ iff.1 h)

  stale_bytes : asked ≢ counts_of x y → new ≡ old
  stale_bytes n = is.bytes ∙ leaves_stale asked (counts_of x y) text old n

  small_bytes : asked ≡ counts_of x y → length old < length text → new ≡ old
  small_bytes e h = is.bytes ∙ leaves_small asked (counts_of x y) text old e h

  pub by_counts : RefusedByCounts asked x y old r new
  by_counts =
      record {
        thirteen_only = thirteen;
        thirteen_zero = λ e. ap (λ (a : Told). a.values) (is.answer ∙ told_stale asked (counts_of x y) (length old) (thirteen.0 e));
        eight_only = eight;
        eight_counts = λ e. ap (λ (a : Told). a.values) (fresh (eight.0 e).0);
        refused_old = old_left;
        none_besides = besides (same_counts_lem asked (counts_of x y)) (dec_le (length text) (length old));
      }
    where
      old_left : ((told r).number ≡ some 13) ⊎ ((told r).number ≡ some 8) → new ≡ old
      old_left (inl e) = stale_bytes (thirteen.0 e)
      old_left (inr e) = let h = eight.0 e in small_bytes h.0 h.1

      besides : Dec (asked ≡ counts_of x y) → Dec (length text ≤ length old)
          → ((told r).number ≡ none) ⊎ (((told r).number ≡ some 8) ⊎ ((told r).number ≡ some 13))
      besides (no n) d = inr (inr (thirteen.1 n))
      besides (yes e) (yes h) = inl (number_is ∙ (fits_iff asked (counts_of x y) (length old)).1 (e, h))
      besides (yes e) (no n) = inr (inl (eight.1 (e, omega arith)))

-- ---- what src/ ensures, of whatever two values

pub record RulesAsking (v w : Rule) (c : Counts) : Type 0 where
  pub counts : AskedCounts (counted_rule v).0 (counted_rule w).0 c
  pub left_none : accepted_rule v ≡ false → c ≡ no_counts
  pub right_none : accepted_rule w ≡ false → c ≡ no_counts

pub rules_asking : (v w : Rule) (c : Counts) → c ≡ counts_of (counted_rule v).0 (counted_rule w).0 → RulesAsking v w c
rules_asking v w c e =
    record {
      counts = asked_counts (counted_rule v).0 (counted_rule w).0 c e;
      left_none = λ n. e ∙ no_fields_left (counted_rule v).0 (counted_rule w).0 (not_counted v n);
      right_none = λ n. e ∙ no_fields_right (counted_rule v).0 (counted_rule w).0 (not_counted w n);
    }

-- THE THEOREM, of what `commit` answers and leaves, at the numbers as names
pub record RulesCommitting (asked : Counts) (v w : Rule) (old : List ℕ) (r : Committed) (new : List ℕ) : Type 0 where
  pub shared : accepted_rule v ≡ true → accepted_rule w ≡ true → asked ≡ counts_of (counted_rule v).0 (counted_rule w).0
      → asked.bytes ≤ length old → CommittedSlips ℕ asked (counted_rule v).0 (counted_rule w).0 old r new
  pub old_call : asked ≡ counts_of (counted_rule v).0 (counted_rule w).0 → AsOldCall (counted_rule v).0 (counted_rule w).0 old r new
  pub by_counts : RefusedByCounts asked (counted_rule v).0 (counted_rule w).0 old r new

pub commit_demand_3 : (v w : Rule) {asked : Counts} {old : List ℕ} {r : Committed} {new : List ℕ}
    → Commits asked (counted_rule v).0 (counted_rule w).0 old r new → RulesCommitting asked v w old r new
commit_demand_3 v w h =
    record {
      shared = λ a b same room. rules_commit (counted_rule v).0 (counted_rule w).0 h same ℕ (is_left v a) (is_left w b) room;
      old_call = old_call (counted_rule v).0 (counted_rule w).0 h;
      by_counts = by_counts (counted_rule v).0 (counted_rule w).0 h;
    }

-- an ask and then a commit of what it returned: the room is the only premise that is left
pub record AskingFirst (v w : Rule) (old : List ℕ) (r : Committed) (new : List ℕ) : Type 0 where
  pub shared : accepted_rule v ≡ true → accepted_rule w ≡ true → length (overlap_text (counted_rule v).0 (counted_rule w).0) ≤ length old
      → CommittedSlips ℕ (counts_of (counted_rule v).0 (counted_rule w).0) (counted_rule v).0 (counted_rule w).0 old r new
  pub old_call : AsOldCall (counted_rule v).0 (counted_rule w).0 old r new

pub ask_commit : (v w : Rule) {c : Counts} {old : List ℕ} {r : Committed} {new : List ℕ}
    → c ≡ counts_of (counted_rule v).0 (counted_rule w).0 → Commits c (counted_rule v).0 (counted_rule w).0 old r new
    → AskingFirst v w old r new
ask_commit v w {c} {old} {r} {new} e h =
    let d = subst (λ (a : Counts). Commits a (counted_rule v).0 (counted_rule w).0 old r new) e h in
    record {
      shared = λ a b room. rules_commit (counted_rule v).0 (counted_rule w).0 d refl ℕ (is_left v a) (is_left w b) room;
      old_call = old_call (counted_rule v).0 (counted_rule w).0 d refl;
    }

-- ---- and of whatever two texts

pub record TextsAsking (t u : List ℕ) (r : TextsAsked) : Type 0 where
  pub left : r.left ≡ verdict_of (read_rule t)
  pub right : r.right ≡ verdict_of (read_rule u)
  pub counts : AskedCounts (left_said (read_rule t)) (left_said (read_rule u)) r.counts
  -- "A refusal returns its number, its place and the rule with no fields"
  pub left_none : (s : Reason) (p : ℕ) → read_rule t ≡ refused s p → r.counts ≡ no_counts
  pub right_none : (s : Reason) (p : ℕ) → read_rule u ≡ refused s p → r.counts ≡ no_counts

pub texts_asking : (t u : List ℕ) {r : TextsAsked} → TextsAsk t u r → TextsAsking t u r
texts_asking t u {r} h =
    record {
      left = h.left;
      right = h.right;
      counts = asked_counts (left_said (read_rule t)) (left_said (read_rule u)) r.counts h.counts;
      left_none = λ s p e. h.counts ∙ no_fields_left (left_said (read_rule t)) (left_said (read_rule u)) (ap left_said e);
      right_none = λ s p e. h.counts ∙ no_fields_right (left_said (read_rule t)) (left_said (read_rule u)) (ap left_said e);
    }

-- two texts that are read as rules with the left sides x and y
pub record TextsCommittedSlips (B : Type 0) (asked : Counts) (x y : OurFields) (old : List ℕ) (r : TextsCommitted) (new : List ℕ) : Type 0
  where
    pub left : r.left ≡ Accepted
    pub right : r.right ≡ Accepted
    pub shared : CommittedSlips B asked x y old r.committed new

pub record TextsCommitting (asked : Counts) (t u old : List ℕ) (r : TextsCommitted) (new : List ℕ) : Type 0 where
  pub shared : (x y : OurRule) → read_rule t ≡ accepted x → read_rule u ≡ accepted y → asked ≡ counts_of x.0 y.0
      → asked.bytes ≤ length old → TextsCommittedSlips ℕ asked x.0 y.0 old r new
  pub old_call : asked ≡ counts_of (left_said (read_rule t)) (left_said (read_rule u))
      → AsOldCall (left_said (read_rule t)) (left_said (read_rule u)) old r.committed new
  pub by_counts : RefusedByCounts asked (left_said (read_rule t)) (left_said (read_rule u)) old r.committed new
  pub left_refused : (s : Reason) (p : ℕ) → read_rule t ≡ refused s p → r.left ≡ Refused (reason_from s) p
  pub right_refused : (s : Reason) (p : ℕ) → read_rule u ≡ refused s p → r.right ≡ Refused (reason_from s) p

pub texts_commit_demand_3 : (t u : List ℕ) {asked : Counts} {old : List ℕ} {r : TextsCommitted} {new : List ℕ}
    → TextsCommit asked t u old r new → TextsCommitting asked t u old r new
texts_commit_demand_3 t u {asked} {old} {r} {new} h =
    record {
      shared = both;
      old_call = old_call (left_said (read_rule t)) (left_said (read_rule u)) h.committed;
      by_counts = by_counts (left_said (read_rule t)) (left_said (read_rule u)) h.committed;
      left_refused = λ s p e. h.left ∙ ap verdict_of e;
      right_refused = λ s p e. h.right ∙ ap verdict_of e;
    }
  where
    both : (x y : OurRule) → read_rule t ≡ accepted x → read_rule u ≡ accepted y → asked ≡ counts_of x.0 y.0
        → asked.bytes ≤ length old → TextsCommittedSlips ℕ asked x.0 y.0 old r new
    both x y e f same room =
        let commits =
        subst₂ (λ (a b : OurFields). Commits asked a b old r.committed new) (ap left_said e) (ap left_said f) h.committed in
        record {
          left = h.left ∙ ap verdict_of e;
          right = h.right ∙ ap verdict_of f;
          shared = rules_commit x.0 y.0 commits same ℕ (rule_read_lem t x e).0 (rule_read_lem u y f).0 room;
        }
