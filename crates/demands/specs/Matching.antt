-- DEMAND 2, its first sentence: "A rule matches a slip exactly when some filling of its variables, each by its type, makes the two equal
-- under GP 2's associativity and unit laws."
-- Over the definitions that the contracts cite, for a rule value v, the value x of one side and a slip value w:
--     match_rules::match_rule   answers `match_of (counted_rule v).0 (counted_slip w)`
--     match_rules::match_side   answers `match_of (counted_left x) (counted_slip w)`
-- A rule matches as its left side does; so the theorem is first had of one side, and then of the rule's left side.
use Rattle.std.specs.Prelude.{◌≡◌, refl, ◌↔◌, Bool, true, false, cond, List, [], ◌∷◌, map, ℕ, ◌≤◌, get_or}
use Rattle.std.proofs.Common.{sym, ◌∙◌, ap, ap₂, subst, arith}
use Rattle.std.proofs.Math.Logic.Iff
use Rattle.std.proofs.lemmas.Bool.{false≢true}
use Rattle.std.proofs.Math.Option.{Option, none, some, IsSome}
use Rattle.base_limits.specs.Limits.{largest_number}
use Rattle.base_lists.specs.Seqs.{All, Any}
use Rattle.math_types.specs.Order.{basic, list}
use Rattle.math_types.specs.Types.{Basic, Kind, basics}
use Rattle.math_terms.specs.Terms.{con}
use Rattle.math_terms.specs.Fillings.{Filling, Typed, fill, Occurs}
use Rattle.math_terms.specs.Laws.{expr}
use Rattle.math_terms.specs.Matching.{MatchesByLaws}
use Rattle.math_terms.specs.Matcher.{complete}
use Rattle.text_grammar.specs.Grammar.{Raw, Says}
use Rattle.text_grammar.specs.Terms.{OurFields, terms_of, SlipFields, items_of, fields_of}
use Rattle.text_grammar.specs.constants.Constants.{Con, consts}
use Rattle.text_grammar.specs.Limits.{IsCon, IsLeft, IsSlip}
use Rattle.text_grammar.specs.Read.{OutcomeOf, Outcome, refused, accepted, read_side, read_slip}
use Rattle.text_grammar.proofs.Parse.{says_one}
use Rattle.text_grammar.proofs.Accepted.{rule_read_lem, slip_read_lem}
use Rattle.text_grammar.proofs.Theorems.{rule_accepted, slip_accepted}
use Rattle.text_grammar.specs.rules.Sides.{Sides, SaysRule}
use Rattle.text_grammar.specs.rules.Place.{left_text}
use Rattle.text_grammar.specs.rules.Tokens.{left_side}
use Rattle.text_grammar.specs.rules.Read.{OurRule, read_rule}
use Rattle.text_grammar.proofs.rules.Accepted as rules
use Rattle.text_grammar.proofs.rules.Left.{left_says, left_reads}
use Rattle.text_grammar.specs.constants.Matching.{constants, Matches, matcher}
use Rattle.text_grammar.specs.constants.Written.{written_field}
use Rattle.text_grammar.proofs.constants.Written.{written_matches, terms_matches}
use Rattle.text_grammar.proofs.constants.Matching.{match_iff, match_is, match_yes, match_blank}
use Rattle.text_grammar.proofs.Limited.{number_rule}
use Rattle.text_values.specs.Values.{RuleSide, Slip}
use Rattle.text_values.specs.declared.Rule.{Rule}
use Rattle.text_values.specs.Values.{blank_term, encode_term, encode_side, encode_rule, encode_slip, view_side, view_slip}
use Rattle.text_accepted.specs.Accepted.{accepted_left, counted_left}
use Rattle.text_accepted.specs.rules.Rules.{accepted_rule, counted_rule, left_value}
use Rattle.text_accepted.proofs.rules.Rules.{left_yes, left_encode, left_accepted, left_counted}
use Rattle.text_accepted.specs.slips.Slips.{accepted_slip, counted_slip}
use Rattle.text_accepted.proofs.Accepted.{rule_is, accepted_rule_lem, encode_accepted_rule, view_encode_rule}
use Rattle.text_accepted.proofs.slips.Slips.{slip_is, accepted_slip_lem, encode_accepted_slip, view_encode_slip}
use Rattle.text_refusals.specs.verdicts.Verdicts.{Accepted, Refused}
use Rattle.text_refusals.specs.verdicts.Verdicts.{reason_from}
use Rattle.text_read.specs.declared.RuleRead.{RuleRead}
use Rattle.text_read.specs.declared.SlipRead.{SlipRead}
use Rattle.text_read.specs.Answers.{rule_read, slip_read, ReadsRule, ReadsSlip}
use Rattle.match_fields.specs.declared.bindings.Filling.{Filling as FillingValue}
use Rattle.match_fields.specs.bindings.Values.{slot, atom_of, blank_run, run_of}
use Rattle.match_rules.specs.declared.Match.{Match}
use Rattle.match_rules.specs.Answers.{is_known, value_term, encode_values, runs_of, items_at, LiesIn, no_match, found, match_of}
use Rattle.match_rules.proofs.Accept.{with_fields, not_rule, not_slip}
use Rattle.match_rules.proofs.Runs.{atom_at, known_at, run_blank, run_items_lem, run_lies, atom_value_lem}

-- ---- the answer's filling

-- WHAT AN ANSWER SHOWS of a rule's fields and a slip's constants: its value, as the filling φ
pub record Shows (rule : OurFields) (slip : SlipFields) (value : FillingValue) (φ : Filling Con Kind ℕ) : Type 0 where
  -- φ makes the two equal, each variable by its type; any constants complete it for the variables that the rule lacks
  pub typed : Typed basics consts (complete basics consts φ)
  pub fills : map (fill (complete basics consts φ)) (terms_of rule) ≡ items_of slip
  -- "There is never more than one filling, and that is to be shown": those that make the two equal give the rule's variables φ's values
  pub one : (θ : Filling Con Kind ℕ) → Typed basics consts θ
      → (map (fill θ) (terms_of rule) ≡ items_of slip) ↔ ((k : Kind) (n : ℕ) → Any (Occurs k n) (terms_of rule) → θ k n ≡ φ k n)
  -- "yes with the value of every variable": an atom variable of the rule is known, and its term is the constant that φ gives
  pub atoms : (k : Basic) (n : ℕ) → Any (Occurs (basic k) n) (terms_of rule)
      → (c : Con) × (φ (basic k) n ≡ c ∷ []) × (get_or value.values.known (slot (basic k) n) false ≡ true)
      × (atom_of value.values (basic k) n ≡ encode_term (con c))
  -- "a list variable's value is a run of the slip's terms": the items there are the value that φ gives, and it lies within its field
  pub runs : (n : ℕ) → Any (Occurs list n) (terms_of rule) → (items_at slip (run_of value n) ≡ φ list n) × LiesIn slip (run_of value n)
  -- "blank for those the rule lacks", "every number zero": in φ, and in the value
  pub lacking : (k : Kind) (n : ℕ) → (Any (Occurs k n) (terms_of rule) → ⊥) → φ k n ≡ []
  pub blank_atoms : (k : Basic) (n : ℕ) → n ≤ largest_number → (Any (Occurs (basic k) n) (terms_of rule) → ⊥)
      → (get_or value.values.known (slot (basic k) n) false ≡ false) × (atom_of value.values (basic k) n ≡ blank_term)
  pub blank_runs : (n : ℕ) → (Any (Occurs list n) (terms_of rule) → ⊥) → run_of value n ≡ blank_run
  -- so the value is that of φ
  pub settled : value ≡ record { values = encode_values φ; runs = runs_of rule slip }

module _ (rule : OurFields) (is_rule : IsLeft rule) (slip : SlipFields) (φ : Filling Con Kind ℕ)
    (yes-φ : matcher rule slip ≡ some φ)
  where
    abbrev shown : FillingValue
    shown = record { values = encode_values φ; runs = runs_of rule slip }

    number_of : (k : Kind) (n : ℕ) → Any (Occurs k n) (terms_of rule) → n ≤ largest_number
    number_of k n o = number_rule k n rule is_rule.0.3 o

    shows : Shows rule slip shown φ
    shows = record {
      typed = (match_yes rule is_rule.1 slip φ yes-φ).0;
      fills = (match_yes rule is_rule.1 slip φ yes-φ).1;
      one = match_is rule is_rule.1 slip φ yes-φ;
      atoms = λ k n o. let c = atom_value_lem rule is_rule.1 slip φ yes-φ k n o in (
        c.0,
        c.1,
        known_at φ k n (number_of (basic k) n o) ∙ ap is_known c.1,
        atom_at φ k n (number_of (basic k) n o) ∙ ap value_term c.1,
      );
      runs = λ n o. (
        run_items_lem rule is_rule.1 slip φ yes-φ n (number_of list n o) o,
        run_lies rule is_rule.1 slip φ yes-φ n (number_of list n o) o,
      );
      lacking = match_blank rule is_rule.1 slip φ yes-φ;
      blank_atoms = λ k n h o. (
        known_at φ k n h ∙ ap is_known (match_blank rule is_rule.1 slip φ yes-φ (basic k) n o),
        atom_at φ k n h ∙ ap value_term (match_blank rule is_rule.1 slip φ yes-φ (basic k) n o),
      );
      blank_runs = λ n o. run_blank rule slip n o;
      settled = refl;
    }

-- ---- the answer

-- the text t is read as the rule value v, the text u as the slip value w, and the text t of one side as the value v
abbrev pub ReadAsRule : List ℕ → Rule → Type 0
ReadAsRule t v = ReadsRule t (record { verdict = Accepted; rule = v })

abbrev pub ReadAsSlip : List ℕ → Slip → Type 0
ReadAsSlip u w = ReadsSlip u (record { verdict = Accepted; slip = w })

abbrev pub ReadAsSide : List ℕ → RuleSide → Type 0
ReadAsSide t v = (r : OurFields) × (read_side t ≡ accepted r) × (v ≡ encode_side r)

-- WHAT MATCHING ANSWERS of the value v of one side and a slip value w
pub record SideMatching (v : RuleSide) (w : Slip) (m : Match) : Type 0 where
  -- DEMAND 2's sentence, of values that reading returns: their fields as one writes them, equal by the laws
  pub exactly : accepted_left v ≡ true → accepted_slip w ≡ true
      → (m.yes ≡ true) ↔ MatchesByLaws basics consts (map expr (terms_of (view_side v))) (map expr (terms_of (view_slip w)))
  -- the same as they are written: whatever texts t and u are read as the two, which say x and y
  pub as_written : (t u : List ℕ) → ReadAsSide t v → ReadAsSlip u w → (x y : List (List Raw)) → Says t x → Says u y
      → (m.yes ≡ true) ↔ MatchesByLaws basics consts (map written_field x) (map written_field y)
  -- and of the rule's terms and the slip's constants: some filling, each variable by its type, fills the one to the other
  pub on_terms : accepted_left v ≡ true → accepted_slip w ≡ true → (m.yes ≡ true) ↔ Matches (view_side v) (map constants (view_slip w))
  -- the one filling, where the answer is yes
  pub filling : accepted_left v ≡ true → accepted_slip w ≡ true → m.yes ≡ true
      → (φ : Filling Con Kind ℕ) × Shows (view_side v) (map constants (view_slip w)) m.filling φ
  -- "no with the blank filling (every number zero)"
  pub no_blank : m.yes ≡ false → m ≡ no_match
  -- "A rule or slip with no fields gives no", and so does a value that no reading returns
  pub unread_rule : accepted_left v ≡ false → m ≡ no_match
  pub unread_slip : accepted_slip w ≡ false → m ≡ no_match

found_yes : (r : OurFields) (ws : SlipFields) (m : Option (Filling Con Kind ℕ)) → ((found r ws m).yes ≡ true) ↔ IsSome m
found_yes r ws none = (λ e. absurd (false≢true e), λ h. absurd h)
found_yes r ws (some φ) = (λ e. tt, λ h. refl)

-- accepted values
module _ (v : RuleSide) (w : Slip) (accepted-v : accepted_left v ≡ true) (accepted-w : accepted_slip w ≡ true) where
  abbrev rule : OurFields
  rule = view_side v

  abbrev slip : SlipFields
  slip = map constants (view_slip w)

  is_rule : IsLeft rule
  is_rule = (accepted_rule_lem v accepted-v).0

  is_slip : IsSlip (view_slip w)
  is_slip = (accepted_slip_lem w accepted-w).0

  abbrev answer : Match
  answer = match_of (counted_left v) (counted_slip w)

  answer_is : answer ≡ found rule slip (matcher rule slip)
  answer_is =
      ap₂ (λ (a b : Bool). match_of (cond a rule []) (cond b (view_slip w) [])) accepted-v accepted-w
      ∙ with_fields rule (view_slip w) ((rule_is rule).0 is_rule).0 ((slip_is (view_slip w)).0 is_slip).0

  yes_iff : (answer.yes ≡ true) ↔ Matches rule slip
  yes_iff =
      let f = found_yes rule slip (matcher rule slip) in
      let m = match_iff rule is_rule.1 slip in
      (λ e. m.1 (f.0 (sym (ap (λ a. a.yes) answer_is) ∙ e)), λ h. ap (λ a. a.yes) answer_is ∙ f.1 (m.0 h))

  yes_laws : (answer.yes ≡ true) ↔ MatchesByLaws basics consts (map expr (terms_of rule)) (map expr (terms_of (view_slip w)))
  yes_laws = let l = terms_matches rule (view_slip w) is_slip.1 in Iff.trans yes_iff (l.1, l.0)

  abbrev ByLaws : List (List Raw) → List (List Raw) → Type 0
  ByLaws x y = MatchesByLaws basics consts (map written_field x) (map written_field y)

  yes_written : (x y : List (List Raw)) → fields_of x ≡ rule → fields_of y ≡ view_slip w → (answer.yes ≡ true) ↔ ByLaws x y
  yes_written x y ex ey =
      let h = written_matches x y (subst (All (All IsCon)) (sym ey) is_slip.1) in
      let k = subst (λ (r : OurFields). ByLaws x y ↔ Matches r (map constants (fields_of y))) ex h in
      let l = subst (λ (s : OurFields). ByLaws x y ↔ Matches rule (map constants s)) ey k in
      Iff.trans yes_iff (l.1, l.0)

  the_filling : answer.yes ≡ true → (φ : Filling Con Kind ℕ) × Shows rule slip answer.filling φ
  the_filling e = go (matcher rule slip) refl (sym (ap (λ a. a.yes) answer_is) ∙ e)
    where
      go : (m : Option (Filling Con Kind ℕ)) → matcher rule slip ≡ m → (found rule slip (matcher rule slip)).yes ≡ true
          → (φ : Filling Con Kind ℕ) × Shows rule slip answer.filling φ
      go none is y = absurd (false≢true (sym (ap (λ m. (found rule slip m).yes) is) ∙ y))
      go (some φ) is y =
          let same = ap (λ a. a.filling) (answer_is ∙ ap (found rule slip) is) in
          (φ, subst (λ (x : FillingValue). Shows rule slip x φ) (sym same) (shows rule is_rule slip φ is))

-- a text that is read as a value says its fields
abbrev SaysFields : List ℕ → OurFields → Type 0
SaysFields t r = (x : List (List Raw)) → Says t x → fields_of x ≡ r

read_side_lem : (t : List ℕ) (v : RuleSide) → ReadAsSide t v → (accepted_left v ≡ true) × SaysFields t (view_side v)
read_side_lem t v (r, is, held) =
    let h = rule_read_lem t r is in
    let said = ((rule_accepted t r).0 is).1 in (
      ap accepted_left held ∙ encode_accepted_rule r h,
      λ x says. ap fields_of (says_one t x said.0 says said.1) ∙ said.2 ∙ sym (ap view_side held ∙ view_encode_rule r h),
    )

read_slip_lem : (u : List ℕ) (w : Slip) → ReadAsSlip u w → (accepted_slip w ≡ true) × SaysFields u (view_slip w)
read_slip_lem u w reads = go (read_slip u) refl reads
  where
    go : (a : Outcome) → read_slip u ≡ a → record { verdict = Accepted; slip = w } ≡ slip_read a
        → (accepted_slip w ≡ true) × SaysFields u (view_slip w)
    go (refused o p) is e =
        let d : Accepted ≡ Refused (reason_from o) p = ap (λ (r : SlipRead). r.verdict) e in
        let z : ◌≡◌ {A = ℕ} 0 1 = cc in
        absurd (omega arith)
    go (accepted r) is e =
        let h = slip_read_lem u r is in
        let held : w ≡ encode_slip r = ap (λ (x : SlipRead). x.slip) e in
        let said = ((slip_accepted u r).0 is).1 in (
          ap accepted_slip held ∙ encode_accepted_slip r h,
          λ y says. ap fields_of (says_one u y said.0 says said.1) ∙ said.2 ∙ sym (ap view_slip held ∙ view_encode_slip r h),
        )

-- document 01: "no with the blank filling (every number zero)"
no_is_blank : (r s : OurFields) → (match_of r s).yes ≡ false → match_of r s ≡ no_match
no_is_blank [] s e = refl
no_is_blank (f ∷ r) [] e = refl
no_is_blank (f ∷ r) (w ∷ s) e = go (matcher (f ∷ r) (map constants (w ∷ s))) e
  where
    go : (m : Option (Filling Con Kind ℕ)) → (found (f ∷ r) (map constants (w ∷ s)) m).yes ≡ false
        → found (f ∷ r) (map constants (w ∷ s)) m ≡ no_match
    go none y = refl
    go (some φ) y = absurd (false≢true (sym y))

-- MATCHING ONE SIDE, of what the contract answers
pub side_matching : (v : RuleSide) (w : Slip) (m : Match) → m ≡ match_of (counted_left v) (counted_slip w) → SideMatching v w m
side_matching v w m is = subst (SideMatching v w) (sym is) of_answer
  where
    of_answer : SideMatching v w (match_of (counted_left v) (counted_slip w))
    of_answer = record {
      exactly = yes_laws v w;
      as_written = λ t u reads reads-slip x y says says-slip.
          let a = read_side_lem t v reads in
          let b = read_slip_lem u w reads-slip in
          yes_written v w a.0 b.0 x y (a.1 x says) (b.1 y says-slip);
      on_terms = yes_iff v w;
      filling = the_filling v w;
      no_blank = no_is_blank (counted_left v) (counted_slip w);
      unread_rule = λ e. sym (not_rule v w e);
      unread_slip = λ e. sym (not_slip v w e);
    }

-- ---- rules

-- WHAT MATCHING ANSWERS of a rule value v and a slip value w: the sentences of `SideMatching`, of the rule's left side
pub record Matching (v : Rule) (w : Slip) (m : Match) : Type 0 where
  -- DEMAND 2's sentence, of values that reading returns: the left side's fields and the slip's as one writes them, equal by the laws
  pub exactly : accepted_rule v ≡ true → accepted_slip w ≡ true
      → (m.yes ≡ true) ↔ MatchesByLaws basics consts (map expr (terms_of (view_side v.left))) (map expr (terms_of (view_slip w)))
  -- the same as they are written: whatever texts t and u are read as the two, which say s and y
  pub as_written : (t u : List ℕ) → ReadAsRule t v → ReadAsSlip u w → (s : Sides) (y : List (List Raw)) → SaysRule t s → Says u y
      → (m.yes ≡ true) ↔ MatchesByLaws basics consts (map written_field (left_side s)) (map written_field y)
  -- and of the left side's terms and the slip's constants: some filling, each variable by its type, fills the one to the other
  pub on_terms : accepted_rule v ≡ true → accepted_slip w ≡ true → (m.yes ≡ true) ↔ Matches (view_side v.left) (map constants (view_slip w))
  -- the one filling, where the answer is yes
  pub filling : accepted_rule v ≡ true → accepted_slip w ≡ true → m.yes ≡ true
      → (φ : Filling Con Kind ℕ) × Shows (view_side v.left) (map constants (view_slip w)) m.filling φ
  -- "no with the blank filling (every number zero)"
  pub no_blank : m.yes ≡ false → m ≡ no_match
  -- "A rule or slip with no fields gives no", and so does a value that no reading returns, also for its right side
  pub unread_rule : accepted_rule v ≡ false → m ≡ no_match
  pub unread_slip : accepted_slip w ≡ false → m ≡ no_match
  -- all of it is what is said of the left side
  pub by_left : SideMatching (left_value v) w m

-- a text that is read as a value is read as some rule, whose value it is
pub read_as_rule : (t : List ℕ) (v : Rule) → ReadAsRule t v → (r : OurRule) × (read_rule t ≡ accepted r) × (v ≡ encode_rule r)
read_as_rule t v reads = go (read_rule t) refl reads
  where
    go : (a : OutcomeOf OurRule) → read_rule t ≡ a → record { verdict = Accepted; rule = v } ≡ rule_read a
        → (r : OurRule) × (read_rule t ≡ accepted r) × (v ≡ encode_rule r)
    go (refused o p) is e =
        let d : Accepted ≡ Refused (reason_from o) p = ap (λ (r : RuleRead). r.verdict) e in
        let z : ◌≡◌ {A = ℕ} 0 1 = cc in
        absurd (omega arith)
    go (accepted r) is e = (r, is, ap (λ (x : RuleRead). x.rule) e)

-- then the text of its left side is read as the left side
left_read : (t : List ℕ) (v : Rule) → ReadAsRule t v → ReadAsSide (left_text t) (left_value v)
left_read t v reads =
    let r = read_as_rule t v reads in
    (r.0.0, left_reads t r.0 r.1, ap left_value r.2 ∙ left_encode r.0 (rules.rule_read_lem t r.0 r.1))

-- MATCHING, of what the contract answers
pub matching : (v : Rule) (w : Slip) (m : Match) → m ≡ match_of (counted_rule v).0 (counted_slip w) → Matching v w m
matching v w m is =
    record {
      exactly = λ h. along (λ (r : OurFields). accepted_slip w ≡ true
          → (m.yes ≡ true) ↔ MatchesByLaws basics consts (map expr (terms_of r)) (map expr (terms_of (view_slip w))))
          h (side.exactly (as_left h));
      as_written = λ t u reads reads-slip s y says says-slip.
          side.as_written (left_text t) u (left_read t v reads) reads-slip (left_side s) y (left_says t s says) says-slip;
      on_terms = λ h. along (λ (r : OurFields). accepted_slip w ≡ true → (m.yes ≡ true) ↔ Matches r (map constants (view_slip w)))
          h (side.on_terms (as_left h));
      filling = λ h. along (λ (r : OurFields). accepted_slip w ≡ true → m.yes ≡ true
          → (φ : Filling Con Kind ℕ) × Shows r (map constants (view_slip w)) m.filling φ) h (side.filling (as_left h));
      no_blank = side.no_blank;
      unread_rule = λ h. side.unread_rule (left_accepted v ∙ h);
      unread_slip = side.unread_slip;
      by_left = side;
    }
  where
    side : SideMatching (left_value v) w m
    side = side_matching (left_value v) w m (is ∙ ap (λ (r : OurFields). match_of r (counted_slip w)) (sym (left_counted v)))

    as_left : accepted_rule v ≡ true → accepted_left (left_value v) ≡ true
    as_left h = left_accepted v ∙ h

    -- what is said of the left side's value is said of the rule's own
    along : (P : OurFields → Type 0) → accepted_rule v ≡ true → P (view_side (left_value v)) → P (view_side v.left)
    along P h = subst P (ap view_side (left_yes v h))
