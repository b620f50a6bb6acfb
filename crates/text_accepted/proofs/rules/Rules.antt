-- The accepted rules are exactly those that some text is read as, one for each rule; what the others count as.
-- `view_encode-..`: a value stands for what it was made of. `accepted-..`: an accepted value is the one of what it stands for, within the limits.
-- `rule_value_iff`: the theorem. `counted-..`, `left-..`: what a value counts as, and the left side of that. Assumes nothing.
use mathlib.Core.Path.{◌≡◌, refl, sym, ◌∙◌, ap, ap₂}
use mathlib.Core.Logic.{◌↔◌, ◌⊎◌, inl, inr}
use mathlib.Core.Bool.{Bool, true, false, ◌&&◌, cond}
use mathlib.Core.List.{List, []}
use Prim.Native.Nat.{ℕ, ◌≤◌}
use native.Mathlib.Omega.{arith}
use lib.ListN.{length}
use Rattle.base_lists.specs.Seqs.{All}
use Rattle.base_lists.specs.Truths.{both_is}
use Rattle.text_grammar.specs.Limits.{TermIn}
use Rattle.text_grammar.specs.Terms.{OurFields}
use Rattle.text_grammar.specs.Read.{rule, accepted}
use Rattle.text_grammar.specs.rules.Read.{OurRule, read_rule}
use Rattle.text_grammar.specs.rules.Limits.{IsRight, IsRule}
use Rattle.text_grammar.proofs.rules.Accepted.{rule_iff}
use Rattle.text_values.specs.Values.{RuleSide}
use Rattle.text_values.specs.declared.Rule.{Rule}
use Rattle.text_values.specs.Values.{view_side, view_rule, encode_side, encode_rule, blank_side}
use Rattle.text_accepted.specs.Accepted.{accepted_left, accepted_right, counted_left}
use Rattle.text_accepted.proofs.Accepted.{SideIn, all_both, view_encode_side, encode_accepted_side, accepted_side, value_iff}
use Rattle.text_accepted.proofs.Accepted as sides
use Rattle.text_accepted.specs.rules.Rules.{known, accepted_rule, counted_rule, left_value}
use Rattle.text_accepted.proofs.rules.Known.{known_iff}

-- ---- A RIGHT SIDE, with document 02's limits

pub right_is : (y : OurFields) → IsRight y ↔ SideIn y
right_is y =
    let b = all_both (λ f. length f ≤ rule.width) (All TermIn) y in
    (λ h. (h.0, b.1 (h.1, h.2)), λ h. (h.0, (b.0 h.1).0, (b.0 h.1).1))

pub view_encode_right : (y : OurFields) → IsRight y → view_side (encode_side y) ≡ y
view_encode_right y h = view_encode_side y ((right_is y).0 h)

pub right_accepts : (y : OurFields) → IsRight y → accepted_right (encode_side y) ≡ true
right_accepts y h = encode_accepted_side y ((right_is y).0 h)

pub accepted_right_lem : (v : RuleSide) → accepted_right v ≡ true → IsRight (view_side v) × (encode_side (view_side v) ≡ v)
accepted_right_lem v h = let a = accepted_side v h in ((right_is (view_side v)).1 a.0, a.1)

pub right_value_iff : (v : RuleSide) → (accepted_right v ≡ true) ↔ ((y : OurFields) × IsRight y × (v ≡ encode_side y))
right_value_iff v =
    (λ h. let a = accepted_right_lem v h in (view_side v, a.0, sym a.1), λ h. ap accepted_right h.2 ∙ right_accepts h.0 h.1)

-- ---- A RULE

-- the three tests
pub accepted_is : (v : Rule)
    → (accepted_rule v ≡ true)
    ↔ ((accepted_left v.left ≡ true) × (accepted_right v.right ≡ true) × (known (view_side v.left) (view_side v.right) ≡ true))
accepted_is v =
    let a = accepted_left v.left in
    let b = accepted_right v.right in
    let c = known (view_side v.left) (view_side v.right) in (
      λ h. let p = (both_is a (b && c)).0 h in let q = (both_is b c).0 p.1 in (p.0, q.0, q.1),
      λ h. (both_is a (b && c)).1 (h.0, (both_is b c).1 (h.1, h.2)),
    )

pub view_encode_rule : (w : OurRule) → IsRule w → view_rule (encode_rule w) ≡ w
view_encode_rule w h = ap₂ (λ (x y : OurFields). (x, y)) (sides.view_encode_rule w.0 h.0) (view_encode_right w.1 h.1)

pub accepted_rule_lem : (v : Rule) → accepted_rule v ≡ true → IsRule (view_rule v) × (encode_rule (view_rule v) ≡ v)
accepted_rule_lem v h =
    let p = (accepted_is v).0 h in
    let l = sides.accepted_rule_lem v.left p.0 in
    let r = accepted_right_lem v.right p.1 in (
      (l.0, r.0, (known_iff (view_side v.left) (view_side v.right)).0 p.2),
      ap₂ (λ (x y : RuleSide). let z : Rule = record { left = x; right = y } in z) l.1 r.1,
    )

pub rule_accepts : (w : OurRule) → IsRule w → accepted_rule (encode_rule w) ≡ true
rule_accepts w h =
    (accepted_is (encode_rule w)).1 (
      sides.encode_accepted_rule w.0 h.0,
      right_accepts w.1 h.1,
      ap₂ known (sides.view_encode_rule w.0 h.0) (view_encode_right w.1 h.1) ∙ (known_iff w.0 w.1).1 h.2,
    )

-- THERE IS ONE VALUE for one rule
pub encode_rule_one : (w z : OurRule) → IsRule w → IsRule z → encode_rule w ≡ encode_rule z → w ≡ z
encode_rule_one w z h k e = sym (view_encode_rule w h) ∙ ap view_rule e ∙ view_encode_rule z k

-- THE ACCEPTED RULES are those that some text is read as
pub rule_value_iff : (v : Rule) → (accepted_rule v ≡ true) ↔ ((t : List ℕ) × (r : OurRule) × (read_rule t ≡ accepted r) × (v ≡ encode_rule r))
rule_value_iff = value_iff accepted_rule view_rule encode_rule read_rule IsRule rule_iff accepted_rule_lem rule_accepts

-- ---- WHAT A VALUE COUNTS AS

pub counted_yes : (v : Rule) → accepted_rule v ≡ true → counted_rule v ≡ view_rule v
counted_yes v h = ap (λ (b : Bool). cond {A = OurRule} b (view_rule v) ([], [])) h

pub counted_no : (v : Rule) → accepted_rule v ≡ false → counted_rule v ≡ ([], [])
counted_no v h = ap (λ (b : Bool). cond {A = OurRule} b (view_rule v) ([], [])) h

-- a rule that reading returns, whose value it is, or no fields
abbrev pub Counts : Rule → Type 0
Counts v = ((accepted_rule v ≡ true) × IsRule (counted_rule v) × (v ≡ encode_rule (counted_rule v))) ⊎ ((accepted_rule v ≡ false) × (counted_rule v ≡ ([], [])))

pub counted_rule_lem : (v : Rule) → Counts v
counted_rule_lem v = go (accepted_rule v) refl
  where
    go : (b : Bool) → accepted_rule v ≡ b → Counts v
    go true h = let a = accepted_rule_lem v h in inl (h, rw (counted_yes v h) a.0, rw (counted_yes v h) (sym a.1))
    go false h = inr (h, counted_no v h)

-- the value of a rule counts as that rule
pub counted_encode : (w : OurRule) → IsRule w → counted_rule (encode_rule w) ≡ w
counted_encode w h = counted_yes (encode_rule w) (rule_accepts w h) ∙ view_encode_rule w h

-- ---- ITS LEFT SIDE

pub left_no : (v : Rule) → accepted_rule v ≡ false → left_value v ≡ blank_side
left_no v h = ap (λ (b : Bool). cond b v.left blank_side) h

pub left_yes : (v : Rule) → accepted_rule v ≡ true → left_value v ≡ v.left
left_yes v h = ap (λ (b : Bool). cond b v.left blank_side) h

pub left_encode : (w : OurRule) → IsRule w → left_value (encode_rule w) ≡ encode_side w.0
left_encode w h = left_yes (encode_rule w) (rule_accepts w h)

-- it is accepted as a left side exactly when the rule is
pub left_accepted : (v : Rule) → accepted_left (left_value v) ≡ accepted_rule v
left_accepted v = go (accepted_rule v) refl
  where
    go : (b : Bool) → accepted_rule v ≡ b → accepted_left (left_value v) ≡ accepted_rule v
    go true h = ap accepted_left (left_yes v h) ∙ ((accepted_is v).0 h).0 ∙ sym h
    go false h = ap accepted_left (left_no v h) ∙ sym h

-- what counts as one value's left side is the left side of what the value counts as
pub left_counted : (v : Rule) → counted_left (left_value v) ≡ (counted_rule v).0
left_counted v = go (accepted_rule v) refl
  where
    go : (b : Bool) → accepted_rule v ≡ b → counted_left (left_value v) ≡ (counted_rule v).0
    go true h =
        ap counted_left (left_yes v h)
        ∙ ap (λ (b : Bool). cond b (view_side v.left) []) ((accepted_is v).0 h).0
        ∙ ap (λ (w : OurRule). w.0) (sym (counted_yes v h))
    go false h = ap counted_left (left_no v h) ∙ ap (λ (w : OurRule). w.0) (sym (counted_no v h))

-- it stands for the same
pub left_view : (v : Rule) → view_side (left_value v) ≡ (counted_rule v).0
left_view v = go (accepted_rule v) refl
  where
    go : (b : Bool) → accepted_rule v ≡ b → view_side (left_value v) ≡ (counted_rule v).0
    go true h = ap view_side (left_yes v h) ∙ ap (λ (w : OurRule). w.0) (sym (counted_yes v h))
    go false h = ap view_side (left_no v h) ∙ ap (λ (w : OurRule). w.0) (sym (counted_no v h))

-- ---- A RULE WITHOUT A RIGHT SIDE is accepted, and counts, as its left side does

abbrev pub alone : RuleSide → Rule
alone x = record { left = x; right = blank_side }

right_none : accepted_right blank_side ≡ true
right_none = right_accepts [] (omega arith, tt, tt)

pub accepted_alone : (x : RuleSide) → accepted_rule (alone x) ≡ accepted_left x
accepted_alone x = ap (λ (b : Bool). accepted_left x && (b && true)) right_none ∙ same (accepted_left x)
  where
    same : (b : Bool) → (b && true) ≡ b
    same true = refl
    same false = refl

pub counted_alone : (x : RuleSide) → counted_rule (alone x) ≡ (counted_left x, [])
counted_alone x = ap (λ (b : Bool). cond {A = OurRule} b (view_side x, []) ([], [])) (accepted_alone x) ∙ go (accepted_left x)
  where
    go : (b : Bool) → cond {A = OurRule} b (view_side x, []) ([], []) ≡ (cond b (view_side x) [], [])
    go true = refl
    go false = refl
