-- The accepted left sides and fields are exactly those that some text is read as, one for each; the accepted right sides are those within the limits.
-- `view_encode-..`: a value stands for what it was made of. `accepted-..`: an accepted value is the one of what it stands for, within the limits.
-- `side_value_iff`, `rule_value_iff`, `field_value_iff`: the theorems.
use mathlib.Core.Path.{◌≡◌, refl, sym, ◌∙◌, ap}
use mathlib.Core.Logic.{◌↔◌}
use mathlib.Core.Bool.{Bool, true, ◌&&◌}
use mathlib.Core.List.{List, [], ◌∷◌, Memᴰ}
use Prim.Native.Nat.{ℕ, ◌≤◌}
use native.Mathlib.Omega.{arith}
use borrow.Author.Tests.{ltb-true, lt-ltb}
use lib.Dec.{eqb, ltb}
use lib.ListN.{length, get_or}
use Rattle.base_limits.specs.Limits.{most_fields}
use Rattle.base_lists.specs.Seqs.{All, IsCons, all_map, all_mem, cons_is}
use Rattle.text_grammar.specs.Terms.{OurTerm, OurFields}
use Rattle.text_grammar.specs.Read.{rule, OutcomeOf, accepted, read_side}
use Rattle.text_grammar.specs.Limits.{TermIn, Within, Linear, IsLeft}
use Rattle.text_grammar.proofs.Accepted.{rule_iff}
use Rattle.text_values.specs.declared.Term.{Term}
use Rattle.text_values.specs.declared.Terms.{Terms}
use Rattle.text_values.specs.declared.Fields.{Fields}
use Rattle.text_values.specs.Values.{Field, RuleSide}
use Rattle.text_accepted.specs.linearity.Lists.{linear}
use Rattle.text_values.specs.Values.{view_field, view_side, blank_field, blank_side, encode_field, encode_side, one_field}
use Rattle.text_accepted.specs.Accepted.{field_ok, field_blank, accepted_right, accepted_left, accepted_field}
use Rattle.base_lists.specs.Truths.{both_is}
use Rattle.text_accepted.proofs.linearity.Linear.{linear_is, linear_field}
use Rattle.text_values.proofs.canonical.Arrays.{Stands, encode_one, Counted, counted}
use Rattle.text_values.proofs.canonical.Terms.{term_stands}

-- ---- fields, and sides and slips: a count and an array
abbrev pub terms_parts : {w : ℕ} → Counted Term (Terms w)
terms_parts =
    record {
      count = λ f. f.n;
      places = λ f. f.terms;
      make = λ n ts. record { n = n; terms = ts };
      make_parts = λ f. refl;
      count_make = λ n ts. refl;
      places_make = λ n ts. refl;
    }

abbrev pub fields_parts : {w : ℕ} → Counted (Terms w) (Fields w)
fields_parts =
    record {
      count = λ r. r.n;
      places = λ r. r.fields;
      make = λ n fs. record { n = n; fields = fs };
      make_parts = λ r. refl;
      count_make = λ n fs. refl;
      places_make = λ n fs. refl;
    }

-- a field's terms, a side's fields: not too many, each within its limits
abbrev pub FieldIn : List OurTerm → Type 0
FieldIn f = (length f ≤ rule.width) × All TermIn f

abbrev pub SideIn : OurFields → Type 0
SideIn r = (length r ≤ most_fields) × All FieldIn r

pub field_stands : Stands view_field encode_field field_ok field_blank blank_field FieldIn
field_stands = counted terms_parts rule.width term_stands

pub side_stands : Stands view_side encode_side accepted_right (λ r. eqb r.n 0 && accepted_right r) blank_side SideIn
side_stands = counted fields_parts most_fields field_stands

-- ---- the limits of document 01
module _ {A : Type 0} where
  pub all_both : (P Q : A → Type 0) (xs : List A) → All (λ x. P x × Q x) xs ↔ (All P xs × All Q xs)
  all_both P Q [] = (λ h. (tt, tt), λ h. tt)
  all_both P Q (x ∷ xs) =
      let r = all_both P Q xs in
      (λ h. ((h.0.0, (r.0 h.1).0), (h.0.1, (r.0 h.1).1)), λ h. ((h.0.0, h.1.0), r.1 (h.0.1, h.1.1)))

pub within_is : (w : ℕ) (r : OurFields) → Within w r ↔ (IsCons r × (length r ≤ most_fields) × All (λ f. (length f ≤ w) × All TermIn f) r)
within_is w r =
    let b = all_both (λ f. length f ≤ w) (All TermIn) r in
    (λ h. (h.0, h.1, b.1 (h.2, h.3)), λ h. (h.0, h.1, (b.0 h.2).0, (b.0 h.2).1))

pub rule_is : (r : OurFields) → IsLeft r ↔ (IsCons r × SideIn r × Linear r)
rule_is r = let i = within_is rule.width r in (λ h. let j = i.0 h.0 in (j.0, (j.1, j.2), h.1), λ h. (i.1 (h.0, h.1.0, h.1.1), h.2))

-- ---- there and back
pub view_encode_field : (ts : List OurTerm) → length ts ≤ rule.width → All TermIn ts → view_field (encode_field ts) ≡ ts
view_encode_field ts k h = field_stands.view_encode ts (k, h)

pub view_encode_rule : (r : OurFields) → IsLeft r → view_side (encode_side r) ≡ r
view_encode_rule r h = side_stands.view_encode r ((rule_is r).0 h).1

-- THERE IS ONE VALUE for one rule
pub encode_rule_one : (r s : OurFields) → IsLeft r → IsLeft s → encode_side r ≡ encode_side s → r ≡ s
encode_rule_one r s h k e = encode_one side_stands r s ((rule_is r).0 h).1 ((rule_is s).0 k).1 e

-- ---- A RIGHT SIDE: the accepted values are those of at most four fields within the limits, one for each
pub view_encode_side : (y : OurFields) → SideIn y → view_side (encode_side y) ≡ y
view_encode_side y h = side_stands.view_encode y h

pub encode_accepted_side : (y : OurFields) → SideIn y → accepted_right (encode_side y) ≡ true
encode_accepted_side y h = side_stands.encode_good y h

pub accepted_side : (v : RuleSide) → accepted_right v ≡ true → SideIn (view_side v) × (encode_side (view_side v) ≡ v)
accepted_side v h = (side_stands.view_in v h, side_stands.encode_view v h)

pub side_value_iff : (v : RuleSide) → (accepted_right v ≡ true) ↔ ((y : OurFields) × SideIn y × (v ≡ encode_side y))
side_value_iff v =
    (λ h. let a = accepted_side v h in (view_side v, a.0, sym a.1), λ h. ap accepted_right h.2 ∙ encode_accepted_side h.0 h.1)

-- ---- accepted
-- a count over zero
pub count_is : (n : ℕ) (r : OurFields) → length r ≡ n → (ltb 0 n ≡ true) ↔ IsCons r
count_is n r e = (λ h. (cons_is r).0 (omega (arith, ltb-true 0 n h)), λ h. lt-ltb 0 n (omega (arith, (cons_is r).1 h)))

pub encode_accepted_rule : (r : OurFields) → IsLeft r → accepted_left (encode_side r) ≡ true
encode_accepted_rule r h =
    let i = (rule_is r).0 h in
    let l : linear (view_side (encode_side r)) ≡ true = ap linear (view_encode_rule r h) ∙ (linear_is r h.0.3).1 h.1 in
    (both_is (ltb 0 (length r)) (accepted_right (encode_side r) && linear (view_side (encode_side r)))).1 (
      (count_is (length r) r refl).1 i.0,
      (both_is (accepted_right (encode_side r)) (linear (view_side (encode_side r)))).1 (side_stands.encode_good r i.1, l),
    )

pub accepted_rule_lem : (v : RuleSide) → accepted_left v ≡ true → IsLeft (view_side v) × (encode_side (view_side v) ≡ v)
accepted_rule_lem v h =
    let p = (both_is (ltb 0 v.n) (accepted_right v && linear (view_side v))).0 h in
    let q = (both_is (accepted_right v) (linear (view_side v))).0 p.1 in
    let e = side_stands.encode_view v q.0 in
    let i = side_stands.view_in v q.0 in
    let c = (count_is v.n (view_side v) (ap (λ (r : RuleSide). r.n) e)).0 p.0 in
    let l = (linear_is (view_side v) (all_map FieldIn (All TermIn) (λ f k. k.1) (view_side v) i.1)).0 q.1 in
    ((rule_is (view_side v)).1 (c, i, l), e)

-- ---- THE ACCEPTED VALUES are those that some text is read as
abbrev pub ReadAs : {W X : Type 0} → (List ℕ → OutcomeOf X) → (X → W) → W → Type 0
ReadAs {W} {X} read encode v = (t : List ℕ) × (r : X) × (read t ≡ accepted r) × (v ≡ encode r)

pub value_iff : {W X : Type 0} (good : W → Bool) (view : W → X) (encode : X → W) (read : List ℕ → OutcomeOf X) (Is : X → Type 0)
    → ((r : X) → ((t : List ℕ) × (read t ≡ accepted r)) ↔ Is r)
    → ((v : W) → good v ≡ true → Is (view v) × (encode (view v) ≡ v))
    → ((r : X) → Is r → good (encode r) ≡ true)
    → (v : W) → (good v ≡ true) ↔ ReadAs read encode v
value_iff {W} {X} good view encode read Is read_is from to v = (there, λ h. ap good h.3 ∙ to h.1 ((read_is h.1).0 (h.0, h.2)))
  where
    there : good v ≡ true → ReadAs read encode v
    there h =
        let a = from v h in
        let t = (read_is (view v)).1 a.0 in
        (t.0, view v, t.1, sym a.1)

pub rule_value_iff : (v : RuleSide) → (accepted_left v ≡ true) ↔ ((t : List ℕ) × (r : OurFields) × (read_side t ≡ accepted r) × (v ≡ encode_side r))
rule_value_iff = value_iff accepted_left view_side encode_side read_side IsLeft rule_iff accepted_rule_lem encode_accepted_rule

-- ---- THE ACCEPTED FIELDS are those that stand on some accepted rule's left side
pub encode_accepted_field : (ts : List OurTerm) → IsLeft (ts ∷ []) → accepted_field (encode_field ts) ≡ true
encode_accepted_field ts h = encode_accepted_rule (ts ∷ []) h

pub accepted_field_lem : (f : Field) → accepted_field f ≡ true → IsLeft (view_field f ∷ []) × (encode_field (view_field f) ≡ f)
accepted_field_lem f h = let a = accepted_rule_lem (one_field f) h in (a.0, ap (λ (r : RuleSide). get_or r.fields 0 blank_field) a.1)

one_rule : (r : OurFields) (ts : List OurTerm) → IsLeft r → Memᴰ ts r → IsLeft (ts ∷ [])
one_rule r ts h m =
    let i = (rule_is r).0 h in
    (rule_is (ts ∷ [])).1 (tt, (omega arith, (all_mem FieldIn r i.1.1 ts m, tt)), linear_field r ts i.2 m)

pub field_value_iff : (f : Field)
    → (accepted_field f ≡ true)
    ↔ ((r : OurFields) × (ts : List OurTerm) × IsLeft r × Memᴰ ts r × (f ≡ encode_field ts))
field_value_iff f = (to, λ h. ap accepted_field h.4 ∙ encode_accepted_field h.1 (one_rule h.0 h.1 h.2 h.3))
  where
    to : accepted_field f ≡ true → (r : OurFields) × (ts : List OurTerm) × IsLeft r × Memᴰ ts r × (f ≡ encode_field ts)
    to h = let a = accepted_field_lem f h in (view_field f ∷ [], view_field f, a.0, Memᴰ.head refl, sym a.1)
