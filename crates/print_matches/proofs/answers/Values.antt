-- The texts that are made of values, case by case as code makes them. Assumes nothing.
use mathlib.Core.Path.{◌≡◌, refl, sym, ap, ap₂, ◌∙◌}
use mathlib.Core.Bool.{Bool, true, false, cond, not}
use mathlib.Core.List.{List, [], ◌∷◌, ◌++◌, map}
use Prim.Native.Nat.{ℕ, zero, suc, ◌+◌, ◌<◌}
use native.Mathlib.Omega.{arith}
use borrow.Author.Tests.{not-true, not-false}
use lib.ListN.{get_or}
use Rattle.base_limits.specs.Limits.{numbers_of_side}
use Rattle.base_lists.specs.Seqs.{All}
use Rattle.math_types.specs.Types.{Kind}
use Rattle.math_terms.specs.Seqs.{concat_map}
use Rattle.text_grammar.specs.Ascii.{ascii}
use Rattle.text_grammar.specs.Numbers.{digits_of}
use Rattle.text_grammar.specs.Plain.{field_text}
use Rattle.text_grammar.specs.Terms.{OurFields}
use Rattle.text_grammar.specs.Limits.{IsCon, IsLeft}
use Rattle.text_grammar.specs.constants.Matching.{constants}
use Rattle.text_values.specs.declared.Term.{Term}
use Rattle.text_values.specs.Values.{Field, SlipField}
use Rattle.text_values.specs.Values.{blank_field, view_term, view_field, encode_field, encode_slip_field}
use Rattle.text_values.proofs.Pads.{unpadded}
use Rattle.text_accepted.proofs.Accepted.{view_encode_rule}
use Rattle.match_fields.specs.declared.bindings.Filling.{Filling}
use Rattle.match_fields.specs.declared.bindings.Run.{Run}
use Rattle.match_fields.specs.bindings.Values.{slot}
use Rattle.match_rules.specs.declared.Comparison.{Comparison}
use Rattle.match_rules.specs.Answers.{items_at}
use Rattle.match_rules.proofs.Agree.{enc}
use Rattle.match_rules.proofs.Items.{run_items_of}
use Rattle.overlap_spec.specs.Variables.{numbers_from, numbers, occurs}
use Rattle.print_matches.specs.answers.Values.{run_text, name_text, said_value, said_variable, said_values, said_match, Noted, noted_text}

-- ---- the variables of one type

-- what says the same of each number says the same of all
pub same_over : (f g : ℕ → List ℕ) (m n : ℕ) → ((i : ℕ) → i < n + m → f i ≡ g i) → concat_map f (numbers_from m n) ≡ concat_map g (numbers_from m n)
same_over f g zero n h = refl
same_over f g (suc m) n h = ap₂ (λ (a b : List ℕ). a ++ b) (h n (omega arith)) (same_over f g m (suc n) (λ i l. h i (omega arith)))

-- and of each type
pub same_kinds : (f g : Kind → List ℕ) → ((k : Kind) → f k ≡ g k) → (ks : List Kind) → concat_map f ks ≡ concat_map g ks
same_kinds f g h [] = refl
same_kinds f g h (k ∷ ks) = ap₂ (λ (a b : List ℕ). a ++ b) (h k) (same_kinds f g h ks)

-- each is shown where it is noted, and it is noted where `has` says
pub noted_said : (v : List Bool) (has : Kind → ℕ → Bool) → Noted v has → (k : Kind) (value : ℕ → List ℕ)
    → concat_map (λ (n : ℕ). cond (has k n) (name_text k n ++ value n) []) numbers ≡ noted_text v k value
noted_said v has q k value =
    same_over (λ (n : ℕ). cond (has k n) (name_text k n ++ value n) []) (λ (n : ℕ). cond (get_or v (slot k n) false) (name_text k n ++ value n) []) numbers_of_side 0
    (λ n l. ap (λ (b : Bool). cond b (name_text k n ++ value n) []) (sym (q k n (omega arith))))

-- ---- a match, by the answer

module _ (fs : List Field) (ws : List SlipField) {d : Comparison} (c : Comparison) (is_c : c ≡ d) where
  by : (y : Bool) → c.found.yes ≡ y
      → cond y (ascii "yes " ++ digits_of c.compared ++ said_values fs ws c.found.filling) (ascii "no " ++ digits_of c.compared) ≡ said_match fs ws d
  by y e =
      ap (λ (a : Bool). cond a (ascii "yes " ++ digits_of c.compared ++ said_values fs ws c.found.filling) (ascii "no " ++ digits_of c.compared)) (sym e)
      ∙ ap (said_match fs ws) is_c

  pub said_no : not c.found.yes ≡ true → said_match fs ws d ≡ ascii "no " ++ digits_of c.compared
  said_no e = sym (by false (not-true c.found.yes e))

  pub said_yes : not c.found.yes ≡ false → said_match fs ws d ≡ ascii "yes " ++ digits_of c.compared ++ said_values fs ws c.found.filling
  said_yes e = sym (by true (not-false c.found.yes e))

-- ---- THE VALUES of fields that stand for something: what is said is said of what they stand for

-- the fields of a left side
pub sides_viewed : (x : OurFields) → IsLeft x → map view_field (map encode_field x) ≡ x
sides_viewed x h = ap (map view_field) (sym (unpadded 4 blank_field encode_field x)) ∙ view_encode_rule x h

pub variable_viewed : (x : OurFields) → IsLeft x → (ws : List SlipField) (f : Filling) (k : Kind) (n : ℕ)
    → said_variable (map encode_field x) ws f k n ≡ cond (occurs k n x) (name_text k n ++ said_value k n ws f) []
variable_viewed x h ws f k n = ap (λ (r : OurFields). cond (occurs k n r) (name_text k n ++ said_value k n ws f) []) (sides_viewed x h)

-- a run's items are those of the slip
pub run_viewed : (y : OurFields) → All (All IsCon) y → (r : Run)
    → run_text (map encode_slip_field y) r ≡ field_text (map view_term (map enc (items_at (map constants y) r)))
run_viewed y h r = ap (λ (l : List Term). field_text (map view_term l)) (run_items_of y h r)
