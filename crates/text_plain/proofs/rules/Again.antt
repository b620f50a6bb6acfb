-- What is written of a rule, read again.
use mathlib.Core.Path.{◌≡◌, sym, ◌∙◌, ap}
use mathlib.Core.Bool.{true, false}
use mathlib.Core.List.{List, []}
use Prim.Native.Nat.{ℕ}
use Rattle.text_grammar.specs.Read.{accepted}
use Rattle.text_grammar.specs.rules.Plain.{plain_both}
use Rattle.text_grammar.specs.rules.Read.{OurRule, read_rule}
use Rattle.text_grammar.proofs.rules.Accepted.{rule_read_lem, rule_plain}
use Rattle.text_grammar.proofs.rules.Plain.{plain_injective}
use Rattle.text_values.specs.declared.Rule.{Rule}
use Rattle.text_values.specs.Values.{view_rule, encode_rule}
use Rattle.text_accepted.specs.rules.Rules.{accepted_rule, counted_rule}
use Rattle.text_accepted.proofs.rules.Rules.{accepted_rule_lem, counted_yes, counted_no, counted_encode}

-- READING A RULE'S PLAIN TEXT gives what the rule stands for, and there is one value for it
pub read_written : (r : Rule) → accepted_rule r ≡ true → (read_rule (plain_both (counted_rule r)) ≡ accepted (view_rule r)) × (encode_rule (view_rule r) ≡ r)
read_written r h =
    let a = accepted_rule_lem r h in
    (ap (λ (w : OurRule). read_rule (plain_both w)) (counted_yes r h) ∙ rule_plain (view_rule r) a.0, a.1)

-- EVERY TEXT that is read as w is written as the one plain text of w
pub written_once : (t : List ℕ) (w : OurRule) → read_rule t ≡ accepted w → plain_both (counted_rule (encode_rule w)) ≡ plain_both w
written_once t w e = ap plain_both (counted_encode w (rule_read_lem t w e))

-- PLAIN TEXT IS INJECTIVE on accepted rules
pub written_injective : (r s : Rule) → accepted_rule r ≡ true → accepted_rule s ≡ true → plain_both (counted_rule r) ≡ plain_both (counted_rule s) → r ≡ s
written_injective r s h k e =
    let a = accepted_rule_lem r h in
    let b = accepted_rule_lem s k in
    let texts = ap plain_both (sym (counted_yes r h)) ∙ e ∙ ap plain_both (counted_yes s k) in
    sym a.1 ∙ ap encode_rule (plain_injective (view_rule r) (view_rule s) a.0 b.0 texts) ∙ b.1

-- A VALUE THAT NO READING RETURNS writes no bytes
pub unread_nothing : (r : Rule) → accepted_rule r ≡ false → plain_both (counted_rule r) ≡ []
unread_nothing r h = ap plain_both (counted_no r h)
