-- The value of a text: each term into the field, each field into the rule or the slip.
-- `rule_built`, `slip_built` of proofs/Build say that, of a text without refusals, this is the one value of what it says.
use Rattle.std.specs.Prelude.{Bool, true, false, cond, ◌&&◌, ℕ, ◌+◌, eqb, ltb, set}
use mathlib.Core.List.{List, foldl}
use Rattle.base_limits.specs.Limits.{most_fields}
use Rattle.text_grammar.specs.Grammar.{Raw, raw_var, raw_empty, raw_con}
use Rattle.text_grammar.specs.Tokens.{Token}
use Rattle.text_grammar.specs.Read.{rule, slip}
use Rattle.text_values.specs.declared.Term.{Term}
use Rattle.text_values.specs.declared.Terms.{Terms}
use Rattle.text_values.specs.declared.Fields.{Fields}
use Rattle.text_values.specs.Values.{RuleSide, Slip, no_terms, no_fields}
use Rattle.text_scan.specs.terms.Terms.{term_from}

abbrev pub is_empty : Raw → Bool
is_empty (raw_con r) = false
is_empty (raw_var k ds) = false
is_empty raw_empty = true

-- each stores where there is room: a field over its width and a fifth field are refused

abbrev pub push_term : {w : ℕ} → Terms w → Term → Terms w
push_term {w} f t = cond (ltb f.n w) (record { n = f.n + 1; terms = set f.terms f.n t }) f

abbrev pub add_raw : {w : ℕ} → Terms w → Raw → Terms w
add_raw f r = cond (is_empty r) f (push_term f (term_from r))

abbrev pub push_field : {w : ℕ} → Fields w → Terms w → Fields w
push_field r f = cond (ltb r.n most_fields) (record { n = r.n + 1; fields = set r.fields r.n f }) r

-- a field behind the first begins: the field before it is complete
abbrev pub turns : ℕ → ℕ → Bool
turns field index = ltb 1 field && eqb index 1

-- fields of up to w terms: those that are complete, and the one that is not
module _ (w : ℕ) where
  abbrev pub Building : Type 0
  Building = Fields w × Terms w

  abbrev pub turned : Bool → Building → Building
  turned true b = (push_field b.0 b.1, no_terms w)
  turned false b = b

  abbrev pub put : Building → Token → Building
  put b m = let c = turned (turns m.in_field m.index) b in (c.0, add_raw c.1 m.raw)

  abbrev pub whole : Building → Fields w
  whole b = push_field b.0 b.1

  abbrev pub built : List Token → Fields w
  built ms = whole (foldl put (no_fields w, no_terms w) ms)

abbrev pub built_side : List Token → RuleSide
built_side = built rule.width

abbrev pub built_slip : List Token → Slip
built_slip = built slip.width
