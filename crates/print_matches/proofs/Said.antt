-- What is said of the values that reading and matching answer is what is said of the rule and the slip. Assumes nothing.
use mathlib.Core.Path.{◌≡◌, refl, sym, ap, ap₂, ◌∙◌, subst}
use mathlib.Core.Bool.{Bool, true, false, cond}
use mathlib.Core.Option.{Option, none, some}
use mathlib.Core.List.{List, [], ◌∷◌, ◌++◌, map, append-nil}
use Prim.Native.Nat.{ℕ, suc, ◌+◌, ◌-◌, ◌≤◌, min}
use native.Mathlib.Omega.{arith}
use borrow.Author.Tests.{le-ltb}
use lib.ListN.{length, take, drop}
use Rattle.print_parts.specs.Verdicts.{verdict_text}
use Rattle.print_parts.proofs.Lines.{behind_tab}
use Rattle.base_bytes.specs.Bytes.{index_of}
use Rattle.base_limits.specs.Limits.{largest_number, slip_line}
use Rattle.base_lists.specs.Seqs.{All, Any}
use Rattle.math_types.specs.Order.{basic, list}
use Rattle.math_types.specs.Types.{Basic, Kind, kinds}
use Rattle.math_terms.specs.Terms.{con, var}
use Rattle.math_terms.specs.Seqs.{concat_map}
use Rattle.math_terms.specs.Fillings.{Filling, Occurs}
use Rattle.math_terms.proofs.Seqs.{concat_map_append, concat_mapped}
use Rattle.text_grammar.specs.Ascii.{ascii}
use Rattle.text_grammar.specs.Terms.{OurTerm, OurFields, SlipFields}
use Rattle.text_grammar.specs.constants.Constants.{Con}
use Rattle.text_grammar.specs.Plain.{term_text, field_text}
use Rattle.text_grammar.specs.Limits.{TermIn, IsLeft, IsSlip}
use Rattle.text_grammar.specs.Numbers.{digits_of}
use Rattle.text_grammar.specs.Read.{Reason, number, OutcomeOf, Outcome, refused, accepted, read_side, read_slip}
use Rattle.text_grammar.proofs.Accepted.{slip_read_lem}
use Rattle.text_grammar.specs.rules.Read.{OurRule, read_rule}
use Rattle.text_grammar.proofs.rules.Accepted.{rule_read_lem}
use Rattle.text_grammar.specs.constants.Matching.{constants, matcher, compared}
use Rattle.text_values.specs.declared.Term.{Term}
use Rattle.text_values.specs.Values.{Field, SlipField}
use Rattle.text_values.specs.Values.{view_term, encode_field, encode_slip_field}
use Rattle.text_values.proofs.canonical.Terms.{view_encode_term}
use Rattle.match_fields.specs.declared.bindings.Filling.{Filling as FillingValue}
use Rattle.match_rules.specs.declared.Match.{Match}
use Rattle.match_rules.specs.Answers.{value_term, encode_values, runs_of, found, items_at, comparison}
use Rattle.match_fields.specs.bindings.Values.{atom_of, run_of}
use Rattle.match_fields.specs.declared.bindings.Run.{Run}
use Rattle.match_rules.proofs.Agree.{enc}
use Rattle.match_rules.proofs.Accept.{with_fields}
use Rattle.match_rules.specs.texts.Texts.{side_fields, slip_fields}
use Rattle.match_rules.proofs.texts.Texts.{sides_said, slips_said, compared_texts}
use Rattle.match_rules.proofs.Runs.{run_items_lem, atom_at, atom_value_lem, value_all}
use Rattle.text_refusals.specs.verdicts.Verdicts.{verdict_of}
use Rattle.text_refusals.proofs.verdicts.Verdicts.{number_is}
use Rattle.overlap_spec.specs.Variables.{Variable, numbers, of_kind, every, occurs, keep, variables}
use Rattle.overlap_spec.proofs.Variables.{occurs_is}
use Rattle.text_write.specs.pieces.Refusals.{number_at}
use Rattle.print_matches.specs.Matches.{rule_part, slip_part, value_text, found_text, match_text, read_text, texts_text, line_text}
use Rattle.print_matches.proofs.answers.Values.{variable_viewed, run_viewed, same_over, same_kinds}
use Rattle.print_matches.specs.answers.Values.{run_text, said_value, name_text, said_variable, said_kind, said_values, said_match}
use Rattle.print_matches.specs.Values.{said_texts, said_slip}

-- ---- constants within their limits

abbrev pub ConIn : Con → Type 0
ConIn c = TermIn (con c)

constants_in : (f : List OurTerm) → All TermIn f → All ConIn (constants f)
constants_in [] h = tt
constants_in (con c ∷ f) h = (h.0, constants_in f h.1)
constants_in (var k n ∷ f) h = constants_in f h.1

pub slip_in_lem : (y : OurFields) → All (All TermIn) y → All (All ConIn) (map constants y)
slip_in_lem [] h = tt
slip_in_lem (f ∷ y) h = (constants_in f h.0, slip_in_lem y h.1)

pub terms_in_lem : (v : List Con) → All ConIn v → All TermIn (map con v)
terms_in_lem [] h = tt
terms_in_lem (c ∷ v) h = (h.0, terms_in_lem v h.1)

viewed : (v : List Con) → All ConIn v → map view_term (map enc v) ≡ map con v
viewed [] h = refl
viewed (c ∷ v) h = ap₂ (λ (t : OurTerm) (l : List OurTerm). t ∷ l) (view_encode_term (con c) h.0) (viewed v h.1)

-- ---- the text of a value

-- of the variable of number n and this kind, if the rule has it
abbrev pub of_variable : OurFields → Filling Con Kind ℕ → Kind → ℕ → List ℕ
of_variable x φ k n = cond (occurs k n x) (value_text φ (k, n)) []

module _ (x y : OurFields) (is_rule : IsLeft x) (is_slip : IsSlip y) (φ : Filling Con Kind ℕ) (yes-φ : matcher x (map constants y) ≡ some φ) where
  abbrev ws : SlipFields
  ws = map constants y

  abbrev filling : FillingValue
  filling = record { values = encode_values φ; runs = runs_of x ws }

  pub value_in : (k : Kind) (n : ℕ) → Any (Occurs k n) x → All ConIn (φ k n)
  value_in = value_all x is_rule.1 ws φ yes-φ ConIn (slip_in_lem y is_slip.0.3)

  atom_said : (k : Basic) (n : ℕ) → n ≤ largest_number → Any (Occurs (basic k) n) x
      → term_text (view_term (atom_of filling.values (basic k) n)) ≡ field_text (map con (φ (basic k) n))
  atom_said k n h o =
      let v = atom_value_lem x is_rule.1 ws φ yes-φ k n o in
      let i = subst (All ConIn) v.1 (value_in (basic k) n o) in
      ap (λ (t : Term). term_text (view_term t)) (atom_at φ k n h ∙ ap value_term v.1)
      ∙ ap term_text (view_encode_term (con v.0) i.0)
      ∙ sym (append-nil (term_text (con v.0)))
      ∙ ap (λ (l : List Con). field_text (map con l)) (sym v.1)

  run_said : (r : Run) (v : List Con) → items_at ws r ≡ v → All ConIn v → run_text (map encode_slip_field y) r ≡ field_text (map con v)
  run_said r v e i = run_viewed y is_slip.1 r ∙ ap (λ (l : List Con). field_text (map view_term (map enc l))) e ∙ ap field_text (viewed v i)

  value_said : (k : Kind) (n : ℕ) → n ≤ largest_number → Any (Occurs k n) x → said_value k n (map encode_slip_field y) filling ≡ field_text (map con (φ k n))
  value_said (basic k) n h o = atom_said k n h o
  value_said list n h o = run_said (run_of filling n) (φ list n) (run_items_lem x is_rule.1 ws φ yes-φ n h o) (value_in list n o)

  variable_said : (k : Kind) (n : ℕ) → n ≤ largest_number → said_variable (map encode_field x) (map encode_slip_field y) filling k n ≡ of_variable x φ k n
  variable_said k n h = variable_viewed x is_rule (map encode_slip_field y) filling k n ∙ go (occurs k n x) refl
    where
      go : (b : Bool) → occurs k n x ≡ b → cond b (name_text k n ++ said_value k n (map encode_slip_field y) filling) [] ≡ cond b (value_text φ (k, n)) []
      go true e = ap (λ (t : List ℕ). name_text k n ++ t) (value_said k n h ((occurs_is k n x).0 e))
      go false e = refl

-- ---- the variables, one after the other

kept : {A : Type 0} (p : A → Bool) (g : A → List ℕ) (l : List A) → concat_map g (keep p l) ≡ concat_map (λ (a : A). cond (p a) (g a) []) l
kept p g [] = refl
kept {A} p g (a ∷ l) = go (p a) (kept p g l)
  where
    rest : List ℕ
    rest = concat_map (λ (b : A). cond (p b) (g b) []) l

    go : (b : Bool) → concat_map g (keep p l) ≡ rest → concat_map g (cond b (a ∷ keep p l) (keep p l)) ≡ cond b (g a) [] ++ rest
    go true e = ap (λ (t : List ℕ). g a ++ t) e
    go false e = e

-- all of one kind
abbrev pub of_kind_text : OurFields → Filling Con Kind ℕ → Kind → List ℕ
of_kind_text x φ k = concat_map (of_variable x φ k) numbers

module _ (x : OurFields) (φ : Filling Con Kind ℕ) where
  abbrev text : Variable → List ℕ
  text v = of_variable x φ v.0 v.1

  over : (ks : List Kind) → concat_map text (concat_map of_kind ks) ≡ concat_map (of_kind_text x φ) ks
  over [] = refl
  over (k ∷ ks) =
      concat_map_append text (of_kind k) (concat_map of_kind ks)
      ∙ ap₂ (λ (a b : List ℕ). a ++ b) (concat_mapped text (λ (n : ℕ). (k, n)) numbers) (over ks)

  -- kind by kind
  pub by_kind : concat_map (value_text φ) (variables x) ≡ concat_map (of_kind_text x φ) kinds
  by_kind = kept (λ (v : Variable). occurs v.0 v.1 x) (value_text φ) every ∙ over kinds

-- ---- the answer

module _ (x y : OurFields) (is_rule : IsLeft x) (is_slip : IsSlip y) where
  abbrev fs : List Field
  fs = map encode_field x

  abbrev gs : List SlipField
  gs = map encode_slip_field y

  values_said : (φ : Filling Con Kind ℕ) → matcher x (map constants y) ≡ some φ
      → said_values fs gs (record { values = encode_values φ; runs = runs_of x (map constants y) }) ≡ concat_map (value_text φ) (variables x)
  values_said φ e =
      same_kinds (said_kind fs gs (record { values = encode_values φ; runs = runs_of x (map constants y) })) (of_kind_text x φ) one kinds
      ∙ sym (by_kind x φ)
    where
      one : (k : Kind) → said_kind fs gs (record { values = encode_values φ; runs = runs_of x (map constants y) }) k ≡ of_kind_text x φ k
      one k =
          same_over (said_variable fs gs (record { values = encode_values φ; runs = runs_of x (map constants y) }) k) (of_variable x φ k) 16 0
          (λ n l. variable_said x y is_rule is_slip φ e k n (omega arith))

  match_said : said_match fs gs (comparison x y) ≡ match_text x y
  match_said =
      ap (λ (m : Match). said_match fs gs (record { found = m; compared = compared x (map constants y) })) (with_fields x y is_rule.0.0 is_slip.0.0)
      ∙ go (matcher x (map constants y)) refl
    where
      go : (m : Option (Filling Con Kind ℕ)) → matcher x (map constants y) ≡ m
          → said_match fs gs (record { found = found x (map constants y) m; compared = compared x (map constants y) }) ≡ found_text x
          (compared x (map constants y)) m
      go none e = refl
      go (some φ) e = ap (λ (t : List ℕ). ascii "yes " ++ digits_of (compared x (map constants y)) ++ t) (values_said φ e)

-- ---- the two texts

module _ (t u : List ℕ) (w : OurRule) (left : List ℕ) (is_rule : read_rule t ≡ accepted w) (is_left : read_side left ≡ accepted w.0) where
  texts_said : (y : OurFields) → read_slip u ≡ accepted y → said_texts left u ≡ match_text w.0 y
  texts_said y is_slip =
      ap (said_match (side_fields left) (slip_fields u)) (compared_texts left u w.0 y is_left is_slip)
      ∙ ap₂ (λ (a : List Field) (b : List SlipField). said_match a b (comparison w.0 y)) (sides_said left w.0 is_left) (slips_said u y is_slip)
      ∙ match_said w.0 y (rule_read_lem t w is_rule).0 (slip_read_lem u y is_slip)

  -- an accepted rule's left side, against the slip
  pub slip_said : texts_text t u ≡ said_slip left u
  unfolding texts_text
  slip_said = sym (go (read_slip u) refl ∙ ap (λ (o : OutcomeOf OurRule). read_text o (read_slip u)) (sym is_rule))
    where
      go : (o : Outcome) → read_slip u ≡ o → verdict_text (ascii "refused slip ") (verdict_of (read_slip u)) (said_texts left u) ≡ read_text (accepted w) (read_slip u)
      go (refused r i) e =
          ap (λ (o : Outcome). verdict_text (ascii "refused slip ") (verdict_of o) (said_texts left u)) e
          ∙ ap (λ (n : ℕ). ascii "refused slip " ++ number_at n i) (number_is r)
          ∙ ap (read_text (accepted w)) (sym e)
      go (accepted y) e =
          ap (λ (o : Outcome). verdict_text (ascii "refused slip ") (verdict_of o) (said_texts left u)) e
          ∙ texts_said y e
          ∙ ap (read_text (accepted w)) (sym e)

-- a refused rule
pub rule_said_lem : (t u : List ℕ) (r : Reason) (p n : ℕ) → read_rule t ≡ refused r p → n ≡ number r
    → texts_text t u ≡ ascii "refused rule " ++ number_at n p
unfolding texts_text
rule_said_lem t u r p n e q = ap (λ (o : OutcomeOf OurRule). read_text o (read_slip u)) e ∙ ap (λ (m : ℕ). ascii "refused rule " ++ number_at m p) (sym q)

-- ---- a line

module _ (t : List ℕ) (tab rest : ℕ) (is-tab : tab ≡ index_of 9 t) (is-rest : rest ≡ min (tab + 1) (length t)) where
  -- what is lent from the place behind the tab on
  slip_part_lem : take (length t - rest) (drop rest t) ≡ slip_part t
  slip_part_lem = behind_tab t tab rest is-rest ∙ ap (λ (i : ℕ). drop (suc i) t) is-tab

  pub line_said : length t ≤ slip_line → line_text t ≡ texts_text (take tab t) (take (length t - rest) (drop rest t))
  unfolding line_text
  line_said h =
      ap (λ (b : Bool). cond b (ascii "line too long") (texts_text (rule_part t) (slip_part t))) (le-ltb slip_line (length t) h)
      ∙ ap₂ texts_text (sym (ap (λ (i : ℕ). take i t) is-tab)) (sym slip_part_lem)
