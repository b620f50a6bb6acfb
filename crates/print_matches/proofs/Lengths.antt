-- How long an answer is, and that only the first bytes of a line matter. Assumes nothing.
use mathlib.Core.Path.{◌≡◌, refl, sym, ap, ◌∙◌, subst}
use mathlib.Core.Bool.{Bool, true, false, cond}
use mathlib.Core.Option.{Option, none, some}
use mathlib.Core.List.{List, [], ◌∷◌, ◌++◌, map}
use Prim.Native.Nat.{ℕ, zero, suc, ◌+◌, ◌*◌, ◌<◌, ◌≤◌}
use native.Mathlib.Omega.{arith}
use native.Mathlib.Decide.{ℕ_discrete, dec_lt}
use borrow.Author.Tests.{lt-ltb}
use lib.Dec.{ltb}
use lib.ListN.{length, take, length-append, length-map}
use lib.Seq.{length-take-le, take_all}
use Rattle.base_limits.specs.Limits.{most_fields, most_terms, largest_number, most_items, numbers_of_side, rule_places, longest_term, longest_slip_field, slip_line}
use Rattle.base_lists.specs.Seqs.{All, Any}
use Rattle.math_types.specs.Order.{basic, list}
use Rattle.math_types.specs.Types.{Kind, kinds, basics}
use Rattle.math_terms.specs.Terms.{con, var}
use Rattle.math_terms.specs.Seqs.{concat_map}
use Rattle.math_terms.specs.Fillings.{Filling, Occurs}
use Rattle.text_grammar.specs.Ascii.{ascii, newline}
use Rattle.text_grammar.specs.Terms.{OurTerm, OurFields}
use Rattle.text_grammar.specs.constants.Constants.{Con, consts}
use Rattle.text_grammar.specs.Numbers.{digits_of}
use Rattle.text_grammar.specs.Plain.{term_text, field_text}
use Rattle.text_grammar.specs.Limits.{IsLeft, IsSlip}
use Rattle.text_grammar.specs.Read.{OutcomeOf, Outcome, refused, accepted, read_slip}
use Rattle.text_grammar.proofs.Accepted.{spell_short, field_length, slip_read_lem}
use Rattle.text_grammar.proofs.Refused.{slip_place}
use Rattle.text_grammar.specs.rules.Read.{OurRule, read_rule}
use Rattle.text_grammar.proofs.rules.Accepted.{rule_read_lem}
use Rattle.text_grammar.proofs.rules.Sharp.{rule_place}
use Rattle.math_terms.specs.Matcher.{atoms}
use Rattle.math_terms.specs.Compared.{all_atoms}
use Rattle.math_terms.proofs.Compared.{compared_most}
use Rattle.text_grammar.specs.constants.Matching.{constants, matcher, compared}
use Rattle.text_grammar.proofs.Numbers.{digits_most}
use Rattle.match_rules.proofs.Runs.{atom_value_lem, value_long}
use Rattle.text_write.proofs.Digits.{digits_64}
use Rattle.overlap_spec.specs.Variables.{numbers_from, occurs, variables}
use Rattle.overlap_spec.proofs.Variables.{occurs_is}
use Rattle.text_write.proofs.pieces.Refusals.{number_at_length}
use Rattle.print_matches.specs.Matches.{rule_part, slip_part, value_text, found_text, match_text, longest_values, longest_answer, longest_said}
use Rattle.print_matches.specs.Matches.{read_text, texts_text, line_text, title_text, match_answer}
use Rattle.print_matches.proofs.Said.{value_in, terms_in_lem, of_variable, of_kind_text, by_kind}

-- ---- values

-- a blank, a name of at most three bytes, `=`, and one term or a part of a slip's field
abbrev most : Kind → ℕ
most (basic k) = 5 + longest_term
most list = 5 + longest_slip_field

-- of all 16 of each of some types
abbrev most_of : List Kind → ℕ
most_of [] = 0
most_of (k ∷ ks) = 16 * most k + most_of ks

constants_short : (f : List OurTerm) → length (constants f) ≤ length f
constants_short [] = omega arith
constants_short (con c ∷ f) = omega (arith, constants_short f)
constants_short (var k n ∷ f) = omega (arith, constants_short f)

slip_short : (y : OurFields) → All (λ f. length f ≤ most_items) y → All (λ (w : List Con). length w ≤ most_items) (map constants y)
slip_short [] h = tt
slip_short (f ∷ y) h = (omega (arith, constants_short f, h.0), slip_short y h.1)

numbers_short : (g : ℕ → List ℕ) (b m n : ℕ) → ((i : ℕ) → i < n + m → length (g i) ≤ b) → length (concat_map g (numbers_from m n)) ≤ m * b
numbers_short g b zero n h = omega arith
numbers_short g b (suc m) n h =
    omega (arith, length-append (g n) (concat_map g (numbers_from m (suc n))), h n (omega arith), numbers_short g b m (suc n) (λ i l. h i (omega arith)))

module _ (x y : OurFields) (is_rule : IsLeft x) (is_slip : IsSlip y) (φ : Filling Con Kind ℕ) (yes-φ : matcher x (map constants y) ≡ some φ) where
  field_short : (k : Kind) (n : ℕ) → Any (Occurs k n) x → 5 + length (field_text (map con (φ k n))) ≤ most k
  field_short (basic k) n o =
      let v = atom_value_lem x is_rule.1 (map constants y) φ yes-φ k n o in
      let i = subst (All _) v.1 (value_in x y is_rule is_slip φ yes-φ (basic k) n o) in
      omega (arith, ap (λ (l : List Con). length (field_text (map con l))) v.1, length-append (term_text (con v.0)) [], spell_short (con v.0) i.0)
  field_short list n o =
      let h = value_long x is_rule.1 (map constants y) φ yes-φ most_items (slip_short y is_slip.0.2) list n o in
      omega (
        arith,
        field_length 63 (map con (φ list n)) (omega (arith, length-map {B = OurTerm} (φ list n) con))
            (terms_in_lem (φ list n) (value_in x y is_rule is_slip φ yes-φ list n o)),
      )

  value_short : (k : Kind) (n : ℕ) → n ≤ largest_number → Any (Occurs k n) x → length (value_text φ (k, n)) ≤ most k
  value_short k n h o =
      let v = field_text (map con (φ k n)) in
      let a = length-append (ascii " " ++ term_text (var k n) ++ ascii "=") v in
      let b = length-append (ascii " " ++ term_text (var k n)) (ascii "=") in
      omega (arith, a, b, digits_most 1 n (omega arith), field_short k n o)

  variable_short : (k : Kind) (n : ℕ) → n ≤ largest_number → length (of_variable x φ k n) ≤ most k
  variable_short k n h = go (occurs k n x) refl
    where
      go : (b : Bool) → occurs k n x ≡ b → length (cond b (value_text φ (k, n)) []) ≤ most k
      go true e = value_short k n h ((occurs_is k n x).0 e)
      go false e = omega arith

  kind_short : (k : Kind) → length (of_kind_text x φ k) ≤ numbers_of_side * most k
  kind_short k = numbers_short (of_variable x φ k) (most k) numbers_of_side 0 (λ n l. variable_short k n (omega arith))

  kinds_short : (ks : List Kind) → length (concat_map (of_kind_text x φ) ks) ≤ most_of ks
  kinds_short [] = omega arith
  kinds_short (k ∷ ks) = omega (arith, length-append (of_kind_text x φ k) (concat_map (of_kind_text x φ) ks), kind_short k, kinds_short ks)

  values_short : length (concat_map (value_text φ) (variables x)) ≤ longest_values
  values_short = omega (arith, ap length (by_kind x φ), kinds_short kinds)

-- ---- answers

-- at most 64 items are compared: a rule has no more atoms
atoms_short : (x : OurFields) → length x ≤ most_fields → All (λ f. length f ≤ most_terms) x → all_atoms x ≤ rule_places
atoms_short x h k = omega (arith, go x k)
  where
    atoms_in_lem : (f : List OurTerm) → atoms f ≤ length f
    atoms_in_lem [] = omega arith
    atoms_in_lem (con c ∷ f) = omega (arith, atoms_in_lem f)
    atoms_in_lem (var (basic k) n ∷ f) = omega (arith, atoms_in_lem f)
    atoms_in_lem (var list n ∷ f) = omega (arith, atoms_in_lem f)

    go : (x : OurFields) → All (λ f. length f ≤ most_terms) x → all_atoms x ≤ most_terms * length x
    go [] k = omega arith
    go (f ∷ x) k = omega (arith, atoms_in_lem f, k.0, go x k.1)

found_short : (x y : OurFields) → IsLeft x → IsSlip y → length (match_text x y) ≤ longest_said
found_short x y h k = go (matcher x (map constants y)) refl
  where
    digits : length (digits_of (compared x (map constants y))) ≤ 2
    digits =
        digits_most 1 (compared x (map constants y)) (omega (
          arith,
          compared_most basics consts ℕ_discrete x (map constants y),
          atoms_short x h.0.1
              h.0.2,
        ))

    go : (m : Option (Filling Con Kind ℕ)) → matcher x (map constants y) ≡ m → length (found_text x (compared x (map constants y)) m) ≤ longest_said
    go none e = omega (arith, length-append (ascii "no ") (digits_of (compared x (map constants y))), digits)
    go (some φ) e =
        omega (
          arith,
          length-append (ascii "yes " ++ digits_of (compared x (map constants y))) (concat_map (value_text φ) (variables x)),
          length-append (ascii "yes ") (digits_of (compared x (map constants y))),
          digits,
          values_short x y h k φ e,
        )

read_short : (t u : List ℕ) → length (texts_text t u) ≤ longest_said
unfolding texts_text
read_short t u = go (read_rule t) (read_slip u) refl refl
  where
    go : (o : OutcomeOf OurRule) (p : Outcome) → read_rule t ≡ o → read_slip u ≡ p → length (read_text o p) ≤ longest_said
    go (refused r i) p e f = omega (arith, number_at_length r i (omega (arith, (rule_place t r i e).1)))
    go (accepted w) (refused r i) e f = omega (arith, number_at_length r i (omega (arith, slip_place u r i f)))
    go (accepted w) (accepted y) e f = found_short w.0 y (rule_read_lem t w e).0 (slip_read_lem u y f)

line_short : (t : List ℕ) → length (line_text t) ≤ longest_said
unfolding line_text
line_short t = go (ltb slip_line (length t))
  where
    go : (b : Bool) → length (cond b (ascii "line too long") (texts_text (rule_part t) (slip_part t))) ≤ longest_said
    go true = omega arith
    go false = read_short (rule_part t) (slip_part t)

pub answer_short : (k : ℕ) (t : List ℕ) → k < 18446744073709551616 → length (match_answer k t) ≤ longest_answer
unfolding match_answer
answer_short k t h =
    omega (
      arith,
      length-append (title_text k ++ line_text t) newline,
      length-append (title_text k) (line_text t),
      length-append (ascii "match " ++ digits_of k) newline,
      line_short t,
      digits_64 k h,
    )

-- ---- ONLY THE FIRST 12,290 BYTES of a line matter: a longer one is too long whatever it holds

pub line_long : (t : List ℕ) → slip_line < length t → line_text t ≡ ascii "line too long"
unfolding line_text
line_long t h = rw (lt-ltb slip_line (length t) h)

pub cut_same : (n k : ℕ) (t : List ℕ) → slip_line < n → match_answer k (take n t) ≡ match_answer k t
unfolding match_answer
cut_same n k t h = go (dec_lt n (length t))
  where
    go : Dec (n < length t) → match_answer k (take n t) ≡ match_answer k t
    go (yes l) =
        ap (λ (s : List ℕ). title_text k ++ s ++ newline)
        (line_long (take n t) (omega (arith, length-take-le n t (omega arith))) ∙ sym (line_long t (omega arith)))
    go (no l) = ap (match_answer k) (take_all n t (omega arith))
