-- Items with a separator between them, over any items: the terms of a field and the fields of a rule are both such a row.
use mathlib.Core.Path.{◌≡◌, refl}
use mathlib.Core.List.{List, [], ◌∷◌, ◌++◌, map}
use Prim.Native.Nat.{ℕ}
use Rattle.text_grammar.specs.Grammar.{colons}
use Rattle.text_grammar.specs.Plain.{raw_of, term_text, field_text}
use Rattle.text_values.specs.declared.Term.{Term}
use Rattle.text_values.specs.Values.{view_term}

pub record Row (A : Type 0) : Type 0 where
  pub item : A → List ℕ
  pub separator : ℕ
  -- the items with a between in front of each, and the row
  pub rest : List A → List ℕ
  pub whole : List A → List ℕ
  pub none : rest [] ≡ []
  pub one : (x : A) (xs : List A) → rest (x ∷ xs) ≡ separator ∷ (item x ++ rest xs)
  pub first : (x : A) (xs : List A) → whole (x ∷ xs) ≡ item x ++ rest xs

abbrev pub terms : Row Term
terms =
    record {
      item = λ t. term_text (view_term t);
      separator = 58;
      rest = λ ts. colons (map raw_of (map view_term ts));
      whole = λ ts. field_text (map view_term ts);
      none = refl;
      one = λ t ts. refl;
      first = λ t ts. refl;
    }
