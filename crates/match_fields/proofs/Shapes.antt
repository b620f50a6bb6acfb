-- A field's shape counts its atoms and its list variables: the length test is the matcher's.
use mathlib.Core.Path.{◌≡◌, refl, ◌∙◌, ap, ap₂}
use mathlib.Core.Bool.{Bool, cond}
use mathlib.Core.List.{List, [], ◌∷◌, map}
use Prim.Native.Nat.{ℕ, ◌+◌, ◌-◌}
use native.Mathlib.Omega.{arith}
use borrow.Author.Tests.{ne_eqb}
use lib.Dec.{eqb, leb}
use lib.ListN.{length, length-map}
use Rattle.std.specs.List.{count_by}
use Rattle.std.proofs.lemmas.List.Sums.{sum_by-cons}
use Rattle.math_types.specs.Order.{basic, list}
use Rattle.math_types.specs.Values.{kind_of_from}
use Rattle.math_terms.specs.Terms.{con, var}
use Rattle.math_terms.specs.Matcher.{atoms, has_room, room}
use Rattle.math_terms.specs.Linear.{lists}
use Rattle.text_grammar.specs.Terms.{OurTerm}
use Rattle.text_values.specs.Values.{encode_term}
use Rattle.match_fields.specs.declared.Shape.{Shape}
use Rattle.match_fields.specs.Fields.{is_list_term, shape_of, fits_length}

count_cons : (t : OurTerm) (f : List OurTerm)
    → count_by is_list_term (map encode_term (t ∷ f)) ≡ cond (is_list_term (encode_term t)) 1 0 + count_by is_list_term (map encode_term f)
count_cons t f = sum_by-cons (λ x. cond (is_list_term x) 1 0) (encode_term t) (map encode_term f)

list_count : (f : List OurTerm) → count_by is_list_term (map encode_term f) ≡ length (lists f)
list_count [] = refl
list_count (con c ∷ f) = count_cons (con c) f ∙ omega (arith, list_count f)
list_count (var (basic k) n ∷ f) =
    count_cons (var (basic k) n) f
    ∙ rw (kind_of_from (basic k)) (let z : 0 + count_by is_list_term (map encode_term f) ≡ length (lists f) = omega (arith, list_count f) in z)
list_count (var list n ∷ f) = count_cons (var list n) f ∙ omega (arith, list_count f)

-- the terms of a field are its atoms and its list variables
pub atoms_lists : (f : List OurTerm) → length f ≡ atoms f + length (lists f)
atoms_lists [] = refl
atoms_lists (con c ∷ f) = omega (arith, atoms_lists f)
atoms_lists (var (basic k) n ∷ f) = omega (arith, atoms_lists f)
atoms_lists (var list n ∷ f) = omega (arith, atoms_lists f)

shape_is : (f : List OurTerm) → shape_of (map encode_term f) ≡ record { atoms = atoms f; lists = length (lists f) }
shape_is f =
    let n = list_count f in
    let m = length-map f encode_term in
    ap₂ (λ (a b : ℕ). record { atoms = a; lists = b })
    (let z : length (map encode_term f) - count_by is_list_term (map encode_term f) ≡ atoms f = omega (arith, atoms_lists f) in z) n

pub fits_room : (f : List OurTerm) (n : ℕ) → fits_length (shape_of (map encode_term f)) n ≡ has_room f n
fits_room f n = ap (λ (x : Shape). fits_length x n) (shape_is f) ∙ go (lists f)
  where
    go : (l : List ℕ) → fits_length (record { atoms = atoms f; lists = length l }) n ≡ room l (atoms f) n
    go [] = refl
    go (a ∷ l) = ap (λ (b : Bool). cond b (eqb (atoms f) n) (leb (atoms f) n)) (ne_eqb (length (a ∷ l)) 0 (λ e. omega arith))

-- how many items a field leaves to its list variable
pub gap_is : (f : List OurTerm) (n : ℕ) → n - (shape_of (map encode_term f)).atoms ≡ n - atoms f
gap_is f n = ap (λ (x : Shape). n - x.atoms) (shape_is f)
