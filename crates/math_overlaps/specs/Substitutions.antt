-- Substitutions: a value made of terms for every variable, and what a field becomes by one.
use Rattle.std.specs.Prelude.{◌≡◌, true, List, [], ◌∷◌}
use Rattle.math_types.specs.Order.{Order, Full, basic, list, full_le}
use Rattle.math_terms.specs.Terms.{Term, con, var}
use Rattle.math_terms.specs.Constants.{Consts, TermOver}
use Rattle.math_terms.specs.Seqs.{concat_map}

-- a substitution gives each variable, that is a kind and a name of A, terms over the names B
abbrev pub Subst : Type 0 → Type 0 → Type 0 → Type 0 → Type 0
Subst C K A B = K → A → List (Term C K B)

module _ {C K A B : Type 0} where
  abbrev pub image : Subst C K A B → Term C K A → List (Term C K B)
  image σ (con c) = con c ∷ []
  image σ (var k a) = σ k a

  -- each variable is replaced by its value
  abbrev pub substitute : Subst C K A B → List (Term C K A) → List (Term C K B)
  substitute σ f = concat_map (image σ) f

-- ---- "a value of its type, made of our terms" (document 01)

module _ (O : Order) (C : Consts O) {B : Type 0} where
  -- a constant has its kind, a variable the kind that it is written with
  abbrev pub kind_of : TermOver O C B → Full O.Kind
  kind_of (con c) = basic (C.con_kind c)
  kind_of (var k b) = k

  -- of `list` any run of terms ("A list variable's value there is any run of terms"), of a kind below it one term at or below it
  abbrev pub TermsOf : Full O.Kind → List (TermOver O C B) → Type 0
  TermsOf (basic k) f = (t : TermOver O C B) × (f ≡ t ∷ []) × (full_le O (kind_of t) (basic k) ≡ true)
  TermsOf list f = Unit {0}

module _ (O : Order) (C : Consts O) {A B : Type 0} where
  abbrev pub TypedSubst : Subst C.Con (Full O.Kind) A B → Type 0
  TypedSubst σ = (k : Full O.Kind) (a : A) → TermsOf O C k (σ k a)
