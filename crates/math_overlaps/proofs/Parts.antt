-- The value of a variable of a rule is a part of a field that the rule is turned into.
use mathlib.Core.Path.{◌≡◌, sym, ◌∙◌, ap, subst as along}
use mathlib.Core.Logic.{inl, inr}
use mathlib.Core.List.{List, [], ◌∷◌, ◌++◌, map, append_assoc}
use Prim.Native.Nat.{ℕ, ◌≤◌}
use native.Mathlib.Omega.{arith}
use lib.ListN.{length, length-append}
use Rattle.base_lists.specs.Seqs.{All, Any}
use Rattle.math_terms.specs.Terms.{Term, con, var}
use Rattle.math_terms.specs.Fillings.{Occurs}
use Rattle.math_overlaps.specs.Substitutions.{Subst, substitute}

module _ {T : Type 0} where
  abbrev pub Part : List T → List T → Type 0
  Part g f = (p q : List T) × (f ≡ p ++ (g ++ q))

module _ {C K A B : Type 0} (σ : Subst C K A B) where
  part_behind : (k : K) (a : A) (s : List (Term C K B)) (f : List (Term C K B)) → Part (σ k a) f → Part (σ k a) (s ++ f)
  part_behind k a s f h = (s ++ h.0, h.1, ap (λ (r : List (Term C K B)). s ++ r) h.2 ∙ sym (append_assoc s h.0 (σ k a ++ h.1)))

  part_of : (k : K) (a : A) (f : List (Term C K A)) → Occurs k a f → Part (σ k a) (substitute σ f)
  part_of k a (con c ∷ f) o = part_behind k a (con c ∷ []) (substitute σ f) (part_of k a f o)
  part_of k a (var j b ∷ f) (inl e) = ([], substitute σ f, rw (e.0, e.1))
  part_of k a (var j b ∷ f) (inr o) = part_behind k a (σ j b) (substitute σ f) (part_of k a f o)
  part_of k a [] o = elim o [ ]

  pub part_of_rule : (k : K) (a : A) (r : List (List (Term C K A))) → Any (Occurs k a) r → Any (Part (σ k a)) (map (substitute σ) r)
  part_of_rule k a (f ∷ r) (inl o) = inl (part_of k a f o)
  part_of_rule k a (f ∷ r) (inr o) = inr (part_of_rule k a r o)
  part_of_rule k a [] x' = elim x' [ ]

module _ {C K B : Type 0} where
  occurs_left : (k : K) (b : B) (f g : List (Term C K B)) → Occurs k b f → Occurs k b (f ++ g)
  occurs_left k b (con c ∷ f) g o = occurs_left k b f g o
  occurs_left k b (var j a ∷ f) g (inl e) = inl e
  occurs_left k b (var j a ∷ f) g (inr o) = inr (occurs_left k b f g o)
  occurs_left k b [] g o = elim o [ ]

  occurs_right : (k : K) (b : B) (f g : List (Term C K B)) → Occurs k b g → Occurs k b (f ++ g)
  occurs_right k b [] g o = o
  occurs_right k b (con c ∷ f) g o = occurs_right k b f g o
  occurs_right k b (var j a ∷ f) g o = inr (occurs_right k b f g o)

  pub part_occurs : (k : K) (b : B) (g : List (Term C K B)) → Occurs k b g → (fs : List (List (Term C K B))) → Any (Part g) fs → Any (Occurs k b) fs
  part_occurs k b g o (f ∷ fs) (inl h) = inl (along (Occurs k b) (sym h.2) (occurs_right k b h.0 (g ++ h.1) (occurs_left k b g h.1 o)))
  part_occurs k b g o (f ∷ fs) (inr h) = inr (part_occurs k b g o fs h)
  part_occurs k b g o [] x' = elim x' [ ]

  pub part_short : (n : ℕ) (g : List (Term C K B)) (fs : List (List (Term C K B))) → All (λ f. length f ≤ n) fs → Any (Part g) fs → length g ≤ n
  part_short n g (f ∷ fs) h (inl p) = omega (arith, h.0, simp (length-append, length-append) at (ap length p.2))
  part_short n g (f ∷ fs) h (inr p) = part_short n g fs h.1 p
  part_short n g [] h x'' = elim x'' [ ]
