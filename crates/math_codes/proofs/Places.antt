-- The terms of a pair stand at their places, so the shapes over places are those of the rules.
use mathlib.Core.Path.{◌≡◌, sym, ap, ap₂, ◌∙◌, subst}
use mathlib.Core.Option.{Option, none}
use mathlib.Core.List.{List, [], ◌∷◌, ◌++◌, map, append_assoc}
use Prim.Native.Nat.{ℕ, suc, ◌+◌, ◌-◌, ◌*◌, ◌≤◌}
use native.Mathlib.Nat.{suc-mul}
use native.Mathlib.Omega.{arith}
use lib.ListN.{length, get_or, replicate, length-append, length-replicate, length-map}
use lib.Seq.{get_or-append_seam}
use Rattle.base_lists.specs.Seqs.{All}
use Rattle.math_types.specs.Order.{Full, basic, list}
use Rattle.math_terms.specs.Terms.{Term, con, var}
use Rattle.math_overlaps.specs.Shapes.{Atom, fixed, free, Side, left, right, Variable, of, shape_of, shapes_of}
use Rattle.math_codes.specs.Tables.{Holds}
use Rattle.math_codes.specs.Entries.{atom_of, field_row, rule_row, pair_row, place_shape, place_shapes}
use Rattle.math_codes.proofs.Seqs.{Each, Perhaps, OnShape, with_atom_lem, with_list_lem, with_both}

-- atoms by place, and the terms of a field
abbrev Row : Type 0 → Type 0 → Type 0 → Type 0
Row C K A = List (Option (Atom C (Variable K A)))

abbrev Field : Type 0 → Type 0 → Type 0 → Type 0
Field C K A = List (Term C (Full K) A)

module _ {C K A : Type 0} where
  -- the terms of a field stand from place b on
  abbrev pub Stands : Row C K A → Side → ℕ → Field C K A → Type 0
  Stands t s b [] = Unit {0}
  Stands t s b (u ∷ f) = (get_or t b none ≡ atom_of s u) × Stands t s (suc b) f

  -- the fields of a rule stand at b, b + w, ..
  abbrev pub StandAll : Row C K A → Side → ℕ → ℕ → List (Field C K A) → Type 0
  StandAll t s w b [] = Unit {0}
  StandAll t s w b (f ∷ r) = Stands t s b f × StandAll t s w (b + w) r

  -- ---- shapes over places

  shape_places : (t : Row C K A) (s : Side) (b : ℕ) (f : Field C K A) → Stands t s b f → Perhaps (OnShape (Holds t)) (place_shape b f) (shape_of s f)
  shape_places t s b [] h = tt
  shape_places t s b (con c ∷ f) h = with_atom_lem (Holds t) b (fixed c) h.0 (place_shape (suc b) f) (shape_of s f) (shape_places t s (suc b) f h.1)
  shape_places t s b (var (basic k) a ∷ f) h = with_atom_lem (Holds t) b (free (of s k a)) h.0 (place_shape (suc b) f) (shape_of s f)
      (shape_places t s (suc b) f h.1)
  shape_places t s b (var list a ∷ f) h = with_list_lem (Holds t) a (place_shape (suc b) f) (shape_of s f) (shape_places t s (suc b) f h.1)

  pub shapes_places : (t : Row C K A) (s : Side) (w b : ℕ) (r : List (Field C K A)) → StandAll t s w b r
      → Perhaps (Each (OnShape (Holds t))) (place_shapes w b r) (shapes_of s r)
  shapes_places t s w b [] h = tt
  shapes_places t s w b (f ∷ r) h =
      with_both (OnShape (Holds t)) (place_shape b f) (shape_of s f) (place_shapes w (b + w) r) (shapes_of s r) (shape_places t s b f h.0)
      (shapes_places t s w (b + w) r h.1)

  -- ---- the rows of a pair

  field_stands : (s : Side) (f : Field C K A) (p q : Row C K A) → Stands (p ++ (map (atom_of s) f ++ q)) s (length p) f
  field_stands s [] p q = tt
  field_stands s (u ∷ f) p q = (
    get_or-append_seam p (atom_of s u) (map (atom_of s) f ++ q) none,
    subst (λ (n : ℕ). Stands (p ++ (atom_of s u ∷ (map (atom_of s) f ++ q))) s n f) (length-append p (atom_of s u ∷ []) ∙ omega arith)
        (subst (λ (t : Row C K A). Stands t s (length (p ++ atom_of s u ∷ [])) f) (append_assoc p (atom_of s u ∷ []) (map (atom_of s) f ++ q))
        (field_stands s f (p ++ atom_of s u ∷ []) q)),
  )

  field_long : (w : ℕ) (s : Side) (f : Field C K A) → length f ≤ w → length (field_row w s f) ≡ w
  field_long w s f h = simp (length-append, length-map, length-replicate) (omega arith)

  rule_stands : (w : ℕ) (s : Side) (r : List (Field C K A)) → All (λ f. length f ≤ w) r → (p q : Row C K A)
      → StandAll (p ++ (rule_row w s r ++ q)) s w (length p) r
  rule_stands w s [] h p q = tt
  rule_stands w s (f ∷ r) h p q = (
    subst (λ (t : Row C K A). Stands (p ++ t) s (length p) f)
        (sym (append_assoc (field_row w s f) (rule_row w s r) q ∙ append_assoc (map (atom_of s) f) (replicate (w - length f) none) (rule_row w s r ++ q)))
        (field_stands s f p (replicate (w - length f) none ++ (rule_row w s r ++ q))),
    subst (λ (n : ℕ). StandAll (p ++ ((field_row w s f ++ rule_row w s r) ++ q)) s w n r)
        (length-append p (field_row w s f) ∙ ap (λ (n : ℕ). length p + n) (field_long w s f h.0))
        (subst (λ (t : Row C K A). StandAll t s w (length (p ++ field_row w s f)) r)
        (append_assoc p (field_row w s f) (rule_row w s r ++ q) ∙ ap (λ (t : Row C K A). p ++ t) (sym (append_assoc (field_row w s f) (rule_row w s r) q)))
        (rule_stands w s r h.1 (p ++ field_row w s f) q)),
  )

  rule_long : (w : ℕ) (s : Side) (r : List (Field C K A)) → All (λ f. length f ≤ w) r → length (rule_row w s r) ≡ length r * w
  rule_long w s [] h = omega arith
  rule_long w s (f ∷ r) h =
      length-append (field_row w s f) (rule_row w s r) ∙ ap₂ (λ (m n : ℕ). m + n) (field_long w s f h.0) (rule_long w s r h.1)
      ∙ omega (arith, suc-mul (length r) w)

  -- ---- THE PAIR: shapes over places are the rules' shapes, the right rule's places behind the h · w of the left one

  module _ (w h : ℕ) (r₁ r₂ : List (Field C K A)) (in₁ : All (λ f. length f ≤ w) r₁) (in₂ : All (λ f. length f ≤ w) r₂) (n₁ : length r₁ * w ≤ h * w) where
    pub left_stand : StandAll (pair_row w h r₁ r₂) left w 0 r₁
    left_stand =
        subst (λ (t : Row C K A). StandAll t left w 0 r₁)
        (sym (append_assoc (rule_row w left r₁) (replicate (h * w - length r₁ * w) none) (rule_row w right r₂ ++ replicate (h * w - length r₂ * w) none)))
        (rule_stands w left r₁ in₁ [] (replicate (h * w - length r₁ * w) none ++ (rule_row w right r₂ ++ replicate (h * w - length r₂ * w) none)))

    pub left_long : length (rule_row w left r₁ ++ replicate (h * w - length r₁ * w) none) ≡ h * w
    left_long = simp (length-append, length-replicate, rule_long w left r₁ in₁) (omega arith)

    pub right_stand : StandAll (pair_row w h r₁ r₂) right w (h * w) r₂
    right_stand =
        subst (λ (b : ℕ). StandAll (pair_row w h r₁ r₂) right w b r₂) left_long
        (rule_stands w right r₂ in₂ (rule_row w left r₁ ++ replicate (h * w - length r₁ * w) none) (replicate (h * w - length r₂ * w) none))

    pub left_places : Perhaps (Each (OnShape (Holds (pair_row w h r₁ r₂)))) (place_shapes w 0 r₁) (shapes_of left r₁)
    left_places = shapes_places (pair_row w h r₁ r₂) left w 0 r₁ left_stand

    pub right_places : Perhaps (Each (OnShape (Holds (pair_row w h r₁ r₂)))) (place_shapes w (h * w) r₂) (shapes_of right r₂)
    right_places = shapes_places (pair_row w h r₁ r₂) right w (h * w) r₂ right_stand

    -- as many places as two rules may have terms
    pub pair_long : length r₂ * w ≤ h * w → length (pair_row w h r₁ r₂) ≡ h * w + h * w
    pair_long n₂ =
        length-append (rule_row w left r₁ ++ replicate (h * w - length r₁ * w) none) (rule_row w right r₂ ++ replicate (h * w - length r₂ * w) none)
        ∙ ap₂ (λ (m n : ℕ). m + n) left_long (simp (length-append, length-replicate, rule_long w right r₂ in₂) (omega arith))
