-- Laws of the leftmost member: what is found is the first, and there is only one first.
use mathlib.Core.Path.{◌≡◌, refl, sym, ◌∙◌, ap, subst}
use mathlib.Core.Logic.{ite}
use mathlib.Core.Option.{Option, none, some, map}
use mathlib.Core.List.{List, [], ◌∷◌, ◌++◌, append_assoc, append-nil, nil≢cons, head-eq_of_cons-eq, tail-eq_of_cons-eq}
use Prim.Native.Nat.{ℕ}
use Rattle.base_lists.specs.Seqs.{All}
use Rattle.text_grammar.specs.Place.{Answers}
use Rattle.text_grammar.specs.Leftmost.{NoneOf, FirstOf, leftmost, LeftmostAt}

module _ {A : Type 0} (P : List A → A → Type 0) (d : (before : List A) (x : A) → Dec (P before x)) where
  -- the first is one
  pub first_one : (before xs : List A) (x y : A) → FirstOf P before xs x → FirstOf P before xs y → x ≡ y
  first_one before xs x y f g = go before xs f.0 f.1 g.0 g.1 f.2 f.3 f.4 g.2 g.3 g.4
    where
      go : (before xs ys zs us vs : List A) → xs ≡ ys ++ x ∷ zs → P (before ++ ys) x
          → NoneOf P before ys → xs ≡ us ++ y ∷ vs → P (before ++ us) y → NoneOf P before us → x ≡ y
      go before xs [] zs [] vs e p n e' p' n' = head-eq_of_cons-eq (sym e ∙ e')
      go before xs [] zs (u ∷ us) vs e p n e' p' n' =
          absurd (n'.0 (subst (P before) (head-eq_of_cons-eq (sym e ∙ e')) (subst (λ (l : List A). P l x) (append-nil before) p)))
      go before xs (w ∷ ys) zs [] vs e p n e' p' n' =
          absurd (n.0 (subst (P before) (head-eq_of_cons-eq (sym e' ∙ e)) (subst (λ (l : List A). P l y) (append-nil before) p')))
      go before xs (w ∷ ys) zs (u ∷ us) vs e p n e' p' n' =
          let same : w ≡ u = head-eq_of_cons-eq (sym e ∙ e') in
          go (before ++ w ∷ []) (ys ++ x ∷ zs) ys zs us vs refl
          (subst (λ (l : List A). P l x) (sym (append_assoc before (w ∷ []) ys)) p) n.1
          (tail-eq_of_cons-eq (sym e ∙ e'))
          (subst (λ (l : List A). P l y) (ap (λ (z : A). before ++ z ∷ us) (sym same) ∙ sym (append_assoc before (w ∷ []) us)) p')
          (subst (λ (z : A). NoneOf P (before ++ z ∷ []) us) (sym same) n'.1)

  -- THE LAW
  abbrev pub Found : List A → List A → Option A → Type 0
  Found before xs none = NoneOf P before xs
  Found before xs (some x) = FirstOf P before xs x

  pub leftmost_is : (xs before : List A) → Found before xs (leftmost P d before xs)
  leftmost_is [] before = tt
  leftmost_is (x ∷ xs) before = go (d before x) (λ b. leftmost_is xs b)
    where
      go : (c : Dec (P before x)) → ((b : List A) → Found b xs (leftmost P d b xs))
          → Found before (x ∷ xs) (ite c (some x) (leftmost P d (before ++ x ∷ []) xs))
      go (yes p) rec = ([], xs, refl, subst (λ (l : List A). P l x) (sym (append-nil before)) p, tt)
      go (no n) rec = on (leftmost P d (before ++ x ∷ []) xs) (rec (before ++ x ∷ []))
        where
          on : (a : Option A) → Found (before ++ x ∷ []) xs a → Found before (x ∷ xs) a
          on none h = (n, h)
          on (some y) h =
              (x ∷ h.0, h.1, ap (λ (l : List A). x ∷ l) h.2, subst (λ (l : List A). P l y) (append_assoc before (x ∷ []) h.0) h.3, (n, h.4))

  pub none_not : (xs before : List A) (x : A) → NoneOf P before xs → FirstOf P before xs x → ⊥
  none_not xs before x n f = go f.0 xs before n f.2 f.3
    where
      go : (ys xs before : List A) → NoneOf P before xs → xs ≡ ys ++ x ∷ f.1 → P (before ++ ys) x → ⊥
      go ys [] before n e p = nil_append ys e
        where
          nil_append : (ys : List A) → [] ≡ ys ++ x ∷ f.1 → ⊥
          nil_append [] e = nil≢cons e
          nil_append (y ∷ ys) e = nil≢cons e
      go [] (w ∷ xs) before n e p = n.0 (subst (P before) (sym (head-eq_of_cons-eq e)) (subst (λ (l : List A). P l x) (append-nil before) p))
      go (y ∷ ys) (w ∷ xs) before n e p =
          go ys xs (before ++ w ∷ []) n.1 (tail-eq_of_cons-eq e)
          (subst (λ (l : List A). P l x) (ap (λ (z : A). before ++ z ∷ ys) (sym (head-eq_of_cons-eq e)) ∙ sym (append_assoc before (w ∷ []) ys)) p)

  -- the same as a place
  module _ (place : A → ℕ) where
    pub leftmost_answers : (xs : List A) → Answers (LeftmostAt P place xs) (map place (leftmost P d [] xs))
    leftmost_answers xs = go (leftmost P d [] xs) (leftmost_is xs [])
      where
        go : (a : Option A) → Found [] xs a → Answers (LeftmostAt P place xs) (map place a)
        go none h = λ p l. none_not xs [] l.0 h l.1
        go (some x) h = ((x, h, refl), λ q l. l.2 ∙ ap place (first_one [] xs l.0 x l.1 h))

-- a property that does not look at what stands before
module _ {A : Type 0} (Q : A → Type 0) where
  pub none_all : (xs before : List A) → NoneOf (λ b x. Q x) before xs → All (λ x. Q x → ⊥) xs
  none_all [] before h = tt
  none_all (x ∷ xs) before h = (h.0, none_all xs (before ++ x ∷ []) h.1)

  pub all_none : (xs before : List A) → All (λ x. Q x → ⊥) xs → NoneOf (λ b x. Q x) before xs
  all_none [] before h = tt
  all_none (x ∷ xs) before h = (h.0, all_none xs (before ++ x ∷ []) h.1)
