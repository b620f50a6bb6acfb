-- Equal by GP 2's laws is: the same terms in the same order. So matching may be said of lists of terms.
use mathlib.Core.Path.{◌≡◌, refl, sym, ◌∙◌, ap, ap₂, subst}
use mathlib.Core.Logic.{◌↔◌}
use mathlib.Core.List.{List, [], ◌∷◌, ◌++◌, map, append_assoc, append-nil, map-append, nil≢cons, cons≢nil, head-eq_of_cons-eq, tail-eq_of_cons-eq}
use Rattle.math_types.specs.Order.{Order}
use Rattle.math_terms.specs.Terms.{Term, con, con_once}
use Rattle.math_terms.specs.Constants.{Consts, TermOver}
use Rattle.math_terms.specs.Seqs.{concat_map}
use Rattle.math_terms.specs.Fillings.{Filling, value, fill}
use Rattle.math_terms.specs.Laws.{Expr, empty, term, ◌⦂◌, ◌≈◌, ≈-assoc, ≈-left, ≈-right, ≈-refl, ≈-sym, ≈-trans, ≈-cong, flat, expr, EachEqual, replace}
use Rattle.math_terms.specs.Laws.{fill_expr}
use Rattle.math_terms.specs.Matching.{Matches, MatchesByLaws}
use Rattle.math_terms.proofs.Seqs.{concat_map_append}

module _ {T : Type 0} where
  flat_sound : {e f : Expr T} → e ≈ f → flat e ≡ flat f
  flat_sound (≈-assoc {e} {f} {g}) = append_assoc (flat e) (flat f) (flat g)
  flat_sound ≈-left = refl
  flat_sound (≈-right {e}) = append-nil (flat e)
  flat_sound ≈-refl = refl
  flat_sound (≈-sym p) = sym (flat_sound p)
  flat_sound (≈-trans p q) = flat_sound p ∙ flat_sound q
  flat_sound (≈-cong p q) = ap₂ (λ (x y : List T). x ++ y) (flat_sound p) (flat_sound q)

  -- one term in front
  expr_cons : (x : T) (s : List T) → (term x ⦂ expr s) ≈ expr (x ∷ s)
  expr_cons x [] = ≈-right
  expr_cons x (y ∷ s) = ≈-refl

  expr_append : (s t : List T) → (expr s ⦂ expr t) ≈ expr (s ++ t)
  expr_append [] t = ≈-left
  expr_append (x ∷ []) t = expr_cons x t
  expr_append (x ∷ (y ∷ s)) t = ≈-trans ≈-assoc (≈-cong ≈-refl (expr_append (y ∷ s) t))

  expr_flat : (e : Expr T) → e ≈ expr (flat e)
  expr_flat empty = ≈-refl
  expr_flat (term t) = ≈-refl
  expr_flat (e ⦂ f) = ≈-trans (≈-cong (expr_flat e) (expr_flat f)) (expr_append (flat e) (flat f))

  pub flat_expr : (ts : List T) → flat (expr ts) ≡ ts
  flat_expr [] = refl
  flat_expr (t ∷ []) = refl
  flat_expr (t ∷ (u ∷ ts)) = ap (λ (l : List T). t ∷ l) (flat_expr (u ∷ ts))

  -- THE LAWS: equal by them exactly when the terms are the same
  pub laws : (e f : Expr T) → (e ≈ f) ↔ (flat e ≡ flat f)
  laws e f = (flat_sound, λ p. ≈-trans (expr_flat e) (≈-trans (subst (λ (l : List T). expr (flat e) ≈ expr l) p ≈-refl) (≈-sym (expr_flat f))))

  pub laws_fields : (es fs : List (Expr T)) → EachEqual es fs ↔ (map flat es ≡ map flat fs)
  laws_fields [] [] = (λ h. refl, λ p. tt)
  laws_fields [] (f ∷ fs) = (λ h. absurd h, λ p. nil≢cons p)
  laws_fields (e ∷ es) [] = (λ h. absurd h, λ p. cons≢nil p)
  laws_fields (e ∷ es) (f ∷ fs) = (
    λ h. ap₂ (λ (l : List T) (ls : List (List T)). l ∷ ls) ((laws e f).0 h.0) ((laws_fields es fs).0 h.1),
    λ p. ((laws e f).1 (head-eq_of_cons-eq p), (laws_fields es fs).1 (tail-eq_of_cons-eq p)),
  )

module _ {T U : Type 0} where
  map_once : (f : T → U) → ((a b : T) → f a ≡ f b → a ≡ b) → (s t : List T) → map f s ≡ map f t → s ≡ t
  map_once f once [] [] e = refl
  map_once f once [] (y ∷ t) e = absurd (nil≢cons e)
  map_once f once (x ∷ s) [] e = absurd (cons≢nil e)
  map_once f once (x ∷ s) (y ∷ t) e = ap₂ (λ (z : T) (l : List T). z ∷ l) (once x y (head-eq_of_cons-eq e)) (map_once f once s t (tail-eq_of_cons-eq e))

  pub flat_replace : (v : T → List U) (e : Expr T) → flat (replace v e) ≡ concat_map v (flat e)
  flat_replace v empty = refl
  flat_replace v (term t) = flat_expr (v t) ∙ sym (append-nil (v t))
  flat_replace v (e ⦂ f) = ap₂ (λ (x y : List U). x ++ y) (flat_replace v e) (flat_replace v f) ∙ sym (concat_map_append v (flat e) (flat f))

module _ {C K A : Type 0} where
  -- the values as terms, and their constants
  pub filled_terms : (φ : Filling C K A) (f : List (Term C K A)) → concat_map {B = Term C K A} (λ t. map con (value φ t)) f ≡ map con (fill φ f)
  filled_terms φ [] = refl
  filled_terms φ (t ∷ f) = ap (λ (l : List (Term C K A)). map con (value φ t) ++ l) (filled_terms φ f) ∙ sym (map-append con (value φ t) (fill φ f))

  -- filling an expression is filling its terms
  pub flat_fill : (φ : Filling C K A) (e : Expr (Term C K A)) → flat (fill_expr φ e) ≡ map con (fill φ (flat e))
  flat_fill φ e = flat_replace (λ t. map con (value φ t)) e ∙ filled_terms φ (flat e)

  flat_fills : (φ : Filling C K A) (es : List (Expr (Term C K A))) → map flat (map (fill_expr φ) es) ≡ map (map con) (map (fill φ) (map flat es))
  flat_fills φ [] = refl
  flat_fills φ (e ∷ es) = ap₂ (λ (l : List (Term C K A)) (ls : List (List (Term C K A))). l ∷ ls) (flat_fill φ e) (flat_fills φ es)

  pub cons_once : (u v : List C) → ◌≡◌ {A = List (Term C K A)} (map con u) (map con v) → u ≡ v
  cons_once u v e = map_once con (λ c d. con_once) u v e

  fields_once : (us vs : List (List C)) → ◌≡◌ {A = List (List (Term C K A))} (map (map con) us) (map (map con) vs) → us ≡ vs
  fields_once us vs e = map_once (map con) cons_once us vs e

  -- a filling makes each field of the rule equal by the laws to the slip's, whose terms are the constants ws, exactly when it fills the
  -- rule's terms to these
  pub laws_rule : (φ : Filling C K A) (rule slip : List (Expr (Term C K A))) (ws : List (List C)) → map flat slip ≡ map (map con) ws
      → EachEqual (map (fill_expr φ) rule) slip ↔ (map (fill φ) (map flat rule) ≡ ws)
  laws_rule φ rule slip ws is =
      let l = laws_fields (map (fill_expr φ) rule) slip in (
        λ h. fields_once (map (fill φ) (map flat rule)) ws (sym (flat_fills φ rule) ∙ l.0 h ∙ is),
        λ p. l.1 (flat_fills φ rule ∙ ap (map (map con)) p ∙ sym is),
      )

module _ (O : Order) (C : Consts O) {A : Type 0} where
  -- MATCHING of the rule and the slip as written, the slip without variables, is matching of their terms
  pub matches_laws : (rule slip : List (Expr (TermOver O C A))) (ws : List (List C.Con)) → map flat slip ≡ map (map con) ws
      → MatchesByLaws O C rule slip ↔ Matches O C (map flat rule) ws
  matches_laws rule slip ws is = (
    λ h. (h.0, h.1, (laws_rule h.0 rule slip ws is).0 h.2),
    λ h. (h.0, h.1, (laws_rule h.0 rule slip ws is).1 h.2),
  )
