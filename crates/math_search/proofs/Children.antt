-- What holds of every child, and that a solution by constants is a solution of some child.
use mathlib.Core.Path.{◌≡◌, refl, sym, ◌∙◌, ap, subst}
use mathlib.Core.Logic.{◌⊎◌, inl, inr}
use mathlib.Core.Bool.{Bool, true, false, cond}
use mathlib.Core.Option.{Option, none, some}
use mathlib.Core.List.Memᴰ
use mathlib.Core.List.{List, [], ◌∷◌, append-nil, Memᴰ}
use Prim.Native.Nat.{suc, ◌+◌, ◌≤◌}
use native.Mathlib.Omega.{arith}
use lib.ListN.{length, length-append}
use Rattle.base_lists.specs.Seqs.{All, all_map, all_mapped, mem?}
use Rattle.math_terms.specs.Seqs.{concat_map}
use Rattle.math_search.specs.Problems.{Setting, atomic, listvar, Tm, Field, Bindings, Rest, equation, Problem, problem, rest, used}
use Rattle.math_search.specs.Rules.{Rule, Remove, Decomp1, Decomp1', Decomp2, Decomp2', Decomp3, Decomp4, Subst1, Subst2, Subst3, Orient1, Orient2}
use Rattle.math_search.specs.Rules.{rule_count}
use Rattle.math_search.specs.Rules.{Orient3}
use Rattle.math_search.specs.Rules.{Orient4, rule_order, Move, keep, bind, fails, rule, add, collect, moves, apply, children_of, children}
use Rattle.math_search.specs.Queue.{terms_in}
use Rattle.math_search.specs.Answers.{ground, WellTyped}
use Rattle.math_search.proofs.Counts.{Other}
use Rattle.math_search.proofs.Effects.{Falls, terms_left, Does}
use Rattle.math_search.proofs.Bound.{rule_does}
use Rattle.math_search.proofs.Invariant.{Respects, Unifies, Fixed, compose_iff, sound_move, Known, Unbound, Invariant, old_atom, old_mem}
use Rattle.math_search.proofs.Invariant.{inv_move}
use Rattle.math_search.proofs.Choice.{extend, extend_term, extend_field, no_fail, Agrees, Choice, choose}

module _ (E : Setting) where
  open E use {constants, variables, names}
  open constants use {Con}
  open variables use {Var}
  open names use {Name, pick, pick_new}

  all_rules : (r : Rule) → Memᴰ r rule_order
  all_rules Remove = Memᴰ.head refl
  all_rules Decomp1 = Memᴰ.tail (Memᴰ.head refl)
  all_rules Decomp1' = Memᴰ.tail (Memᴰ.tail (Memᴰ.head refl))
  all_rules Decomp2 = Memᴰ.tail (Memᴰ.tail (Memᴰ.tail (Memᴰ.head refl)))
  all_rules Decomp2' = Memᴰ.tail (Memᴰ.tail (Memᴰ.tail (Memᴰ.tail (Memᴰ.head refl))))
  all_rules Decomp3 = Memᴰ.tail (Memᴰ.tail (Memᴰ.tail (Memᴰ.tail (Memᴰ.tail (Memᴰ.head refl)))))
  all_rules Decomp4 = Memᴰ.tail (Memᴰ.tail (Memᴰ.tail (Memᴰ.tail (Memᴰ.tail (Memᴰ.tail (Memᴰ.head refl))))))
  all_rules Subst1 = Memᴰ.tail (Memᴰ.tail (Memᴰ.tail (Memᴰ.tail (Memᴰ.tail (Memᴰ.tail (Memᴰ.tail (Memᴰ.head refl)))))))
  all_rules Subst2 =
      Memᴰ.tail
      (Memᴰ.tail (Memᴰ.tail (Memᴰ.tail (Memᴰ.tail (Memᴰ.tail (Memᴰ.tail (Memᴰ.tail (Memᴰ.head refl))))))))
  all_rules Subst3 =
      Memᴰ.tail (Memᴰ.tail
      (Memᴰ.tail (Memᴰ.tail (Memᴰ.tail (Memᴰ.tail (Memᴰ.tail (Memᴰ.tail (Memᴰ.tail (Memᴰ.head refl)))))))))
  all_rules Orient1 =
      Memᴰ.tail (Memᴰ.tail (Memᴰ.tail
      (Memᴰ.tail (Memᴰ.tail (Memᴰ.tail (Memᴰ.tail (Memᴰ.tail (Memᴰ.tail (Memᴰ.tail (Memᴰ.head refl))))))))))
  all_rules Orient2 =
      Memᴰ.tail (Memᴰ.tail (Memᴰ.tail (Memᴰ.tail
      (Memᴰ.tail (Memᴰ.tail (Memᴰ.tail (Memᴰ.tail (Memᴰ.tail (Memᴰ.tail (Memᴰ.tail (Memᴰ.head refl)))))))))))
  all_rules Orient3 =
      Memᴰ.tail (Memᴰ.tail (Memᴰ.tail (Memᴰ.tail (Memᴰ.tail
      (Memᴰ.tail (Memᴰ.tail (Memᴰ.tail (Memᴰ.tail (Memᴰ.tail (Memᴰ.tail (Memᴰ.tail (Memᴰ.head refl))))))))))))
  all_rules Orient4 =
      Memᴰ.tail (Memᴰ.tail (Memᴰ.tail (Memᴰ.tail (Memᴰ.tail (Memᴰ.tail
      (Memᴰ.tail (Memᴰ.tail (Memᴰ.tail (Memᴰ.tail (Memᴰ.tail (Memᴰ.tail (Memᴰ.tail (Memᴰ.head refl)))))))))))))

  abbrev pub Is : Field E → Field E → Name → Rule × Move E → Type 0
  Is L M f q = rule E q.0 L M f ≡ some q.1

  collect_is : (L M : Field E) (f : Name) (rs : List Rule) → All (Is L M f) (collect E L M f rs)
  collect_is L M f [] = tt
  collect_is L M f (r ∷ rs) = go (rule E r L M f) refl (collect_is L M f rs)
    where
      go : (o : Option (Move E)) → rule E r L M f ≡ o → All (Is L M f) (collect E L M f rs) → All (Is L M f) (add E r o (collect E L M f rs))
      go none e h = h
      go (some m) e h = (e, h)

  collect_has : (L M : Field E) (f : Name) (rs : List Rule) (r : Rule) → Memᴰ r rs
      → (m : Move E) → rule E r L M f ≡ some m → Memᴰ (r, m) (collect E L M f rs)
  collect_has L M f [] r i m e = absurd (Memᴰ.not-nil i)
  collect_has L M f (s ∷ rs) r i m e = go (λ j. collect_has L M f rs r j m e) (Memᴰ.cases_cons i)
    where
      later : (o : Option (Move E)) → Memᴰ (r, m) (collect E L M f rs) → Memᴰ (r, m) (add E s o (collect E L M f rs))
      later none j = j
      later (some k) j = Memᴰ.tail j

      go : (Memᴰ r rs → Memᴰ (r, m) (collect E L M f rs)) → (r ≡ s) ⊎ Memᴰ r rs
          → Memᴰ (r, m) (add E s (rule E s L M f) (collect E L M f rs))
      go rec (inl p) =
          subst (λ (o : Option (Move E)). Memᴰ (r, m) (add E s o (collect E L M f rs))) (sym e ∙ ap (λ (n : Rule). rule E n L M f) p)
          (Memᴰ.head (ap (λ (n : Rule). (n, m)) p))
      go rec (inr j) = later (rule E s L M f) (rec j)

  collect_length : (L M : Field E) (f : Name) (rs : List Rule) → length (collect E L M f rs) ≤ length rs
  collect_length L M f [] = omega arith
  collect_length L M f (r ∷ rs) = go (rule E r L M f) (collect_length L M f rs)
    where
      go : (o : Option (Move E)) → length (collect E L M f rs) ≤ length rs → length (add E r o (collect E L M f rs)) ≤ suc (length rs)
      go none h = omega arith
      go (some m) h = omega arith

  pub moves_is : (L M : Field E) (f : Name) → All (Is L M f) (moves E L M f)
  moves_is L M f = go (fails E L M)
    where
      go : (b : Bool) → All (Is L M f) (cond b [] (collect E L M f rule_order))
      go true = tt
      go false = collect_is L M f rule_order

  pub moves_length : (L M : Field E) (f : Name) → length (moves E L M f) ≤ rule_count
  moves_length L M f = go (fails E L M)
    where
      go : (b : Bool) → length (cond b [] (collect E L M f rule_order)) ≤ rule_count
      go true = omega arith
      go false = collect_length L M f rule_order

  pub move_does : (L M : Field E) (f : Name) (q : Rule × Move E) → Is L M f q → Does E L M f (some q.1)
  move_does L M f q e = subst (λ (o : Option (Move E)). Does E L M f o) e (rule_does E q.0 L M f)

  -- where none of the failure rules applies, each rule that applies gives a child
  pub rule_child : (L M : Field E) (σ : Bindings E) (u : List Name) (r : Rule) (m : Move E) → fails E L M ≡ false → rule E r L M (pick u) ≡ some m
      → Memᴰ (r, apply E σ u m) (children E (problem (equation L M) σ u))
  rule_child L M σ u r m nf e = Memᴰ.map (λ q. (q.0, apply E σ u q.1))
      (subst (λ (b : Bool). Memᴰ (r, m) (cond b [] (collect E L M (pick u) rule_order))) (sym nf) (collect_has L M (pick u) rule_order r (all_rules r) m e))

  -- what holds of every move's problem holds of every child
  pub all_children : (P : Problem E → Type 0) (L M : Field E) (σ : Bindings E) (u : List Name)
      → ((m : Move E) → Does E L M (pick u) (some m) → P (apply E σ u m)) → All (λ c. P c.1) (children_of E (equation L M) σ u)
  all_children P L M σ u h = all_mapped (λ c. P c.1) (λ q. (q.0, apply E σ u q.1)) (moves E L M (pick u))
      (all_map (Is L M (pick u)) (λ q. P (apply E σ u q.1)) (λ q e. h q.1 (move_does L M (pick u) q e)) (moves E L M (pick u)) (moves_is L M (pick u)))

  -- THEOREM 1, a step: every child is lower in the order and in the rank
  pub children_fall : (L M : Field E) (σ : Bindings E) (u : List Name) → All (λ c. Falls E (rest E c.1) L M) (children E (problem (equation L M) σ u))
  children_fall L M σ u = all_children (λ p. Falls E (rest E p) L M) L M σ u go
    where
      go : (m : Move E) → Does E L M (pick u) (some m) → Falls E (rest E (apply E σ u m)) L M
      go (keep n) d = d.falls
      go (bind x s v n) d = d.falls

  -- names used and terms left: their sum never grows
  pub children_room : (L M : Field E) (σ : Bindings E) (u : List Name)
      → All (λ c. length (used E c.1) + terms_left E (rest E c.1) ≤ length u + terms_in E L M) (children E (problem (equation L M) σ u))
  children_room L M σ u = all_children (λ p. length (used E p) + terms_left E (rest E p) ≤ length u + terms_in E L M) L M σ u go
    where
      go : (m : Move E) → Does E L M (pick u) (some m) → length (used E (apply E σ u m)) + terms_left E (rest E (apply E σ u m)) ≤ length u + terms_in E L M
      go (keep n) d = omega (arith, d.room)
      go (bind x s v n) d = omega (arith, d.room, length-append v u)

  -- the invariant is kept
  pub children_inv : (L M : Field E) (σ : Bindings E) (u : List Name) → Invariant E (problem (equation L M) σ u)
      → All (λ c. Invariant E c.1) (children E (problem (equation L M) σ u))
  children_inv L M σ u i = all_children (Invariant E) L M σ u (λ m d. inv_move E L M (pick u) σ u m (pick_new u) d i)

  -- LEMMA 4: a unifier of a child is a unifier of the parent
  pub children_sound : {B : Type 0} (L M : Field E) (σ : Bindings E) (u : List Name) → Invariant E (problem (equation L M) σ u) → (θ : Tm E → List B)
      → All (λ c. Unifies E θ c.1 → Unifies E θ (problem (equation L M) σ u)) (children E (problem (equation L M) σ u))
  children_sound L M σ u i θ = all_children (λ p. Unifies E θ p → Unifies E θ (problem (equation L M) σ u)) L M σ u
      (λ m d h. sound_move E L M (pick u) σ u m d (all_map (Unbound E σ u) (Fixed E σ) (λ t o. o.0) L i.ok.0)
      (all_map (Unbound E σ u) (Fixed E σ) (λ t o. o.0) M i.ok.1) θ h)

  -- A value for the fresh name keeps the bindings respected
  extend_respects : (σ : Bindings E) (u : List Name) (n : Rest E) → Invariant E (problem n σ u) → (f : Name) → (Memᴰ f u → ⊥)
      → (ρ : Var → Con) (m : Name → List Con) (w : List Con) → Respects E (ground E ρ m) σ → Respects E (ground E ρ (extend E m f w)) σ
  extend_respects σ u n i f fr ρ m w r = go
    where
      old : (t : Tm E) → Known E u t → ground E ρ (extend E m f w) t ≡ concat_map (ground E ρ (extend E m f w)) (σ t)
      old t o =
          extend_term E ρ m f w t (o f fr)
          ∙ r t
          ∙ sym (extend_field E ρ m f w (σ t) (all_map (Unbound E σ u) (Other E (listvar f)) (λ s k. k.1 f fr) (σ t) (i.vals t o)))

      at : (k : Name) → Dec (Memᴰ k u) → extend E m f w k ≡ concat_map (ground E ρ (extend E m f w)) (σ (listvar k))
      at k (yes j) = old (listvar k) (old_mem E u k j)
      at k (no j) = sym (append-nil (extend E m f w k)) ∙ ap (λ (K : Field E). concat_map (ground E ρ (extend E m f w)) K) (sym (i.alone k j))

      go : (t : Tm E) → ground E ρ (extend E m f w) t ≡ concat_map (ground E ρ (extend E m f w)) (σ t)
      go (atomic a) = old (atomic a) (old_atom E u a)
      go (listvar k) = at k (mem? E.names.name_eq k u)

  -- COMPLETE AT A STEP: a ground unifier of an open problem, extended at the fresh name, is one of some child
  pub step_complete : (L M : Field E) (σ : Bindings E) (u : List Name) → Invariant E (problem (equation L M) σ u)
      → (ρ : Var → Con) (m : Name → List Con) → WellTyped E ρ → Unifies E (ground E ρ m) (problem (equation L M) σ u)
      → (fails E L M ≡ false)
      × ((c : Rule × Problem E) × Memᴰ c (children E (problem (equation L M) σ u))
      × ((w : List Con) × Unifies E (ground E ρ (extend E m (pick u) w)) c.1))
  step_complete L M σ u i ρ m ty h = (
    nf,
    (
      (ch.name, apply E σ u ch.move),
      Memᴰ.map (λ q. (q.0, apply E σ u q.1)) has,
      (ch.value, uni ch.move (move_does L M f (ch.name, ch.move) ch.is) ch.agrees),
    ),
  )
    where
      f : Name
      f = pick u

      n_l : All (Other E (listvar (pick u))) L
      n_l = all_map (Unbound E σ u) (Other E (listvar (pick u))) (λ t o. o.1 (pick u) (pick_new u)) L i.ok.0

      n_m : All (Other E (listvar (pick u))) M
      n_m = all_map (Unbound E σ u) (Other E (listvar (pick u))) (λ t o. o.1 (pick u) (pick_new u)) M i.ok.1

      nf : fails E L M ≡ false
      nf = no_fail E L M ρ m ty i.lin h.0

      ch : Choice E L M (pick u) ρ m
      ch = choose E L M (pick u) ρ m ty i.lin n_l n_m h.0

      has : Memᴰ (ch.name, ch.move) (moves E L M (pick u))
      has =
          subst (λ (b : Bool). Memᴰ (ch.name, ch.move) (cond b [] (collect E L M (pick u) rule_order))) (sym nf)
          (collect_has L M (pick u) rule_order ch.name (all_rules ch.name) ch.move ch.is)

      eq : concat_map (ground E ρ (extend E m (pick u) ch.value)) L ≡ concat_map (ground E ρ (extend E m (pick u) ch.value)) M
      eq = extend_field E ρ m (pick u) ch.value L n_l ∙ h.0 ∙ sym (extend_field E ρ m (pick u) ch.value M n_m)

      res : Respects E (ground E ρ (extend E m (pick u) ch.value)) σ
      res = extend_respects σ u (equation L M) i (pick u) (pick_new u) ρ m ch.value h.1

      uni : (k : Move E) → Does E L M (pick u) (some k) → Agrees E (ground E ρ (extend E m (pick u) ch.value)) k
          → Unifies E (ground E ρ (extend E m (pick u) ch.value)) (apply E σ u k)
      uni (keep n) d a = ((d.eqv (ground E ρ (extend E m (pick u) ch.value))).0 eq, res)
      uni (bind x s v n) d a =
          ((d.eqv (ground E ρ (extend E m (pick u) ch.value)) a).0 eq, (compose_iff E (ground E ρ (extend E m (pick u) ch.value)) σ x s a).1 res)
