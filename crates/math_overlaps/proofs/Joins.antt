-- The join of two atoms keeps exactly the fillings that make the two equal.
use mathlib.Core.Path.{◌≡◌, refl, sym, ◌∙◌, ap}
use mathlib.Core.Logic.{◌↔◌, ◌⊎◌, inl, inr, ite, if_pos, if_neg}
use mathlib.Core.Bool.{Bool, true, false, cond, false≢true}
use mathlib.Core.List.{List, [], ◌∷◌}
use mathlib.Core.Option.{Option, none, some}
use Rattle.math_types.specs.Order.{Order}
use Rattle.math_terms.specs.Constants.{Consts}
use Rattle.math_terms.specs.Matcher.{and_then}
use Rattle.math_overlaps.specs.Shapes.{Atom, fixed, free, val, Vars, free_once, fixed≢free}
use Rattle.math_overlaps.specs.Joins.{At, State, start, replace, bind, join_classes, join, joins}
use Rattle.math_overlaps.proofs.Seqs.{SolvesV}

module _ {C X : Type 0} where
  -- the value of an atom by constants
  abbrev pub val_g : (X → C) → Atom C X → C
  val_g θ a = val (λ c. c) θ a

module _ {C X Z : Type 0} where
  -- the atom for an atom
  abbrev pub sub_a : (X → Atom C Z) → Atom C X → Atom C Z
  sub_a σ a = val fixed σ a

module _ {C X Z Y : Type 0} where
  pub val_sub : (ι : C → Y) (ρ : Z → Y) (σ : X → Atom C Z) (a : Atom C X) → val ι ρ (sub_a σ a) ≡ val ι (λ x. val ι ρ (σ x)) a
  val_sub ι ρ σ (fixed c) = refl
  val_sub ι ρ σ (free x) = refl

module _ (O : Order) (C : Consts O) (N : Vars O) where
  open O use {Kind, le, le_refl, le_trans, le_meet}
  open C use {Con, con_eq, con_kind}
  open N use {Var, var_eq, sort}

  abbrev pub kind_a : At O C N → Kind
  kind_a (fixed c) = con_kind c
  kind_a (free x) = sort x

  -- a ground filling, well-kinded
  abbrev pub Typed : (Var → Con) → Type 0
  Typed θ = (x : Var) → le (con_kind (θ x)) (sort x) ≡ true

  -- θ gives a variable what it gives the atom that the state has for it; for ground fillings, and for fillings by terms
  module _ {Y : Type 0} (ι : Con → Y) where
    abbrev pub RespectsY : (Var → Y) → State O C N → Type 0
    RespectsY θ s = (x : Var) → θ x ≡ val ι θ (s x)

  abbrev pub Respects : (Var → Con) → State O C N → Type 0
  Respects θ s = RespectsY (λ c. c) θ s

  -- what every state has: it is idempotent, and what it gives a variable is of the variable's kind
  pub record Good (s : State O C N) : Type 0 where
    pub idem : (x : Var) → sub_a s (s x) ≡ s x
    pub kinds : (x : Var) → le (kind_a (s x)) (sort x) ≡ true

  pub start_good : Good (start O C N)
  start_good = record { idem = λ x. refl; kinds = λ x. le_refl (sort x) }

  pub start_respects : (θ : Var → Con) → Respects θ (start O C N)
  start_respects θ x = refl

  module _ {Y : Type 0} (ι : Con → Y) where
    pub val_respects_y : (θ : Var → Y) (s : State O C N) → RespectsY ι θ s → (a : At O C N) → val ι θ (sub_a s a) ≡ val ι θ a
    val_respects_y θ s r (fixed c) = refl
    val_respects_y θ s r (free x) = sym (r x)

  pub val_respects : (θ : Var → Con) (s : State O C N) → Respects θ s → (a : At O C N) → val_g θ (sub_a s a) ≡ val_g θ a
  val_respects θ s r a = val_respects_y (λ c. c) θ s r a

  pub sub_idem : (s : State O C N) → Good s → (a : At O C N) → sub_a s (sub_a s a) ≡ sub_a s a
  sub_idem s g (fixed c) = refl
  sub_idem s g (free x) = g.idem x

  -- replacing
  module _ {Y : Type 0} (ι : Con → Y) where
    val_one : (θ : Var → Y) (x : Var) (w : At O C N) → θ x ≡ val ι θ w → (a : At O C N) → val ι θ (replace O C N x w a) ≡ val ι θ a
    val_one θ x w h (fixed c) = refl
    val_one θ x w h (free z) = go (var_eq z x)
      where
        go : (d : Dec (z ≡ x)) → val ι θ (ite d w (free z)) ≡ θ z
        go (yes e) = sym h ∙ ap θ (sym e)
        go (no n) = refl

  one_self : (x : Var) (w : At O C N) → replace O C N x w (free x) ≡ w
  one_self x w = if_pos (var_eq x x) refl w (free x)

  kind_one : (x : Var) (w : At O C N) → le (kind_a w) (sort x) ≡ true → (a : At O C N) → le (kind_a (replace O C N x w a)) (kind_a a) ≡ true
  kind_one x w h (fixed c) = le_refl (con_kind c)
  kind_one x w h (free z) = go (var_eq z x)
    where
      go : (d : Dec (z ≡ x)) → le (kind_a (ite d w (free z))) (sort z) ≡ true
      go (yes e) = rw e h
      go (no n) = le_refl (sort z)

  bind_keeps : (s : State O C N) → Good s → (x : Var) (w : At O C N) → s x ≡ free x → sub_a s w ≡ w → (w ≡ free x → ⊥) → (a : At O C N) → sub_a s a ≡ a
      → sub_a (bind O C N x w s) (replace O C N x w a) ≡ replace O C N x w a
  bind_keeps s g x w sx sw nw (fixed c) h = refl
  bind_keeps s g x w sx sw nw (free y) h = go (var_eq y x)
    where
      fixw : (w' : At O C N) → w ≡ w' → sub_a (bind O C N x w s) w' ≡ w'
      fixw (fixed c) e = refl
      fixw (free v) e = ap (replace O C N x w) (sym (ap (sub_a s) e) ∙ sw ∙ e) ∙ if_neg (var_eq v x) (λ p. nw (e ∙ ap {B = At O C N} free p)) w (free v)

      go : (d : Dec (y ≡ x)) → sub_a (bind O C N x w s) (ite d w (free y)) ≡ ite d w (free y)
      go (yes e) = fixw w refl
      go (no n) = ap (replace O C N x w) h ∙ if_neg (var_eq y x) n w (free y)

  bind_good : (s : State O C N) → Good s → (x : Var) (w : At O C N) → s x ≡ free x
      → sub_a s w ≡ w → (w ≡ free x → ⊥) → le (kind_a w) (sort x) ≡ true → Good (bind O C N x w s)
  bind_good s g x w sx sw nw k = record {
    idem = λ z. bind_keeps s g x w sx sw nw (s z) (g.idem z);
    kinds = λ z. le_trans (kind_a (replace O C N x w (s z))) (kind_a (s z)) (sort z) (kind_one x w k (s z)) (g.kinds z);
  }

  module _ {Y : Type 0} (ι : Con → Y) where
    bind_iff : (s : State O C N) → (x : Var) (w : At O C N) → s x ≡ free x → (θ : Var → Y)
        → (RespectsY ι θ s × (θ x ≡ val ι θ w)) ↔ RespectsY ι θ (bind O C N x w s)
    bind_iff s x w sx θ = (λ h z. h.0 z ∙ sym (val_one ι θ x w h.1 (s z)), λ r. (λ z. r z ∙ val_one ι θ x w (root r) (s z), root r))
      where
        root : RespectsY ι θ (bind O C N x w s) → θ x ≡ val ι θ w
        root r = r x ∙ ap (λ (a : At O C N). val ι θ (replace O C N x w a)) sx ∙ ap (val ι θ) (one_self x w)

  -- what a step from the state s says: with `none` no filling that respects s meets P,
  -- with a state s' the fillings that respect s and meet P are those that respect s'
  abbrev pub Out : State O C N → ((Var → Con) → Type 0) → Option (State O C N) → Type 0
  Out s P none = (θ : Var → Con) → Typed θ → Respects θ s → P θ → ⊥
  Out s P (some s') = Good s' × ((θ : Var → Con) → Typed θ → (Respects θ s × P θ) ↔ Respects θ s')

  pub out_iff : (s : State O C N) (P Q : (Var → Con) → Type 0)
      → ((θ : Var → Con) → Respects θ s → P θ ↔ Q θ) → (o : Option (State O C N)) → Out s P o → Out s Q o
  out_iff s P Q f none h = λ θ t r q. h θ t r ((f θ r).1 q)
  out_iff s P Q f (some s') h =
      (h.0, λ θ t. (λ p. (h.1 θ t).0 (p.0, (f θ p.0).1 p.1), λ r. let p = (h.1 θ t).1 r in (p.0, (f θ p.0).0 p.1)))

  pub out_then : (s : State O C N) (P Q : (Var → Con) → Type 0) (o : Option (State O C N)) (f : State O C N → Option (State O C N))
      → Out s P o → ((s' : State O C N) → Good s' → Out s' Q (f s'))
      → Out s (λ θ. P θ × Q θ) (and_then o f)
  out_then s P Q none f h k = λ θ t r pq. h θ t r pq.0
  out_then s P Q (some s') f h k = go (f s') (k s' h.0)
    where
      go : (o : Option (State O C N)) → Out s' Q o → Out s (λ θ. P θ × Q θ) o
      go none k' = λ θ t r pq. k' θ t ((h.1 θ t).0 (r, pq.0)) pq.1
      go (some s'') k' = (
        k'.0,
        λ θ t. (
          λ p. (k'.1 θ t).0 ((h.1 θ t).0 (p.0, p.1.0), p.1.1),
          λ r. let q = (k'.1 θ t).1 r in let p = (h.1 θ t).1 q.0 in (p.0, (p.1, q.1)),
        ),
      )

  abbrev pub Eqn : At O C N → At O C N → (Var → Con) → Type 0
  Eqn a b θ = val_g θ a ≡ val_g θ b

  out_refl : (s : State O C N) → Good s → (a b : At O C N) → a ≡ b → Out s (Eqn a b) (some s)
  out_refl s g a b e = (g, λ θ t. (λ h. h.0, λ r. (r, ap (val_g θ) e)))

  -- x, a root, is replaced by w, of a lower kind
  out_bind : (s : State O C N) → Good s → (x : Var) (w : At O C N) → s x ≡ free x → sub_a s w ≡ w
      → (w ≡ free x → ⊥) → le (kind_a w) (sort x) ≡ true → Out s (Eqn (free x) w) (some (bind O C N x w s))
  out_bind s g x w sx sw nw k = (bind_good s g x w sx sw nw k, λ θ t. bind_iff (λ c. c) s x w sx θ)

  out_flip : (s : State O C N) (a b : At O C N) (o : Option (State O C N)) → Out s (Eqn a b) o → Out s (Eqn b a) o
  out_flip s a b o h = out_iff s (Eqn a b) (Eqn b a) (λ θ r. (λ e. sym e, λ e. sym e)) o h

  classes_out : (s : State O C N) → Good s → (a b : At O C N) → sub_a s a ≡ a → sub_a s b ≡ b → Out s (Eqn a b) (join_classes O C N s a b)
  classes_out s g (fixed c) (fixed d) ha hb = go (con_eq c d)
    where
      go : (q : Dec (c ≡ d)) → Out s (Eqn (fixed c) (fixed d)) (ite q (some s) none)
      go (yes e) = out_refl s g (fixed c) (fixed d) (ap {B = At O C N} fixed e)
      go (no n) = λ θ t r e. n e
  classes_out s g (fixed c) (free y) ha hb = go (le (con_kind c) (sort y)) refl
    where
      go : (b : Bool) → le (con_kind c) (sort y) ≡ b → Out s (Eqn (fixed c) (free y)) (cond b (some (bind O C N y (fixed c) s)) none)
      go true e = out_flip s (free y) (fixed c) (some (bind O C N y (fixed c) s)) (out_bind s g y (fixed c) hb refl fixed≢free e)
      go false e = λ θ t r e'. false≢true (sym e ∙ ap (λ (k : Con). le (con_kind k) (sort y)) e' ∙ t y)
  classes_out s g (free x) (fixed d) ha hb = go (le (con_kind d) (sort x)) refl
    where
      go : (b : Bool) → le (con_kind d) (sort x) ≡ b → Out s (Eqn (free x) (fixed d)) (cond b (some (bind O C N x (fixed d) s)) none)
      go true e = out_bind s g x (fixed d) ha refl fixed≢free e
      go false e = λ θ t r e'. false≢true (sym e ∙ ap (λ (k : Con). le (con_kind k) (sort x)) (sym e') ∙ t x)
  classes_out s g (free x) (free y) ha hb = go₁ (var_eq x y)
    where
      no_meet : le (sort y) (sort x) ≡ false → le (sort x) (sort y) ≡ false → (θ : Var → Con) → Typed θ → θ x ≡ θ y → ⊥
      no_meet e f θ t e' = clash (le_meet (con_kind (θ x)) (sort x) (sort y) (t x) (ap (λ (k : Con). le (con_kind k) (sort y)) e' ∙ t y))
        where
          clash : (le (sort x) (sort y) ≡ true) ⊎ (le (sort y) (sort x) ≡ true) → ⊥
          clash (inl p) = false≢true (sym f ∙ p)
          clash (inr p) = false≢true (sym e ∙ p)

      go₃ : (x ≡ y → ⊥) → le (sort y) (sort x) ≡ false → (b : Bool) → le (sort x) (sort y) ≡ b
          → Out s (Eqn (free x) (free y)) (cond b (some (bind O C N y (free x) s)) none)
      go₃ n e true f = out_flip s (free y) (free x) (some (bind O C N y (free x) s)) (out_bind s g y (free x) hb ha (λ p. n (free_once p)) f)
      go₃ n e false f = λ θ t r e'. no_meet e f θ t e'

      go₂ : (x ≡ y → ⊥) → (b : Bool) → le (sort y) (sort x) ≡ b
          → Out s (Eqn (free x) (free y)) (cond b (some (bind O C N x (free y) s)) (cond (le (sort x) (sort y)) (some (bind O C N y (free x) s)) none))
      go₂ n true e = out_bind s g x (free y) ha hb (λ p. n (sym (free_once p))) e
      go₂ n false e = go₃ n e (le (sort x) (sort y)) refl

      go₁ : (q : Dec (x ≡ y))
          → Out s (Eqn (free x) (free y))
          (ite q (some s) (cond (le (sort y) (sort x)) (some (bind O C N x (free y) s)) (cond (le (sort x) (sort y)) (some (bind O C N y (free x) s)) none)))
      go₁ (yes e) = out_refl s g (free x) (free y) (ap {B = At O C N} free e)
      go₁ (no n) = go₂ n (le (sort y) (sort x)) refl

  -- THE JOIN LEMMA
  pub join_out : (s : State O C N) → Good s → (t u : At O C N) → Out s (Eqn t u) (join O C N s t u)
  join_out s g t u = out_iff s (Eqn (sub_a s t) (sub_a s u)) (Eqn t u)
      (λ θ r. (λ e. sym (val_respects θ s r t) ∙ e ∙ val_respects θ s r u, λ e. val_respects θ s r t ∙ e ∙ sym (val_respects θ s r u)))
      (join O C N s t u) (classes_out s g (sub_a s t) (sub_a s u) (sub_idem s g t) (sub_idem s g u))

  abbrev pub Solves : List (At O C N × At O C N) → (Var → Con) → Type 0
  Solves es θ = SolvesV (val_g θ) es

  pub joins_out : (es : List (At O C N × At O C N)) (s : State O C N) → Good s → Out s (Solves es) (joins O C N es s)
  joins_out [] s g = (g, λ θ t. (λ h. h.0, λ r. (r, tt)))
  joins_out (e ∷ es) s g =
      out_then s (Eqn e.0 e.1) (Solves es) (join O C N s e.0 e.1) (λ s'. joins O C N es s') (join_out s g e.0 e.1)
      (λ s' g'. joins_out es s' g')

  -- What a join makes equal is equal for fillings by anything, terms too: no kinds are needed for this half.
  module _ {Y : Type 0} (ι : Con → Y) where
    abbrev pub Snd : State O C N → ((Var → Y) → Type 0) → Option (State O C N) → Type 0
    Snd s P none = Unit {0}
    Snd s P (some s') = (θ : Var → Y) → RespectsY ι θ s' → RespectsY ι θ s × P θ

    abbrev EqnY : At O C N → At O C N → (Var → Y) → Type 0
    EqnY a b θ = val ι θ a ≡ val ι θ b

    snd_flip : (s : State O C N) (a b : At O C N) (o : Option (State O C N)) → Snd s (EqnY a b) o → Snd s (EqnY b a) o
    snd_flip s a b none h = tt
    snd_flip s a b (some s') h = λ θ r. let p = h θ r in (p.0, sym p.1)

    snd_refl : (s : State O C N) (a b : At O C N) → a ≡ b → Snd s (EqnY a b) (some s)
    snd_refl s a b e = λ θ r. (r, ap (val ι θ) e)

    snd_bind : (s : State O C N) (x : Var) (w : At O C N) → s x ≡ free x → Snd s (EqnY (free x) w) (some (bind O C N x w s))
    snd_bind s x w sx = λ θ r. (bind_iff ι s x w sx θ).1 r

    snd_cond : (b : Bool) (s : State O C N) (P : (Var → Y) → Type 0) (o o' : Option (State O C N)) → Snd s P o → Snd s P o' → Snd s P (cond b o o')
    snd_cond true s P o o' h h' = h
    snd_cond false s P o o' h h' = h'

    classes_snd : (s : State O C N) (a b : At O C N) → sub_a s a ≡ a → sub_a s b ≡ b → Snd s (EqnY a b) (join_classes O C N s a b)
    classes_snd s (fixed c) (fixed d) ha hb = go (con_eq c d)
      where
        go : (q : Dec (c ≡ d)) → Snd s (EqnY (fixed c) (fixed d)) (ite q (some s) none)
        go (yes e) = snd_refl s (fixed c) (fixed d) (ap {B = At O C N} fixed e)
        go (no n) = tt
    classes_snd s (fixed c) (free y) ha hb = snd_cond (le (con_kind c) (sort y)) s (EqnY (fixed c) (free y)) (some (bind O C N y (fixed c) s)) none
        (snd_flip s (free y) (fixed c) (some (bind O C N y (fixed c) s)) (snd_bind s y (fixed c) hb)) tt
    classes_snd s (free x) (fixed d) ha hb =
        snd_cond (le (con_kind d) (sort x)) s (EqnY (free x) (fixed d)) (some (bind O C N x (fixed d) s)) none (snd_bind s x (fixed d) ha) tt
    classes_snd s (free x) (free y) ha hb = go (var_eq x y)
      where
        rest : Option (State O C N)
        rest = cond (le (sort x) (sort y)) (some (bind O C N y (free x) s)) none

        go : (q : Dec (x ≡ y))
            → Snd s (EqnY (free x) (free y))
            (ite q (some s) (cond (le (sort y) (sort x)) (some (bind O C N x (free y) s)) (cond (le (sort x) (sort y)) (some (bind O C N y (free x) s)) none)))
        go (yes e) = snd_refl s (free x) (free y) (ap {B = At O C N} free e)
        go (no n) = snd_cond (le (sort y) (sort x)) s (EqnY (free x) (free y)) (some (bind O C N x (free y) s)) rest (snd_bind s x (free y) ha)
            (snd_cond (le (sort x) (sort y)) s (EqnY (free x) (free y)) (some (bind O C N y (free x) s)) none
            (snd_flip s (free y) (free x) (some (bind O C N y (free x) s)) (snd_bind s y (free x) hb)) tt)

    join_snd : (s : State O C N) → Good s → (t u : At O C N) (o : Option (State O C N)) → Snd s (EqnY (sub_a s t) (sub_a s u)) o → Snd s (EqnY t u) o
    join_snd s g t u none h = tt
    join_snd s g t u (some s') h = λ θ r. let p = h θ r in (p.0, sym (val_respects_y ι θ s p.0 t) ∙ p.1 ∙ val_respects_y ι θ s p.0 u)

    pub joins_snd : (es : List (At O C N × At O C N)) (s : State O C N) → Good s → Snd s (λ θ. SolvesV (val ι θ) es) (joins O C N es s)
    joins_snd [] s g = λ θ r. (r, tt)
    joins_snd (e ∷ es) s g = go (join O C N s e.0 e.1) (join_out s g e.0 e.1)
        (join_snd s g e.0 e.1 (join O C N s e.0 e.1) (classes_snd s (sub_a s e.0) (sub_a s e.1) (sub_idem s g e.0) (sub_idem s g e.1)))
        (λ s' g'. joins_snd es s' g')
      where
        both : (s₁ : State O C N) → ((θ : Var → Y) → RespectsY ι θ s₁ → RespectsY ι θ s × EqnY e.0 e.1 θ)
            → (o : Option (State O C N)) → Snd s₁ (λ θ. SolvesV (val ι θ) es) o
            → Snd s (λ θ. SolvesV (val ι θ) (e ∷ es)) o
        both s₁ h none k = tt
        both s₁ h (some s₂) k = λ θ r. let q = k θ r in let p = h θ q.0 in (p.0, (p.1, q.1))

        go : (o : Option (State O C N)) → Out s (Eqn e.0 e.1) o → Snd s (EqnY e.0 e.1) o
            → ((s' : State O C N) → Good s' → Snd s' (λ θ. SolvesV (val ι θ) es) (joins O C N es s'))
            → Snd s (λ θ. SolvesV (val ι θ) (e ∷ es)) (and_then o (λ s'. joins O C N es s'))
        go none h k rec = tt
        go (some s₁) h k rec = both s₁ k (joins O C N es s₁) (rec s₁ h.0)
