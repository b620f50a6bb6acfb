-- The join on codes is the theory's: it goes on and clashes where that does, and the array represents the state before and after.
use mathlib.Core.Path.{◌≡◌, refl, sym, ap, ◌∙◌}
use mathlib.Core.Logic.{ite}
use mathlib.Core.Bool.{Bool, true, false, cond, ◌&&◌}
use mathlib.Core.Option.{Option, none, some}
use mathlib.Core.List.{List}
use Prim.Native.Nat.{ℕ}
use native.Mathlib.Omega.{arith}
use borrow.Author.Tests.{eq-eqb, ne_eqb}
use lib.ListN.{length, get_or, length-map}
use Rattle.base_lists.specs.Arrays.{mapped_at}
use Rattle.math_types.specs.Order.{Order}
use Rattle.math_terms.specs.Constants.{Consts}
use Rattle.math_overlaps.specs.Shapes.{fixed, free, Vars, fixed_once, free_once, fixed≢free}
use Rattle.math_overlaps.specs.Joins.{At, State, start, resolve, replace, bind, join_classes, join}
use Rattle.math_codes.specs.Tables.{Holds, IsCode, Table, Ranks, same, kind_a, is_free, Made}
use Rattle.math_codes.specs.States.{swap, replaced, joined_by, takes, join_codes, join_places}
use Rattle.math_codes.proofs.Tables.{holds_below, is_code, same_code, same_atom}

module _ (O : Order) (C : Consts O) (N : Vars O) (t : List (Option (At O C N))) where
  open O use {le}
  open C use {Con, con_eq, con_kind}
  open N use {Var, var_eq, sort}

  -- c is the code of a
  abbrev pub Codes : ℕ → At O C N → Type 0
  Codes c a = IsCode (same O C N) t c a

  -- THE RELATION: at every place that holds an atom stands the code of what the state has for it
  pub record Represents (atoms : List ℕ) (s : State O C N) : Type 0 where
    pub long : length atoms ≡ length t
    pub held : (p : ℕ) (a : At O C N) → Holds t p a → Codes (get_or atoms p 0) (resolve O C N s a)

  -- a clash where the theory has one, else the next state
  abbrev pub Agrees : Option (List ℕ) → Option (State O C N) → Type 0
  Agrees none none = Unit {0}
  Agrees none (some s) = ⊥
  Agrees (some atoms) none = ⊥
  Agrees (some atoms) (some s) = Represents atoms s

  -- ---- the first state: the table of codes

  start_itself : (a : At O C N) → resolve O C N (start O C N) a ≡ a
  start_itself (fixed c) = refl
  start_itself (free x) = refl

  -- ---- a class goes over into another

  -- a code's next is the code of the atom's next
  module _ (x : Var) (w : At O C N) (cx cw : ℕ) (hx : Codes cx (free x)) (hw : Codes cw w) where
    kept : (c : ℕ) (a : At O C N) → Codes c a → (a ≡ free x → ⊥) → Codes (swap cx cw c) a
    kept c a h n = rw (ne_eqb c cx (λ e. n (same_atom (same O C N) t c cx a (free x) h hx e))) h

    swapped : (c : ℕ) (a : At O C N) → Codes c a → Codes (swap cx cw c) (replace O C N x w a)
    swapped c (fixed d) h = kept c (fixed d) h fixed≢free
    swapped c (free z) h = go (var_eq z x)
      where
        go : (e : Dec (z ≡ x)) → Codes (swap cx cw c) (ite e w (free z))
        go (yes e) = rw (eq-eqb c cx (same_code (same O C N) t c cx (free z) (free x) h hx (ap free e))) hw
        go (no n) = kept c (free z) h (λ e. n (free_once e))

    resolve_bind : (s : State O C N) (a : At O C N) → resolve O C N (bind O C N x w s) a ≡ replace O C N x w (resolve O C N s a)
    resolve_bind s (fixed c) = refl
    resolve_bind s (free z) = refl

    pub represents_bind : (atoms : List ℕ) (s : State O C N) → Represents atoms s → Represents (replaced cx cw atoms) (bind O C N x w s)
    represents_bind atoms s h =
        record {
          long = length-map atoms (swap cx cw) ∙ h.long;
          held = λ p a i.
              rw (mapped_at (swap cx cw) atoms p 0 0 (let l = holds_below t p a i in omega (arith, h.long)), resolve_bind s a)
              (swapped (get_or atoms p 0) (resolve O C N s a) (h.held p a i));
        }

  module _ (R : Ranks O) (T : Table) (m : Made O C N R T t) where
    pub represents_start : Represents T.first (start O C N)
    represents_start =
        record {
          long = m.long;
          held = λ p a i. rw (m.firsts p a i, start_itself a) (is_code (same O C N) t p a i);
        }

    -- ---- which code takes which

    takes_is : (x y : ℕ) (a b : At O C N) → Codes x a → Codes y b → takes R.below T x y ≡ (is_free O C N a && le (kind_a O C N b) (kind_a O C N a))
    takes_is x y a b h k = rw (m.variables x a h.0, m.kinds y b k.0, m.kinds x a h.0, R.below_is (kind_a O C N b) (kind_a O C N a))

    -- ---- joining

    module _ (atoms : List ℕ) (s : State O C N) (h : Represents atoms s) where
      module _ (x y : ℕ) (a b : At O C N) (hx : Codes x a) (hy : Codes y b) where
        abbrev test : At O C N → At O C N → Bool
        test a b = is_free O C N a && le (kind_a O C N b) (kind_a O C N a)

        -- the join as its tests come out
        one : (o : Option (State O C N)) → a ≡ b → Agrees (some atoms) o → Agrees (join_codes R.below T x y atoms) o
        one o e k = rw (eq-eqb x y (same_code (same O C N) t x y a b hx hy e)) k

        two : (o : Option (State O C N)) → (a ≡ b → ⊥) → Agrees (joined_by false (test a b) (test b a) x y atoms) o
            → Agrees (join_codes R.below T x y atoms) o
        two o n k = rw (ne_eqb x y (λ e. n (same_atom (same O C N) t x y a b hx hy e)), takes_is x y a b hx hy, takes_is y x b a hy hx) k

      -- two classes, given by their codes
      classes_agree : (x y : ℕ) (a b : At O C N) → Codes x a → Codes y b → Agrees (join_codes R.below T x y atoms) (join_classes O C N s a b)
      classes_agree x y (fixed c) (fixed d) hx hy = go (con_eq c d)
        where
          go : (e : Dec (c ≡ d)) → Agrees (join_codes R.below T x y atoms) (ite e (some s) none)
          go (yes e) = one x y (fixed c) (fixed d) hx hy (some s) (ap fixed e) h
          go (no n) = two x y (fixed c) (fixed d) hx hy none (λ e. n (fixed_once e)) tt
      classes_agree x y (fixed c) (free v) hx hy =
          two x y (fixed c) (free v) hx hy (join_classes O C N s (fixed c) (free v)) fixed≢free (go (le (con_kind c) (sort v)))
        where
          go : (q : Bool) → Agrees (joined_by false false q x y atoms) (cond q (some (bind O C N v (fixed c) s)) none)
          go true = represents_bind v (fixed c) y x hy hx atoms s h
          go false = tt
      classes_agree x y (free u) (fixed d) hx hy =
          two x y (free u) (fixed d) hx hy (join_classes O C N s (free u) (fixed d)) (λ e. fixed≢free (sym e)) (go (le (con_kind d) (sort u)))
        where
          go : (q : Bool) → Agrees (joined_by false q false x y atoms) (cond q (some (bind O C N u (fixed d) s)) none)
          go true = represents_bind u (fixed d) x y hx hy atoms s h
          go false = tt
      classes_agree x y (free u) (free v) hx hy = go (var_eq u v)
        where
          next : Bool → Bool → Option (State O C N)
          next q r = cond q (some (bind O C N u (free v) s)) (cond r (some (bind O C N v (free u) s)) none)

          ordered : (q r : Bool) → Agrees (joined_by false q r x y atoms) (next q r)
          ordered true r = represents_bind u (free v) x y hx hy atoms s h
          ordered false true = represents_bind v (free u) y x hy hx atoms s h
          ordered false false = tt

          go : (e : Dec (u ≡ v)) → Agrees (join_codes R.below T x y atoms) (ite e (some s) (next (le (sort v) (sort u)) (le (sort u) (sort v))))
          go (yes e) = one x y (free u) (free v) hx hy (some s) (ap free e) h
          go (no n) = two x y (free u) (free v) hx hy (next (le (sort v) (sort u)) (le (sort u) (sort v))) (λ e. n (free_once e))
              (ordered (le (sort v) (sort u)) (le (sort u) (sort v)))

      -- THE JOIN of the atoms that two places hold
      pub join_agrees : (p q : ℕ) (a b : At O C N) → Holds t p a → Holds t q b → Agrees (join_places R.below T p q atoms) (join O C N s a b)
      join_agrees p q a b i j = classes_agree (get_or atoms p 0) (get_or atoms q 0) (resolve O C N s a) (resolve O C N s b) (h.held p a i) (h.held q b j)
