-- The place of refusal 2 by the machine is the grammar's own, and there is none exactly when the text is of the grammar.
use mathlib.Core.Path.{◌≡◌, refl, sym, ◌∙◌, ap, subst}
use mathlib.Core.Logic.{◌↔◌, ◌⊎◌, inl, inr, ite}
use mathlib.Core.Option.{Option, none, some, map, none-ne-some, IsSome}
use mathlib.Core.List.{List, [], ◌∷◌, ◌++◌, append_assoc}
use Prim.Native.Nat.{ℕ, zero, suc, ◌≤◌, ◌<◌}
use native.Mathlib.Omega.{arith}
use native.Mathlib.Decide.{ℕ_discrete, dec_le}
use lib.ListN.{length, take, drop, take-append-drop}
use lib.Seq.{take-take}
use Rattle.text_grammar.specs.Bytes.{digit?, begins, first, holds}
use Rattle.text_grammar.specs.Grammar.{Raw, Grammar}
use Rattle.text_grammar.specs.Place.{Viable, Stops, Answers}
use Rattle.text_grammar.specs.Machine.{State, after, minus, digits, number, done, quoted, must, Rest, Move, go_m, then, move, Final, final?, then_scan}
use Rattle.text_grammar.specs.Machine.{scan}
use Rattle.text_grammar.specs.Machine.{whole}
use Rattle.text_grammar.specs.Machine.{then_stop, stop, place2}
use Rattle.text_grammar.proofs.Parse.{Parsed, parsed, parse_complete}

-- THE MACHINE: the states alone
abbrev pub then_run : Move → (State → Option State) → Option State
then_run none k = none
then_run (some m) k = k m.0

abbrev pub run : List ℕ → State → Option State
run [] q = some q
run (b ∷ t) q = then_run (move q b) (run t)

abbrev pub Accepts : Option State → Type 0
Accepts none = ⊥
Accepts (some q) = Final q

-- the parser answers exactly where the machine accepts
scan_run : (t : List ℕ) (q : State) → IsSome (scan t q) ↔ Accepts (run t q)
scan_run [] q = end q
  where
    end : (q : State) → IsSome (ite {C = Option Rest} (final? q) (some ([], [], [])) none) ↔ Final q
    end after = (λ h. h, λ h. h)
    end minus = (λ h. h, λ h. h)
    end digits = (λ h. h, λ h. h)
    end number = (λ h. h, λ h. h)
    end done = (λ h. h, λ h. h)
    end quoted = (λ h. h, λ h. h)
    end (must c cs) = (λ h. h, λ h. h)
scan_run (b ∷ t) q = go (move q b) (λ q'. scan_run t q')
  where
    mapped : (g : Rest → Rest) (a : Option Rest) → IsSome (map g a) ↔ IsSome a
    mapped g none = (λ h. h, λ h. h)
    mapped g (some o) = (λ h. h, λ h. h)

    go : (m : Move) → ((q' : State) → IsSome (scan t q') ↔ Accepts (run t q')) → IsSome (then_scan m (scan t)) ↔ Accepts (then_run m (run t))
    go none rec = (λ h. h, λ h. h)
    go (some m) rec = (λ h. (rec m.0).0 ((mapped m.1 (scan t m.0)).0 h), λ h. (mapped m.1 (scan t m.0)).1 ((rec m.0).1 h))

-- THE LANGUAGE of the machine is the grammar
pub grammar_run : (t : List ℕ) → Grammar t ↔ Accepts (run t after)
grammar_run t = (to, λ h. back (scan t after) refl ((scan_run t after).1 h))
  where
    here : (a : Option Rest) (x : List (List Raw)) → map whole a ≡ some x → IsSome a
    here none x e = absurd (none-ne-some x e)
    here (some o) x e = tt

    to : Grammar t → Accepts (run t after)
    to g = (scan_run t after).0 (here (scan t after) g.0 (parse_complete t g.0 g.1))

    back : (a : Option Rest) → scan t after ≡ a → IsSome a → Grammar t
    back none e h = absurd h
    back (some o) e h = (whole o, subst (Parsed t) (ap (map whole) e) (parsed t))

abbrev pub onward : Option State → (State → Option State) → Option State
onward none k = none
onward (some q) k = k q

pub run_append : (p r : List ℕ) (q : State) → run (p ++ r) q ≡ onward (run p q) (run r)
run_append [] r q = refl
run_append (b ∷ p) r q = go (move q b) (λ q'. run_append p r q')
  where
    go : (m : Move) → ((q' : State) → run (p ++ r) q' ≡ onward (run p q') (run r)) → then_run m (run (p ++ r)) ≡ onward (then_run m (run p)) (run r)
    go none rec = refl
    go (some m) rec = rec m.0

-- every state has a completion
abbrev pub finish : State → List ℕ
finish after = 48 ∷ []
finish minus = 48 ∷ []
finish digits = []
finish number = 48 ∷ []
finish done = []
finish quoted = 34 ∷ []
finish (must c cs) = c ∷ cs

go_m_same : (c : ℕ) (cs : List ℕ) (d : Dec (c ≡ c)) (k : State → Option State) → then_run (go_m c cs c d) k ≡ k (then cs)
go_m_same c cs (yes e) k = refl
go_m_same c cs (no n) k = absurd (n refl)

must_finish : (cs : List ℕ) (c : ℕ) → Accepts (run (c ∷ cs) (must c cs))
must_finish [] c = subst Accepts (sym (go_m_same c [] (ℕ_discrete c c) (run []))) tt
must_finish (d ∷ cs) c = subst Accepts (sym (go_m_same c (d ∷ cs) (ℕ_discrete c c) (run (d ∷ cs)))) (must_finish cs d)

finishes : (q : State) → Accepts (run (finish q) q)
unfolding begins digit? dec_le ℕ_discrete first holds
finishes after = tt
finishes minus = tt
finishes digits = tt
finishes number = tt
finishes done = tt
finishes quoted = tt
finishes (must c cs) = must_finish cs c

-- VIABLE: the machine survives exactly the beginnings of texts of the grammar
pub viable_run : (p : List ℕ) → Viable p ↔ IsSome (run p after)
viable_run p = (to, λ h. back (run p after) refl h)
  where
    alive : (a : Option State) (k : State → Option State) → Accepts (onward a k) → IsSome a
    alive none k h = h
    alive (some q) k h = tt

    to : Viable p → IsSome (run p after)
    to v = alive (run p after) (run v.0) (subst Accepts (run_append p v.0 after) ((grammar_run (p ++ v.0)).0 v.1))

    back : (a : Option State) → run p after ≡ a → IsSome a → Viable p
    back none e h = absurd h
    back (some q) e h = (
      finish q,
      (grammar_run (p ++ finish q)).1
          (subst Accepts (sym (run_append p (finish q) after ∙ ap (λ (a : Option State). onward a (run (finish q))) e)) (finishes q)),
    )

-- the same by the machine, from a state
abbrev pub StopsAt : List ℕ → State → ℕ → Type 0
StopsAt t q p = IsSome (run (take p t) q) × (((p ≡ length t) × (Accepts (run t q) → ⊥)) ⊎ ((p < length t) × (IsSome (run (take (suc p) t) q) → ⊥)))

pub answers_iff : (R S : ℕ → Type 0) → ((p : ℕ) → R p ↔ S p) → (a : Option ℕ) → Answers R a → Answers S a
answers_iff R S f none h = λ p s. h p ((f p).1 s)
answers_iff R S f (some p) h = ((f p).0 h.0, λ q s. h.1 q ((f q).1 s))

stop_end : (q : State) → Answers (StopsAt [] q) (ite (final? q) none (some 0))
stop_end q = go (final? q)
  where
    early : Final q → (p : ℕ) → ((p ≡ 0) × (Final q → ⊥)) ⊎ ((p < 0) × (IsSome (run (take (suc p) []) q) → ⊥)) → ⊥
    early f p (inl h) = h.1 f
    early f p (inr h) = omega arith

    zero_place : (p : ℕ) → ((p ≡ 0) × (Final q → ⊥)) ⊎ ((p < 0) × (IsSome (run (take (suc p) []) q) → ⊥)) → p ≡ 0
    zero_place p (inl h) = h.0
    zero_place p (inr h) = omega arith

    go : (d : Dec (Final q)) → Answers (StopsAt [] q) (ite d none (some 0))
    go (yes f) = λ p h. early f p h.1
    go (no n) = ((tt, inl (refl, n)), λ p h. zero_place p h.1)

module _ (b : ℕ) (t : List ℕ) (q : State) where
  stop_none : move q b ≡ none → Answers (StopsAt (b ∷ t) q) (some 0)
  stop_none e = ((tt, inr (omega arith, λ h. dead [] h)), unique)
    where
      dead : (x : List ℕ) → IsSome (run (b ∷ x) q) → ⊥
      dead x h = subst IsSome (ap (λ (m : Move). then_run m (run x)) e) h

      unique : (p : ℕ) → StopsAt (b ∷ t) q p → p ≡ 0
      unique zero h = refl
      unique (suc p) h = absurd (dead (take p t) h.0)

  stop_some : (q' : State) → ((x : List ℕ) → run (b ∷ x) q ≡ run x q') → (a : Option ℕ)
      → Answers (StopsAt t q') a → Answers (StopsAt (b ∷ t) q) (map suc a)
  stop_some q' step = go
    where
      to_or : (p : ℕ) → ((suc p ≡ suc (length t)) × (Accepts (run (b ∷ t) q) → ⊥)) ⊎ ((suc p < suc (length t)) × (IsSome (run (b ∷ take (suc p) t) q) → ⊥))
          → ((p ≡ length t) × (Accepts (run t q') → ⊥)) ⊎ ((p < length t) × (IsSome (run (take (suc p) t) q') → ⊥))
      to_or p (inl h) = inl (omega arith, λ a. h.1 (subst Accepts (sym (step t)) a))
      to_or p (inr h) = inr (omega arith, λ a. h.1 (subst IsSome (sym (step (take (suc p) t))) a))

      from_or : (p : ℕ) → ((p ≡ length t) × (Accepts (run t q') → ⊥)) ⊎ ((p < length t) × (IsSome (run (take (suc p) t) q') → ⊥))
          → ((suc p ≡ suc (length t)) × (Accepts (run (b ∷ t) q) → ⊥)) ⊎ ((suc p < suc (length t)) × (IsSome (run (b ∷ take (suc p) t) q) → ⊥))
      from_or p (inl h) = inl (omega arith, λ a. h.1 (subst Accepts (step t) a))
      from_or p (inr h) = inr (omega arith, λ a. h.1 (subst IsSome (step (take (suc p) t)) a))

      to : (p : ℕ) → StopsAt (b ∷ t) q (suc p) → StopsAt t q' p
      to p h = (subst IsSome (step (take p t)) h.0, to_or p h.1)

      from : (p : ℕ) → StopsAt t q' p → StopsAt (b ∷ t) q (suc p)
      from p h = (subst IsSome (sym (step (take p t))) h.0, from_or p h.1)

      not_or : ((0 ≡ suc (length t)) × (Accepts (run (b ∷ t) q) → ⊥)) ⊎ ((0 < suc (length t)) × (IsSome (run (b ∷ []) q) → ⊥)) → ⊥
      not_or (inl h) = omega arith
      not_or (inr h) = h.1 (subst IsSome (sym (step [])) tt)

      go : (a : Option ℕ) → Answers (StopsAt t q') a → Answers (StopsAt (b ∷ t) q) (map suc a)
      go none h = never
        where
          never : (p : ℕ) → StopsAt (b ∷ t) q p → ⊥
          never zero s = not_or s.1
          never (suc p) s = h p (to p s)
      go (some n) h = (from n h.0, unique)
        where
          unique : (p : ℕ) → StopsAt (b ∷ t) q p → p ≡ suc n
          unique zero s = absurd (not_or s.1)
          unique (suc p) s = ap suc (h.1 p (to p s))

stops : (t : List ℕ) (q : State) → Answers (StopsAt t q) (stop t q)
stops [] q = stop_end q
stops (b ∷ t) q = go (move q b) refl (λ q'. stops t q')
  where
    go : (m : Move) → move q b ≡ m → ((q' : State) → Answers (StopsAt t q') (stop t q')) → Answers (StopsAt (b ∷ t) q) (then_stop m (stop t))
    go none e rec = stop_none b t q e
    go (some m) e rec = stop_some b t q m.0 (λ x. ap (λ (y : Move). then_run y (run x)) e) (stop t m.0) (rec m.0)

-- THE PLACE of refusal 2 is the declarative one, and there is none exactly when t is a text of the grammar
pub place2_is : (t : List ℕ) → Answers (Stops t) (place2 t)
place2_is t = answers_iff (StopsAt t after) (Stops t) same (place2 t) (stops t after)
  where
    to : (p : ℕ) → StopsAt t after p → Stops t p
    to p h = ((viable_run (take p t)).1 h.0, go h.1)
      where
        go : ((p ≡ length t) × (Accepts (run t after) → ⊥)) ⊎ ((p < length t) × (IsSome (run (take (suc p) t) after) → ⊥))
            → ((p ≡ length t) × (Grammar t → ⊥)) ⊎ ((p < length t) × (Viable (take (suc p) t) → ⊥))
        go (inl x) = inl (x.0, λ g. x.1 ((grammar_run t).0 g))
        go (inr x) = inr (x.0, λ v. x.1 ((viable_run (take (suc p) t)).0 v))

    from : (p : ℕ) → Stops t p → StopsAt t after p
    from p h = ((viable_run (take p t)).0 h.0, go h.1)
      where
        go : ((p ≡ length t) × (Grammar t → ⊥)) ⊎ ((p < length t) × (Viable (take (suc p) t) → ⊥))
            → ((p ≡ length t) × (Accepts (run t after) → ⊥)) ⊎ ((p < length t) × (IsSome (run (take (suc p) t) after) → ⊥))
        go (inl x) = inl (x.0, λ g. x.1 ((grammar_run t).1 g))
        go (inr x) = inr (x.0, λ v. x.1 ((viable_run (take (suc p) t)).1 v))

    same : (p : ℕ) → StopsAt t after p ↔ Stops t p
    same p = (to p, from p)

-- no place exactly when the text is of the grammar
stop_run : (t : List ℕ) (q : State) → Accepts (run t q) ↔ (stop t q ≡ none)
stop_run [] q = end (final? q)
  where
    end : (d : Dec (Final q)) → Final q ↔ (◌≡◌ {A = Option ℕ} (ite d none (some 0)) none)
    end (yes f) = (λ x. refl, λ x. f)
    end (no n) = (λ x. absurd (n x), λ x. absurd (none-ne-some 0 (sym x)))
stop_run (b ∷ t) q = go (move q b) (λ q'. stop_run t q')
  where
    mapped : (a : Option ℕ) → (a ≡ none) ↔ (map suc a ≡ none)
    mapped none = (λ x. refl, λ x. refl)
    mapped (some n) = (λ x. absurd (none-ne-some n (sym x)), λ x. absurd (none-ne-some (suc n) (sym x)))

    go : (m : Move) → ((q' : State) → Accepts (run t q') ↔ (stop t q' ≡ none)) → Accepts (then_run m (run t)) ↔ (then_stop m (stop t) ≡ none)
    go none rec = (λ x. absurd x, λ x. absurd (none-ne-some 0 (sym x)))
    go (some m) rec = (λ x. (mapped (stop t m.0)).0 ((rec m.0).0 x), λ x. (rec m.0).1 ((mapped (stop t m.0)).1 x))

pub place2_none : (t : List ℕ) → Grammar t ↔ (place2 t ≡ none)
place2_none t = (λ g. (stop_run t after).0 ((grammar_run t).0 g), λ e. (grammar_run t).1 ((stop_run t after).1 e))

-- what begins a beginning of a text is one: so `Stops` names the FIRST byte that no text of the grammar could have there
pub viable_prefix : (p r : List ℕ) → Viable (p ++ r) → Viable p
viable_prefix p r v = (r ++ v.0, subst Grammar (append_assoc p r v.0) v.1)

pub viable_shorter : (t : List ℕ) (k p : ℕ) → k ≤ p → Viable (take p t) → Viable (take k t)
viable_shorter t k p h v =
    subst Viable (take-take k p t h) (viable_prefix (take k (take p t)) (drop k (take p t)) (subst Viable (sym (take-append-drop k (take p t))) v))

pub stops_first : (t : List ℕ) (p k : ℕ) → Stops t p → k ≤ p → Viable (take k t)
stops_first t p k s h = viable_shorter t k p h s.0
