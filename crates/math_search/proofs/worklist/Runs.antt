-- THE MACHINE IS THE SEARCH: from the records of the problems that wait it stops, refused where the search is refused, else with the count of the answers,
-- of their lines' bytes, and with the lines written.
--     outcome            from a queue
--     search-outcome     from the root alone
use mathlib.Core.Path.{◌≡◌, refl, sym, ◌∙◌, ap, ap₂, subst}
use mathlib.Core.Bool.{Bool, true, false, cond}
use mathlib.Core.Option.{Option, none, some}
use mathlib.Core.List.{List, [], ◌∷◌, ◌++◌, map}
use Prim.Native.Nat.{ℕ, zero, suc, ◌+◌, ◌*◌, ◌^◌, ◌≤◌, ◌<◌}
use native.Mathlib.Omega.{arith}
use native.Mathlib.Nat.{mod-eq_of_lt, mul-suc}
use lib.Dec.{leb}
use lib.ListN.{length, length-append}
use borrow.Author.Tests.{leb-true, leb-false, le-ltb, lt-ltb}
use Rattle.math_terms.specs.Seqs.{concat_map}
use Rattle.math_search.specs.Problems.{Setting, Field, Bindings, solved, equation, Problem, problem, root}
use Rattle.math_search.specs.Rules.{Rule, rule_order, Move, fails, rule, add, collect, apply, rule_count}
use Rattle.math_search.specs.Queue.{total, Result, answers, refused, unfinished, enqueue, onward, answer, offspring, run, searching}
use Rattle.math_search.proofs.Queue.{begins}
use Rattle.math_search.specs.worklist.Next.{next_ok, next_end, next_here, next_on}
use Rattle.math_search.specs.worklist.Machine as machine
use Rattle.math_search.specs.worklist.Machine.{Records, Work, plus, Leads, here, turn}
use Rattle.math_search.specs.worklist.Agreement.{Numbered, ChildIs, Agrees}

abbrev pub bytes_of : List (List ℕ) → List ℕ
bytes_of ls = concat_map (λ l. l) ls

-- a busy machine
abbrev pub on : {R : Type 0} → ℕ → R → List R → ℕ → ℕ → List ℕ → Work R
on k p q a b o = record { busy = true; refused = false; rule = k; held = p; waiting = q; lines = a; bytes = b; out = o }

module _ (D : Records) (writing : Bool) (cap : ℕ) where
  open D use {Rec}

  pub leads_on : {u v w : Work Rec} → Leads D writing cap u v → Leads D writing cap v w → Leads D writing cap u w
  leads_on here m = m
  leads_on (machine.onward b l) m = machine.onward b (leads_on l m)

  -- the machine stops, refused
  pub record StopsRefused (v : Work Rec) : Type 0 where
    pub end : Work Rec
    pub leads : Leads D writing cap v end
    pub idle : end.busy ≡ false
    pub is_refused_lem : end.refused ≡ true
    pub no_lines : end.lines ≡ 0
    pub no_bytes : end.bytes ≡ 0
    pub untouched : writing ≡ false → end.out ≡ v.out

  -- the machine stops, with the lines ls
  pub record StopsWith (v : Work Rec) (ls : List (List ℕ)) : Type 0 where
    pub end : Work Rec
    pub leads : Leads D writing cap v end
    pub idle : end.busy ≡ false
    pub not_refused : end.refused ≡ false
    pub counted : end.lines ≡ v.lines + length ls
    pub sized : end.bytes ≡ v.bytes + length (bytes_of ls)
    pub untouched : writing ≡ false → end.out ≡ v.out
    pub written : writing ≡ true → end.out ≡ machine.store_all D writing cap ls v.bytes v.out

module _ (E : Setting) (D : Records) (Holds : D.Rec → Problem E → Type 0) (number : Rule → ℕ) (text : Bindings E → List ℕ) (g : Agrees E D Holds number text)
    (bound : ℕ) (short : (p : D.Rec) (σ : Bindings E) (u : List E.names.Name) → Holds p (problem solved σ u) → length (text σ) ≤ bound)
    (writing : Bool) (cap : ℕ) where
  open E use {names}
  open names use {Name, pick}
  open D use {Rec, is_open, ok, child, line, store}

  abbrev Goes : Work Rec → Work Rec → Type 0
  Goes v w = Leads D writing cap v w

  abbrev on_turn : Work Rec → Work Rec
  on_turn w = turn D writing cap w

  -- the records stand for the problems, one for one
  abbrev pub Both : List Rec → List (Problem E) → Type 0
  Both [] [] = Unit {0}
  Both [] (P ∷ Q) = ⊥
  Both (p ∷ q) [] = ⊥
  Both (p ∷ q) (P ∷ Q) = Holds p P × Both q Q

  both_length : (q : List Rec) (Q : List (Problem E)) → Both q Q → length q ≡ length Q
  both_length [] [] h = refl
  both_length [] (P ∷ Q) h = absurd h
  both_length (p ∷ q) [] h = absurd h
  both_length (p ∷ q) (P ∷ Q) h = ap suc (both_length q Q h.1)

  both_put : (q : List Rec) (Q : List (Problem E)) (p : Rec) (P : Problem E) → Both q Q → Holds p P → Both (q ++ p ∷ []) (Q ++ P ∷ [])
  both_put [] [] p P h k = (k, tt)
  both_put [] (R ∷ Q) p P h k = absurd h
  both_put (r ∷ q) [] p P h k = absurd h
  both_put (r ∷ q) (R ∷ Q) p P h k = (h.0, both_put q Q p P h.1 k)

  turns : {v w : Work Rec} (u : Work Rec) → v.busy ≡ true → on_turn v ≡ u → Goes u w → Goes v w
  turns {w = w} u b e l = machine.onward b (subst (λ (x : Work Rec). Goes x w) (sym e) l)

  -- ---- the rules of a held problem

  -- the problems that moves make
  abbrev made : Bindings E → List Name → List (Rule × Move E) → List (Problem E)
  made σ u ms = map (λ (c : Rule × Problem E). c.1) (map (λ (m : Rule × Move E). (m.0, apply E σ u m.1)) ms)

  numbered_length : (k : ℕ) (rs : List Rule) → Numbered number k rs → k + length rs ≡ rule_count
  numbered_length k [] h = omega arith
  numbered_length k (r ∷ rs) h = omega (arith, numbered_length (k + 1) rs h.1)

  module _ (p : Rec) (a b : ℕ) (o : List ℕ) where
    -- the problem is held, and the rules before k are done
    abbrev from : ℕ → List Rec → Work Rec
    from k q = on (next_ok (ok p) k) p q a b o

    at_rule : (k : ℕ) (q : List Rec) → k < rule_count → ok p k ≡ true → from k q ≡ on k p q a b o
    at_rule k q h e = ap (λ (j : ℕ). on j p q a b o) (next_here (ok p) k h e)

    turn_put : (k : ℕ) (q : List Rec) → k < rule_count → ok p k ≡ true → length q < cap → on_turn (from k q) ≡ from (k + 1) (q ++ child p k ∷ [])
    turn_put k q h e l = ap on_turn (at_rule k q h e) ∙ rw (lt-ltb k rule_count h, lt-ltb (length q) cap l) refl

    turn_full : (k : ℕ) (q : List Rec) → k < rule_count → ok p k ≡ true → cap ≤ length q → on_turn (from k q) ≡ machine.full D writing cap (on k p q a b o)
    turn_full k q h e l = ap on_turn (at_rule k q h e) ∙ rw (lt-ltb k rule_count h, le-ltb (length q) cap l) refl

    abbrev Tried : ℕ → List Rec → Option (List (Problem E)) → Type 0
    Tried k q none = StopsRefused D writing cap (from k q)
    Tried k q (some Q) = (q' : List Rec) × Goes (from k q) (on rule_count p q' a b o) × Both q' Q

    -- one turn before
    tried_on : (k : ℕ) (q q' : List Rec) → on_turn (from k q) ≡ from (k + 1) q' → (r : Option (List (Problem E))) → Tried (k + 1) q' r → Tried k q r
    tried_on k q q' e none h = record {
      end = h.end;
      leads = turns (from (k + 1) q') refl e h.leads;
      idle = h.idle;
      is_refused_lem = h.is_refused_lem;
      no_lines = h.no_lines;
      no_bytes = h.no_bytes;
      untouched = h.untouched;
    }
    tried_on k q q' e (some Q) h = (h.0, turns (from (k + 1) q') refl e h.1, h.2)

    -- a rule that gives no child takes no turn
    tried_pass : (k : ℕ) (q : List Rec) → k < rule_count → ok p k ≡ false → (r : Option (List (Problem E))) → Tried (k + 1) q r → Tried k q r
    tried_pass k q l e r h = go r (sym (next_on (ok p) k l e)) h
      where
        Then : Option (List (Problem E)) → ℕ → Type 0
        Then none j = StopsRefused D writing cap (on j p q a b o)
        Then (some Q) j = (q' : List Rec) × Goes (on j p q a b o) (on rule_count p q' a b o) × Both q' Q

        go : (r : Option (List (Problem E))) → next_ok (ok p) (k + 1) ≡ next_ok (ok p) k → Tried (k + 1) q r → Tried k q r
        go none e h = subst (Then none) e h
        go (some Q) e h = subst (Then (some Q)) e h

    module _ (L M : Field E) (σ : Bindings E) (u : List Name) (hp : Holds p (problem (equation L M) σ u)) (nf : fails E L M ≡ false) where
      tries : (rs : List Rule) (k : ℕ) → Numbered number k rs → (q : List Rec) (Q : List (Problem E))
          → Both q Q → Tried k q (enqueue E cap Q (made σ u (collect E L M (pick u) rs)))
      tries [] k h q Q both = (q, subst (λ (j : ℕ). Goes (from k q) (on j p q a b o)) (next_end (ok p) k (omega (arith, h))) here, both)
      tries (r ∷ rs) k h q Q both =
          go (rule E r L M (pick u)) (subst (λ (j : ℕ). ChildIs E D Holds p j σ u (rule E r L M (pick u))) h.0 (g.child_is p L M σ u hp nf r))
          (λ q' Q' both'. tries rs (k + 1) h.1 q' Q' both')
        where
          low : k < rule_count
          low = omega (arith, numbered_length k (r ∷ rs) h)

          put_in : (m : Move E) → ok p k ≡ true → Holds (child p k) (apply E σ u m)
              → ((q' : List Rec) (Q' : List (Problem E)) → Both q' Q' → Tried (k + 1) q' (enqueue E cap Q' (made σ u (collect E L M (pick u) rs))))
              → (f : Bool) → leb cap (length Q) ≡ f → Tried k q (cond f none (enqueue E cap (Q ++ apply E σ u m ∷ []) (made σ u (collect E L M (pick u) rs))))
          put_in m e c rec true t = record {
            end = machine.full D writing cap (on k p q a b o);
            leads =
                turns (machine.full D writing cap (on k p q a b o)) refl
                (turn_full k q low e (omega (arith, leb-true cap (length Q) t, both_length q Q both))) here;
            idle = refl;
            is_refused_lem = refl;
            no_lines = refl;
            no_bytes = refl;
            untouched = λ _. refl;
          }
          put_in m e c rec false t =
              tried_on k q (q ++ child p k ∷ []) (turn_put k q low e (omega (arith, leb-false cap (length Q) t, both_length q Q both)))
              (enqueue E cap (Q ++ apply E σ u m ∷ []) (made σ u (collect E L M (pick u) rs)))
              (rec (q ++ child p k ∷ []) (Q ++ apply E σ u m ∷ []) (both_put q Q (child p k) (apply E σ u m) both c))

          go : (x : Option (Move E)) → ChildIs E D Holds p k σ u x
              → ((q' : List Rec) (Q' : List (Problem E)) → Both q' Q' → Tried (k + 1) q' (enqueue E cap Q' (made σ u (collect E L M (pick u) rs))))
              → Tried k q (enqueue E cap Q (made σ u (add E r x (collect E L M (pick u) rs))))
          go none e rec = tried_pass k q low e (enqueue E cap Q (made σ u (collect E L M (pick u) rs))) (rec q Q both)
          go (some m) e rec = put_in m e.0 e.1 rec (leb cap (length Q)) refl

  -- ---- the queue

  -- what the machine comes to, by the search's result; with answers, where 64 bits hold their number and a bound on their bytes
  abbrev pub Outcome : Work Rec → Result E → Type 0
  Outcome v unfinished = Unit {0}
  Outcome v refused = StopsRefused D writing cap v
  Outcome v (answers xs) = v.lines + length xs < 2 ^ 64 → v.bytes + bound * length xs < 2 ^ 64 → StopsWith D writing cap v (map text xs)

  -- turns that count nothing
  outcome_on : (k k' : ℕ) (p p' : Rec) (q q' : List Rec) (a b : ℕ) (o : List ℕ) → Goes (on k p q a b o) (on k' p' q' a b o)
      → (r : Result E) → Outcome (on k' p' q' a b o) r → Outcome (on k p q a b o) r
  outcome_on k k' p p' q q' a b o l unfinished h = tt
  outcome_on k k' p p' q q' a b o l refused h = record {
    end = h.end;
    leads = leads_on D writing cap l h.leads;
    idle = h.idle;
    is_refused_lem = h.is_refused_lem;
    no_lines = h.no_lines;
    no_bytes = h.no_bytes;
    untouched = h.untouched;
  }
  outcome_on k k' p p' q q' a b o l (answers xs) h = λ few low.
      let s = h few low in
      record {
        end = s.end;
        leads = leads_on D writing cap l s.leads;
        idle = s.idle;
        not_refused = s.not_refused;
        counted = s.counted;
        sized = s.sized;
        untouched = s.untouched;
        written = s.written;
      }

  plus_is : (a b : ℕ) → a + b < 2 ^ 64 → plus a b ≡ a + b
  plus_is a b h = mod-eq_of_lt h

  -- a turn that takes an answer
  module _ (p₀ p : Rec) (q : List Rec) (a b : ℕ) (o : List ℕ) (σ : Bindings E) (u : List Name) (h : Holds p (problem solved σ u)) where
    abbrev line_out : List ℕ
    line_out = cond writing (store (text σ) b o) o

    turn_answer : on_turn (on rule_count p₀ (p ∷ q) a b o) ≡ on rule_count p q (plus a 1) (plus b (length (text σ))) line_out
    turn_answer = rw (g.open_is p solved σ u h, g.line_is p σ u h) refl

    answered : (xs : List (Bindings E)) → Outcome (on rule_count p q (plus a 1) (plus b (length (text σ))) line_out) (answers xs)
        → Outcome (on rule_count p₀ (p ∷ q) a b o) (answers (σ ∷ xs))
    answered xs c few low = record {
      end = s.end;
      leads = turns (on rule_count p q (plus a 1) (plus b (length (text σ))) line_out) refl turn_answer s.leads;
      idle = s.idle;
      not_refused = s.not_refused;
      counted = omega (arith, s.counted, one_more);
      sized = omega (arith, s.sized, longer, parts);
      untouched = λ n. s.untouched n ∙ ap (λ (t : Bool). cond t (store (text σ) b o) o) n;
      written =
          λ y. s.written y
          ∙ ap₂ (λ (k : ℕ) (l : List ℕ). machine.store_all D writing cap (map text xs) k l) longer (ap (λ (t : Bool). cond t (store (text σ) b o) o) y);
    }
      where
        parts : length (text σ ++ bytes_of (map text xs)) ≡ length (text σ) + length (bytes_of (map text xs))
        parts = length-append (text σ) (bytes_of (map text xs))

        one_more : plus a 1 ≡ a + 1
        one_more = plus_is a 1 (omega arith)

        line_short : length (text σ) ≤ bound
        line_short = short p σ u h

        longer : plus b (length (text σ)) ≡ b + length (text σ)
        longer = plus_is b (length (text σ)) (omega (arith, line_short, mul-suc bound (length xs)))

        s : StopsWith D writing cap (on rule_count p q (plus a 1) (plus b (length (text σ))) line_out) (map text xs)
        s = c (omega (arith, one_more)) (omega (arith, longer, line_short, mul-suc bound (length xs)))

    outcome_answer : (r : Result E) → Outcome (on rule_count p q (plus a 1) (plus b (length (text σ))) line_out) r
        → Outcome (on rule_count p₀ (p ∷ q) a b o) (answer E σ r)
    outcome_answer unfinished c = tt
    outcome_answer refused c = record {
      end = c.end;
      leads = turns (on rule_count p q (plus a 1) (plus b (length (text σ))) line_out) refl turn_answer c.leads;
      idle = c.idle;
      is_refused_lem = c.is_refused_lem;
      no_lines = c.no_lines;
      no_bytes = c.no_bytes;
      untouched = λ n. c.untouched n ∙ ap (λ (t : Bool). cond t (store (text σ) b o) o) n;
    }
    outcome_answer (answers xs) c = answered xs c

  -- nothing waits
  outcome_none : (p₀ : Rec) (a b : ℕ) (o : List ℕ) → Outcome (on rule_count p₀ [] a b o) (answers [])
  outcome_none p₀ a b o few low = record {
    end = machine.stopped D writing cap (on rule_count p₀ [] a b o);
    leads = turns (machine.stopped D writing cap (on rule_count p₀ [] a b o)) refl refl here;
    idle = refl;
    not_refused = refl;
    counted = omega arith;
    sized = omega arith;
    untouched = λ _. refl;
    written = λ _. refl;
  }

  -- a turn that takes an open problem: it fails, or it is held
  module _ (p₀ p : Rec) (q : List Rec) (a b : ℕ) (o : List ℕ) (L M : Field E) (σ : Bindings E) (u : List Name) (h : Holds p (problem (equation L M) σ u)) where
    turn_fail : fails E L M ≡ true → on_turn (on rule_count p₀ (p ∷ q) a b o) ≡ on rule_count p q a b o
    turn_fail e = rw (g.open_is p (equation L M) σ u h, g.fails_is p L M σ u h ∙ e) refl

    turn_hold : fails E L M ≡ false → on_turn (on rule_count p₀ (p ∷ q) a b o) ≡ from p a b o 0 q
    turn_hold e = rw (g.open_is p (equation L M) σ u h, g.fails_is p L M σ u h ∙ e) refl

    outcome_open : (Q : List (Problem E)) → Both q Q → (k : ℕ)
        → ((q' : List Rec) (Q' : List (Problem E)) → Both q' Q' → Outcome (on rule_count p q' a b o) (run E k cap Q'))
        → Outcome (on rule_count p₀ (p ∷ q) a b o) (onward E (enqueue E cap Q (offspring E (problem (equation L M) σ u))) (λ Q'. run E k cap Q'))
    outcome_open Q both k rec = by (fails E L M) refl
      where
        held : fails E L M ≡ false → (x : Option (List (Problem E))) → Tried p a b o 0 q x
            → Outcome (on rule_count p₀ (p ∷ q) a b o) (onward E x (λ Q'. run E k cap Q'))
        held nf none t = record {
          end = t.end;
          leads = turns (from p a b o 0 q) refl (turn_hold nf) t.leads;
          idle = t.idle;
          is_refused_lem = t.is_refused_lem;
          no_lines = t.no_lines;
          no_bytes = t.no_bytes;
          untouched = t.untouched;
        }
        held nf (some Q') t =
            outcome_on rule_count rule_count p₀ p (p ∷ q) t.0 a b o (turns (from p a b o 0 q) refl (turn_hold nf) t.1) (run E k cap Q')
            (rec t.0 Q' t.2)

        by : (f : Bool) → fails E L M ≡ f
            → Outcome (on rule_count p₀ (p ∷ q) a b o)
            (onward E (enqueue E cap Q (made σ u (cond f [] (collect E L M (pick u) rule_order)))) (λ Q'. run E k cap Q'))
        by true e = outcome_on rule_count rule_count p₀ p (p ∷ q) q a b o (turns (on rule_count p q a b o) refl (turn_fail e) here) (run E k cap Q) (rec q Q both)
        by false e = held e (enqueue E cap Q (made σ u (collect E L M (pick u) rule_order))) (tries p a b o L M σ u h e rule_order 0 g.ordered q Q both)

  pub outcome : (k : ℕ) (Q : List (Problem E)) (q : List Rec) → Both q Q → (p₀ : Rec) (a b : ℕ) (o : List ℕ) → Outcome (on rule_count p₀ q a b o) (run E k cap Q)
  outcome zero [] [] both p₀ a b o = outcome_none p₀ a b o
  outcome zero [] (p ∷ q) both p₀ a b o = absurd both
  outcome zero (P ∷ Q) q both p₀ a b o = tt
  outcome (suc k) [] [] both p₀ a b o = outcome_none p₀ a b o
  outcome (suc k) [] (p ∷ q) both p₀ a b o = absurd both
  outcome (suc k) (P ∷ Q) [] both p₀ a b o = absurd both
  outcome (suc k) (problem solved σ u ∷ Q) (p ∷ q) both p₀ a b o =
      outcome_answer p₀ p q a b o σ u both.0 (run E k cap Q)
      (outcome k Q q both.1 p (plus a 1) (plus b (length (text σ))) (cond writing (store (text σ) b o) o))
  outcome (suc k) (problem (equation L M) σ u ∷ Q) (p ∷ q) both p₀ a b o =
      outcome_open p₀ p q a b o L M σ u both.0 Q both.1 k (λ q' Q' both'. outcome k Q' q' both' p a b o)

  -- ---- from the root alone

  pub search_outcome : (A B : Field E) (p p₀ : Rec) (o : List ℕ) → Holds p (root E A B) → 1 ≤ cap
      → Outcome (on rule_count p₀ (p ∷ []) 0 0 o) (searching E cap A B)
  search_outcome A B p p₀ o h c =
      subst (Outcome (on rule_count p₀ (p ∷ []) 0 0 o)) (sym (begins E cap A B c))
      (outcome (total E (root E A B ∷ [])) (root E A B ∷ []) (p ∷ []) (h, tt) p₀ 0 0 o)
