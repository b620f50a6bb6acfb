-- THE TWO RUNS OF THE SEARCH: the first counts, the second writes the lines where they have room.
--     counting, writing     the configurations that the two start in
--     counting_ends, writing_ends     each run ends
--     twice                 what the two come to, for two accepted fields
--     twice_none            the same for fields of which one is not accepted
use mathlib.Core.Path.{◌≡◌, refl, sym, ◌∙◌, ap, ap₂, subst}
use mathlib.Core.Bool.{Bool, true, false, ◌&&◌, cond}
use mathlib.Core.Logic.{◌⊎◌, inl, inr}
use mathlib.Core.List.{List, [], map}
use Prim.Native.Nat.{ℕ, zero, suc, ◌*◌, ◌^◌, ◌≤◌, ◌<◌}
use native.Mathlib.Omega.{arith}
use lib.Dec.{leb, ltb, eqb}
use lib.ListN.{length, length-map, length-set, drop}
use borrow.Author.Tests.{leb-true, leb-false, le-leb, lt-ltb, ne_eqb}
use Rattle.base_limits.specs.Limits.{most_terms}
use Rattle.text_values.specs.Values.{Field}
use Rattle.text_accepted.specs.Accepted.{accepted_field}
use Rattle.text_write.specs.Answers as lent
use Rattle.search_problems.specs.declared.Problem.{Problem}
use Rattle.search_steps.specs.tables.Tables.{rows_in}
use Rattle.search_problems.specs.Roots.{root_value}
use Rattle.text_write.specs.pieces.Stored.{bytes_of, store_all}
use Rattle.text_write.proofs.Answers.{after_small}
use Rattle.text_write.proofs.pieces.Stored.{stored}
use Rattle.search_steps.specs.declared.turns.State.{State}
use Rattle.search_steps.specs.starts.Starts.{begun, again}
use Rattle.search_steps.specs.Machine.{Config, conf, next, after, after_none, after_next, after_idle, Ends, Reaches, from_root}
use Rattle.math_search.specs.Problems as theory
use Rattle.math_search.specs.Problems.{Setting, Bindings, root}
use Rattle.math_search.specs.Rules.{Rule}
use Rattle.math_search.specs.Queue.{Result, answers, refused, unfinished, searching}
use Rattle.math_search.specs.Answers.{Linear}
use Rattle.math_search.proofs.Seqs.{one_or_none}
use Rattle.math_search.proofs.Queue.{given}
use Rattle.math_search.specs.worklist.Agreement.{Agrees}
use Rattle.search_row.proofs.Turns.{records}
use Rattle.search_row.proofs.Finding.{reaches_once, reaches_ends, starts, Final, machine_finds}

-- the search is refused (`unfinished` never comes)
abbrev pub is_refused : (E : Setting) → Result E → Bool
is_refused E (answers xs) = false
is_refused E refused = true
is_refused E unfinished = true

-- turns keep the row's length
row_kept : (n : ℕ) (c : Config) → length (after n c).row ≡ length c.row
row_kept zero c = ap (λ (d : Config). length d.row) (after_none c)
row_kept (suc n) c = go c.state.busy refl (row_kept n (next c))
  where
    go : (b : Bool) → c.state.busy ≡ b → length (after n (next c)).row ≡ length (next c).row → length (after (suc n) c).row ≡ length c.row
    go true e h = ap (λ (d : Config). length d.row) (after_next n c e) ∙ h ∙ length-set c.row c.state.at _
    go false e h = ap (λ (d : Config). length d.row) (after_idle (suc n) c e)

pub reaches_row : (c d : Config) → Reaches c d → length d.row ≡ length c.row
reaches_row c d r = ap (λ (e : Config). length e.row) (sym r.1) ∙ row_kept r.0 c

-- a machine that is not busy stops where it is
still : (c : Config) → c.state.busy ≡ false → Reaches c c
still c h = (0, after_none c, h)

-- no lines leave the bytes as they are
none_stored : (out : List ℕ) → out ≡ lent.after [] out
none_stored out = sym (ap (λ (b : Bool). cond b (drop 0 out) out) (le-leb 0 (length out) (omega arith)))

module _ (f g : Field) (row : List Problem) (out : List ℕ) where
  -- the tables of the two fields
  abbrev tables : List ℕ
  tables = (rows_in f g).0

  abbrev texts : List ℕ
  texts = (rows_in f g).1

  -- where the run that counts starts, and, behind its end t, the run that writes
  abbrev pub counting : Config
  counting = from_root (conf (begun f g (length row)) row out)

  abbrev pub writing : Config → Config
  writing t = from_root (conf (again (begun f g (length row)) t.state (length out)) t.row t.out)

  -- the end t of the run that counts, and v of the one that writes: refused or not, and the lines ls
  pub record Answered (no : Bool) (ls : List (List ℕ)) (t v : Config) : Type 0 where
    pub refused_is : t.state.refused ≡ no
    pub lines_is : t.state.lines ≡ length ls
    pub bytes_is : t.state.bytes ≡ length (bytes_of ls)
    pub out_is : v.out ≡ lent.after (bytes_of ls) out

  -- ---- a field that is not accepted

  module _ (no : (accepted_field f && accepted_field g) ≡ false) where
    idle : counting.state.busy ≡ false
    idle = ap (λ (b : Bool). cond b (ltb 0 (length row)) false) no

    pub counting_ends_none : Ends counting
    counting_ends_none = reaches_ends counting counting (still counting idle)

    idle_again : (t : Config) → (writing t).state.busy ≡ false
    idle_again t = go t.state.refused (leb t.state.bytes (length out)) idle
      where
        go : (a b : Bool) → counting.state.busy ≡ false → cond a false (cond b counting.state.busy false) ≡ false
        go true b h = refl
        go false true h = h
        go false false h = refl

    pub writing_ends_none : (t : Config) → Ends (writing t)
    writing_ends_none t = reaches_ends (writing t) (writing t) (still (writing t) (idle_again t))

    pub twice_none : (t v : Config) → Reaches counting t → Reaches (writing t) v → Answered false [] t v
    twice_none t v r s = record {
      refused_is = ap (λ (d : Config). d.state.refused) at_once ∙ ap (λ (b : Bool). cond b (eqb (length row) 0) false) no;
      lines_is = ap (λ (d : Config). d.state.lines) at_once;
      bytes_is = ap (λ (d : Config). d.state.bytes) at_once;
      out_is =
          ap (λ (d : Config). d.out) (reaches_once (writing t) v (writing t) s (still (writing t) (idle_again t)))
          ∙ ap (λ (d : Config). d.out) at_once
          ∙ none_stored out;
    }
      where
        at_once : t ≡ counting
        at_once = reaches_once counting t counting r (still counting idle)

  -- ---- two accepted fields

  module _ (E : Setting) (Holds : Problem → theory.Problem E → Type 0) (number : Rule → ℕ)
      (text : Bindings E → List ℕ) (agrees : Agrees E (records tables texts) Holds number text)
      (bound : ℕ) (short : (p : Problem) (σ : Bindings E) (u : List E.names.Name) → Holds p (theory.problem theory.solved σ u) → length (text σ) ≤ bound)
      (low : bound * 2 ^ 34 < 2 ^ 64)
      (A B : theory.Field E) (linear : Linear E A B) (a : length A ≤ most_terms) (b : length B ≤ most_terms) (is-root : Holds (root_value tables) (root E A B))
      (both : (accepted_field f && accepted_field g) ≡ true) where
    -- ---- a row with no record: refused at once

    module _ (none_there : length row ≡ 0) where
      refused_here : searching E (length row) A B ≡ refused
      refused_here = ap (λ (n : ℕ). searching E n A B) none_there

      idle_here : counting.state.busy ≡ false
      idle_here = ap₂ (λ (c : Bool) (n : ℕ). cond c (ltb 0 n) false) both none_there

      counting_ends_none_there : Ends counting
      counting_ends_none_there = reaches_ends counting counting (still counting idle_here)

      module _ (t : Config) (r : Reaches counting t) where
        at_once : t ≡ counting
        at_once = reaches_once counting t counting r (still counting idle_here)

        refused_at_once : t.state.refused ≡ true
        refused_at_once = ap (λ (d : Config). d.state.refused) at_once ∙ ap₂ (λ (c : Bool) (n : ℕ). cond c (eqb n 0) false) both none_there

        idle_then : (writing t).state.busy ≡ false
        idle_then = ap (λ (c : Bool). cond c false (cond (leb t.state.bytes (length out)) (begun f g (length row)).busy false)) refused_at_once

        writing_ends_none_there : Ends (writing t)
        writing_ends_none_there = reaches_ends (writing t) (writing t) (still (writing t) idle_then)

        twice_none_there : (v : Config) → Reaches (writing t) v
            → Answered (is_refused E (searching E (length row) A B)) (map text (given E (searching E (length row) A B))) t v
        twice_none_there v s = subst (λ (x : Result E). Answered (is_refused E x) (map text (given E x)) t v) (sym refused_here) (record {
          refused_is = refused_at_once;
          lines_is = ap (λ (d : Config). d.state.lines) at_once;
          bytes_is = ap (λ (d : Config). d.state.bytes) at_once;
          out_is =
              ap (λ (d : Config). d.out) (reaches_once (writing t) v (writing t) s (still (writing t) idle_then))
              ∙ ap (λ (d : Config). d.out) at_once
              ∙ none_stored out;
        })

    -- ---- a row with a record
    module _ (some_there : 1 ≤ length row) where
      begun_is : begun f g (length row) ≡ starts tables texts false (length row) (root_value tables)
      begun_is = rw (both, lt-ltb 0 (length row) some_there, ne_eqb (length row) 0 (λ z. omega arith)) refl

      counted : (d : Config) × Reaches counting d × Final E text false out d (searching E (length row) A B)
      counted =
          subst (λ (s : State). (d : Config) × Reaches (from_root (conf s row out)) d × Final E text false out d (searching E (length row) A B)) (sym begun_is)
          (machine_finds E tables texts Holds number text agrees bound short low A B linear a b false (length row) some_there
          (root_value tables) is-root row refl out)

      final : (t : Config) → Reaches counting t → Final E text false out t (searching E (length row) A B)
      final t r =
          subst (λ (d : Config). Final E text false out d (searching E (length row) A B)) (reaches_once counting counted.0 t counted.1 r) counted.2

      again_is : (t : State) → t.refused ≡ false → leb t.bytes (length out) ≡ true
          → again (begun f g (length row)) t (length out) ≡ starts tables texts true (length row) (root_value tables)
      again_is t e h = rw (e, h, both, lt-ltb 0 (length row) some_there, ne_eqb (length row) 0 (λ z. omega arith)) refl

      -- the run that writes
      module _ (t : Config) (r : Reaches counting t) where
        size : length t.row ≡ length row
        size = reaches_row counting t r ∙ length-set row 0 (root_value tables)

        wrote : t.state.refused ≡ false → leb t.state.bytes (length out) ≡ true
            → (v : Config) × Reaches (writing t) v × Final E text true t.out v (searching E (length row) A B)
        wrote e h =
            subst (λ (s : State). (v : Config) × Reaches (from_root (conf s t.row t.out)) v × Final E text true t.out v (searching E (length row) A B))
            (sym (again_is t.state e h))
            (machine_finds E tables texts Holds number text agrees bound short low A B linear a b true (length row) some_there
            (root_value tables) is-root t.row size t.out)

        idle_full : t.state.refused ≡ true → (writing t).state.busy ≡ false
        idle_full e = ap (λ (c : Bool). cond c false (cond (leb t.state.bytes (length out)) (begun f g (length row)).busy false)) e

        idle_small : t.state.refused ≡ false → leb t.state.bytes (length out) ≡ false → (writing t).state.busy ≡ false
        idle_small e h = ap₂ (λ (c d : Bool). cond c false (cond d (begun f g (length row)).busy false)) e h

        writing_ends_some : Ends (writing t)
        writing_ends_some = go t.state.refused (leb t.state.bytes (length out)) refl refl
          where
            go : (c d : Bool) → t.state.refused ≡ c → leb t.state.bytes (length out) ≡ d → Ends (writing t)
            go true d e h = reaches_ends (writing t) (writing t) (still (writing t) (idle_full e))
            go false true e h = reaches_ends (writing t) (wrote e h).0 (wrote e h).1
            go false false e h = reaches_ends (writing t) (writing t) (still (writing t) (idle_small e h))

        -- a run that does not start leaves the bytes as they were
        as_it_was : (v : Config) → Reaches (writing t) v → (writing t).state.busy ≡ false → t.out ≡ out → v.out ≡ out
        as_it_was v s i o = ap (λ (d : Config). d.out) (reaches_once (writing t) v (writing t) s (still (writing t) i)) ∙ o

        module _ (v : Config) (s : Reaches (writing t) v) where
          given_lines : (xs : List (Bindings E)) → searching E (length row) A B ≡ answers xs
              → Final E text false out t (answers xs) → v.out ≡ lent.after (bytes_of (map text xs)) out
          given_lines xs is fin = go (leb t.state.bytes (length out)) refl
            where
              as_given : (d : Config) → Final E text true t.out d (searching E (length row) A B) → d.out ≡ store_all (map text xs) 0 t.out
              as_given d k = (subst (Final E text true t.out d) is k).4 refl

              go : (c : Bool) → leb t.state.bytes (length out) ≡ c → v.out ≡ lent.after (bytes_of (map text xs)) out
              go true h =
                  let w = wrote fin.0 h in
                  ap (λ (d : Config). d.out) (reaches_once (writing t) v w.0 s w.1)
                  ∙ as_given w.0 w.2
                  ∙ ap (store_all (map text xs) 0) (fin.3 refl)
                  ∙ stored (map text xs) out (omega (arith, fin.2, leb-true t.state.bytes (length out) h))
              go false h =
                  as_it_was v s (idle_small fin.0 h) (fin.3 refl)
                  ∙ sym (after_small (bytes_of (map text xs)) out (omega (arith, fin.2, leb-false t.state.bytes (length out) h)))

          answered_by : (x : Result E) → searching E (length row) A B ≡ x → Final E text false out t x → Answered (is_refused E x) (map text (given E x)) t v
          answered_by (answers xs) is fin =
              record { refused_is = fin.0; lines_is = fin.1 ∙ sym (length-map xs text); bytes_is = fin.2; out_is = given_lines xs is fin }
          answered_by refused is fin =
              record { refused_is = fin.0; lines_is = fin.1; bytes_is = fin.2; out_is = as_it_was v s (idle_full fin.0) (fin.3 refl) ∙ none_stored out }
          answered_by unfinished is fin = absurd fin

          twice_some : Answered (is_refused E (searching E (length row) A B)) (map text (given E (searching E (length row) A B))) t v
          twice_some = answered_by (searching E (length row) A B) refl (final t r)

    -- ---- any row

    pub counting_ends : Ends counting
    counting_ends = go (one_or_none (length row))
      where
        go : (length row ≡ 0) ⊎ (1 ≤ length row) → Ends counting
        go (inl z) = counting_ends_none_there z
        go (inr h) = reaches_ends counting (counted h).0 (counted h).1

    pub writing_ends : (t : Config) → Reaches counting t → Ends (writing t)
    writing_ends t r = go (one_or_none (length row))
      where
        go : (length row ≡ 0) ⊎ (1 ≤ length row) → Ends (writing t)
        go (inl z) = writing_ends_none_there z t r
        go (inr h) = writing_ends_some h t r

    pub twice : (t v : Config) → Reaches counting t → Reaches (writing t) v
        → Answered (is_refused E (searching E (length row) A B)) (map text (given E (searching E (length row) A B))) t v
    twice t v r s = go (one_or_none (length row))
      where
        go : (length row ≡ 0) ⊎ (1 ≤ length row)
            → Answered (is_refused E (searching E (length row) A B)) (map text (given E (searching E (length row) A B))) t v
        go (inl z) = twice_none_there z t r v s
        go (inr h) = twice_some h t r v s
