-- Whether a choice is left is whether the list has a line; and the candidates of a field one after the other, up to the first that leads to
-- a choice. Assumes nothing.
use mathlib.Core.Path.{◌≡◌, refl, sym, ◌∙◌, ap, ap₂, subst}
use mathlib.Core.Bool.{Bool, false, ◌||◌}
use mathlib.Core.List.{List}
use Prim.Native.Nat.{ℕ, zero, suc, ◌+◌, ◌-◌, ◌≤◌, ◌<◌}
use native.Mathlib.Omega.{arith}
use Rattle.base_lists.specs.Seqs.{is_cons, cons_append}
use Rattle.pair_row.specs.Row.{table_in}
use Rattle.pair_state.specs.declared.State.{State}
use Rattle.std.specs.Prelude.{Some, None}
use Rattle.std.specs.Prelude as std
use Rattle.overlap_entries.specs.declared.Span.{Span}
use Rattle.overlap_entries.specs.declared.Choice.{Choice}
use Rattle.overlap_entries.specs.Entries.{no_choice, chosen_at}
use Rattle.overlap_entries.specs.declared.Candidate.{Candidate}
use Rattle.overlap_list.specs.Listing.{Pairing, span_at, candidate_of, joins_at, after_join, candidate_lines, choice_lines, lines_from, pair_lines}
use Rattle.overlap_list.specs.shared.Choices.{if_joined, any_candidate, any_from, any_in, any_of}

-- ---- the list has a line

after_any : (j : std.Option State) (test : State → Bool) (lines : State → List (List ℕ)) → ((st : State) → test st ≡ is_cons (lines st))
    → if_joined j test ≡ is_cons (after_join j lines)
after_any None test lines h = refl
after_any (Some st) test lines h = h st

candidates_any : (test : State → Bool) (next : Choice → State → List (List ℕ)) (row : List ℕ) (j : ℕ)
    → ((ch : Choice) (st : State) → test st ≡ is_cons (next ch st)) → (k : ℕ) (ch : Choice) (st : State)
    → any_candidate test row j k st ≡ is_cons (choice_lines next row j k ch st)
candidates_any test next row j h zero ch st = refl
candidates_any test next row j h (suc k) ch st =
    let c = candidate_of (span_at row j) (suc k) in
    let d = chosen_at ch j c.items c.long in
    ap₂ (λ (a b : Bool). a || b) (after_any (joins_at row j c.items st) test (next d) (h d)) (candidates_any test next row j h k ch st)
    ∙ sym (cons_append (candidate_lines next row j c ch st) (choice_lines next row j k ch st))

-- whatever the texts, the number of fields and the choice so far
pub any_lines : (m : ℕ) (row texts : List ℕ) (n j : ℕ) (ch : Choice) (st : State) → any_from m row j st ≡ is_cons (lines_from m row texts n j ch st)
any_lines zero row texts n j ch st = refl
any_lines (suc m) row texts n j ch st =
    candidates_any (any_from m row (j + 1)) (lines_from m row texts n (j + 1)) row j (λ d s. any_lines m row texts n (j + 1) d s) (span_at row j).count ch st

pub any_pair : (p : Pairing) (row texts : List ℕ) → any_of p row ≡ is_cons (pair_lines p row texts)
any_pair (Some n) row texts = any_lines n row texts n 0 no_choice (record { atoms = (table_in row).first })
any_pair None row texts = refl

-- from the first field on, where each atom stands for itself
pub any_start : (p : Pairing) (row : List ℕ) (n : ℕ) → p ≡ Some n → (st : State) → st.atoms ≡ (table_in row).first → any_in row n 0 st ≡ any_of p row
any_start p row n is_p st e =
    let z : n - 0 ≡ n = omega arith in
    ap (λ (k : ℕ). any_from k row 0 st) z
    ∙ ap (λ (a : List ℕ). any_from n row 0 (record { atoms = a })) e
    ∙ ap (λ (q : Pairing). any_of q row) (sym is_p)

-- ---- the candidates of field j one after the other

module _ (row : List ℕ) (n j : ℕ) (st : State) where
  abbrev next : State → Bool
  next = any_from (n - (j + 1)) row (j + 1)

  abbrev rest : ℕ → Bool
  rest k = any_candidate next row j k st

  -- k candidates are left, and what was found or is left makes the answer
  pub record Seeking (s : Span) (k : ℕ) (found : Bool) : Type 0 where
    pub span_is : s ≡ span_at row j
    pub within : k ≤ s.count
    pub makes : (found || rest k) ≡ any_in row n j st

  pub seeking_start : (s : Span) → s ≡ span_at row j → j < n → Seeking s s.count false
  seeking_start s e h =
      let k : suc (n - (j + 1)) ≡ n - j = omega arith in
      record {
        span_is = e;
        within = omega arith;
        makes = ap (λ (x : Span). rest x.count) e ∙ ap (λ (m : ℕ). any_from m row j st) k;
      }

  module _ (s : Span) (k : ℕ) (S : Seeking s k false) (h : 1 ≤ k) (c : Candidate) (r : std.Option State) (is_c : c ≡ candidate_of s k)
      (is-r : r ≡ joins_at row j c.items st) where
    goes : (q : std.Option State) → r ≡ q → rest k ≡ (if_joined q next || rest (k - 1))
    goes q f =
        let e : k ≡ suc (k - 1) = omega arith in
        ap rest e
        ∙ ap (λ (m : ℕ). if_joined (joins_at row j (candidate_of (span_at row j) m).items st) next || rest (k - 1)) (sym e)
        ∙ ap (λ (x : Span). if_joined (joins_at row j (candidate_of x k).items st) next || rest (k - 1)) (sym S.span_is)
        ∙ ap (λ (x : Candidate). if_joined (joins_at row j x.items st) next || rest (k - 1)) (sym is_c)
        ∙ ap (λ (x : std.Option State). if_joined x next || rest (k - 1)) (sym is-r ∙ f)

    pub seeking_clash : r ≡ None → Seeking s (k - 1) false
    seeking_clash e =
        record { span_is = S.span_is; within = omega (arith, S.within); makes = sym (goes None e) ∙ S.makes }

    pub seeking_alive : (found : Bool) (nx : State) → r ≡ Some nx → found ≡ any_in row n (j + 1) nx → Seeking s (k - 1) found
    seeking_alive found nx e f =
        record {
          span_is = S.span_is;
          within = omega (arith, S.within);
          makes = ap (λ (b : Bool). b || rest (k - 1)) f ∙ sym (goes (Some nx) e) ∙ S.makes;
        }

  -- nothing is found yet
  pub seeking_on : (s : Span) (k : ℕ) (found : Bool) → Seeking s k found → found ≡ false → Seeking s k false
  seeking_on s k found S e = subst (Seeking s k) e S
