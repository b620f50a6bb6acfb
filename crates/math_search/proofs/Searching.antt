-- THE THEOREMS OF THE SEARCH for one field pair, for fields with at most one list variable each, none shared.
--     searching-ends                every search ends
--     searching-sound               every answer solves the equation, with values of their types
--     searching-complete            every solution by constants is an instance of an answer
--     searching-none                no answer: no solution
--     instances                     the instances of an answer are solutions
--     steps-fall                    Theorem 1: every step lowers the order, as amended
--     fresh-new                     the fresh list variable is new to the problem and its bindings
--     searching-more, same-answers  more room gives the same answers: the room decides only whether a search is refused
--     searching-room                with room enough none is refused
--     answers-short, values-short   no value has more terms than the two fields together
--     names-few, fresh-small        at most 34 list variables are used; the fresh one's number is below 64
--     occur-never                   Occur applies to no problem that is met
use mathlib.Core.Path.{◌≡◌, refl, sym, ◌∙◌, ap, subst}
use mathlib.Core.Logic.{◌⊎◌, inl, inr}
use mathlib.Core.Bool.{false}
use mathlib.Core.List.Memᴰ
use mathlib.Core.List.{List, [], ◌∷◌, append-nil, Memᴰ}
use Prim.Native.Nat.{ℕ, ◌+◌, ◌≤◌, ◌<◌}
use native.Mathlib.Omega.{arith}
use lib.ListN.{length}
use Rattle.base_limits.specs.Limits.{most_terms}
use Rattle.base_lists.specs.Seqs.{All, all_map}
use Rattle.math_types.specs.Order.{Order}
use Rattle.math_terms.specs.Constants.{Consts}
use Rattle.math_terms.specs.Seqs.{concat_map}
use Rattle.math_terms.proofs.Seqs.{concat_map_twice}
use Rattle.math_overlaps.specs.Shapes.{Vars}
use Rattle.math_search.specs.Problems.{Setting, atomic, listvar, Tm, Field, Bindings, solved, equation, Problem, problem, rest, bindings, used}
use Rattle.math_search.specs.Problems.{root}
use Rattle.math_search.specs.Fresh.{lowest, numbers}
use Rattle.math_search.specs.Rules.{occurs, occur, children, Met}
use Rattle.math_search.specs.Termination.{Lower}
use Rattle.math_search.specs.Queue.{rank, total, Result, answers, refused, unfinished, run, searching}
use Rattle.math_search.specs.Answers.{StandsIn, Linear, Solves, ground, WellTyped, Covers}
use Rattle.math_search.proofs.Seqs.{all_every, concat_map_agree}
use Rattle.math_search.proofs.Counts.{Other, absent, occurs_not}
use Rattle.math_search.proofs.Effects.{Falls}
use Rattle.math_search.proofs.Bound.{rest_right}
use Rattle.math_search.proofs.Invariant.{Unbound}
use Rattle.math_search.proofs.Children.{children_fall}
use Rattle.math_search.proofs.Falling.{weight_pos}
use Rattle.math_search.proofs.Queue.{IsUnfinished, given, run_ends, run_more, run_room, run_keeps, began, began_answers, begins, answers_room}
use Rattle.math_search.proofs.Tree.{Fine, root_fine, child_fine, fine_values, fine_names, met_fine, fine_known}
use Rattle.math_search.proofs.Complete.{fine_solves, run_complete, through}
use Rattle.math_search.proofs.Fresh.{lowest_small}

module _ (E : Setting) where
  open E use {constants, variables, names}
  open constants use {Con}
  open variables use {Var}
  open names use {Name, pick, pick_new}

  -- ---- every search ends

  pub searching_ends : (room : ℕ) (L M : Field E) → searching E room L M ≡ unfinished → ⊥
  searching_ends room L M e = go (began E room L M unfinished e)
    where
      go : (◌≡◌ {A = Result E} unfinished refused) ⊎ (run E (total E (root E L M ∷ [])) room (root E L M ∷ []) ≡ unfinished) → ⊥
      go (inl f) = subst (IsUnfinished E) f tt
      go (inr s) = run_ends E (total E (root E L M ∷ [])) room (root E L M ∷ []) (omega arith) s

  -- ---- the answers (Theorems 2 and 3 of document 001)

  answers_fine : (room : ℕ) (L M : Field E) (xs : List (Bindings E)) → Linear E L M
      → searching E room L M ≡ answers xs → All (λ σ. (u : List Name) × Fine E L M (problem solved σ u)) xs
  answers_fine room L M xs l e =
      run_keeps E (Fine E L M) (child_fine E L M) (total E (root E L M ∷ [])) room (root E L M ∷ []) xs (root_fine E L M l, tt) (began_answers E room L M xs e)

  pub searching_sound : (room : ℕ) (L M : Field E) (xs : List (Bindings E)) → Linear E L M → searching E room L M ≡ answers xs → All (Solves E L M) xs
  searching_sound room L M xs l e =
      all_map (λ σ. (u : List Name) × Fine E L M (problem solved σ u)) (Solves E L M) (λ σ h. fine_solves E L M σ h.0 h.1) xs
      (answers_fine room L M xs l e)

  pub searching_complete : (room : ℕ) (L M : Field E) (xs : List (Bindings E)) → Linear E L M → searching E room L M ≡ answers xs
      → (ρ : Var → Con) (m : Name → List Con) → WellTyped E ρ → concat_map (ground E ρ m) L ≡ concat_map (ground E ρ m) M
      → (σ : Bindings E) × Memᴰ σ xs × Covers E (StandsIn E L M) ρ m σ
  searching_complete room L M xs l e ρ m ty h =
      run_complete E L M ρ m ty (total E (root E L M ∷ [])) room (root E L M ∷ []) xs (root_fine E L M l, tt) (began_answers E room L M xs e)
      (root E L M) (Memᴰ.head refl) (m, (h, λ t. sym (append-nil (ground E ρ m t))), λ t r. refl)

  pub searching_none : (room : ℕ) (L M : Field E) → Linear E L M → searching E room L M ≡ answers []
      → (ρ : Var → Con) (m : Name → List Con) → WellTyped E ρ → concat_map (ground E ρ m) L ≡ concat_map (ground E ρ m) M → ⊥
  searching_none room L M l e ρ m ty h = Memᴰ.not-nil (searching_complete room L M [] l e ρ m ty h).1

  -- values of their types for an answer's variables, put into it, are values of their types for the equation's, and solve it
  pub instances : (L M : Field E) (σ : Bindings E) → Solves E L M σ → (ρ : Var → Con) (m : Name → List Con) → WellTyped E ρ
      → (ρ' : Var → Con) × (m' : Name → List Con) × WellTyped E ρ' × ((t : Tm E) → ground E ρ' m' t ≡ concat_map (ground E ρ m) (σ t))
      × (concat_map (ground E ρ' m') L ≡ concat_map (ground E ρ' m') M)
  instances L M σ h ρ m ty =
      let r = through E σ h.1 ρ m ty in
      (r.0, r.1, r.2, r.3, along r.0 r.1 r.3 L ∙ ap (concat_map (ground E ρ m)) h.0 ∙ sym (along r.0 r.1 r.3 M))
    where
      along : (ρ' : Var → Con) (m' : Name → List Con) → ((t : Tm E) → ground E ρ' m' t ≡ concat_map (ground E ρ m) (σ t))
          → (K : Field E) → concat_map (ground E ρ' m') K ≡ concat_map (ground E ρ m) (concat_map σ K)
      along ρ' m' g K =
          concat_map_agree (ground E ρ' m') (λ t. concat_map (ground E ρ m) (σ t)) K (all_every (λ t. ground E ρ' m' t ≡ concat_map (ground E ρ m) (σ t)) K g)
          ∙ sym (concat_map_twice (ground E ρ m) σ K)

  -- ---- termination (Theorem 1 of document 001, amended)

  pub steps_fall : (L M : Field E) (σ : Bindings E) (u : List Name) → All (λ c. Lower E (rest E c.1) L M) (children E (problem (equation L M) σ u))
  steps_fall L M σ u =
      all_map (λ c. Falls E (rest E c.1) L M) (λ c. Lower E (rest E c.1) L M) (λ c h. h.1)
      (children E (problem (equation L M) σ u)) (children_fall E L M σ u)

  -- ---- the fresh list variable

  pub fresh_new : (A B L M : Field E) (σ : Bindings E) (u : List Name) → Linear E A B → Met E A B (problem (equation L M) σ u)
      → (occurs E (listvar (pick u)) L ≡ false) × (occurs E (listvar (pick u)) M ≡ false)
      × ((t : Tm E) → StandsIn E A B t → occurs E (listvar (pick u)) (σ t) ≡ false)
  fresh_new A B L M σ u l m =
      (absent_in L h.inv.ok.0, absent_in M h.inv.ok.1, λ t r. absent_in (σ t) (h.inv.vals t (fine_known E A B (problem (equation L M) σ u) h t r)))
    where
      h : Fine E A B (problem (equation L M) σ u)
      h = met_fine E A B l (problem (equation L M) σ u) m

      absent_in : (K : Field E) → All (Unbound E σ u) K → occurs E (listvar (pick u)) K ≡ false
      absent_in K a = occurs_not E (listvar (pick u)) K (all_map (Unbound E σ u) (Other E (listvar (pick u))) (λ t o. o.1 (pick u) (pick_new u)) K a)

  -- ---- room: refusal 9

  pub searching_more : (room room' : ℕ) → room ≤ room' → (L M : Field E) (xs : List (Bindings E))
      → searching E room L M ≡ answers xs → searching E room' L M ≡ answers xs
  searching_more room room' h L M xs e =
      begins E room' L M some_room ∙ run_more E (total E (root E L M ∷ [])) room room' h (root E L M ∷ []) xs (began_answers E room L M xs e)
    where
      some_room : 1 ≤ room'
      some_room = omega (arith, answers_room E room L M xs e)

  pub same_answers : (room room' : ℕ) (L M : Field E) (xs ys : List (Bindings E))
      → searching E room L M ≡ answers xs → searching E room' L M ≡ answers ys → xs ≡ ys
  same_answers room room' L M xs ys e f =
      ap (given E) (sym (searching_more room (room + room') (omega arith) L M xs e) ∙ searching_more room' (room + room') (omega arith) L M ys f)

  pub searching_room : (room : ℕ) (L M : Field E) → total E (root E L M ∷ []) ≤ room → searching E room L M ≡ refused → ⊥
  searching_room room L M h e =
      run_room E (total E (root E L M ∷ [])) room (root E L M ∷ []) h (sym (begins E room L M (omega (arith, weight_pos E (rank E (rest E (root E L M)))))) ∙ e)

  -- ---- sizes

  pub answers_short : (room : ℕ) (L M : Field E) (xs : List (Bindings E)) → Linear E L M → searching E room L M ≡ answers xs
      → All (λ σ. (t : Tm E) → StandsIn E L M t → length (σ t) ≤ length L + length M) xs
  answers_short room L M xs l e =
      all_map (λ σ. (u : List Name) × Fine E L M (problem solved σ u)) (λ σ. (t : Tm E) → StandsIn E L M t → length (σ t) ≤ length L + length M)
      (λ σ h t i. fine_values E L M (problem solved σ h.0) h.1 t i) xs (answers_fine room L M xs l e)

  -- the same of every problem that is met: with 16 terms a field, 32
  pub values_short : (A B : Field E) → Linear E A B → length A ≤ most_terms → length B ≤ most_terms
      → (p : Problem E) → Met E A B p → (t : Tm E) → StandsIn E A B t → length (bindings E p t) ≤ most_terms + most_terms
  values_short A B l a b p m t i = omega (arith, fine_values E A B p (met_fine E A B l p m) t i)

  -- and 34 list variables
  pub names_few : (A B : Field E) → Linear E A B → length A ≤ most_terms → length B ≤ most_terms → (p : Problem E) → Met E A B p → length (used E p) ≤ 34
  names_few A B l a b p m = omega (arith, fine_names E A B p (met_fine E A B l p m))

  -- ---- failure

  pub occur_never : (A B L M : Field E) (σ : Bindings E) (u : List Name) → Linear E A B → Met E A B (problem (equation L M) σ u) → occur E L M ≡ false
  occur_never A B L M σ u l m = no_occur L M (met_fine E A B l (problem (equation L M) σ u) m).inv.lin
    where
      no_occur : (L M : Field E) → Linear E L M → occur E L M ≡ false
      no_occur [] M l = refl
      no_occur (atomic a ∷ L) M l = refl
      no_occur (listvar x ∷ []) M l = rw (occurs_not E (listvar x) M (absent E x M (rest_right E x [] M l)))
      no_occur (listvar x ∷ (t ∷ L)) M l = refl

-- with numbers as list variables: "A 64-bit set holds the list variables of a problem and its bindings"
module _ (O : Order) (C : Consts O) (N : Vars O) where
  abbrev Numbered : Setting
  Numbered = record { order = O; constants = C; variables = N; names = numbers }

  pub fresh_small : (A B : Field Numbered) → Linear Numbered A B → length A ≤ most_terms → length B ≤ most_terms
      → (p : Problem Numbered) → Met Numbered A B p → lowest (used Numbered p) < 64
  fresh_small A B l a b p m = omega (arith, lowest_small (used Numbered p), names_few Numbered A B l a b p m)
