-- Left-linearity as code keeps it is document 01's: at each place the tracker knows of the occurrences before it what a clash depends on.
-- `tracks_none`, `tracks_next`, `tracks_add` and `tracks_clash` are the steps; reading takes the same ones over the terms of a text.
use mathlib.Core.Path.{◌≡◌, refl, sym, ◌∙◌}
use mathlib.Core.Logic.{◌↔◌, ◌⊎◌, inl, inr}
use mathlib.Core.Bool.{true, false, ◌&&◌, not, false≢true}
use mathlib.Core.List.{List, [], ◌∷◌, ◌++◌, foldl, append-nil, append_assoc, Memᴰ}
use Prim.Native.Nat.{ℕ, suc, ◌≤◌}
use native.Mathlib.Omega.{arith}
use native.Mathlib.Decide.{ℕ_discrete}
use lib.ListN.{length, get_or, set, length-set, get_or-replicate}
use lib.Seq.{get_or-set_same, get_or-set_other}
use Rattle.base_limits.specs.Limits.{largest_number, numbers_of_side}
use Rattle.base_lists.specs.Seqs.{All, Any, any?, all_append, all_map, any_left, any_right, any_map}
use Rattle.math_types.specs.Order.{basic, list}
use Rattle.math_terms.specs.Terms.{con, var}
use Rattle.text_grammar.specs.Terms.{OurTerm, OurFields}
use Rattle.text_grammar.specs.Leftmost.{NoneOf}
use Rattle.text_grammar.specs.Tokens.{Occ, Clash, clash?}
use Rattle.text_grammar.specs.Limits.{TermIn, occ_t, occ_f, occ_r, Linear}
use Rattle.text_accepted.specs.declared.linearity.Lists.{Lists}
use Rattle.text_accepted.specs.linearity.Lists.{no_lists, next_field, still_ok, add_list, add_term, add_field, linear}
use Rattle.base_lists.specs.Truths.{both_is, not_is, false_is}

-- ---- some member of a list
module _ {A : Type 0} where
  any_append : (P : A → Type 0) (s t : List A) → Any P (s ++ t) → Any P s ⊎ Any P t
  any_append P [] t a = inr a
  any_append P (x ∷ s) t (inl p) = inl (inl p)
  any_append P (x ∷ s) t (inr a) = go (any_append P s t a)
    where
      go : Any P s ⊎ Any P t → Any P (x ∷ s) ⊎ Any P t
      go (inl p) = inl (inr p)
      go (inr q) = inr q

  any_either : (P Q : A → Type 0) (s : List A) → Any (λ x. P x ⊎ Q x) s → Any P s ⊎ Any Q s
  any_either P Q (x ∷ s) (inl (inl p)) = inl (inl p)
  any_either P Q (x ∷ s) (inl (inr q)) = inr (inl q)
  any_either P Q (x ∷ s) (inr a) = go (any_either P Q s a)
    where
      go : Any P s ⊎ Any Q s → Any P (x ∷ s) ⊎ Any Q (x ∷ s)
      go (inl p) = inl (inr p)
      go (inr q) = inr (inr q)
  any_either P Q [] x' = elim x' [ ]

  any_not : (P Q : A → Type 0) → ((x : A) → P x → Q x → ⊥) → (s : List A) → All P s → Any Q s → ⊥
  any_not P Q f (x ∷ s) h (inl q) = f x h.0 q
  any_not P Q f (x ∷ s) h (inr a) = any_not P Q f s h.1 a
  any_not P Q f [] h x'' = elim x'' [ ]

  -- none of s, and behind s none of t
  pub none_append : (P : List A → A → Type 0) (before s t : List A) → NoneOf P before (s ++ t) ↔ (NoneOf P before s × NoneOf P (before ++ s) t)
  none_append P before [] t = (λ h. (tt, rw append-nil h), λ h. rw append-nil at h.1)
  none_append P before (x ∷ s) t =
      let r : NoneOf P (before ++ x ∷ []) (s ++ t)
      ↔ (NoneOf P (before ++ x ∷ []) s × NoneOf P (before ++ x ∷ s) t) = rw append_assoc at (none_append P (before ++ x ∷ []) s t) in
      (λ h. ((h.0, (r.0 h.1).0), (r.0 h.1).1), λ h. (h.0.0, r.1 (h.0.1, h.1)))

-- document 01's left-linearity: none of the occurrences os clashes with one before it
abbrev pub Apart : List Occ → List Occ → Type 0
Apart before os = NoneOf (λ b o. Any (Clash o) b) before os

pub apart_append : (before os ps : List Occ) → Apart before (os ++ ps) ↔ (Apart before os × Apart (before ++ os) ps)
apart_append = none_append (λ b o. Any (Clash o) b)

-- ---- what the tracker knows in field n, behind the occurrences `before`
abbrev pub InField : ℕ → Occ → Type 0
InField n o = o.0 ≡ n

abbrev pub Numbered : ℕ → Occ → Type 0
Numbered v o = o.1 ≡ v

pub record Tracks (before : List Occ) (n : ℕ) (l : Lists) : Type 0 where
  pub here_is : (l.here ≡ true) ↔ Any (InField n) before
  pub seen_is : (v : ℕ) → v ≤ largest_number → (get_or l.seen v false ≡ true) ↔ Any (Numbered v) before
  pub places : length l.seen ≡ numbers_of_side
  pub so_far : All (λ o. o.0 ≤ n) before

-- before the first field
pub tracks_none : (n : ℕ) → Tracks [] n no_lists
tracks_none n =
    record {
      here_is = (λ e. false≢true e, λ a. absurd a);
      seen_is = λ v h. (λ e. false≢true (sym (get_or-replicate numbers_of_side v false false (omega arith)) ∙ e), λ a. absurd a);
      places = refl;
      so_far = tt;
    }

-- at the next field
pub tracks_next : {before : List Occ} {n : ℕ} {l : Lists} → Tracks before n l → Tracks before (suc n) (next_field l)
tracks_next {before} {n} {l} t =
    record {
      here_is = (λ e. absurd (false≢true e), λ a. absurd (any_not (λ o. o.0 ≤ n) (InField (suc n)) (λ o h e. omega arith) before t.so_far a));
      seen_is = t.seen_is;
      places = t.places;
      so_far = all_map (λ o. o.0 ≤ n) (λ o. o.0 ≤ suc n) (λ o h. omega arith) before t.so_far;
    }

-- behind the list variable of number v
pub tracks_add : {before : List Occ} {n : ℕ} {l : Lists} (v : ℕ) → Tracks before n l → v ≤ largest_number → Tracks (before ++ (n, v) ∷ []) n (add_list l v)
tracks_add {before} {n} {l} v t h =
    record {
      here_is = (λ e. any_right (InField n) before ((n, v) ∷ []) (inl refl), λ a. refl);
      seen_is = λ u k. seen u k (ℕ_discrete u v);
      places = length-set l.seen v true ∙ t.places;
      so_far = all_append (λ o. o.0 ≤ n) before ((n, v) ∷ []) t.so_far (omega arith, tt);
    }
  where
    seen : (u : ℕ) → u ≤ largest_number → Dec (u ≡ v) → (get_or (set l.seen v true) u false ≡ true) ↔ Any (Numbered u) (before ++ (n, v) ∷ [])
    seen u k (yes e) =
        (λ g. any_right (Numbered u) before ((n, v) ∷ []) (inl (sym e)), λ a. rw (e, get_or-set_same l.seen v true false (omega (arith, t.places))))
    seen u k (no d) =
        let same : get_or (set l.seen v true) u false ≡ get_or l.seen u false = get_or-set_other l.seen v u true false d in (
          λ g. any_left (Numbered u) before ((n, v) ∷ []) ((t.seen_is u k).0 (sym same ∙ g)),
          λ a. same ∙ (t.seen_is u k).1 (old (any_append (Numbered u) before ((n, v) ∷ []) a)),
        )
      where
        old : Any (Numbered u) before ⊎ Any (Numbered u) ((n, v) ∷ []) → Any (Numbered u) before
        old (inl a) = a
        old (inr (inl e)) = absurd (d (sym e))
        old (inr (inr x)) = elim x [ ]

-- it stays true exactly where it was, and the list variable of number v clashes with none before
pub tracks_still : {before : List Occ} {n : ℕ} {l : Lists} (v : ℕ) → Tracks before n l
    → v ≤ largest_number → (still_ok l v ≡ true) ↔ ((l.ok ≡ true) × (Any (Clash (n, v)) before → ⊥))
tracks_still {before} {n} {l} v t h = (to, from)
  where
    to : still_ok l v ≡ true → (l.ok ≡ true) × (Any (Clash (n, v)) before → ⊥)
    to e =
        let p = (both_is l.ok (not l.here && not (get_or l.seen v false))).0 e in
        let q = (both_is (not l.here) (not (get_or l.seen v false))).0 p.1 in
        (p.0, λ a. go q (any_either (InField n) (Numbered v) before a))
      where
        go : (not l.here ≡ true) × (not (get_or l.seen v false) ≡ true) → Any (InField n) before ⊎ Any (Numbered v) before → ⊥
        go q (inl a) = (not_is l.here).0 q.0 (t.here_is.1 a)
        go q (inr a) = (not_is (get_or l.seen v false)).0 q.1 ((t.seen_is v h).1 a)

    from : (l.ok ≡ true) × (Any (Clash (n, v)) before → ⊥) → still_ok l v ≡ true
    from p =
        (both_is l.ok (not l.here && not (get_or l.seen v false))).1 (
          p.0,
          (both_is (not l.here) (not (get_or l.seen v false))).1 (
            (not_is l.here).1 (λ e. p.1 (any_map (InField n) (Clash (n, v)) (λ o q. inl q) before (t.here_is.0 e))),
            (not_is (get_or l.seen v false)).1 (λ e. p.1 (any_map (Numbered v) (Clash (n, v)) (λ o q. inr q) before ((t.seen_is v h).0 e))),
          ),
        )

-- it turns false exactly at a clash
pub tracks_clash : {before : List Occ} {n : ℕ} {l : Lists} (v : ℕ) → Tracks before n l
    → v ≤ largest_number → l.ok ≡ true → (still_ok l v ≡ false) ↔ Any (Clash (n, v)) before
tracks_clash {before} {n} {l} v t h k =
    (λ e. to e (any? (Clash (n, v)) (clash? (n, v)) before), λ a. (false_is (still_ok l v)).1 (λ e. ((tracks_still v t h).0 e).1 a))
  where
    to : still_ok l v ≡ false → Dec (Any (Clash (n, v)) before) → Any (Clash (n, v)) before
    to e (yes a) = a
    to e (no d) = absurd ((false_is (still_ok l v)).0 e ((tracks_still v t h).1 (k, d)))

-- ---- over a field, and over a rule

-- from l to m, where the occurrences os were met behind `before`, it stays true exactly if they are apart
abbrev pub Walked : List Occ → List Occ → Lists → Lists → Type 0
Walked before os l m = (m.ok ≡ true) ↔ ((l.ok ≡ true) × Apart before os)

walked_then : (before os ps : List Occ) (l m q : Lists) → Walked before os l m → Walked (before ++ os) ps m q → Walked before (os ++ ps) l q
walked_then before os ps l m q g h =
    let both = apart_append before os ps in (
      λ e. ((g.0 (h.0 e).0).0, both.1 ((g.0 (h.0 e).0).1, (h.0 e).1)),
      λ k. let n = both.0 k.1 in h.1 (g.1 (k.0, n.0), n.1),
    )

pub walked_term : {before : List Occ} {n : ℕ} {l : Lists} (t : OurTerm) → TermIn t → Tracks before n l
    → Tracks (before ++ occ_t n t) n (add_term l t) × Walked before (occ_t n t) l (add_term l t)
walked_term {before} (con c) h r = (rw append-nil r, (λ e. (e, tt), λ k. k.0))
walked_term {before} (var (basic k) v) h r = (rw append-nil r, (λ e. (e, tt), λ k. k.0))
walked_term {before} {n} {l} (var list v) h r =
    let s = tracks_still v r h in
    (tracks_add v r h, (λ e. ((s.0 e).0, ((s.0 e).1, tt)), λ k. s.1 (k.0, k.1.0)))

pub walked_terms : {before : List Occ} {n : ℕ} {l : Lists} (ts : List OurTerm) → All TermIn ts → Tracks before n l
    → Tracks (before ++ occ_f n ts) n (foldl add_term l ts) × Walked before (occ_f n ts) l (foldl add_term l ts)
walked_terms [] h r = (rw append-nil r, (λ e. (e, tt), λ k. k.0))
walked_terms {before} {n} {l} (t ∷ ts) h r =
    let one = walked_term t h.0 r in
    let rest = walked_terms ts h.1 one.0 in
    (rw append_assoc at rest.0, walked_then before (occ_t n t) (occ_f n ts) l (add_term l t) (foldl add_term (add_term l t) ts) one.1 rest.1)

pub walked_fields : {before : List Occ} {n : ℕ} {l : Lists} (r : OurFields)
    → All (All TermIn) r → Tracks before n l → Walked before (occ_r (suc n) r) l (foldl add_field l r)
walked_fields [] h t = (λ e. (e, tt), λ k. k.0)
walked_fields {before} {n} {l} (f ∷ fs) h t =
    let one = walked_terms f h.0 (tracks_next t) in
    walked_then before (occ_f (suc n) f) (occ_r (suc (suc n)) fs) l (add_field l f) (foldl add_field (add_field l f) fs) one.1 (walked_fields fs h.1 one.0)

-- LEFT-LINEARITY
pub linear_is : (r : OurFields) → All (All TermIn) r → (linear r ≡ true) ↔ Linear r
linear_is r h = let w = walked_fields r h (tracks_none 0) in (λ e. (w.0 e).1, λ n. w.1 (refl, n))

-- ---- a field of a left-linear rule is left-linear alone

-- with another number for the field, and less before it
renumbered : (ts : List OurTerm) (n k : ℕ) (before less : List Occ)
    → ((v : ℕ) → Any (Clash (k, v)) less → Any (Clash (n, v)) before) → Apart before (occ_f n ts) → Apart less (occ_f k ts)
renumbered [] n k before less f h = tt
renumbered (con c ∷ ts) n k before less f h = renumbered ts n k before less f h
renumbered (var (basic b) v ∷ ts) n k before less f h = renumbered ts n k before less f h
renumbered (var list v ∷ ts) n k before less f h =
    (λ a. h.0 (f v a), renumbered ts n k (before ++ (n, v) ∷ []) (less ++ (k, v) ∷ []) (λ u a. go u (any_append (Clash (k, u)) less ((k, v) ∷ []) a)) h.1)
  where
    go : (u : ℕ) → Any (Clash (k, u)) less ⊎ Any (Clash (k, u)) ((k, v) ∷ []) → Any (Clash (n, u)) (before ++ (n, v) ∷ [])
    go u (inl a) = any_left (Clash (n, u)) before ((n, v) ∷ []) (f u a)
    go u (inr a) = any_right (Clash (n, u)) before ((n, v) ∷ []) (inl (inl refl))

one_field : (r : OurFields) (ts : List OurTerm) (n : ℕ) (before : List Occ) → Apart before (occ_r n r) → Memᴰ ts r → Apart [] (occ_f 1 ts)
one_field (f ∷ fs) ts n before h (Memᴰ.head e) =
    rw e (renumbered f n 1 before [] (λ v a. absurd a) ((apart_append before (occ_f n f) (occ_r (suc n) fs)).0 h).0)
one_field (f ∷ fs) ts n before h (Memᴰ.tail m) = one_field fs ts (suc n) (before ++ occ_f n f) ((apart_append before (occ_f n f) (occ_r (suc n) fs)).0 h).1 m
one_field [] ts n before h x'' = elim x'' [ ]

pub linear_field : (r : OurFields) (ts : List OurTerm) → Linear r → Memᴰ ts r → Linear (ts ∷ [])
linear_field r ts h m = rw append-nil (one_field r ts 1 [] h m)
