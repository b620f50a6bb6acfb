-- Laws of the listing: lines one behind the other, their counts, and the lent bytes. Assumes nothing.
use mathlib.Core.Path.{◌≡◌, sym, ◌∙◌, ap, ap₂, subst}
use mathlib.Core.List.{List, [], ◌∷◌, ◌++◌, append-nil}
use Prim.Native.Nat.{ℕ, suc, ◌+◌, ◌-◌, ◌*◌, ◌≤◌, min}
use native.Mathlib.Omega.{arith}
use lib.ListN.{length, take, drop, length-append}
use lib.Seq.{sets, length-sets}
use Rattle.base_lists.specs.Arrays.{sets_append}
use Rattle.math_terms.proofs.Seqs.{concat_map_append}
use Rattle.text_write.specs.pieces.Stored.{bytes_of}
use Rattle.text_write.proofs.pieces.Stored.{bytes_length, store_part}
use Rattle.pair_state.specs.declared.State.{State}
use Rattle.std.specs.Prelude.{Some, None}
use Rattle.std.specs.Prelude as std
use Rattle.overlap_entries.specs.declared.Span.{Span}
use Rattle.overlap_entries.specs.declared.Choice.{Choice}
use Rattle.overlap_entries.specs.Entries.{chosen_at}
use Rattle.pair_lines.specs.Lines.{line_bound}
use Rattle.overlap_counts.specs.declared.Counts.{Counts}
use Rattle.overlap_entries.specs.declared.Candidate.{Candidate}
use Rattle.overlap_list.specs.Listing.{span_at, after_join, candidate_of, joins_at, candidate_lines, choice_lines, lines_from, lines_in, choices_in}
use Rattle.overlap_list.specs.Listing.{tallied, Stores, Moderate, Countable}

-- ---- counts

pub tally_none : (t : Counts) → tallied t [] ≡ t
tally_none t = ap₂ (λ (e b : ℕ). record { entries = e; bytes = b }) (omega arith) (omega arith)

-- one line more
one_more : (l : List ℕ) → length (bytes_of (l ∷ [])) ≡ length l
one_more l = ap length (append-nil l)

pub tally_one : (t : Counts) (l : List ℕ) (n : ℕ) → n ≡ 0 + length l → record { entries = t.entries + 1; bytes = t.bytes + n } ≡ tallied t (l ∷ [])
tally_one t l n e =
    ap (λ (m : ℕ). record { entries = t.entries + 1; bytes = t.bytes + m })
    (let q : n ≡ length l = omega (arith, e) in q ∙ sym (one_more l))

module _ (t : Counts) (l : List ℕ) (n : ℕ) (short : n ≤ line_bound) (h : Countable t (l ∷ [])) where
  pub still_moderate : t.bytes + n ≤ line_bound * (t.entries + 1)
  still_moderate = omega (arith, h.0, short)

pub tally_append : (t : Counts) (a b : List (List ℕ)) → tallied (tallied t a) b ≡ tallied t (a ++ b)
tally_append t a b = ap₂ (λ (e n : ℕ). record { entries = e; bytes = n }) (omega (arith, length-append a b)) (omega (arith, bytes_length a b))

module _ (t : Counts) (a b : List (List ℕ)) (h : Countable t (a ++ b)) where
  pub countable_first : Countable t a
  countable_first = (h.0, omega (arith, h.1, length-append a b))

  pub countable_next : (u : Counts) → u ≡ tallied t a → Moderate u → Countable u b
  countable_next u e m = (m, omega (arith, h.1, length-append a b, ap (λ (x : Counts). x.entries) e))

-- ---- bytes

-- a line in the part of the bytes from its place on, which is lent to the line writer
pub line_part : (l old : List ℕ) (n at : ℕ) {m : List ℕ} → at ≡ min n (length old) → m ≡ sets (take (length old - at) (drop at old)) 0 l
    → take at old ++ (m ++ drop (length old - at) (drop at old)) ≡ sets old n (bytes_of (l ∷ []))
line_part l old n at a e = store_part l old n at a e ∙ ap (sets old n) (sym (append-nil l))

-- ---- what is left to list

module _ (next : Choice → State → List (List ℕ)) (row : List ℕ) (j k : ℕ) (ch : Choice) (st : State) where
  choice_goes : 1 ≤ k
      → choice_lines next row j k ch st ≡ candidate_lines next row j (candidate_of (span_at row j) k) ch st ++ choice_lines next row j (k - 1) ch st
  choice_goes h =
      let e : k ≡ suc (k - 1) = omega arith in
      ap (λ (m : ℕ). choice_lines next row j m ch st) e
      ∙ ap (λ (m : ℕ). candidate_lines next row j (candidate_of (span_at row j) m) ch st ++ choice_lines next row j (k - 1) ch st) (sym e)

  -- by what the joins of the candidate say
  module _ (s : Span) (c : Candidate) (r : std.Option State) (h : 1 ≤ k) (is-s : s ≡ span_at row j) (is_c : c ≡ candidate_of s k)
      (is-r : r ≡ joins_at row j c.items st) where
    by : (q : std.Option State) → r ≡ q
        → choice_lines next row j k ch st ≡ after_join q (next (chosen_at ch j c.items c.long)) ++ choice_lines next row j (k - 1) ch st
    by q e =
        choice_goes h
        ∙ ap (λ (d : Candidate). candidate_lines next row j d ch st ++ choice_lines next row j (k - 1) ch st)
        (ap (λ (x : Span). candidate_of x k) (sym is-s) ∙ sym is_c)
        ∙ ap (λ (x : std.Option State). after_join x (next (chosen_at ch j c.items c.long)) ++ choice_lines next row j (k - 1) ch st) (sym is-r ∙ e)

    pub choice_clash : r ≡ None → choice_lines next row j k ch st ≡ choice_lines next row j (k - 1) ch st
    choice_clash e = by None e

    pub choice_alive : (d : Choice) (nx : State) → r ≡ Some nx → d ≡ chosen_at ch j c.items c.long
        → choice_lines next row j k ch st ≡ next d nx ++ choice_lines next row j (k - 1) ch st
    choice_alive d nx e is-d = by (Some nx) e ∙ ap (λ (x : Choice). next x nx ++ choice_lines next row j (k - 1) ch st) (sym is-d)

-- ---- what a call leaves: the counts and the bytes of its lines, from the counts t and the bytes old

module _ (t : Counts) (old : List ℕ) where
  -- the bytes stay as many
  pub listed_length : (ls : List (List ℕ)) {u : Counts} {new : List ℕ} → Stores ls t old u new → length new ≡ length old
  listed_length ls h = ap length h.1 ∙ length-sets old t.bytes (bytes_of ls)

-- lines behind others
stores_append : (a b : List (List ℕ)) (at : ℕ) (old : List ℕ)
    → sets (sets old at (bytes_of a)) (at + length (bytes_of a)) (bytes_of b) ≡ sets old at (bytes_of (a ++ b))
stores_append a b at old = sets_append (bytes_of a) (bytes_of b) old at ∙ ap (sets old at) (sym (concat_map_append (λ l. l) a b))

-- ---- the candidates of field j one after the other, from the counts t and the bytes old: k are left, and what is left makes what was to list

module _ (row texts : List ℕ) (n j : ℕ) (ch : Choice) (st : State) (t : Counts) (old : List ℕ) where
  abbrev next : Choice → State → List (List ℕ)
  next = lines_from (n - (j + 1)) row texts n (j + 1)

  abbrev rest : ℕ → List (List ℕ)
  rest k = choice_lines next row j k ch st

  abbrev all : List (List ℕ)
  all = choices_in row texts n j ch st

  pub record Choosing (s : Span) (k : ℕ) (u : Counts) (out : List ℕ) : Type 0 where
    pub span_is : s ≡ span_at row j
    pub within : k ≤ (span_at row j).count
    pub counts : tallied u (rest k) ≡ tallied t all
    pub stores : sets out u.bytes (bytes_of (rest k)) ≡ sets old t.bytes (bytes_of all)
    pub can : Countable u (rest k)
    pub long : length out ≡ length old

  module _ (s : Span) (k : ℕ) (u : Counts) (out : List ℕ) (C : Choosing s k u out) where
    module _ (h : 1 ≤ k) (c : Candidate) (r : std.Option State) (is_c : c ≡ candidate_of s k) (is-r : r ≡ joins_at row j c.items st) where
      pub choosing_clash : r ≡ None → Choosing s (k - 1) u out
      choosing_clash q =
          let e = choice_clash next row j k ch st s c r h C.span_is is_c is-r q in
          record {
            span_is = C.span_is;
            within = omega (arith, C.within);
            counts = ap (tallied u) (sym e) ∙ C.counts;
            stores = ap (λ (l : List (List ℕ)). sets out u.bytes (bytes_of l)) (sym e) ∙ C.stores;
            can = subst (Countable u) e C.can;
            long = C.long;
          }

      module _ (d : Choice) (nx : State) (ok : r ≡ Some nx) (is-d : d ≡ chosen_at ch j c.items c.long) where
        abbrev here : List (List ℕ)
        here = lines_in row texts n (j + 1) d nx

        splits : rest k ≡ here ++ rest (k - 1)
        splits = choice_alive next row j k ch st s c r h C.span_is is_c is-r d nx ok is-d

        can_both : Countable u (here ++ rest (k - 1))
        can_both = subst (Countable u) splits C.can

        pub choosing_first : Countable u here
        choosing_first = countable_first u here (rest (k - 1)) can_both

        pub choosing_alive : (v : Counts) (m : List ℕ) → Stores here u out v m → Moderate v → Choosing s (k - 1) v m
        choosing_alive v m l o =
            record {
              span_is = C.span_is;
              within = omega (arith, C.within);
              counts =
                  ap (λ (x : Counts). tallied x (rest (k - 1))) l.0
                  ∙ tally_append u here (rest (k - 1))
                  ∙ ap (tallied u) (sym splits)
                  ∙ C.counts;
              stores =
                  ap₂ (λ (x : List ℕ) (y : Counts). sets x y.bytes (bytes_of (rest (k - 1)))) l.1 l.0
                  ∙ stores_append here (rest (k - 1)) u.bytes out
                  ∙ ap (λ (x : List (List ℕ)). sets out u.bytes (bytes_of x)) (sym splits)
                  ∙ C.stores;
              can = countable_next u here (rest (k - 1)) can_both v l.0 o;
              long = listed_length u out here l ∙ C.long;
            }
