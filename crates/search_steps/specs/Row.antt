-- A row of problem records, and when it is blank. Document 01: "Afterwards every record of the row is the blank record".
--     Upto         the first i records are blank
--     one_more     one record more is made blank
--     upto_all     where every record is blank, the row is the row of blanks
-- Assumes nothing.
use Rattle.std.specs.Prelude.{◌≡◌, ℕ, ◌+◌, ◌<◌, ◌≤◌, Bool, true, false, T, ◌⊎◌, List, length, replicate, ◌==◌, ◌≢◌, slice_index_or, slice_set, refl}
use Rattle.std.proofs.Common.{sym, ◌∙◌, subst, inl, inr, arith, eqb→eq, length-set, get_or-set_same, get_or-set_other, ext_get_or}
use Rattle.std.proofs.Math.Dec.{eqb_refl}
use Rattle.std.proofs.lemmas.List.{length-replicate, get_or-replicate}
use Rattle.search_problems.specs.declared.Problem.{Problem}
use Rattle.search_problems.specs.Values.{blank_problem}

abbrev pub blanks : ℕ → List Problem
blanks n = replicate n blank_problem

same_by : (i j : ℕ) (b : Bool) → (i == j) ≡ b → (i ≡ j) ⊎ (i ≢ j)
same_by i j true e = inl (eqb→eq i j (subst T (sym e) tt))
same_by i j false e = inr (λ h. subst T (subst (λ (k : ℕ). (i == k) ≡ false) (sym h) e) (eqb_refl i))

wiped_by : (l : List Problem) (i j : ℕ) → i < length l → (j ≡ i) ⊎ (j ≢ i)
    → ((j ≢ i) → slice_index_or l j blank_problem ≡ blank_problem) → slice_index_or (slice_set l i blank_problem) j blank_problem ≡ blank_problem
wiped_by l i j h (inl e) f =
    subst (λ (k : ℕ). slice_index_or (slice_set l i blank_problem) k blank_problem ≡ blank_problem) (sym e) (get_or-set_same l i blank_problem blank_problem h)
wiped_by l i j h (inr n) f = get_or-set_other l i j blank_problem blank_problem n ∙ f n

-- what is blank but at i is blank after a blank is put at i
wiped : (l : List Problem) (i j : ℕ) → i < length l → ((j ≢ i) → slice_index_or l j blank_problem ≡ blank_problem)
    → slice_index_or (slice_set l i blank_problem) j blank_problem ≡ blank_problem
wiped l i j h f = wiped_by l i j h (same_by j i (j == i) refl) f

pub record Upto (row : List Problem) (i : ℕ) : Type 0 where
  pub fits : i ≤ length row
  pub clear : (j : ℕ) → j < i → slice_index_or row j blank_problem ≡ blank_problem

pub one_more : (row : List Problem) (i : ℕ) → Upto row i → i < length row → Upto (slice_set row i blank_problem) (i + 1)
one_more row i u h =
    let n : length (slice_set row i blank_problem) ≡ length row = length-set row i blank_problem in
    record { fits = omega arith; clear = λ j k. wiped row i j h (λ ne. u.clear j (omega arith)) }

pub upto_all : (row : List Problem) (i n : ℕ) → Upto row i → length row ≤ i → length row ≡ n → row ≡ blanks n
upto_all row i n u h e = ext_get_or blank_problem row (blanks n) (e ∙ sym (length-replicate n blank_problem))
    (λ j k. let g : j < n = omega arith in u.clear j (omega arith) ∙ sym (get_or-replicate n j blank_problem blank_problem g))
