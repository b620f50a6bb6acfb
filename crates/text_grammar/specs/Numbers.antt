-- Decimal numbers: the value of digits, and the digits of a number.
use Rattle.std.specs.Prelude.{◌≢◌, List, [], ◌∷◌, ◌++◌, ℕ, zero, suc, ◌+◌, ◌*◌, ◌-◌, ◌/◌, ◌%◌, ◌<◌}
use Rattle.std.proofs.Math.Decide.{dec_lt}
use Rattle.base_lists.specs.Seqs.{All}
use Rattle.text_grammar.specs.Bytes.{Digit}

-- document 01: "a number .. without leading zeros"
abbrev pub Number : List ℕ → Type 0
Number [] = ⊥
Number (d ∷ []) = Digit d
Number (d ∷ (e ∷ ds)) = Digit d × (d ≢ 48) × All Digit (e ∷ ds)

-- the value of digits behind others of value v
abbrev pub val : ℕ → List ℕ → ℕ
val v [] = v
val v (d ∷ ds) = val (v * 10 + (d - 48)) ds

abbrev pub value : List ℕ → ℕ
value ds = val 0 ds

abbrev pub dec_c : (n : ℕ) → Dec (n < 10) → (ℕ → List ℕ) → List ℕ
dec_c n (yes p) k = (48 + n) ∷ []
dec_c n (no p) k = k (n / 10) ++ (48 + n % 10) ∷ []

-- the digits of n, where it has at most as many as the first argument
abbrev pub dec : ℕ → ℕ → List ℕ
dec zero n = []
dec (suc k) n = dec_c n (dec_lt n 10) (dec k)

-- the digits of n, without leading zeros
abbrev pub digits_of : ℕ → List ℕ
digits_of n = dec (suc n) n
