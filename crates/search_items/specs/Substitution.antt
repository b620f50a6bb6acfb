-- What the search does with lists of codes, as code makes it. `proofs/Agree` says that on the values of the search's fields it is the
-- search's.
use Rattle.std.specs.Prelude.{Bool, true, false, cond, ◌&&◌, ◌||◌, List, [], ◌∷◌, ℕ, eqb}

-- {x ↦ s} of a code
abbrev pub put_code : ℕ → List ℕ → ℕ → List ℕ
put_code x s c = cond (eqb c x) s (c ∷ [])

abbrev pub same_codes : List ℕ → List ℕ → Bool
same_codes [] [] = true
same_codes [] (d ∷ ds) = false
same_codes (c ∷ cs) [] = false
same_codes (c ∷ cs) (d ∷ ds) = eqb c d && same_codes cs ds

-- x is one of the codes
abbrev pub occurs_in : ℕ → List ℕ → Bool
occurs_in x [] = false
occurs_in x (c ∷ cs) = eqb c x || occurs_in x cs
