-- Bytes of a text, by their places.
use Rattle.std.specs.Prelude.{Bool, true, false, List, [], ◌∷◌, ◌++◌, ℕ, suc, eqb, length, take, drop}

-- the place of a later byte, where the one before it is the sought one or not
unfoldable pub index_after : Bool → ℕ → ℕ
index_after true n = 0
index_after false n = suc n

-- the place of the first byte b; where there is none, the place behind the text
unfoldable pub index_of : ℕ → List ℕ → ℕ
index_of b [] = 0
index_of b (x ∷ v) = index_after (eqb x b) (index_of b v)

-- the bytes from place a to place e
unfoldable pub slice : ℕ → ℕ → List ℕ → List ℕ
slice a e v = drop a (take e v)

-- a text's bytes to the front of another's, as many as have room there
abbrev pub copied : List ℕ → List ℕ → List ℕ
copied text old = take (length old) text ++ drop (length text) old
