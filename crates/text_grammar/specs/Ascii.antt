-- Printed words as bytes.
use Rattle.std.specs.Prelude.{List, [], ◌∷◌, ℕ}
use Prim.Native.String as S
use Prim.Native.String.{String}
use Prim.Native.Char.{code}

abbrev pub ascii : String → List ℕ
ascii S.[] = []
ascii (S.◌∷◌ c s) = code c ∷ ascii s

-- byte 10
abbrev pub newline : List ℕ
newline = 10 ∷ []
