-- The code's table of classes, by one computed test over it. Assumes nothing.
use mathlib.Core.Path.{◌≡◌, ◌∙◌, sym}
use mathlib.Core.List.{List, [], ◌∷◌, map}
use Prim.Native.Nat.{ℕ, ◌<◌}
use lib.Dec.{eqb, eqb→eq}
use lib.ListN.{get_or}
use Rattle.std.proofs.Math.ListN.{get_or-map}
use Rattle.base_lists.specs.Tables.{table}
use Rattle.text_scan.specs.Classes.{fine_of}
use Rattle.text_scan.specs.Tables.{class_number}
use Rattle.text_scan.specs.declared.tables.ByteClass.{ByteClass}
use Rattle.text_scan.specs.declared.tables.ByteClass.TheVariants.{Nowhere, Zero, Digit, Letter, Quote, Colon, Bar, E, M, P, T as Tee, Y, Inside, Minus}

abbrev pub classes : List ByteClass
classes =
    Nowhere ∷ Nowhere ∷ Nowhere ∷ Nowhere ∷ Nowhere ∷ Nowhere ∷ Nowhere ∷ Nowhere ∷ Nowhere ∷ Nowhere ∷ Nowhere ∷ Nowhere ∷ Nowhere ∷ Nowhere ∷ Nowhere ∷ Nowhere ∷  -- 0 to 15
    Nowhere ∷ Nowhere ∷ Nowhere ∷ Nowhere ∷ Nowhere ∷ Nowhere ∷ Nowhere ∷ Nowhere ∷ Nowhere ∷ Nowhere ∷ Nowhere ∷ Nowhere ∷ Nowhere ∷ Nowhere ∷ Nowhere ∷ Nowhere ∷  -- 16 to 31
    Inside ∷ Inside ∷ Quote ∷ Inside ∷ Inside ∷ Inside ∷ Inside ∷ Inside ∷ Inside ∷ Inside ∷ Inside ∷ Inside ∷ Inside ∷ Minus ∷ Inside ∷ Inside ∷  -- 32 to 47
    Zero ∷ Digit ∷ Digit ∷ Digit ∷ Digit ∷ Digit ∷ Digit ∷ Digit ∷ Digit ∷ Digit ∷ Colon ∷ Inside ∷ Inside ∷ Inside ∷ Inside ∷ Inside ∷  -- 48 to 63
    Inside ∷ Inside ∷ Inside ∷ Inside ∷ Inside ∷ Inside ∷ Inside ∷ Inside ∷ Inside ∷ Inside ∷ Inside ∷ Inside ∷ Inside ∷ Inside ∷ Inside ∷ Inside ∷  -- 64 to 79
    Inside ∷ Inside ∷ Inside ∷ Inside ∷ Inside ∷ Inside ∷ Inside ∷ Inside ∷ Inside ∷ Inside ∷ Inside ∷ Inside ∷ Inside ∷ Inside ∷ Inside ∷ Inside ∷  -- 80 to 95
    Inside ∷ Letter ∷ Inside ∷ Inside ∷ Inside ∷ E ∷ Inside ∷ Inside ∷ Inside ∷ Letter ∷ Inside ∷ Inside ∷ Letter ∷ M ∷ Inside ∷ Inside ∷  -- 96 to 111
    P ∷ Inside ∷ Inside ∷ Letter ∷ Tee ∷ Inside ∷ Inside ∷ Inside ∷ Inside ∷ Y ∷ Inside ∷ Inside ∷ Bar ∷ Inside ∷ Inside ∷ Nowhere ∷  -- 112 to 127
    Nowhere ∷ Nowhere ∷ Nowhere ∷ Nowhere ∷ Nowhere ∷ Nowhere ∷ Nowhere ∷ Nowhere ∷ Nowhere ∷ Nowhere ∷ Nowhere ∷ Nowhere ∷ Nowhere ∷ Nowhere ∷ Nowhere ∷ Nowhere ∷  -- 128 to 143
    Nowhere ∷ Nowhere ∷ Nowhere ∷ Nowhere ∷ Nowhere ∷ Nowhere ∷ Nowhere ∷ Nowhere ∷ Nowhere ∷ Nowhere ∷ Nowhere ∷ Nowhere ∷ Nowhere ∷ Nowhere ∷ Nowhere ∷ Nowhere ∷  -- 144 to 159
    Nowhere ∷ Nowhere ∷ Nowhere ∷ Nowhere ∷ Nowhere ∷ Nowhere ∷ Nowhere ∷ Nowhere ∷ Nowhere ∷ Nowhere ∷ Nowhere ∷ Nowhere ∷ Nowhere ∷ Nowhere ∷ Nowhere ∷ Nowhere ∷  -- 160 to 175
    Nowhere ∷ Nowhere ∷ Nowhere ∷ Nowhere ∷ Nowhere ∷ Nowhere ∷ Nowhere ∷ Nowhere ∷ Nowhere ∷ Nowhere ∷ Nowhere ∷ Nowhere ∷ Nowhere ∷ Nowhere ∷ Nowhere ∷ Nowhere ∷  -- 176 to 191
    Nowhere ∷ Nowhere ∷ Nowhere ∷ Nowhere ∷ Nowhere ∷ Nowhere ∷ Nowhere ∷ Nowhere ∷ Nowhere ∷ Nowhere ∷ Nowhere ∷ Nowhere ∷ Nowhere ∷ Nowhere ∷ Nowhere ∷ Nowhere ∷  -- 192 to 207
    Nowhere ∷ Nowhere ∷ Nowhere ∷ Nowhere ∷ Nowhere ∷ Nowhere ∷ Nowhere ∷ Nowhere ∷ Nowhere ∷ Nowhere ∷ Nowhere ∷ Nowhere ∷ Nowhere ∷ Nowhere ∷ Nowhere ∷ Nowhere ∷  -- 208 to 223
    Nowhere ∷ Nowhere ∷ Nowhere ∷ Nowhere ∷ Nowhere ∷ Nowhere ∷ Nowhere ∷ Nowhere ∷ Nowhere ∷ Nowhere ∷ Nowhere ∷ Nowhere ∷ Nowhere ∷ Nowhere ∷ Nowhere ∷ Nowhere ∷  -- 224 to 239
    Nowhere ∷ Nowhere ∷ Nowhere ∷ Nowhere ∷ Nowhere ∷ Nowhere ∷ Nowhere ∷ Nowhere ∷ Nowhere ∷ Nowhere ∷ Nowhere ∷ Nowhere ∷ Nowhere ∷ Nowhere ∷ Nowhere ∷ Nowhere ∷  -- 240 to 255
    []

pub class_at : (b : ℕ) → b < 256 → class_number (get_or classes b Nowhere) ≡ fine_of b
unfolding fine_of
class_at b h = sym (get_or-map class_number classes b Nowhere) ∙ table eqb eqb→eq 0 fine_of (map class_number classes) tt b h
