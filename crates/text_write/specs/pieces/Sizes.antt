-- How many bytes a writer's answer speaks of: written, or needed.
use Rattle.std.specs.Prelude.{ℕ, Result, Ok, Err}
use Rattle.text_write.specs.declared.TooSmall.{TooSmall}

abbrev pub size_of : Result ℕ TooSmall → ℕ
size_of (Ok n) = n
size_of (Err e) = e.needed
