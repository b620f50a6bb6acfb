-- Which version of the library this is. Document 02 changes answers that programs rely on, so a program can ask which changes the library
-- that it is linked with has.
use Rattle.std.specs.Prelude.{ℕ, ◌+◌, ◌*◌}

-- how many values a byte has
abbrev pub byte_values : ℕ
byte_values = 256

-- a version as one number: the major number, the minor number and the patch, a byte each, so that a later version is a larger number
abbrev pub version_of : ℕ → ℕ → ℕ → ℕ
version_of major minor patch = (major * byte_values + minor) * byte_values + patch

-- 0.5.0: the minor number is the last change of document 02 that stands, E5, and rises whenever an answer changes
abbrev pub library_version : ℕ
library_version = version_of 0 5 0
