-- What the code's answers are: classes of bytes (Classes), the step table (Steps), the place of refusal 2 (Places),
-- and terms as they are written (Lexemes).
pub mod Classes
pub mod Lexemes
pub mod Places
pub mod Steps
pub mod Tables
pub mod split
pub mod terms
