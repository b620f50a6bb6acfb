-- Laws that the functions' proofs cite: of bytes and their classes (Bytes), the step table (Steps), the place of refusal 2 (Places), digits and strings (Runs);
-- and examples (Examples).
pub mod Bytes
pub mod Examples
pub mod Places
pub mod Runs
pub mod Steps
pub mod ClassTable
pub mod StepTable
