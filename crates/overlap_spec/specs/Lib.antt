-- Overlap lines: their text (Lines), and the variables that they bind (Variables).
pub mod Lines
pub mod Variables
pub mod Overlaps
pub mod Fits
