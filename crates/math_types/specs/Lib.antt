-- The type order: the laws of any order (Order), of any leaves (Flat, Kinds) and of any table (Lawful),
-- document 01's types (Types), and the views (Values).
pub mod Flat
pub mod Kinds
pub mod Lawful
pub mod Order
pub mod Types
pub mod Values
