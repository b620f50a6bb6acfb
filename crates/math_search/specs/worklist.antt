-- The search as a machine over records, one turn after the other.
pub mod Next
pub mod Machine
pub mod Agreement
