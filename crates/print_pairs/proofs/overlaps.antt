pub mod Lists
pub mod Values
pub mod Said
pub mod Texts
