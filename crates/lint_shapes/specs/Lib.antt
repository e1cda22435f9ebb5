pub mod Formulas
pub mod Found
pub mod Texts
