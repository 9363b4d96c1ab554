pub mod Equations
pub mod Exchange
pub mod Formulas
pub mod Truth
pub mod Mapped
