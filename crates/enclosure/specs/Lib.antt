pub mod Refusals
pub mod Arithmetic
pub mod Holding
pub mod Discs
pub mod Fitted
