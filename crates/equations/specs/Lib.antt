pub mod Formula
pub mod Exactly
