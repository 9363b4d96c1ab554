pub mod Stages
pub mod Algebra
pub mod Truths
pub mod Exchanges
pub mod Mapped
