pub mod Within
pub mod Rules
pub mod Ledger
pub mod History
pub mod Session
pub mod Trace
pub mod Demand3
pub mod Inner
