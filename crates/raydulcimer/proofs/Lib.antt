pub mod Beside
pub mod ByReference
pub mod Locals
pub mod Session
