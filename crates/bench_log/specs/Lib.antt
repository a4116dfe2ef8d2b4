pub mod LogRecord
pub mod Items
pub mod Totals
pub mod Text
pub mod Listing
pub mod Fields
pub mod Comparison
pub mod Inner
