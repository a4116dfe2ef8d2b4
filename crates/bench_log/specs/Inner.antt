-- What the contracts of inner functions cite. No contract of a public function rests on it, and no theorem does.
pub mod Items
pub mod BlockFields
pub mod Differences
pub mod Pairs
