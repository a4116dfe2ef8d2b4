-- What the contracts of inner functions cite. No public contract rests on it, and no statement of the demands.
pub mod Replies
