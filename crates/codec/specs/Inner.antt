-- What the contracts of inner functions cite, and of the calls between our crates that find, hear and read at places. What reading,
-- writing, a session's calls and the exports promise does not rest on it, and no statement of the demands does.
pub mod MetIds
pub mod Places
pub mod Listed
pub mod Puts
