-- What crates above say to each other about designs: no clause of the top call rests on it.
pub mod Allowed
pub mod Callees
