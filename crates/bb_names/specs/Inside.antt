-- What the code says to itself: no clause of the top call rests on it.
pub mod Checked
pub mod Firsts
pub mod Implicit
pub mod Indexed
pub mod NetLists
pub mod Summaries
