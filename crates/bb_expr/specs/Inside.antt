-- What the code says to itself: no clause of the top call rests on it.
pub mod Fit
pub mod Growing
pub mod Levels
pub mod Instantiation
pub mod Shares
pub mod Occurrences
