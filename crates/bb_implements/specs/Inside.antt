-- What the functions of crates above say to each other about cells: no clause of the top call rests on it.
pub mod ReadPlaces
