-- What the functions of this crate say to each other: no clause of the top call rests on it.
pub mod Counting
pub mod Logic
pub mod Listing
pub mod ModuleTemplates
pub mod BitBlasting
pub mod Placements
