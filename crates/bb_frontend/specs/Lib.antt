pub mod RefusalLines
pub mod Refusals
pub mod SideWords
pub mod TextDesigns
pub mod Inside
