-- Laws of steps where more given clauses come.
pub mod Numbers
