pub mod BuiltSteps
pub mod UnrolledBits
pub mod UnrolledCells
pub mod UnrolledOrder
pub mod UnrolledPlaces
pub mod ViolationBits
