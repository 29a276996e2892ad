pub mod Boxless
pub mod Sliced
pub mod Violations
