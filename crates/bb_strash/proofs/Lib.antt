pub mod BitLaws
pub mod GateBits
pub mod Copied
pub mod Cut
