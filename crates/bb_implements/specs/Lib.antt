pub mod BoxOrders
pub mod Places
pub mod Implements
pub mod Inside
pub mod Laws
