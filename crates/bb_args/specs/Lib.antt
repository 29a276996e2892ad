pub mod Requests
pub mod CommandLines
pub mod Inside
pub mod Laws
pub mod Numbers
