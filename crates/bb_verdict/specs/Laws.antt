-- Laws, and the definitions that laws alone need.
pub mod FilledNets
pub mod InvariantAnswers
pub mod SomeAnswers
pub mod TextAnswers
pub mod TextPairs
