-- What the parts of the proof share: no contract rests on it.
pub mod Meanings
pub mod Written
pub mod WrittenLines
