-- Words that laws alone need.
pub mod KindLaws
