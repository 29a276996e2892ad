-- Laws, and the words that laws alone need.
pub mod BoxOrders
pub mod IsomorphicNets
pub mod CellLaws
pub mod ContentTables
pub mod CopyLaws
pub mod ListLaws
pub mod LoopLaws
pub mod NamingLaws
