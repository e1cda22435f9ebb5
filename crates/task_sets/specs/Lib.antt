pub mod FullTables
pub mod NodeRoom
