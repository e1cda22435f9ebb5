pub mod FullTables
pub mod NodeRooms
pub mod NoInitial
