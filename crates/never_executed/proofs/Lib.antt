mod FormulaParts
pub mod Lacking
