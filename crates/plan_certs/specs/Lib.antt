pub mod Certificates
pub mod Printed
pub mod Named
pub mod Texts
pub mod Readings
