mod Added
mod AfterReading
mod Hinted
mod Kept
mod Reports
