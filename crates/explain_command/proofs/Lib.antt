mod Affirmed
mod Explaining
mod Fairness
mod Finding
mod Changed
mod NoFloats
