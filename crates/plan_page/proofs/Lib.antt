mod Counted
mod NoFloats
mod NoMarkup
