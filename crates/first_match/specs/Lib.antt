pub mod FirstMatch
