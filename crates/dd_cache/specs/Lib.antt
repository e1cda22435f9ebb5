pub mod CacheMap
pub mod Places
