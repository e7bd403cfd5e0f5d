pub mod NoWords
mod CacheApp
mod CacheReads
mod DefaultReads
