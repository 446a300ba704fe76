pub mod Bytes
pub mod Mdx
pub mod Short
pub mod Mixing
pub mod Put
