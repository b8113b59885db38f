pub mod Ranked
pub mod Meaning
pub mod Said
pub mod Chains
pub mod Calls
pub mod Tables
