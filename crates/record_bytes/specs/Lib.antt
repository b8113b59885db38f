pub mod Joined
pub mod Form
pub mod Calls
