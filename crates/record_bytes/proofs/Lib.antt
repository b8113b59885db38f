pub mod Joined
pub mod Form
pub mod Again
pub mod Carried
pub mod Calls
