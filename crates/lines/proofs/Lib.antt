pub mod Parts
pub mod Scans
pub mod Reader
pub mod Parser
pub mod Rendered
pub mod Event
pub mod Log
