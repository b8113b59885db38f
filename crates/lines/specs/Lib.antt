pub mod Event
pub mod Line
pub mod Log
pub mod Render
