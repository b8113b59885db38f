pub mod Parts
pub mod Labels
pub mod Nodes
pub mod Formulas
pub mod Rules
pub mod Cut
pub mod Scopes
pub mod Worked
