pub mod Pieces
pub mod Record
pub mod Printed
pub mod Means
pub mod ReportCall
pub mod Cut
pub mod Examples
