pub mod Text
pub mod RecordText
pub mod Report
pub mod Calls
pub mod Settled
