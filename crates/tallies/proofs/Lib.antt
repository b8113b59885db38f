pub mod Tallies
pub mod Failing
pub mod TallyLaws
pub mod TallyCall
