pub mod Values
pub mod RankModel
pub mod ByRank
