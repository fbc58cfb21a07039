pub mod OwnTrees
pub mod Trials
