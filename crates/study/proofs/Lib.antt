pub mod Decide
pub mod Endless
pub mod Examine
pub mod GoalRuns
pub mod GraphRight
pub mod PairPaths
pub mod StandingGraph
pub mod Written
