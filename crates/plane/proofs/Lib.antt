-- Laws of the theory of a composed plane.
pub mod Tests
pub mod SumLaws
pub mod BitLaws
pub mod PaintLaws
pub mod RunLaws
pub mod OrderLaws
pub mod PlaneLaws
pub mod TurnLaws
pub mod Demand3
pub mod SortedRuns
pub mod Skip
pub mod Alike
pub mod Partitions
