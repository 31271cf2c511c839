pub mod BestLaws
pub mod BoundLaws
pub mod CountLaws
pub mod PlanLaws
pub mod Walks
