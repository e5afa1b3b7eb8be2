pub mod Noting
pub mod Outcomes
pub mod Placing
pub mod Reach
pub mod Standing
pub mod UnderWay
pub mod WordBounds
