pub mod Channel
pub mod Steps
pub mod Standing
pub mod EndLaws
pub mod UnderWay
pub mod Left
pub mod Laws
