pub mod Carrier
pub mod Standing
pub mod EndLaws
pub mod Left
pub mod Laws
