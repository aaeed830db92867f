pub mod Laws
pub mod TagLaws
pub mod PlainLaws
pub mod EndLaws
