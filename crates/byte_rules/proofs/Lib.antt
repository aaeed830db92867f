pub mod Laws
mod MaskLaws
mod NameLaws
mod CharLaws
pub mod Characters
