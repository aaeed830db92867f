mod DiagLaws
mod TextLaws
mod PlainTexts
mod ItemLaws
mod ListLaws
mod LineLaws
mod CheckLaws
mod Tags
