pub mod Explanations
pub mod ExplanationValues
pub mod Frame
pub mod Pages
