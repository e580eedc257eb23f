pub mod Lines
pub mod Written
pub mod ReadBack
pub mod Answers
pub mod Promise
