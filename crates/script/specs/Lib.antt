pub mod Pieces
pub mod Numbers
pub mod Words
pub mod Answers
