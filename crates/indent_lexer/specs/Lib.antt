pub mod Place
pub mod Name
pub mod Number
pub mod Literal
pub mod Word
pub mod Piece
pub mod Indentation
pub mod Tokens
