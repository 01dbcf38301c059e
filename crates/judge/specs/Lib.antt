pub mod Stand
pub mod Decide
pub mod Queue
pub mod Judge
pub mod Marks
