pub mod Kind
pub mod Words
pub mod IsJob
pub mod Answer
pub mod Said
