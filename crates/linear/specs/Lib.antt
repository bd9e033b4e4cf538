pub mod Forms
pub mod Rows
pub mod Tables
pub mod Word
pub mod WordLaws
