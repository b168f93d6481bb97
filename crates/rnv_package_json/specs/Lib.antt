pub mod Grammar
pub mod Read
pub mod Rest
pub mod Roles
pub mod Text
pub mod Word
