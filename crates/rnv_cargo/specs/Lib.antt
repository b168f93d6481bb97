pub mod Grammar
pub mod Lex
pub mod Named
pub mod Paths
pub mod Read
pub mod Rest
pub mod Roles
pub mod Text
