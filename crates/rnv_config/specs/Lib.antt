pub mod Configs
pub mod Members
pub mod Merged
pub mod Roles
pub mod Rules
pub mod Settings
pub mod Texts
