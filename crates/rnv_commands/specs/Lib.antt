pub mod Difference
pub mod Import
pub mod OnDisk
pub mod Printing
pub mod Show
