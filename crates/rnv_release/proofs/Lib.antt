pub mod PackageTest
pub mod Listing
pub mod Walking
pub mod Objects
pub mod Feeds
pub mod Tags
pub mod Cuts
