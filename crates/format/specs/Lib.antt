-- What is right, in reading order: these files, and no others.
pub mod Field
pub mod Refuse
pub mod Region
pub mod Name
pub mod Area
pub mod Entry
pub mod Table
pub mod Definition
pub mod Event
pub mod Item
pub mod Template
pub mod Map
pub mod Provider
pub mod Crim
pub mod Lists
pub mod Answer
pub mod Lookup
pub mod Join
pub mod Owner
pub mod Handle
pub mod Listing
pub mod Says
pub mod Call
pub mod Rests
-- What the building blocks speak of besides, on the way there.
pub mod Steps
pub mod Kinds
pub mod Named
-- What a theorem supposes.
pub mod Theorems
