pub mod BareNodes
pub mod Derived
pub mod Restore
pub mod RestoreStatements
pub mod RestoreSources
pub mod BareHeights
pub mod Numbering
