pub mod TurnedAway
pub mod Watchable
pub mod MadeScript
pub mod OneLife
pub mod Sharing
