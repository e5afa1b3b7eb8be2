pub mod Cuts
pub mod WordKinds
pub mod ClapWords
pub mod ChannelNumbers
pub mod FlagWords
pub mod Requests
pub mod PairWords
pub mod LogTimes
pub mod MeshLogs
pub mod Reading
pub mod ReplayReading
pub mod Breaking
pub mod RunReading
pub mod TooLong
pub mod Accepting
mod Threading
