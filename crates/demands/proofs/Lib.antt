pub mod Maps
mod OddMap
pub mod EditRight
pub mod SoundWords
pub mod ReadRight
pub mod CallsRight
pub mod Boards
pub mod Exactness
pub mod DrainFits
pub mod BreaksRange
pub mod Files
pub mod Refusals
pub mod Never10
pub mod Lists
pub mod ListUse
pub mod Demands
mod Uses
