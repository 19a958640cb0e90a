mod Moved
mod Sound
mod Changed
mod Kept
