mod MemoryWords
mod Only
mod Reading
mod Replying
mod Splitting
