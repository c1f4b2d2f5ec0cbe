pub mod Outs
pub mod Streams
pub mod Memories
pub mod Registers
pub mod Blocks
pub mod Arrays
pub mod Ends
