pub mod Clear
pub mod Counting
pub mod Gating
pub mod Growth
pub mod Reading
pub mod Starting
pub mod KindTests
