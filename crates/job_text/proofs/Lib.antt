pub mod PutLaws
pub mod Backwards
pub mod DecimalLaws
pub mod HexLaws
pub mod ToldLaws
