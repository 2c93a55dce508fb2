pub mod RisingLaws
pub mod SearchLaws
