mod Others
pub mod DoneLaws
pub mod TimeLaws
