pub mod OutsideLaws
pub mod TextLaws
pub mod OnlyLaws
pub mod RefusedLaws
