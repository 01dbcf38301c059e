pub mod ShownLaws
pub mod OrderLaws
pub mod JudgedLaws
pub mod WorkedLaws
pub mod TextClaims
pub mod ClaimLaws
pub mod Claims
