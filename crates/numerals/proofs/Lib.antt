pub mod DigitLaws
pub mod PrintLaws
pub mod DecimalRound
pub mod SignLaws
pub mod SampleLaws
pub mod NumeralRound
