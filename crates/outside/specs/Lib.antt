pub mod Outside
pub mod Texts
pub mod RecordTwin
pub mod Told
