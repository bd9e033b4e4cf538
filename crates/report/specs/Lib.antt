pub mod Decimal
pub mod Report
