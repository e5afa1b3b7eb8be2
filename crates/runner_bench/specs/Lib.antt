pub mod Ticker
pub mod TickerLaws
