pub mod Checked
pub mod Systems
pub mod Growing
pub mod Pinging
