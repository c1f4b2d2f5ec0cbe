pub mod Reports
pub mod Ending
pub mod ReportLaws
pub mod Dumped
pub mod Turns
pub mod DumpLaws
