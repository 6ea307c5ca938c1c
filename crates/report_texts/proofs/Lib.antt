pub mod ReportLemmas
pub mod SameReportLemmas
