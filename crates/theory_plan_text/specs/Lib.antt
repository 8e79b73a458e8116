pub mod AuditLines
pub mod Audit
pub mod PlanLines
pub mod Plan
pub mod Statements
