pub mod Paths
pub mod Rules
pub mod Refusal
pub mod Acceptance
pub mod Verdict
pub mod Outcome
pub mod Before
