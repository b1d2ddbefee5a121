-- The WCSP text format: what is refused of a text, what it means, a problem as text, and what the calls answer.
pub mod Findings
pub mod Networks
pub mod NetworkCosts
pub mod NetworkTexts
pub mod Conversions
pub mod Statements
pub mod Says
