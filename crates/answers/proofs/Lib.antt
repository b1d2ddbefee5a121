-- Laws of the calls that list the frontier: before a search, and behind it.
pub mod Early
pub mod FoundRows
pub mod SolveAnswers
pub mod SolveEnds
pub mod ListRows
pub mod CutRefusals
pub mod CutAnswers
pub mod CutEnds
