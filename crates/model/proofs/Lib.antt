-- The theorems about the definitions, in the order in which they rest on each other.
-- tests, numbers, lists, vectors
pub mod Bits
pub mod Numbers
pub mod Lists
pub mod Elements
pub mod Zeros
pub mod Vectors
pub mod AtMostAt
pub mod Sums
pub mod Totals
pub mod Scopes
-- demand 1: reading and encoding
pub mod Words
pub mod Verdicts
pub mod Reasons
pub mod Marks
pub mod HeadRecord
pub mod DomainRecords
pub mod TableRecord
pub mod TableRecords
pub mod Bytes
pub mod Encoded
pub mod Reading
pub mod Places
-- demand 2: the best points of a pool, and the frontier
pub mod Points
pub mod Best
pub mod Sorting
pub mod Choices
pub mod Frontier
-- the core's form of a problem
pub mod Forbidden
pub mod Core
-- demand 3: the cut
pub mod Sides
pub mod Spread
pub mod Halves
pub mod Cut
pub mod CoreCut
pub mod Views
pub mod Exchange
-- the bound
pub mod Prefixes
pub mod LeastEntry
pub mod Bounded
pub mod SumLimits
-- the order of the cost records does not matter
pub mod Alike
pub mod Rearranged
pub mod Rearrangements
-- the search
pub mod Passes
pub mod Tree
pub mod Held
pub mod Search
pub mod Prune
-- the sharper bound by suffixes
pub mod Kept
pub mod Narrowed
pub mod Suffixes
pub mod SuffixProblems
-- the second form of the search
pub mod Weighted
pub mod Distinct
pub mod Archive
pub mod ArchiveSteps
pub mod ArchiveEnd
pub mod Zones
-- the merge of two halves' lists
pub mod Merging
-- the calls and the demands
pub mod Calls
pub mod Told
pub mod Flat
pub mod Buffers
pub mod SolveBuffers
pub mod CutBuffers
pub mod Agreement
pub mod Demands
-- what is proved by computation
pub mod Computing
pub mod Counterexample
-- the examples: rows of one table
pub mod ExampleBytes
pub mod ExampleProblems
pub mod ExampleRow
pub mod RowBuilders
pub mod StarredRows
pub mod ReadingRows
pub mod FrontierRows
pub mod CeilingRows
pub mod CutRows
pub mod BoundRows
pub mod Rows
