-- The theorems about WCSP text, in the order in which they rest on each other.
-- what is written is read: digits, lines, the numbers of a text
pub mod Lists
pub mod Digits
pub mod LineWords
pub mod TextNumbers
pub mod NumberWords
-- tables: entries, tuples, functions
pub mod Entries
pub mod TupleWords
pub mod FunctionWords
pub mod FunctionsBack
-- a problem's text holds that problem; how long it is
pub mod NumberSizes
pub mod ThereAndBack
pub mod TextLength
-- any text in which nothing is refused: its records' rules, and what a choice costs
pub mod FineWords
pub mod FineTables
pub mod TupleCosts
pub mod TextCosts
-- forbidden entries as the upper bound: the written problem's rules, what a choice costs by it, and its frontier
pub mod Written
pub mod WrittenCosts
pub mod WrittenFrontier
-- behind a stop nothing is read; what the definitions say of short texts
pub mod Unread
pub mod TextRows
-- the promises
pub mod Converting
pub mod TextVerdicts
pub mod Statements
pub mod ReadBack
