-- The search's states as the code holds them, and the problem and the list that work memory stands for.
pub mod States
