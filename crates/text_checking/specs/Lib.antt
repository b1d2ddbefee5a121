-- What is refused of a WCSP text: findings in the source's kinds, and what each function of the source finds.
pub mod Codes
pub mod Sizes
pub mod Steps
