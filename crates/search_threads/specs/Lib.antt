pub mod Unlimited
pub mod Budgets
