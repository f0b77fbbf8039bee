-- What lists need, and what each has of a table and of a provider.
pub mod Needs
pub mod Parts
