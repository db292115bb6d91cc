pub mod Met
pub mod Subcommands
