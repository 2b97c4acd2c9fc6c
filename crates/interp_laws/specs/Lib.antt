pub mod NeverStuck
