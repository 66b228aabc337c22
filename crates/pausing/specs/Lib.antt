pub mod Pausing
