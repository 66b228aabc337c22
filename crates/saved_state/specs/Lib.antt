pub mod Sls
