pub mod Decimal
pub mod Listing
pub mod Internal
