-- Keys in rising order.
pub mod Keys
