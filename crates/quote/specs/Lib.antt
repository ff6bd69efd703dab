-- A quote sheet: what is asked, what is answered, and what is claimed of it.
pub mod Quote
pub mod Steps
pub mod Claims
