pub mod Table
pub mod RunTable
