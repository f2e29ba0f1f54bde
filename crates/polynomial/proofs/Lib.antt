pub mod Tests
pub mod Linear
pub mod Products
pub mod Ring
pub mod Division
