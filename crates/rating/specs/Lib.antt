pub mod Grades
pub mod Guangxi
pub mod Policies
pub mod Table
