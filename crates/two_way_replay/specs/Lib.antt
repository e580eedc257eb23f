pub mod StepLines
pub mod TwoWaySchedules
pub mod Entries
pub mod Actions
pub mod Courses
pub mod CourseWorlds
pub mod CourseLaws
