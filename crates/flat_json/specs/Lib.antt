pub mod JsonTree
pub mod Nodes
pub mod Numbers
pub mod Stores
pub mod Trees
