-- What ties the words that the code stores to the trees of cells: the definitions to believe are in `grammar`.
pub mod Cells
pub mod Reading
