pub mod Undropped
