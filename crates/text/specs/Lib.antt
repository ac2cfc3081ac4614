-- What the program `ftlist` prints, what it reads, and the whole of it ..
pub mod Printed
pub mod Input
pub mod Examples
-- .. and what the functions that print require, and say of a listing buffer.
pub mod Printable
pub mod Decoded
