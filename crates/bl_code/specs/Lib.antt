pub mod BlobIndex
pub mod Crc
pub mod Laws
pub mod Numbers
pub mod Order
pub mod Reading
