pub mod Disk
pub mod MemDisk
pub mod MemDiskLaws
pub mod MemDiskViews
