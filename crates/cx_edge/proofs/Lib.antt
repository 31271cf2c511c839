mod BindLaws
mod DeskLaws
mod FileLaws
mod HeldLaws
mod LineLaws
mod NotesLaws
pub mod ShelfLaws
mod SlotLaws
