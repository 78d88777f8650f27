pub mod NoteText
pub mod Log
pub mod Seen
pub mod Lately
