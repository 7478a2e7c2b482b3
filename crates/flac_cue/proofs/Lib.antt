-- ---- texts
pub mod Pushed
pub mod Numbers
pub mod Steps
pub mod Counts
-- ---- sheets, read again
pub mod WordsAgain
pub mod LinesAgain
pub mod TracksAgain
pub mod SheetsAgain
