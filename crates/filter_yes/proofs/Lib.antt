pub mod WindowsLaws
