pub mod FilesOfScripts
