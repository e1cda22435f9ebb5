mod AfterFiles
mod ToldEnds
