mod Answering
mod FetchedFiles
mod NodeNumbers
mod Pushing
mod Scanning
