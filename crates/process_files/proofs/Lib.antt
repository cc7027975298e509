mod NamesAreText
mod TwoFiles
