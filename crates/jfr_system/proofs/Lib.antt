mod Pieces
mod Untold
