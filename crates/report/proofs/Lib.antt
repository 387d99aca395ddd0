mod Labels
mod PieceLists
mod Places
