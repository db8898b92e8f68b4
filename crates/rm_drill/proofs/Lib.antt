mod Examples
mod FileLemmas
mod Hospital
