mod Characters
mod Encodings
