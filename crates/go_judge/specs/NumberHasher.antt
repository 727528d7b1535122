-- Hashes of the numbers of objects and nodes.
-- Says what the hasher holds and answers: nothing else rests on it than how fast a table is.
use Rattle.std.specs.Prelude.{ℕ, ◌+◌, ◌*◌, ◌/◌, ◌%◌, ◌^◌}

-- behind one more byte of a number, the lowest first: behind all eight it is the number
abbrev pub byte_in : ℕ → ℕ → ℕ
byte_in held byte = held / 256 + byte * 2 ^ 56

-- four neighbours share a place, in the lowest 24 bits, and have a tag each, in the 8 bits above
abbrev pub spread : ℕ → ℕ
spread held = held / 4 % 2 ^ 24 + held * 11400714819323198485 % 2 ^ 64 / 2 ^ 56 * 2 ^ 24
