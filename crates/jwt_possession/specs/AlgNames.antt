-- The names of algorithms as one text, and how it is written.
use Rattle.std.specs.Prelude.{◌≡◌, ◌<◌, ℕ, List, ◌++◌, length, drop, map, Option, Some, None}
use Rattle.std.specs.List.{join_with_byte}
use Rattle.jwt_mac.specs.declared.algorithm.Alg.{Alg}
use Rattle.jwt_mac.specs.Algorithm.{name_of}

-- the names in their order, with a space between two (RFC 9449, section 7.1: `algs`)
unfoldable pub algs_text : List Alg → List ℕ
algs_text algs = join_with_byte 32 (map name_of algs)

-- the text stands at the front, and what stood behind it still does; or there is too little room for it, and nothing is written
abbrev pub IsWritten : List ℕ → Option ℕ → List ℕ → List ℕ → Type 0
IsWritten text None old new = (length old < length text) × (new ≡ old)
IsWritten text (Some size) old new = (size ≡ length text) × (new ≡ text ++ drop (length text) old)
