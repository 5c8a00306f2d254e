-- The files that words name, and the documents of those that were read.
use Rattle.std.specs.Prelude.{ℕ, List, Option, Some, None}
use Rattle.jwt_words.specs.Words.{Files}

-- the octets of the documents that were read from files
pub record Held : Type 0 where
  pub policy : Option (List ℕ)
  pub keys : Option (List ℕ)
  pub access : Option (List ℕ)
  pub token : Option (List ℕ)
  pub key : Option (List ℕ)
  -- and of the system's random source
  pub random : Option (List ℕ)

abbrev pub none_held : Held
none_held = record { policy = None; keys = None; access = None; token = None; key = None; random = None }

-- a file that is named and isn't in hand, else the next
abbrev pub unread_or : Option (List ℕ) → Option (List ℕ) → Option (List ℕ) → Option (List ℕ)
unread_or (Some name) None next = Some name
unread_or name held next = next

-- the first file that is named and isn't in hand
abbrev pub unread : Files → Held → Option (List ℕ)
unread files held =
    unread_or files.policy held.policy (unread_or files.keys held.keys (unread_or files.access held.access (unread_or files.token held.token (unread_or files.key held.key None))))
