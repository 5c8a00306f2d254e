-- The meaning of the proved verifiers, and the memory of tokens that they accepted.
use Rattle.std.specs.Prelude.{◌≡◌, List, [], ◌∷◌, Option, Some, None}
use Rattle.jwt_mac.specs.Verifying.{Meaning}
use Rattle.jwt_built_in.specs.Meanings.{built_in_meaning}
use Rattle.jwt_memory.specs.declared.memory.Memory.{Memory}
use Rattle.jwt_memory.specs.Entries.{HasRoomOf}
use Rattle.jwt_memory.specs.Kept.{AreKept}
use Rattle.jwt_verify.specs.declared.terms.Terms.{Terms}
use Rattle.jwt_handles.specs.declared.grounds.Documents.{Documents}

-- what the proved verifiers mean: RSA (RFC 7518, sections 3.3 and 3.5), ECDSA (section 3.4) and Ed25519 (RFC 8037, section 3.1)
abbrev pub proved_meanings : List Meaning
proved_meanings = built_in_meaning ∷ []

-- At every moment the report on each token that is kept is, by these documents and the proved verifiers, what its claims come to then.
abbrev pub AreProvedKept : Documents → Option Memory → Type 0
AreProvedKept it None = Unit {0}
AreProvedKept it (Some memory) = AreKept it.policy it.keys proved_meanings memory

-- the two have room for as many tokens of as many octets, or neither keeps any
abbrev pub HasSameRoom : Option Memory → Option Memory → Type 0
HasSameRoom None None = Unit {0}
HasSameRoom None (Some other) = ⊥
HasSameRoom (Some memory) None = ⊥
HasSameRoom (Some memory) (Some other) = HasRoomOf memory other

-- ---- Cited by contracts of private functions alone

-- the documents of the terms of a verdict
abbrev pub lent_documents : {V : Type 0} {D : V → Type 0} → Terms V D → Documents
lent_documents lent = record { policy = lent.policy.now; keys = lent.keys.now }

-- no token is kept
abbrev pub IsNothingKept : Option Memory → Type 0
IsNothingKept None = Unit {0}
IsNothingKept (Some memory) = memory.table.entries ≡ []
