-- Which refusal asks for newer keys, and under which name a token waits.
use Rattle.std.specs.Prelude.{◌+◌, ◌*◌, ◌%◌, ◌^◌, ℕ, List, Option, Some, None}
use Rattle.std.specs.List.{fold}
use Rattle.jwt_request.specs.declared.renewal.asker.Asker.{Asker}
use Rattle.jwt_request.specs.declared.renewal.asker.Asker.TheVariants.{Token, Refused}
use Rattle.jwt_sources.specs.declared.why.Why.{Why}
use Rattle.jwt_sources.specs.declared.why.Why.TheVariants.{Keys, NoKey, BadSignature, Other}

-- for want of keys, of a key, or by a signature that is none by the keys; and no other
abbrev pub asker_of : Why → ℕ → Option Asker
asker_of Keys fetch = Some Token
asker_of NoKey fetch = Some (Refused fetch)
asker_of BadSignature fetch = Some (Refused fetch)
asker_of Other fetch = None

-- the number of a `kid`, by its octets; of no `kid` it is that of the empty text
abbrev pub and_octet : ℕ → ℕ → ℕ
and_octet number octet = (number * 1099511628211 + octet) % 2 ^ 64

abbrev pub number_of : List ℕ → ℕ
number_of kid = fold and_octet 0 kid
