-- What a request takes: its proof once (RFC 9449, section 11.1), and its token, where it counts once.
use Rattle.std.specs.Prelude.{◌≡◌, Bool, true, false, Option, Some, None, Result, Ok, Err}
use Rattle.serde_json.specs.Data.{Members}
use Rattle.jwt_possession.specs.once.Accepted.{seconds, IsEntryOf}
use Rattle.jwt_possession.specs.once.Steps.{IsTaken}
use Rattle.jwt_possession.specs.declared.once.accepted.Entry.{Entry}
use Rattle.jwt_possession.specs.declared.once.accepted.Lack.{Lack}
use Rattle.jwt_possession.specs.declared.once.once.Once.{Once}
use Rattle.jwt_possession.specs.declared.once.once.Taken.{Taken}
use Rattle.jwt_possession.specs.declared.once.once.Taken.TheVariants.{New}
use Rattle.jwt_possession.specs.Possessions.{proved, proof_mark}
use Rattle.jwt_possession.specs.declared.possession.Possession.{Possession}
use Rattle.jwt_service.specs.declared.call.Call.{Call}
use Rattle.jwt_service.specs.declared.service.Issuer.{Issuer}
use Rattle.jwt_service.specs.declared.service.Service.{Service}

-- how the proof is held, where there is one: by its mark, its owner and its times
abbrev pub IsProofEntry : Option Possession → Option Entry → Type 0
IsProofEntry None entry = entry ≡ None
IsProofEntry (Some possession) entry = entry ≡ Some (record { mark = proof_mark (proved possession); owner = (proved possession).owner; times = (proved possession).times })

abbrev pub IsTokenEntryWhere : (once : Bool) → Issuer → Call → Members → Result (Option Entry) Lack → Type 0
IsTokenEntryWhere false issuer call claims entry = entry ≡ Ok None
IsTokenEntryWhere true issuer call claims (Ok None) = ⊥
IsTokenEntryWhere true issuer call claims (Ok (Some entry)) = IsEntryOf issuer.policy.now claims call.moment (Ok entry)
IsTokenEntryWhere true issuer call claims (Err lack) = IsEntryOf issuer.policy.now claims call.moment (Err lack)

-- how the token is held, where tokens count once, or what it lacks so that it can't be
abbrev pub IsTokenEntry : Service → Issuer → Call → Members → Result (Option Entry) Lack → Type 0
IsTokenEntry service = IsTokenEntryWhere service.once

-- what is held by this entry, where there is one, is taken
abbrev pub IsEntryTaken : Option Entry → Call → Once → Taken → Once → Type 0
IsEntryTaken None call old answer new = (answer ≡ New) × (new ≡ old)
IsEntryTaken (Some entry) call old answer new = IsTaken old entry.mark entry.owner entry.times (seconds call.moment) answer new
