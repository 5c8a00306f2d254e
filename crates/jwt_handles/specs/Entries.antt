-- How the token, or the proof, that was accepted last is held by a store of those that count once.
use Rattle.std.specs.Prelude.{ℕ, ℤ, ◌≡◌, ◌==◌, if◌then◌else◌, Option, Some, None, Result, Ok, Err}
use Rattle.serde_json.specs.Data.{Members}
use Rattle.jwt_policy.specs.Settings.{Settings}
use Rattle.jwt_possession.specs.declared.once.accepted.Entry.{Entry}
use Rattle.jwt_possession.specs.declared.once.accepted.Lack.{Lack}
use Rattle.jwt_possession.specs.declared.once.accepted.Lack.TheVariants.{NoId, NoEnd, Ahead}
use Rattle.jwt_possession.specs.once.Accepted.{IsEntryOf}
use Rattle.jwt_possession.specs.Possessions.{proved, proof_mark}
use Rattle.jwt_possession.specs.declared.possession.Possession.{Possession}
use Rattle.jwt_handles.specs.declared.entries.FowEntry.{FowEntry}
use Rattle.jwt_handles.specs.declared.state.State.{State}
use Rattle.jwt_handles.specs.declared.status.TheConstants.{FOW_OK, FOW_REFUSED, FOW_ABSENT}
use Rattle.jwt_handles.specs.Documents.{documents}
use Rattle.jwt_handles.specs.Evidence.{claims_kept}

-- an entry as C has it
abbrev pub entry_in : FowEntry → Entry
entry_in it = record {
  mark = it.mark;
  owner = if it.owned == 1 then Some it.owner else None;
  times = record { moment = it.moment; grace = it.grace; issued = it.issued };
}

-- the entry is written; or the number says what the claims lack, and nothing is
abbrev pub SaysEntry : Result Entry Lack → ℕ → FowEntry → ℕ → Type 0
SaysEntry (Ok entry) status new lacks = (status ≡ FOW_OK) × (entry_in new ≡ entry) × (lacks ≡ 0)
SaysEntry (Err NoId) status new lacks = (status ≡ FOW_REFUSED) × (lacks ≡ 5)
SaysEntry (Err NoEnd) status new lacks = (status ≡ FOW_REFUSED) × (lacks ≡ 6)
SaysEntry (Err Ahead) status new lacks = (status ≡ FOW_REFUSED) × (lacks ≡ 7)

-- how the token of these claims, which were accepted at this moment, is held, if there are any
abbrev pub TellsClaims : Settings → Option Members → ℤ → ℕ → FowEntry → ℕ → Type 0
TellsClaims policy None now status new lacks = (status ≡ FOW_ABSENT) × (lacks ≡ 0)
TellsClaims policy (Some claims) now status new lacks =
    (entry : Result Entry Lack) × IsEntryOf policy claims now entry × SaysEntry entry status new lacks

-- the same of the token that this validator accepted last, by its policy
abbrev pub TellsLast : State → ℤ → ℕ → FowEntry → ℕ → Type 0
TellsLast validator now status new lacks = TellsClaims (documents validator).policy (claims_kept validator.last) now status new lacks

-- how the proof that is kept is held, if there is one: by the mark by which it is taken, with the same owner and times
abbrev pub TellsProof : Option Possession → ℕ → FowEntry → Type 0
TellsProof None status new = status ≡ FOW_ABSENT
TellsProof (Some it) status new =
    (status ≡ FOW_OK) × (entry_in new ≡ record { mark = proof_mark (proved it); owner = (proved it).owner; times = (proved it).times })
