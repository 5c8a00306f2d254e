-- Memories of tokens that count once, and what they answer of the token that was accepted last.
use Rattle.std.specs.Prelude.{ℕ, ℤ, ◌≡◌, ◌==◌, ◌/◌, max, nat_lt, if◌then◌else◌, Bool, List, Option, Some, None, Result, Ok, Err}
use Rattle.serde_json.specs.Data.{Members}
use Rattle.jwt_policy.specs.Settings.{Settings}
use Rattle.jwt_possession.specs.declared.once.accepted.Lack.{Lack}
use Rattle.jwt_possession.specs.declared.once.accepted.Lack.TheVariants.{NoId, NoEnd, Ahead}
use Rattle.jwt_possession.specs.declared.once.once.Once.{Once}
use Rattle.jwt_possession.specs.declared.once.once.Taken.{Taken}
use Rattle.jwt_possession.specs.declared.once.once.Taken.TheVariants.{New, Seen, Late, OwnFull, Full, OutOfMemory}
use Rattle.jwt_possession.specs.once.Steps.{held_of}
use Rattle.jwt_possession.specs.once.Accepted.{IsTakenFor, issued_of}
use Rattle.jwt_handles.specs.declared.once_state.OnceState.{OnceState}
use Rattle.jwt_handles.specs.declared.state.State.{State}
use Rattle.jwt_handles.specs.declared.status.TheConstants.{FOW_OK, FOW_REFUSED, FOW_OUT_OF_MEMORY, FOW_ABSENT}
use Rattle.jwt_handles.specs.Documents.{documents}
use Rattle.jwt_handles.specs.Evidence.{claims_kept}

-- how many one owner may have, by the number that C says: 0 is a sixteenth of the room, and one at least
abbrev pub share_for : ℕ → ℕ → ℕ
share_for tokens share = if share == 0 then max 1 (tokens / 16) else share

-- an empty memory for so many tokens, of each owner's at most that share, that is opened at this moment
abbrev pub HoldsNone : (tokens share opened : ℕ) → Option OnceState → Type 0
HoldsNone tokens share opened None = ⊥
HoldsNone tokens share opened (Some state) = (state.once.most ≡ tokens) × (state.once.share ≡ share_for tokens share) × (state.once.opened ≡ opened)
    × (state.once.latest ≡ 0) × (state.once.span ≡ 0) × (state.once.horizon ≡ 0) × ((mark : List ℕ) → held_of state.once mark ≡ None)

-- The numbers of an answer: FOW_OK of a token that is new alone, and 0 where memory was refused. Late is told apart by whether the token may have been accepted
-- before the memory was opened.
abbrev pub SaysTaken : (before : Bool) → Result Taken Lack → ℕ → ℕ → Type 0
SaysTaken before (Ok New) status taken = (status ≡ FOW_OK) × (taken ≡ 1)
SaysTaken before (Ok Seen) status taken = (status ≡ FOW_REFUSED) × (taken ≡ 2)
SaysTaken before (Ok Late) status taken = (status ≡ FOW_REFUSED) × (taken ≡ (if before then 9 else 3))
SaysTaken before (Ok OwnFull) status taken = (status ≡ FOW_REFUSED) × (taken ≡ 8)
SaysTaken before (Ok Full) status taken = (status ≡ FOW_REFUSED) × (taken ≡ 4)
SaysTaken before (Err NoId) status taken = (status ≡ FOW_REFUSED) × (taken ≡ 5)
SaysTaken before (Err NoEnd) status taken = (status ≡ FOW_REFUSED) × (taken ≡ 6)
SaysTaken before (Err Ahead) status taken = (status ≡ FOW_REFUSED) × (taken ≡ 7)
SaysTaken before (Ok OutOfMemory) status taken = (status ≡ FOW_OUT_OF_MEMORY) × (taken ≡ 0)

-- the call for these claims, if there are any, takes the one memory to the other, and its answer has these numbers
abbrev pub TakesClaims : Settings → Option Members → ℤ → Once → ℕ → ℕ → Once → Type 0
TakesClaims policy None now old status taken new = (status ≡ FOW_ABSENT) × (taken ≡ 0) × (new ≡ old)
TakesClaims policy (Some claims) now old status taken new =
    (answer : Result Taken Lack) × IsTakenFor policy claims now old answer new × SaysTaken (nat_lt (issued_of policy claims) old.opened) answer status taken

-- the same of the token that this validator accepted last, by its policy; the memory is held on
abbrev pub TakesLast : State → ℤ → OnceState → ℕ → ℕ → Option OnceState → Type 0
TakesLast validator now old status taken None = ⊥
TakesLast validator now old status taken (Some new) = TakesClaims (documents validator).policy (claims_kept validator.last) now old.once status taken new.once
