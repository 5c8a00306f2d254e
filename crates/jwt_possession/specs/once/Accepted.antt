-- What one call for an accepted token does.
use Rattle.std.specs.Prelude.{ℕ, ℤ, pos, negsuc, ◌≡◌, ◌-ℤ◌, List, [], codes, Bool, true, false, Option, Some, None, unwrap_or, Result, Ok, Err}
use Rattle.std.specs.Option.{option_map, option_map_or}
use Rattle.serde_json.specs.Data.{Members}
use Rattle.jwt_text.specs.Members.{text_at, whole_at}
use Rattle.jwt_policy.specs.Settings.{Settings}
use Rattle.jwt_policy.specs.Texts.{some_passes}
use Rattle.jwt_policy.specs.Checks.{is_later}
use Rattle.jwt_possession.specs.declared.once.accepted.Entry.{Entry}
use Rattle.jwt_possession.specs.declared.once.accepted.Lack.{Lack}
use Rattle.jwt_possession.specs.declared.once.accepted.Lack.TheVariants.{NoId, NoEnd, Ahead}
use Rattle.jwt_possession.specs.declared.once.once.Once.{Once}
use Rattle.jwt_possession.specs.declared.once.once.Taken.{Taken}
use Rattle.jwt_possession.specs.declared.once.once.Times.{Times}
use Rattle.jwt_possession.specs.once.Marks.{mark_of}
use Rattle.jwt_possession.specs.once.Steps.{IsTaken}

-- a moment as the memory counts: one before 1970-01-01T00:00:00Z is 0
abbrev pub seconds : ℤ → ℕ
seconds (pos moment) = moment
seconds (negsuc moment) = 0

-- The earliest moment at which claims may have been accepted, the leeway taken off `iat` as the verdict adds it to now; 0 where they have none, since nobody can say.
abbrev pub issued_of : Settings → Members → ℕ
issued_of policy claims = option_map_or (λ iat. seconds (iat -ℤ pos policy.claims.leeway)) (whole_at (codes "iat") claims) 0

-- the times of a token with this `exp`: its own moment is `exp`, whatever the policy, and its grace is the policy's leeway
abbrev pub times_of : Settings → Members → ℤ → Times
times_of policy claims exp = record { moment = seconds exp; grace = policy.claims.leeway; issued = issued_of policy claims }

-- the claims' issuer, the empty text where they name none
abbrev pub issuer_in : Members → List ℕ
issuer_in claims = unwrap_or (text_at (codes "iss") claims) []

-- the mark of this `jti` by the claims' issuer
abbrev pub mark_in : Members → List ℕ → List ℕ
mark_in claims jti = mark_of (issuer_in claims) jti

-- the owner of a token: by the digest of issuer and subject; nobody where the claims name no subject
abbrev pub owner_in : Members → Option (List ℕ)
owner_in claims = option_map (λ subject. mark_of (issuer_in claims) subject) (text_at (codes "sub") claims)

-- it was issued later than now, the leeway added
abbrev pub is_ahead : Settings → Members → ℤ → Bool
is_ahead policy claims now = some_passes (is_later now policy.claims.leeway) (whole_at (codes "iat") claims)

-- how a token with this `jti` and this `exp` is held: not at all where it was issued later
abbrev pub IsEntryUnless : (ahead : Bool) → Settings → Members → Result Entry Lack → List ℕ → ℤ → Type 0
IsEntryUnless true policy claims entry jti exp = entry ≡ Err Ahead
IsEntryUnless false policy claims entry jti exp =
    (held : Entry) × (entry ≡ Ok held) × (held.mark ≡ mark_in claims jti) × (held.owner ≡ owner_in claims) × (held.times ≡ times_of policy claims exp)

-- nor where either is absent, and NoId is said first
abbrev pub IsEntryWith : Settings → Members → ℤ → Result Entry Lack → Option (List ℕ) → Option ℤ → Type 0
IsEntryWith policy claims now entry None exp = entry ≡ Err NoId
IsEntryWith policy claims now entry (Some jti) None = entry ≡ Err NoEnd
IsEntryWith policy claims now entry (Some jti) (Some exp) = IsEntryUnless (is_ahead policy claims now) policy claims entry jti exp

-- how the token of claims that were accepted under this policy at this moment is held
abbrev pub IsEntryOf : Settings → Members → ℤ → Result Entry Lack → Type 0
IsEntryOf policy claims now entry = IsEntryWith policy claims now entry (text_at (codes "jti") claims) (whole_at (codes "exp") claims)

-- with this `jti` and this `exp`: nothing happens where it was issued later
abbrev pub IsTakenUnless : (ahead : Bool) → Settings → Members → ℤ → Once → Result Taken Lack → Once → List ℕ → ℤ → Type 0
IsTakenUnless true policy claims now old answer new jti exp = (answer ≡ Err Ahead) × (new ≡ old)
IsTakenUnless false policy claims now old answer new jti exp =
    (taken : Taken) × (answer ≡ Ok taken) × IsTaken old (mark_in claims jti) (owner_in claims) (times_of policy claims exp) (seconds now) taken new

-- nor where either is absent, and NoId is said first
abbrev pub IsTakenWith : Settings → Members → ℤ → Once → Result Taken Lack → Once → Option (List ℕ) → Option ℤ → Type 0
IsTakenWith policy claims now old answer new None exp = (answer ≡ Err NoId) × (new ≡ old)
IsTakenWith policy claims now old answer new (Some jti) None = (answer ≡ Err NoEnd) × (new ≡ old)
IsTakenWith policy claims now old answer new (Some jti) (Some exp) = IsTakenUnless (is_ahead policy claims now) policy claims now old answer new jti exp

-- the call for claims that were accepted under this policy at this moment takes the one memory to the other, and answers this
abbrev pub IsTakenFor : Settings → Members → ℤ → Once → Result Taken Lack → Once → Type 0
IsTakenFor policy claims now old answer new = IsTakenWith policy claims now old answer new (text_at (codes "jti") claims) (whole_at (codes "exp") claims)
