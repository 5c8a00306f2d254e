-- That marks tell apart, and what many calls do.
use Rattle.std.specs.Prelude.{ℕ, ℤ, pos, false, ◌≡◌, ◌≢◌, ◌⊎◌, ◌≤◌, ◌<◌, ◌+◌, ◌+ℤ◌, ◌≤ℤ◌, ◌*◌, length, List, [], ◌∷◌, ◌++◌, codes, Option, Some, None}
use Rattle.serde_json.specs.Data.{Members}
use Rattle.jwt_mac.specs.Algorithm.{sha256_of}
use Rattle.jwt_text.specs.Members.{text_at, whole_at}
use Rattle.jwt_policy.specs.Settings.{Settings}
use Rattle.jwt_policy.specs.Checks.{check_of}
use Rattle.jwt_possession.specs.declared.once.once.Once.{Once}
use Rattle.jwt_possession.specs.declared.once.once.Taken.{Taken}
use Rattle.jwt_possession.specs.declared.once.once.Taken.TheVariants.{New, Late, Full, OwnFull}
use Rattle.jwt_possession.specs.declared.once.once.Times.{Times}
use Rattle.jwt_possession.specs.declared.once.table.Holding.{Holding}
use Rattle.jwt_possession.specs.once.Marks.{mark_of}
use Rattle.jwt_possession.specs.once.Steps.{held_of, holding, IsTaken}
use Rattle.jwt_possession.specs.once.Accepted.{seconds, issued_of, is_ahead, times_of, mark_in}

-- two texts with one SHA-256 digest
abbrev pub Collision : Type 0
Collision = (a b : List ℕ) × (a ≢ b) × (sha256_of a ≡ sha256_of b)

-- whoever finds two pairs with one mark has found two texts with one digest
abbrev pub TellsApart : (issuer jti other_issuer other_jti : List ℕ) → Type 0
TellsApart issuer jti other_issuer other_jti = mark_of issuer jti ≡ mark_of other_issuer other_jti → ((issuer ≡ other_issuer) × (jti ≡ other_jti)) ⊎ Collision

-- ---- Cited by laws alone

-- a call, with its answer
pub record Call : Type 0 where
  pub mark : List ℕ
  pub owner : Option (List ℕ)
  pub times : Times
  pub now : ℕ
  pub answer : Taken

-- these calls, in this order, take the one memory to the other
abbrev pub IsRun : Once → List Call → Once → Type 0
IsRun first [] last = first ≡ last
IsRun first (call ∷ calls) last = (next : Once) × IsTaken first call.mark call.owner call.times call.now call.answer next × IsRun next calls last

-- the calls of a run that ends with two calls for one mark, both of which were answered New
pub record IsTakenTwice (one two : Call) (last : Once) : Type 0 where
  pub first : Once
  pub before : List Call
  pub between : List Call
  pub run : IsRun first (before ++ (one ∷ (between ++ (two ∷ [])))) last
  pub one_is_new : one.answer ≡ New
  pub two_is_new : two.answer ≡ New
  pub same : one.mark ≡ two.mark

-- Of two New for one mark the second has the later moment of its own: whatever graces, moments of issue and clocks all the calls of the run come with.
abbrev pub NoTokenTwice : Type 0
NoTokenTwice = (one two : Call) (last : Once) → IsTakenTwice one two last → one.times.moment < two.times.moment

-- So nothing is New twice that has one mark and one moment of its own.
abbrev pub NeverTwice : Type 0
NeverTwice = (one two : Call) (last : Once) → one.times.moment ≡ two.times.moment → IsTakenTwice one two last → ⊥

-- the call is what one for these claims under this policy comes to
abbrev pub IsCallFor : Settings → Members → Call → Type 0
IsCallFor policy claims call =
    (jti : List ℕ) × (exp : ℤ) × (text_at (codes "jti") claims ≡ Some jti) × (whole_at (codes "exp") claims ≡ Some exp)
    × (call.mark ≡ mark_in claims jti) × (call.times ≡ times_of policy claims exp)

-- So the same claims are never New twice, under whatever policies they come, and under whatever policies others come.
abbrev pub NeverTwiceFor : Type 0
NeverTwiceFor = (policy other : Settings) (claims : Members) (one two : Call) (last : Once) → IsCallFor policy claims one → IsCallFor other claims two
    → IsTakenTwice one two last → ⊥

-- At a moment at which a policy accepts claims, their own moment and their grace haven't passed.
abbrev pub InTime : Type 0
InTime = (policy : Settings) (claims : Members) (now exp : ℤ) → check_of policy claims now ≡ None → whole_at (codes "exp") claims ≡ Some exp
    → seconds now ≤ (times_of policy claims exp).moment + (times_of policy claims exp).grace

-- Claims that were issued no later than they were accepted, the leeway aside, count as issued no later than that moment.
abbrev pub IssuedBefore : Type 0
IssuedBefore = (policy : Settings) (claims : Members) (accepted : ℤ)
    → ((iat : ℤ) → whole_at (codes "iat") claims ≡ Some iat → iat ≤ℤ (accepted +ℤ pos policy.claims.leeway)) → issued_of policy claims ≤ seconds accepted

-- So claims that were taken before a memory was opened, at a moment at which they weren't issued later, are never New in it, whatever the policy that both calls have.
abbrev pub NewSince : Type 0
NewSince = (policy : Settings) (claims : Members) (accepted : ℤ) (call : Call) (old new : Once) → is_ahead policy claims accepted ≡ false → IsCallFor policy claims call
    → IsTaken old call.mark call.owner call.times call.now call.answer new → seconds accepted < old.opened → call.answer ≡ Late

-- no one was let go but by the longest grace that was told
abbrev pub IsEven : Once → Type 0
IsEven once = (once.horizon ≡ 0) ⊎ (once.horizon + once.span ≤ once.latest)

-- Where every call of a run comes with the grace that the memory knows, a call is Late by its own times alone, and not by the horizon that others have moved.
abbrev pub LateByItself : Type 0
LateByItself = (old : Once) (call : Call) (new : Once) → IsEven old → call.times.grace ≡ old.span
    → IsTaken old call.mark call.owner call.times call.now call.answer new
    → IsEven new × (call.answer ≡ Late → (call.times.issued < old.opened) ⊎ (call.times.moment + call.times.grace < new.latest))

-- ---- Shares

-- this owner is one of these; nobody isn't
abbrev pub IsOneOf : List (List ℕ) → Option (List ℕ) → Type 0
IsOneOf [] owner = ⊥
IsOneOf (one ∷ owners) owner = (owner ≡ Some one) ⊎ IsOneOf owners owner

-- what is held so is one of these owners', unless its moment has passed by this moment and this grace
abbrev pub IsTheirs : List (List ℕ) → (latest span : ℕ) → Holding → Type 0
IsTheirs owners latest span its = latest ≤ its.moment + span → IsOneOf owners its.owner

-- so is whatever is held
abbrev pub HoldsOnlyOf : List (List ℕ) → (latest span : ℕ) → Once → Type 0
HoldsOnlyOf owners latest span once = (mark : List ℕ) (its : Holding) → held_of once mark ≡ Some its → IsTheirs owners latest span its

-- so is whatever these calls are for
abbrev pub AreCallsOf : List (List ℕ) → (latest span : ℕ) → List Call → Type 0
AreCallsOf owners latest span [] = Unit {0}
AreCallsOf owners latest span (call ∷ calls) = IsTheirs owners latest span (holding call.times call.owner) × AreCallsOf owners latest span calls

-- One more call after a run of calls. By its end whatever the run was for has passed, or was these owners', and so has or was whatever the memory held before.
pub record IsAfter (owners : List (List ℕ)) (first last new : Once) (calls : List Call) (call : Call) : Type 0 where
  pub only : HoldsOnlyOf owners new.latest new.span first
  pub calls_of : AreCallsOf owners new.latest new.span calls
  pub run : IsRun first calls last
  pub taken : IsTaken last call.mark call.owner call.times call.now call.answer new

-- Where the shares of all the others leave room, another owner isn't shut out: a flood by one, or by so few, tells nobody else that it is full.
abbrev pub NotShutOut : Type 0
NotShutOut = (others : List (List ℕ)) (owner : List ℕ) (first last new : Once) (calls : List Call) (call : Call) → IsAfter others first last new calls call
    → call.owner ≡ Some owner → ¬ IsOneOf others (Some owner) → length others * first.share < first.most → (call.answer ≢ Full) × (call.answer ≢ OwnFull)

-- Where there is room for the shares of all, Full is never said: each owner can have its share, whatever the others take.
abbrev pub RoomForAll : Type 0
RoomForAll = (owners : List (List ℕ)) (first last new : Once) (calls : List Call) (call : Call) → IsAfter owners first last new calls call
    → IsOneOf owners call.owner → length owners * first.share ≤ first.most → call.answer ≢ Full
