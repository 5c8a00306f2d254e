-- The parts of a report beside its numbers.
use Rattle.std.specs.Prelude.{◌≡◌, ℕ, ℤ, pos, Bool, true, false, List, Option, Some, None, option_map}
use Rattle.std.specs.Arc.{arc_value}
use Rattle.serde_json.specs.Data.{Members}
use Rattle.jwt_access.specs.Moments.{moment_under}
use Rattle.jwt_access.specs.declared.moment.Moment.{Moment}
use Rattle.jwt_policy.specs.Settings.{Settings}
use Rattle.jwt_verify.specs.declared.report.SigState.{SigState}
use Rattle.jwt_verify.specs.declared.report.Try.{Try}
use Rattle.jwt_handles.specs.declared.state.Evidence.{Evidence}
use Rattle.jwt_handles.specs.declared.state.Evidence.TheVariants.{Own, Shared}
use Rattle.jwt_handles.specs.declared.state.Last.{Last}
use Rattle.jwt_handles.specs.declared.state.State.{State}

-- what became of each signature
abbrev pub states_of : Evidence → List SigState
states_of (Own states tries claims payload) = states.items
states_of (Shared basis accepted) = (arc_value basis).states.items

-- the tries that led to it
abbrev pub tries_of : Evidence → List Try
tries_of (Own states tries claims payload) = tries.items
tries_of (Shared basis accepted) = (arc_value basis).tries.items

abbrev some_where : {X : Type 0} → Bool → X → Option X
some_where true it = Some it
some_where false it = None

-- the claims of an acceptance
abbrev pub evidence_claims : Evidence → Option Members
evidence_claims (Own states tries claims payload) = claims
evidence_claims (Shared basis accepted) = some_where accepted (arc_value basis).claims

-- the octets of the payload of an acceptance
abbrev pub evidence_payload : Evidence → Option (List ℕ)
evidence_payload (Own states tries claims payload) = option_map (λ v. v.items) payload
evidence_payload (Shared basis accepted) = some_where accepted (arc_value basis).payload.items

-- the same of what is kept of the last judging
abbrev pub states_kept : Last → List SigState
states_kept last = states_of last.evidence

abbrev pub tries_kept : Last → List Try
tries_kept last = tries_of last.evidence

abbrev pub claims_kept : Last → Option Members
claims_kept last = evidence_claims last.evidence

abbrev pub payload_kept : Last → Option (List ℕ)
payload_kept last = evidence_payload last.evidence

-- ---- the moment of a verdict

-- the state that is held keeps that of a judging under this policy
abbrev pub IsMomentBy : Settings → ℤ → Option State → Type 0
IsMomentBy policy now None = ⊥
IsMomentBy policy now (Some after) = after.last.moment ≡ moment_under policy now

-- ---- Cited by contracts of private functions alone

-- that of a judging that isn't kept yet
abbrev pub none_yet : Moment
none_yet = record { now = pos 0; leeway = 0 }
