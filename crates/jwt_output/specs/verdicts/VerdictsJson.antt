-- What a run left of signatures and tries, as `verify --json` prints it.
use Rattle.std.specs.Prelude.{List, [], ◌∷◌, codes}
use Rattle.json.specs.Json.{Json}
use Rattle.jwt_policy.specs.FaultNames.{sig_fault_name}
use Rattle.jwt_verify.specs.declared.report.SigState.{SigState}
use Rattle.jwt_verify.specs.declared.report.SigState.TheVariants.{Barred, NoKey, BadSignature, Verified, NotReached, Stopped}
use Rattle.jwt_verify.specs.declared.report.Try.{Try}
use Rattle.jwt_output.specs.Json.{Named, count, object_of_members, text}

abbrev pub state_members : SigState → List Named
state_members (Barred f) = text (codes "state") (codes "Barred") ∷ text (codes "fault") (sig_fault_name f) ∷ []
state_members NoKey = text (codes "state") (codes "NoKey") ∷ []
state_members BadSignature = text (codes "state") (codes "BadSignature") ∷ []
state_members (Verified j) = text (codes "state") (codes "Verified") ∷ count (codes "key") j ∷ []
state_members NotReached = text (codes "state") (codes "NotReached") ∷ []
state_members Stopped = text (codes "state") (codes "Stopped") ∷ []

abbrev pub state_json : SigState → Json
state_json s = object_of_members (state_members s)

abbrev pub try_json : Try → Json
try_json e = object_of_members (count (codes "signature") e.signature ∷ count (codes "key") e.key ∷ count (codes "cost") e.cost ∷ [])
