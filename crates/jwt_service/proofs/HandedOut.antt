-- Nothing is handed out of what wasn't taken.
use Rattle.std.proofs.Common.{◌≡◌, Bool, true, false, Option, None, Some, if◌then◌else◌, refl, inl, inr}
use Rattle.serde_json.specs.Data.{Members}
use Rattle.jwt_request.specs.declared.scheme.Scheme.{Scheme}
use Rattle.jwt_possession.specs.declared.once.accepted.Entry.{Entry}
use Rattle.jwt_possession.specs.declared.once.once.Taken.{Taken}
use Rattle.jwt_possession.specs.declared.once.once.Taken.TheVariants as answered
use Rattle.jwt_service.specs.declared.admission.Admission.TheVariants.{Admitted, ProofNotNew, TokenNotNew}
use Rattle.jwt_service.specs.declared.admission.Passed.{Passed}
use Rattle.jwt_service.specs.Settled.{is_new, settled}
use Rattle.jwt_service.specs.Laws.{WasNew}

was_new : (entry : Option Entry) (answer : Option Taken) → is_new entry answer ≡ true → WasNew entry answer
was_new None answer e = inl refl
was_new (Some entry) None e = absurd cc
was_new (Some entry) (Some answered.New) e = inr refl
was_new (Some entry) (Some answered.Seen) e = absurd cc
was_new (Some entry) (Some answered.Late) e = absurd cc
was_new (Some entry) (Some answered.OwnFull) e = absurd cc
was_new (Some entry) (Some answered.Full) e = absurd cc
was_new (Some entry) (Some answered.OutOfMemory) e = absurd cc

settled_by : (b c : Bool) (its claims : Members) (scheme : Scheme) (proof token : Option Taken)
    → (if b then (if c then Admitted its else TokenNotNew scheme token) else ProofNotNew proof) ≡ Admitted claims → (b ≡ true) × (c ≡ true) × (claims ≡ its)
settled_by true true its claims scheme proof token e = let same : Admitted its ≡ Admitted claims = e in (refl, refl, cc)
settled_by true false its claims scheme proof token e = let no : TokenNotNew scheme token ≡ Admitted claims = e in absurd cc
settled_by false c its claims scheme proof token e = let no : ProofNotNew proof ≡ Admitted claims = e in absurd cc

pub handed_out : (passed : Passed) (proof token : Option Taken) (claims : Members) → settled passed proof token ≡ Admitted claims
    → (claims ≡ passed.claims) × WasNew passed.proof proof × WasNew passed.token token
handed_out passed proof token claims e =
    let it = settled_by (is_new passed.proof proof) (is_new passed.token token) passed.claims claims passed.scheme proof token e in
    (it.2, was_new passed.proof proof it.0, was_new passed.token token it.1)
