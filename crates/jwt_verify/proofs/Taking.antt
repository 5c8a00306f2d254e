-- What is taken of a source, and what that comes to.
use Rattle.std.proofs.Common.{◌≡◌, ℕ, ◌+◌, Bool, true, false, List, [], ◌∷◌, ◌++◌, length, drop, Option, Some, Err, arith, refl, sym, ap, ◌∙◌, inl, inr}
use Rattle.std.proofs.lemmas.Bool.{cases_lt, false≢true}
use Rattle.std.proofs.lemmas.List.{take_all}
use Rattle.jwt_text.specs.Intake.{taken, TakesAtMost}
use Rattle.jwt_policy.specs.Settings.{Settings}
use Rattle.jwt_verify.specs.declared.report.Fault.{Fault}
use Rattle.jwt_verify.specs.declared.report.Fault.TheVariants.{OutOfMemory, Text}
use Rattle.jwt_verify.specs.declared.report.InputFault.TheVariants.{Read}
use Rattle.jwt_verify.specs.declared.report.Verdict.{Verdict}
use Rattle.jwt_verify.specs.declared.report.Verdict.TheVariants.{Refused}
use Rattle.jwt_verify.specs.declared.report.Try.{Try}
use Rattle.jwt_verify.specs.declared.report.SigState.{SigState}
use Rattle.jwt_verify.specs.Reports.{Failed}
use Rattle.jwt_verify.specs.Steps.{IsTakenIn, IsSourceFault}
use Rattle.jwt_verify.specs.Verdict.{token_of}
use Rattle.jwt_verify.proofs.Judged.{same_token}

-- the token is told by what is taken
pub token_taken : (p : Settings) (x : List ℕ) → token_of p (taken x p.run.limit) ≡ token_of p x
token_taken p x = elim (cases_lt p.run.limit (length x)) [
  | inl l ↦ same_token p x l
  | inr m ↦ ap (token_of p) (take_all (p.run.limit + 1) x (omega (arith, m)))
]

pub takes_taken : (x : List ℕ) (limit : ℕ) (rest : Option (List ℕ)) → rest ≡ Some (drop (limit + 1) x) → TakesAtMost (limit + 1) x rest
takes_taken x limit rest e = (limit + 1, omega arith, e)

drop_front : (front back : List ℕ) → drop (length front) (front ++ back) ≡ back
drop_front [] back = refl
drop_front (c ∷ front) back = drop_front front back

-- what a source gave before it failed, or before memory was refused
pub source_takes : (fault : Fault) (limit : ℕ) (x : List ℕ) (rest : Option (List ℕ)) → IsTakenIn (Err fault) limit x rest → TakesAtMost limit x rest
source_takes fault limit x rest (front, back, parts, here, few) =
    (length front, few, here ∙ ap Some (sym (ap (drop (length front)) parts ∙ drop_front front back)))

pub takes_more : (limit : ℕ) (x : List ℕ) (rest : Option (List ℕ)) → TakesAtMost limit x rest → TakesAtMost (limit + 1) x rest
takes_more limit x rest (n, few, here) = (n, omega (arith, few), here)

-- a source that fails now is told
pub source_fails : (fault : Fault) (before failed : Bool) (v : Verdict) → IsSourceFault before failed fault → v ≡ Refused fault → before ≡ false → failed ≡ true → v ≡ Refused (Text Read)
source_fails OutOfMemory before failed v is by worked fails = absurd (false≢true (sym worked ∙ sym is ∙ fails))
source_fails (Text Read) before failed v is by worked fails = by
source_fails _ before failed v is by worked fails = absurd is

-- nothing was tried then
pub nothing_failed : (fault : Fault) (before failed : Bool) (v : Verdict) (es : List Try) (sts : List SigState) → IsSourceFault before failed fault → v ≡ Refused fault
    → es ≡ [] → sts ≡ [] → Failed v es sts
nothing_failed OutOfMemory before failed v es sts is by tries states = (inr by, tries, states)
nothing_failed (Text Read) before failed v es sts is by tries states = (inl by, tries, states)
nothing_failed _ before failed v es sts is by tries states = absurd is
