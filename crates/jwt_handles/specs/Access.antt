-- Access rules that are held, and what they say of the claims of the last acceptance.
use Rattle.std.specs.Prelude.{◌≡◌, ◌≢◌, ℕ, List, Option, Some, None, Result, Ok, Err}
use Rattle.serde_json.specs.Data.{Members}
use Rattle.jwt_access.specs.Rules.{Rule}
use Rattle.jwt_access.specs.Granted.{IsGranted}
use Rattle.jwt_access.specs.DenialWords.{IsDenial}
use Rattle.jwt_access.specs.Document.{rule_of}
use Rattle.jwt_access.specs.FaultNames.{denied}
use Rattle.jwt_access.specs.declared.access_fault.AccessFault.{AccessFault}
use Rattle.jwt_access.specs.declared.access_fault.AccessFault.TheVariants as fault
use Rattle.jwt_access.specs.declared.denial.Denial.{Denial}
use Rattle.jwt_access.specs.declared.denial.Denial.TheVariants.{ScopeMissing, ClaimMissing, ClaimNotAllowed, ClaimPresent, ClaimHasOther, ClaimNotObject, ClaimNotDate, ClaimLater, ClaimTooOld, ClaimNotAscii}
use Rattle.jwt_access.specs.declared.moment.Moment.{Moment}
use Rattle.jwt_handles.specs.declared.rule_state.RuleState.{RuleState}
use Rattle.jwt_handles.specs.declared.status.TheConstants.{FOW_OK, FOW_REFUSED, FOW_OUT_OF_MEMORY, FOW_ABSENT, FOW_DENIED}
use Rattle.jwt_handles.specs.Written.{Puts}

-- ---- numbers

abbrev pub access_number : AccessFault → ℕ
access_number fault.OutOfMemory = 0
access_number fault.Json = 901
access_number fault.NameTwice = 902
access_number (fault.Member _) = 903
access_number (fault.Range _) = 904
access_number (fault.Claim _) = 905
access_number (fault.ClaimRange _) = 906
access_number fault.TooLong = 907

abbrev pub denial_number : Denial → ℕ
denial_number (ScopeMissing _) = 1001
denial_number (ClaimMissing _) = 1002
denial_number (ClaimNotAllowed _) = 1003
denial_number (ClaimPresent _) = 1004
denial_number (ClaimHasOther _) = 1005
denial_number (ClaimNotObject _) = 1006
denial_number (ClaimNotDate _) = 1007
denial_number (ClaimLater _) = 1008
denial_number (ClaimTooOld _) = 1009
denial_number (ClaimNotAscii _) = 1010

-- ---- what a handle holds

-- the rule that this document says
abbrev pub HoldsRule : List ℕ → Option RuleState → Type 0
HoldsRule document None = ⊥
HoldsRule document (Some state) = rule_of document ≡ Ok state.rule

abbrev pub RefusesRule : Result Rule AccessFault → ℕ → Type 0
RefusesRule (Ok rule) number = ⊥
RefusesRule (Err it) number = number ≡ access_number it

-- why what this document says isn't held: it is refused for this fault, or memory was refused
abbrev pub IsRuleRefused : List ℕ → ℕ → ℕ → Type 0
IsRuleRefused document status number = (status ≢ FOW_OK) × (status ≢ FOW_OUT_OF_MEMORY → (status ≡ FOW_REFUSED) × RefusesRule (rule_of document) number)

-- the member, or the claim, for which a rule is refused
abbrev pub refused_in : Result Rule AccessFault → Option (List ℕ)
refused_in (Err (fault.Member name)) = Some name
refused_in (Err (fault.Range name)) = Some name
refused_in (Err (fault.Claim name)) = Some name
refused_in (Err (fault.ClaimRange name)) = Some name
refused_in _ = None

-- ---- a rule that is held against claims

-- FOW_OK where the claims meet the rule at the moment of the verdict, else FOW_DENIED and the number of their denial; FOW_ABSENT where there are none
abbrev pub IsHeldAgainst : Rule → Moment → Option Members → ℕ → ℕ → Type 0
IsHeldAgainst rule moment None status number = status ≡ FOW_ABSENT
IsHeldAgainst rule moment (Some claims) status number =
    (status ≡ FOW_OK → IsGranted rule moment claims)
    × (status ≢ FOW_OK → (status ≡ FOW_DENIED) × ((denial : Denial) × IsDenial rule moment claims denial × (number ≡ denial_number denial)))

-- the scope or the claim of their denial is written; FOW_ABSENT where the claims meet the rule, or there are none
abbrev pub PutsDenied : Rule → Moment → Option Members → ℕ → ℕ → List ℕ → List ℕ → Type 0
PutsDenied rule moment None status size old out = status ≡ FOW_ABSENT
PutsDenied rule moment (Some claims) status size old out =
    (status ≡ FOW_ABSENT → IsGranted rule moment claims)
    × (status ≢ FOW_ABSENT → (denial : Denial) × IsDenial rule moment claims denial × Puts (denied denial) status size old out)
