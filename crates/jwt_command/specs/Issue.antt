-- The answer of `jwt issue`.
use Rattle.std.specs.Prelude.{ℕ, Bool, List, length, nat_lt, if◌then◌else◌, Option, Result, Ok, Err, codes, true}
use Rattle.jwt_text.specs.declared.limits.TheConstants.{LONGEST_TOKEN}
use Rattle.jwt_keys.specs.KeySets.{KeyList, key_set_of}
use Rattle.jwt_keys.specs.Keys.{KeyParts}
use Rattle.jwt_keys.specs.declared.fault.KeysFault.{KeysFault}
use Rattle.jwt_policy.specs.declared.claim_fault.ClaimFault.{ClaimFault}
use Rattle.jwt_issue.specs.ClaimSets.{claim_set_of}
use Rattle.jwt_issue.specs.Options.{OptionParts, issued_by}
use Rattle.jwt_issue.specs.declared.fault.IssueFault.{IssueFault}
use Rattle.jwt_verify.specs.Verdict.{without_line_feed}
use Rattle.jwt_output.specs.Printed.{Answer}
use Rattle.jwt_command.specs.Documents.{behind, document}
use Rattle.jwt_output.specs.Refused.{claims_refused, issue_refused, printed_keys_fault, refused_named, unless_failed}
use Rattle.jwt_settings.specs.declared.printing.Printing.TheVariants.{Lines}

abbrev pub issued_answer : Result (List ℕ) IssueFault → Answer
issued_answer (Ok token) = record { text = token; status = 0 }
issued_answer (Err fault) = issue_refused fault

abbrev pub of_claims : OptionParts → List KeyParts → Result (List ℕ) ClaimFault → Answer
of_claims options keys (Ok claims) = issued_answer (issued_by options keys claims)
of_claims options keys (Err fault) = claims_refused fault

-- of claims, without one line feed at their end
abbrev pub claims_answer : OptionParts → List KeyParts → List ℕ → Answer
claims_answer options keys octets = if nat_lt LONGEST_TOKEN (length octets) then refused_named Lines (codes "TooLong") else of_claims options keys (claim_set_of (without_line_feed true octets))

abbrev pub issue_under : OptionParts → Result KeyList KeysFault → List ℕ → Answer
issue_under options (Ok set) claims = claims_answer options set.keys claims
issue_under options (Err fault) claims = printed_keys_fault Lines fault

-- of a key set, in hand or the first line of an input, and the claims behind it, by a reader that has failed or not
abbrev pub issue_answer : OptionParts → Option (List ℕ) → Bool → List ℕ → Answer
issue_answer options held failed input = unless_failed failed (issue_under options (key_set_of (document held input)) (behind held input))
