-- The two ways to print an answer of `verify`: in JSON, or in lines.
use Rattle.std.specs.Prelude.{ℕ, Bool, true, false, List, Option, None}
use Rattle.jwt_keys.specs.declared.fault.KeysFault.{KeysFault}
use Rattle.jwt_policy.specs.declared.policy_fault.PolicyFault.{PolicyFault}
use Rattle.jwt_access.specs.Rules.{Rule}
use Rattle.jwt_access.specs.declared.access_fault.AccessFault.{AccessFault}
use Rattle.jwt_verify.specs.Verdict.{Terms}
use Rattle.jwt_output.specs.Printed.{Answer}
use Rattle.jwt_output.specs.Refused.{printed_access_fault, printed_keys_fault, printed_policy_fault, printed_read_fault}
use Rattle.jwt_output.specs.verdicts.Verdicts.{token_answer}
use Rattle.jwt_settings.specs.Seen.{Expectation}
use Rattle.jwt_settings.specs.declared.printing.Printing.{Printing}

-- how the answers of `verify` are printed: of a token, under an access rule where there is one, of a document that is refused, and of a
-- read that failed
pub record Printer : Type 0 where
  pub token : Option Rule → Terms → List ℕ → Answer
  pub keys_refused : KeysFault → Answer
  pub policy_refused : PolicyFault → Answer
  pub access_refused : AccessFault → Answer
  pub read_failed : Answer

-- with what a claim has to be, where that is asked
abbrev pub printer_for : Printing → Option Expectation → Printer
printer_for printing expected = record { token = λ rule. token_answer printing (record { rule = rule; expected = expected }); keys_refused = printed_keys_fault printing; policy_refused = printed_policy_fault printing; access_refused = printed_access_fault printing; read_failed = printed_read_fault printing }

abbrev pub printer : Printing → Printer
printer printing = printer_for printing None

abbrev pub unless_read_failed : Printer → Bool → Answer → Answer
unless_read_failed tell true a = tell.read_failed
unless_read_failed tell false a = a
