-- The access rule of `verify`.
use Rattle.std.specs.Prelude.{ℕ, List, Option, Some, None, Result, Ok, Err}
use Rattle.jwt_access.specs.Document.{rule_of}
use Rattle.jwt_access.specs.Rules.{Rule}
use Rattle.jwt_access.specs.declared.access_fault.AccessFault.{AccessFault}
use Rattle.jwt_verify.specs.Verdict.{Terms}
use Rattle.jwt_output.specs.Printed.{Answer}
use Rattle.jwt_output.specs.verdicts.Printer.{Printer}

-- a rule that was read
abbrev pub some_rule : Result Rule AccessFault → Result (Option Rule) AccessFault
some_rule (Ok rule) = Ok (Some rule)
some_rule (Err fault) = Err fault

-- the rule that the document in hand says; none is asked where there is no document
abbrev pub rule_in_hand : Option (List ℕ) → Result (Option Rule) AccessFault
rule_in_hand None = Ok None
rule_in_hand (Some document) = some_rule (rule_of document)

-- the answer to a token under that rule
abbrev pub under_rule : Printer → Terms → Result (Option Rule) AccessFault → List ℕ → Answer
under_rule tell q (Ok rule) x = tell.token rule q x
under_rule tell q (Err fault) x = tell.access_refused fault
