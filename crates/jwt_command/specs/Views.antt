-- This crate's own values as contracts see them.
use Rattle.std.specs.Prelude.{Option, option_map}
use Rattle.std.specs.Borrow.{Bor}
use Rattle.jwt_access.specs.Rules.{Rule}
use Rattle.jwt_settings.specs.Seen.{expectation_view}
use Rattle.jwt_settings.specs.declared.expectation.Expectation.{Expectation}
use Rattle.jwt_settings.specs.declared.printing.Printing.{Printing}
use Rattle.jwt_output.specs.verdicts.Denied.{Demands}
use Rattle.jwt_output.specs.verdicts.Printer.{Printer, printer_for}
use Rattle.jwt_command.specs.declared.telling.Telling.{Telling}

-- an access rule, where there is one
abbrev pub rule_view : Option (Bor Rule) → Option Rule
rule_view rule = option_map (λ r. r.now) rule

-- how answers are told, with what is expected of a claim
abbrev pub printer_of : Printing → Option Expectation → Printer
printer_of printing expected = printer_for printing (option_map expectation_view expected)

-- what is asked of the claims of an accepted token
abbrev pub demands_of : Telling → Demands
demands_of telling = record { rule = rule_view telling.rule; expected = option_map expectation_view telling.expected }
