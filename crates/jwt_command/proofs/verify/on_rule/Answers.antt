use Rattle.std.proofs.Common.{rules, ◌≡◌, ◌∙◌, Err, IfOk, IfSome, Ok, Option, Result, ap, subst, sym}
use Rattle.jwt_access.specs.Rules.{Rule}
use Rattle.jwt_access.specs.declared.access_fault.AccessFault.{AccessFault}
use Rattle.jwt_output.specs.verdicts.Printer.{unless_read_failed}
use Rattle.jwt_command.specs.Views.{rule_view, printer_of}
use Rattle.jwt_output.specs.Views.{reply_view}
use Rattle.jwt_words.specs.Seen.{held_view}
use Rattle.jwt_command.specs.Access.{rule_in_hand, under_rule}
use Rattle.jwt_command.specs.Documents.{last_document}
use Rattle.jwt_command.specs.Stops.{token_most}
use Rattle.jwt_verify.specs.TermsTable.{terms_meant}
use Rattle.jwt_command.proofs.Verifying.{nothing_taken, rule_refused}
use Rattle.jwt_command.proofs.verify.on_rule.Goals as goal

pub returns-in-Err : goal.returns-in-Err
returns-in-Err g c =
    let q = terms_meant (λ b. (goal.Verifier-dyn g (b.vtable, b.value)).meaning b.value) c.args.terms.now in
    let is : rule_in_hand (held_view c.args.held).access ≡ Err c.in-Err.fault = search rules in
    record {
      line = rule_refused (printer_of c.args.asked.now.printing c.args.asked.now.expected) (λ a. reply_view a.reply) c.refused_rule.result q (rule_in_hand (held_view c.args.held).access) c.in-Err.fault (λ x. last_document (held_view c.args.held).token x) (g.R.Source.remaining c.args.r.now) _ c.requires is c.refused_rule.ensures.line;
      stops = nothing_taken (λ x. token_most (held_view c.args.held) c.args.terms.now.policy.now) (g.R.Source.remaining c.args.r.now) (g.R.Source.failed c.args.r.now);
      failed = search rules;
    }

pub returns-in-Ok-clause-line : goal.returns-in-Ok-clause-line
returns-in-Ok-clause-line g c =
    let q = terms_meant (λ b. (goal.Verifier-dyn g (b.vtable, b.value)).meaning b.value) c.args.terms.now in
    let tell = printer_of c.args.asked.now.printing c.args.asked.now.expected in
    let read : Ok c.in-Ok.rule ≡ rule_in_hand (held_view c.args.held).access = c.in-Ok.ensures (λ bad. cc bad) in
    let is : rule_in_hand (held_view c.args.held).access ≡ Ok (rule_view c.as_ref.result) = sym read ∙ ap Ok (sym c.as_ref.ensures.value) in
    subst (λ (k : Result (Option Rule) AccessFault). IfSome (g.R.Source.remaining c.args.r.now) (λ x. IfOk c.on_last.result (λ a. reply_view a.reply ≡ unless_read_failed tell (g.R.Source.failed c.on_last.new.r) (under_rule tell q k (last_document (held_view c.args.held).token x))))) (sym is)
    c.on_last.ensures.line
