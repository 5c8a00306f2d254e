use Rattle.std.proofs.Common.{rules, ◌≡◌, ◌∙◌, sym, ap, map, option_map, Ok, Err}
use Rattle.jwt_keys.specs.KeySets.{key_set, key_set_of}
use Rattle.jwt_policy.specs.Document.{policy_of}
use Rattle.jwt_output.specs.Views.{reply_view}
use Rattle.jwt_command.specs.Views.{rule_view, printer_of}
use Rattle.jwt_command.specs.Access.{rule_in_hand}
use Rattle.jwt_settings.specs.Seen.{seconds_of}
use Rattle.jwt_command.proofs.RunningLines.{keys_are_refused, lines_are_given, lines_by_rule_are_given, policy_is_refused, rule_is_refused}
use Rattle.jwt_command.proofs.verify_lines.lines_in_hand.Goals as goal

pub returns-in-Err : goal.returns-in-Err
returns-in-Err g c = record {
  answer = let vs = map (λ b. (goal.Verifier-dyn g (b.vtable, b.value)).meaning b.value) c.args.lines.now.verifiers.now in
      let is : policy_of c.args.lines.now.policy.now ≡ Err c.in-Err.fault = search rules in
      policy_is_refused (λ a. reply_view a.reply) (printer_of c.args.lines.now.printing c.args.lines.now.expected) vs g.C.Clock.says (seconds_of c.args.lines.now.moment) (g.R.Source.remaining c.args.r.now) (policy_of c.args.lines.now.policy.now) (key_set_of c.args.lines.now.keys.now) (rule_in_hand (option_map (λ t. t.now) c.args.lines.now.access)) c.in-Err.fault c.refused_policy.result _ _
      is c.refused_policy.ensures.line c.give_replied.ensures.ok c.give_replied.ensures.err;
}

pub returns-in-Err-read : goal.returns-in-Err-read
returns-in-Err-read g c = record {
  answer = let vs = map (λ b. (goal.Verifier-dyn g (b.vtable, b.value)).meaning b.value) c.args.lines.now.verifiers.now in
      let policy_is : Ok c.in-Ok.policy ≡ policy_of c.args.lines.now.policy.now = c.in-Ok.ensures.answer (λ bad. cc bad) in
      let set_is : key_set_of c.args.lines.now.keys.now ≡ Err c.in-Err-read.fault = search rules in
      keys_are_refused (λ a. reply_view a.reply) (printer_of c.args.lines.now.printing c.args.lines.now.expected) vs g.C.Clock.says (seconds_of c.args.lines.now.moment) (g.R.Source.remaining c.args.r.now) (policy_of c.args.lines.now.policy.now) (key_set_of c.args.lines.now.keys.now) (rule_in_hand (option_map (λ t. t.now) c.args.lines.now.access)) c.in-Ok.policy c.in-Err-read.fault c.refused_keys.result _ _
      (sym policy_is) set_is c.refused_keys.ensures.line c.give_replied-in-Err-read.ensures.ok c.give_replied-in-Err-read.ensures.err;
}

pub returns-in-Ok-rule_in_hand : goal.returns-in-Ok-rule_in_hand
returns-in-Ok-rule_in_hand g c = record {
  answer = let vs = map (λ b. (goal.Verifier-dyn g (b.vtable, b.value)).meaning b.value) c.args.lines.now.verifiers.now in
      let policy_is : Ok c.in-Ok.policy ≡ policy_of c.args.lines.now.policy.now = c.in-Ok.ensures.answer (λ bad. cc bad) in
      let read : Ok c.in-Ok-rule_in_hand.rule ≡ rule_in_hand (option_map (λ t. t.now) c.args.lines.now.access) = c.in-Ok-rule_in_hand.ensures (λ bad. cc bad) in
      let is : rule_in_hand (option_map (λ t. t.now) c.args.lines.now.access) ≡ Ok (rule_view c.as_ref.result) = sym read ∙ ap Ok (sym c.as_ref.ensures.value) in
      lines_are_given (printer_of c.args.lines.now.printing c.args.lines.now.expected) vs g.C.Clock.says (seconds_of c.args.lines.now.moment) (g.R.Source.remaining c.args.r.now) (policy_of c.args.lines.now.policy.now) (key_set_of c.args.lines.now.keys.now) (rule_in_hand (option_map (λ t. t.now) c.args.lines.now.access)) c.in-Ok.policy (key_set c.in-Ok-read.keys) _ _
      (sym policy_is) c.in-Ok-read.ensures.answer
      (lines_by_rule_are_given (printer_of c.args.lines.now.printing c.args.lines.now.expected) vs g.C.Clock.says (seconds_of c.args.lines.now.moment) (g.R.Source.remaining c.args.r.now) c.in-Ok.policy (key_set c.in-Ok-read.keys) (rule_in_hand (option_map (λ t. t.now) c.args.lines.now.access))
      (rule_view c.as_ref.result) _ _ is c.answer_lines.ensures);
}

pub returns : goal.returns
returns g c = record {
  answer = let vs = map (λ b. (goal.Verifier-dyn g (b.vtable, b.value)).meaning b.value) c.args.lines.now.verifiers.now in
      let policy_is : Ok c.in-Ok.policy ≡ policy_of c.args.lines.now.policy.now = c.in-Ok.ensures.answer (λ bad. cc bad) in
      let is : rule_in_hand (option_map (λ t. t.now) c.args.lines.now.access) ≡ Err c.in-Err-rule_in_hand.fault = search rules in
      lines_are_given (printer_of c.args.lines.now.printing c.args.lines.now.expected) vs g.C.Clock.says (seconds_of c.args.lines.now.moment) (g.R.Source.remaining c.args.r.now) (policy_of c.args.lines.now.policy.now) (key_set_of c.args.lines.now.keys.now) (rule_in_hand (option_map (λ t. t.now) c.args.lines.now.access)) c.in-Ok.policy (key_set c.in-Ok-read.keys) _ _
      (sym policy_is) c.in-Ok-read.ensures.answer
      (rule_is_refused (λ a. reply_view a.reply) (printer_of c.args.lines.now.printing c.args.lines.now.expected) vs g.C.Clock.says (seconds_of c.args.lines.now.moment) (g.R.Source.remaining c.args.r.now) c.in-Ok.policy (key_set c.in-Ok-read.keys) (rule_in_hand (option_map (λ t. t.now) c.args.lines.now.access))
      c.in-Err-rule_in_hand.fault c.refused_rule.result _ _ is c.refused_rule.ensures.line c.give_replied-in-Err-rule_in_hand.ensures.ok c.give_replied-in-Err-rule_in_hand.ensures.err);
}
