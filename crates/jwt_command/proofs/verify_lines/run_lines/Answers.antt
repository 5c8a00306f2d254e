use Rattle.std.proofs.Common.{ap, map, option_map}
use Rattle.jwt_settings.specs.Seen.{seconds_of}
use Rattle.jwt_words.specs.Seen.{held_view}
use Rattle.jwt_output.specs.Views.{reply_view}
use Rattle.jwt_command.specs.Verify.{verifiers_if}
use Rattle.jwt_command.specs.Views.{printer_of}
use Rattle.jwt_command.proofs.RunningLines.{without_keys, without_policy}
use Rattle.jwt_command.proofs.verify_lines.run_lines.Goals as goal

pub returns-in-None-keys : goal.returns-in-None-keys
returns-in-None-keys g c = record {
  answer = let vs = map (λ b. (goal.Verifier-dyn g (b.vtable, b.value)).meaning b.value) c.args.asked.now.at_hand.built_in.now in
      let held = held_view c.args.asked.now.at_hand.held in
      without_keys reply_view (printer_of c.args.asked.now.order.printing c.args.asked.now.order.expected) (verifiers_if c.args.asked.now.order.public_keys vs) g.C.Clock.says (seconds_of c.args.asked.now.order.now) held.policy held.keys held.access (g.R.Source.remaining c.args.r.now) c.printed_read_fault.result _ _
      (ap (option_map (λ t. t.now)) c.in-None-keys.is) c.printed_read_fault.ensures c.give_alone.ensures.ok c.give_alone.ensures.err;
}

pub returns-in-None : goal.returns-in-None
returns-in-None g c = record {
  answer = let vs = map (λ b. (goal.Verifier-dyn g (b.vtable, b.value)).meaning b.value) c.args.asked.now.at_hand.built_in.now in
      let held = held_view c.args.asked.now.at_hand.held in
      without_policy reply_view (printer_of c.args.asked.now.order.printing c.args.asked.now.order.expected) (verifiers_if c.args.asked.now.order.public_keys vs) g.C.Clock.says (seconds_of c.args.asked.now.order.now) held.policy held.keys held.access (g.R.Source.remaining c.args.r.now) c.printed_read_fault-in-None.result _ _
      (ap (option_map (λ t. t.now)) c.in-None.is) c.printed_read_fault-in-None.ensures c.give_alone-in-None.ensures.ok c.give_alone-in-None.ensures.err;
}
