use Rattle.std.proofs.Common.{map}
use Rattle.std.specs.Io.KnownBytes.{prepend_known}
use Rattle.jwt_keys.specs.KeySets.{key_set}
use Rattle.jwt_settings.specs.Seen.{seconds_of}
use Rattle.jwt_command.specs.Lines.{with_held}
use Rattle.jwt_command.specs.Views.{rule_view, printer_of}
use Rattle.jwt_command.specs.Verify.{terms_of_keys}
use Rattle.jwt_command.proofs.AnsweredLines.{Answering}
use Rattle.jwt_command.proofs.verify_lines.answer_lines.Given as goal

-- the lines that were taken are answered, as many as the number of the next, and the answers that haven't gone out are ready
abbrev pub invariant-lines : goal.invariant-lines
invariant-lines g l = record {
  answering : Answering (λ m x. (printer_of l.fn.shared.telling.printing l.fn.shared.telling.expected).token (rule_view l.fn.shared.telling.rule) (terms_of_keys (map (λ b. (goal.Verifier-dyn g (b.vtable, b.value)).meaning b.value) l.fn.shared.verifiers.now) m l.fn.shared.policy.now (key_set l.fn.shared.keys.now)) x)
      (with_held l.fn.shared.policy.now.run.limit g.C.Clock.says) (seconds_of l.fn.shared.moment) l.number (g.R.Source.remaining l.fn.r) (prepend_known l.ahead (g.R.Source.remaining l.r)) (g.W.Sink.contents l.fn.w) (g.W.Sink.contents l.w) l.ready.items;
}
