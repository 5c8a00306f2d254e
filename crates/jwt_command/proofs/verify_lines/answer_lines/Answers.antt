use Rattle.std.proofs.Common.{◌∙◌, sym, ap, subst, refl, inl, inr, ℕ, List, IfSome, Some, Ok, Err, map, option_map}
use Rattle.std.proofs.lemmas.Option.{IfSome_then}
use Rattle.std.specs.Io.KnownBytes.{prepend_known}
use Rattle.jwt_keys.specs.KeySets.{key_set}
use Rattle.jwt_settings.specs.Seen.{seconds_of}
use Rattle.jwt_command.specs.Lines.{LineAnswered, with_held}
use Rattle.jwt_output.specs.Printed.{Answer}
use Rattle.jwt_command.specs.Views.{rule_view, printer_of}
use Rattle.jwt_settings.specs.Seen.{expectation_view}
use Rattle.jwt_command.specs.declared.input.line.LineFault.TheVariants.{OutOfMemory}
use Rattle.jwt_command.specs.Verify.{terms_of_keys}
use Rattle.jwt_command.proofs.AnsweredLines.{Answering, Bounded, answering_kept, answering_more, answering_none, lines_cut, lines_done, lines_memory, lines_stopped}
use Rattle.jwt_command.proofs.WalkedLines.{Line, printed_bounded}
use Rattle.jwt_command.proofs.verify_lines.answer_lines.Goals as goal

pub returns-in_default : goal.returns-in_default
returns-in_default g c =
    let vs = map (λ b. (goal.Verifier-dyn g (b.vtable, b.value)).meaning b.value) c.args.shared.now.verifiers.now in
    let at : ℕ → List ℕ → Answer = λ m l. (printer_of c.args.shared.now.telling.printing c.args.shared.now.telling.expected).token (rule_view c.args.shared.now.telling.rule) (terms_of_keys vs m c.args.shared.now.policy.now (key_set c.args.shared.now.keys.now)) l in
    lines_memory at (printer_of c.args.shared.now.telling.printing c.args.shared.now.telling.expected).read_failed (with_held c.args.shared.now.policy.now.run.limit g.C.Clock.says) (seconds_of c.args.shared.now.moment) (g.R.Source.remaining c.args.r.now) _ _ _ _ _ c.lack_memory.ensures

pub lines-init : goal.lines-init
lines-init g c =
    let vs = map (λ b. (goal.Verifier-dyn g (b.vtable, b.value)).meaning b.value) c.args.shared.now.verifiers.now in
    let at : ℕ → List ℕ → Answer = λ m l. (printer_of c.args.shared.now.telling.printing c.args.shared.now.telling.expected).token (rule_view c.args.shared.now.telling.rule) (terms_of_keys vs m c.args.shared.now.policy.now (key_set c.args.shared.now.keys.now)) l in
    record {
      answering = answering_none at (with_held c.args.shared.now.policy.now.run.limit g.C.Clock.says) (seconds_of c.args.shared.now.moment) (g.R.Source.remaining c.args.r.now) c.in-Ok.ahead (g.W.Sink.contents c.args.w.now) c.new-ready.result.items c.in-Ok.ensures c.new-ready.ensures.items;
    }

pub returns-then-not-send_in_time : goal.returns-then-not-send_in_time
returns-then-not-send_in_time g c =
    let vs = map (λ b. (goal.Verifier-dyn g (b.vtable, b.value)).meaning b.value) c.args.shared.now.verifiers.now in
    let at : ℕ → List ℕ → Answer = λ m l. (printer_of c.args.shared.now.telling.printing c.args.shared.now.telling.expected).token (rule_view c.args.shared.now.telling.rule) (terms_of_keys vs m c.args.shared.now.policy.now (key_set c.args.shared.now.keys.now)) l in
    let says = with_held c.args.shared.now.policy.now.run.limit g.C.Clock.says in
    let known = g.R.Source.remaining c.args.r.now in
    let left = prepend_known c.lines.ahead (g.R.Source.remaining c.lines.r) in
    lines_cut at (printer_of c.args.shared.now.telling.printing c.args.shared.now.telling.expected).read_failed says (seconds_of c.args.shared.now.moment) c.lines.number known left _ _ (g.W.Sink.contents c.lines.w) _ c.lines.ready.items _ _ c.lines.invariant.answering (c.send_in_time.ensures.cut (search (c.if-not-send_in_time.true))) refl

pub returns-in-Err-answer_line : goal.returns-in-Err-answer_line
returns-in-Err-answer_line g c =
    let vs = map (λ b. (goal.Verifier-dyn g (b.vtable, b.value)).meaning b.value) c.args.shared.now.verifiers.now in
    let at : ℕ → List ℕ → Answer = λ m l. (printer_of c.args.shared.now.telling.printing c.args.shared.now.telling.expected).token (rule_view c.args.shared.now.telling.rule) (terms_of_keys vs m c.args.shared.now.policy.now (key_set c.args.shared.now.keys.now)) l in
    let says = with_held c.args.shared.now.policy.now.run.limit g.C.Clock.says in
    let known = g.R.Source.remaining c.args.r.now in
    let left = prepend_known c.lines.ahead (g.R.Source.remaining c.lines.r) in
    let run = answering_kept at says (seconds_of c.args.shared.now.moment) c.lines.number known left (g.W.Sink.contents c.args.w.now) (g.W.Sink.contents c.lines.w) (g.W.Sink.contents c.send_in_time.new.w) c.lines.ready.items c.send_in_time.new.ready.items c.lines.invariant.answering (c.send_in_time.ensures.sent (search (c.if-not-send_in_time.false))) in
    let ready = subst (λ r. Answering at says (seconds_of c.args.shared.now.moment) c.lines.number known left (g.W.Sink.contents c.args.w.now) (g.W.Sink.contents c.send_in_time.new.w) r) (sym c.in-Err-answer_line.ensures.kept) run in
    lines_stopped at (printer_of c.args.shared.now.telling.printing c.args.shared.now.telling.expected).read_failed says (seconds_of c.args.shared.now.moment) c.lines.number known left (g.R.Source.failed c.take_line.new.r) (g.W.Sink.contents c.args.w.now) (g.W.Sink.contents c.send_in_time.new.w) (g.W.Sink.contents c.stop_lines.new.w) c.answer_line.new.ready.items (g.W.Sink.failed c.stop_lines.new.w) c.stop_lines.result c.in-Err-answer_line.fault ready
    (λ is. inr (c.answer_line.ensures.read (c.in-Err-answer_line.is ∙ ap Err is))) c.stop_lines.ensures

pub returns-in-Ok-false : goal.returns-in-Ok-false
returns-in-Ok-false g c =
    let vs = map (λ b. (goal.Verifier-dyn g (b.vtable, b.value)).meaning b.value) c.args.shared.now.verifiers.now in
    let at : ℕ → List ℕ → Answer = λ m l. (printer_of c.args.shared.now.telling.printing c.args.shared.now.telling.expected).token (rule_view c.args.shared.now.telling.rule) (terms_of_keys vs m c.args.shared.now.policy.now (key_set c.args.shared.now.keys.now)) l in
    let says = with_held c.args.shared.now.policy.now.run.limit g.C.Clock.says in
    let known = g.R.Source.remaining c.args.r.now in
    let left = prepend_known c.lines.ahead (g.R.Source.remaining c.lines.r) in
    let run = answering_kept at says (seconds_of c.args.shared.now.moment) c.lines.number known left _ (g.W.Sink.contents c.lines.w) (g.W.Sink.contents c.send_in_time.new.w) c.lines.ready.items c.send_in_time.new.ready.items c.lines.invariant.answering (c.send_in_time.ensures.sent (search (c.if-not-send_in_time.false))) in
    lines_done at (printer_of c.args.shared.now.telling.printing c.args.shared.now.telling.expected).read_failed says (seconds_of c.args.shared.now.moment) c.lines.number known left _ _ (g.W.Sink.contents c.send_in_time.new.w) _ c.send_in_time.new.ready.items _ _ run
    (IfSome_then left c.take_line.ensures.end (λ y f. f (c.in-Ok-false.is ∙ ap Ok c.in-Ok-false.field-0-test))) c.end_lines.ensures

pub returns-in-Err : goal.returns-in-Err
returns-in-Err g c =
    let vs = map (λ b. (goal.Verifier-dyn g (b.vtable, b.value)).meaning b.value) c.args.shared.now.verifiers.now in
    let at : ℕ → List ℕ → Answer = λ m l. (printer_of c.args.shared.now.telling.printing c.args.shared.now.telling.expected).token (rule_view c.args.shared.now.telling.rule) (terms_of_keys vs m c.args.shared.now.policy.now (key_set c.args.shared.now.keys.now)) l in
    let says = with_held c.args.shared.now.policy.now.run.limit g.C.Clock.says in
    let known = g.R.Source.remaining c.args.r.now in
    let left = prepend_known c.lines.ahead (g.R.Source.remaining c.lines.r) in
    let run = answering_kept at says (seconds_of c.args.shared.now.moment) c.lines.number known left _ (g.W.Sink.contents c.lines.w) (g.W.Sink.contents c.send_in_time.new.w) c.lines.ready.items c.send_in_time.new.ready.items c.lines.invariant.answering (c.send_in_time.ensures.sent (search (c.if-not-send_in_time.false))) in
    lines_stopped at (printer_of c.args.shared.now.telling.printing c.args.shared.now.telling.expected).read_failed says (seconds_of c.args.shared.now.moment) c.lines.number known left _ _ (g.W.Sink.contents c.send_in_time.new.w) _ c.send_in_time.new.ready.items _ _ c.in-Err.fault run
    (λ is. inl (c.take_line.ensures.read (c.in-Err.is ∙ ap Err is))) c.stop_lines-in-Err.ensures

pub lines-preserved : goal.lines-preserved
lines-preserved g c =
    let vs = map (λ b. (goal.Verifier-dyn g (b.vtable, b.value)).meaning b.value) c.args.shared.now.verifiers.now in
    let at : ℕ → List ℕ → Answer = λ m l. (printer_of c.args.shared.now.telling.printing c.args.shared.now.telling.expected).token (rule_view c.args.shared.now.telling.rule) (terms_of_keys vs m c.args.shared.now.policy.now (key_set c.args.shared.now.keys.now)) l in
    let says = with_held c.args.shared.now.policy.now.run.limit g.C.Clock.says in
    let known = g.R.Source.remaining c.args.r.now in
    let left = prepend_known c.lines.ahead (g.R.Source.remaining c.lines.r) in
    let run = answering_kept at says (seconds_of c.args.shared.now.moment) c.lines.number known left _ (g.W.Sink.contents c.lines.w) (g.W.Sink.contents c.send_in_time.new.w) c.lines.ready.items c.send_in_time.new.ready.items c.lines.invariant.answering (c.send_in_time.ensures.sent (search (c.if-not-send_in_time.false))) in
    let same : Bounded c.args.shared.now.policy.now.run.limit at = (λ m l. printed_bounded c.args.shared.now.telling.printing (option_map expectation_view c.args.shared.now.telling.expected) (rule_view c.args.shared.now.telling.rule) (terms_of_keys vs m c.args.shared.now.policy.now (key_set c.args.shared.now.keys.now)) l) in
    let taken = IfSome_then left c.take_line.ensures.line (λ y f. f (c.in-Ok-true.is ∙ ap Ok c.in-Ok-true.field-0-test)) in
    let line = subst (λ n. IfSome left (λ y. Line n y c.take_line.new.line.items (prepend_known c.take_line.new.ahead (g.R.Source.remaining c.take_line.new.r)))) c.limit-limit.ensures.value taken in
    record {
      answering = answering_more c.args.shared.now.policy.now.run.limit at g.C.Clock.says (seconds_of c.args.shared.now.moment) c.lines.number known left _ c.take_line.new.line.items _ (g.W.Sink.contents c.send_in_time.new.w) c.send_in_time.new.ready.items c.answer_line.new.ready.items same run line
          (subst (λ z. LineAnswered at (g.C.Clock.says c.lines.number z) (seconds_of c.args.shared.now.moment) z (Some c.send_in_time.new.ready.items) (Some c.answer_line.new.ready.items)) c.as_slice.ensures.value c.in_default-answer_line.ensures.answered);
    }

pub returns : goal.returns
returns g c =
    let vs = map (λ b. (goal.Verifier-dyn g (b.vtable, b.value)).meaning b.value) c.args.shared.now.verifiers.now in
    let at : ℕ → List ℕ → Answer = λ m l. (printer_of c.args.shared.now.telling.printing c.args.shared.now.telling.expected).token (rule_view c.args.shared.now.telling.rule) (terms_of_keys vs m c.args.shared.now.policy.now (key_set c.args.shared.now.keys.now)) l in
    let says = with_held c.args.shared.now.policy.now.run.limit g.C.Clock.says in
    let known = g.R.Source.remaining c.args.r.now in
    let left = prepend_known c.lines.ahead (g.R.Source.remaining c.lines.r) in
    lines_stopped at (printer_of c.args.shared.now.telling.printing c.args.shared.now.telling.expected).read_failed says (seconds_of c.args.shared.now.moment) c.lines.number known left _ _ (g.W.Sink.contents c.lines.w) _ c.lines.ready.items _ _ OutOfMemory c.lines.invariant.answering
    (λ is. absurd (cc is)) c.stop_lines-2.ensures
