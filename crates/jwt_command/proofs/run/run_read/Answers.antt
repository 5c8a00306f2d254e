use Rattle.std.proofs.Common.{rules, refl, ◌≡◌, ◌∙◌, ap, sym, subst, map, Option, None, Some, IfOk}
use Rattle.jwt_words.specs.InHand.{unread}
use Rattle.jwt_words.specs.Reading.{Reads, reads}
use Rattle.jwt_words.specs.Seen.{command_view, held_view, lines_view}
use Rattle.jwt_words.specs.Words.{Command, VerifyLines}
use Rattle.jwt_words.specs.declared.command.Command.{Command as CodeCommand}
use Rattle.jwt_settings.specs.declared.printing.Printing.{Printing}
use Rattle.jwt_output.specs.Refused.{printed_file_fault}
use Rattle.jwt_output.specs.Views.{reply_view}
use Rattle.jwt_command.specs.RunLines.{Outcome}
use Rattle.jwt_command.specs.Runs.{Drawn, IsRun}
use Rattle.jwt_command.specs.declared.subject.Replied.{Replied}
use Rattle.jwt_command.proofs.Printing.{kept, lines_run, memory_run, reply_run, unread_run}
use Rattle.jwt_command.proofs.run.run_read.Goals as goal

-- ---- a file that can't be read

pub returns-in-Some-clause-run : goal.returns-in-Some-clause-run
returns-in-Some-clause-run g c =
    λ asked reading.
    let vs = map (λ b. (goal.Verifier-dyn g (b.vtable, b.value)).meaning b.value) c.args.at_hand.now.built_in.now in
    let held = held_view c.args.at_hand.now.held in
    let is : asked ≡ Some (command_view c.in-Ok.command) = search rules in
    let named = c.in-Some.ensures ∙ ap (λ (r : Reads). unread r.files held) c.reads-reads.ensures.is in
    let source = kept (g.R.Source.remaining c.args.r.now) (g.R.Source.failed c.args.r.now) in
    let outcome : Outcome = record { before = g.W.Sink.contents c.args.w.now; after = g.W.Sink.contents c.give_alone.new.w; failed = g.W.Sink.failed c.give_alone.new.w; status = c.give_alone.result.status } in
    subst (λ (q : Option Command). IsRun vs g.C.Clock.says held q source (c.args.r.now ≡ c.args.r.now) outcome) (sym is)
    (unread_run vs g.C.Clock.says held reply_view c.printed_file_fault.result (command_view c.in-Ok.command) _ (g.R.Source.remaining c.args.r.now) (g.R.Source.failed c.args.r.now) _ outcome named refl
    (subst (λ (p : Printing). IfOk c.printed_file_fault.result (λ a. reply_view a ≡ printed_file_fault p c.in-Some.name.now)) (ap (λ (r : Reads). r.printing) c.reads-reads.ensures.is) c.printed_file_fault.ensures)
    c.give_alone.ensures.ok c.give_alone.ensures.err)

-- ---- a verdict for each line

pub returns-in-VerifyLines-clause-run : goal.returns-in-VerifyLines-clause-run
returns-in-VerifyLines-clause-run g c =
    λ asked reading.
    let vs = map (λ b. (goal.Verifier-dyn g (b.vtable, b.value)).meaning b.value) c.args.at_hand.now.built_in.now in
    let held = held_view c.args.at_hand.now.held in
    let order = lines_view c.in-VerifyLines.order in
    let is : asked ≡ Some (VerifyLines order) = search rules in
    let none : None ≡ unread order.files held = subst (λ (k : CodeCommand). None ≡ unread (reads (command_view k)).files held) c.in-VerifyLines.is (c.in_default.ensures ∙ ap (λ (r : Reads). unread r.files held) c.reads-reads.ensures.is) in
    let source : Drawn = record { before = g.R.Source.remaining c.args.r.now; after = g.R.Source.remaining c.run_lines.new.r; failed = g.R.Source.failed c.run_lines.new.r } in
    let outcome : Outcome = record { before = g.W.Sink.contents c.args.w.now; after = g.W.Sink.contents c.run_lines.new.w; failed = g.W.Sink.failed c.run_lines.new.w; status = c.run_lines.result.status } in
    subst (λ (q : Option Command). IsRun vs g.C.Clock.says held q source (c.run_lines.new.r ≡ c.args.r.now) outcome) (sym is)
    (lines_run vs g.C.Clock.says held order source _ outcome none c.run_lines.ensures.answer)

-- ---- one answer

pub returns-in_default-command : goal.returns-in_default-command
returns-in_default-command g c =
    let vs = map (λ b. (goal.Verifier-dyn g (b.vtable, b.value)).meaning b.value) c.args.at_hand.now.built_in.now in
    let held = held_view c.args.at_hand.now.held in
    let command = command_view c.in-Ok.command in
    let none : None ≡ unread (reads command).files held = c.in_default.ensures ∙ ap (λ (r : Reads). unread r.files held) c.reads-reads.ensures.is in
    let source : Drawn = record { before = g.R.Source.remaining c.args.r.now; after = g.R.Source.remaining c.reply_to.new.r; failed = g.R.Source.failed c.reply_to.new.r } in
    let outcome : Outcome = record { before = g.W.Sink.contents c.args.w.now; after = g.W.Sink.contents c.give_replied.new.w; failed = g.W.Sink.failed c.give_replied.new.w; status = c.give_replied.result.status } in
    record {
      wrong = search rules;
      run = λ asked reading.
          let is : asked ≡ Some command = search rules in
          subst (λ (q : Option Command). IsRun vs g.C.Clock.says held q source (c.reply_to.new.r ≡ c.args.r.now) outcome) (sym is)
          (reply_run vs g.C.Clock.says held (λ (a : Replied). reply_view a.reply) c.reply_to.result command source _ outcome none
          c.reply_to.ensures.answer c.reply_to.ensures.stops c.reply_to.ensures.unread c.reply_to.ensures.known c.reply_to.ensures.fails c.give_replied.ensures.ok c.give_replied.ensures.err);
    }

-- ---- words that there was no memory to read

pub returns-in-Err-OutOfMemory-clause-run : goal.returns-in-Err-OutOfMemory-clause-run
returns-in-Err-OutOfMemory-clause-run g c =
    λ asked reading.
    let vs = map (λ b. (goal.Verifier-dyn g (b.vtable, b.value)).meaning b.value) c.args.at_hand.now.built_in.now in
    memory_run vs g.C.Clock.says (held_view c.args.at_hand.now.held) asked (g.R.Source.remaining c.args.r.now) (g.R.Source.failed c.args.r.now) _ _ refl c.give_no_memory.ensures.printed
