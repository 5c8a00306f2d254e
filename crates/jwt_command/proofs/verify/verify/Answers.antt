use Rattle.std.proofs.Common.{rules, ◌≡◌, ◌∙◌, sym, ap, Ok, inr, map, subst, IfOk}
use Rattle.std.proofs.lemmas.Option.{IfSome_then}
use Rattle.jwt_text.specs.declared.limits.TheConstants.{LONGEST_POLICY}
use Rattle.jwt_output.specs.Printed.{Answer}
use Rattle.jwt_policy.specs.Document.{policy_of}
use Rattle.jwt_command.specs.Documents.{behind, document}
use Rattle.jwt_command.specs.Stops.{behind_policy, keys_most, token_most}
use Rattle.jwt_command.specs.Verify.{verifiers_for}
use Rattle.jwt_command.specs.Views.{printer_of}
use Rattle.jwt_words.specs.Seen.{held_view}
use Rattle.jwt_output.specs.Views.{reply_view}
use Rattle.jwt_command.proofs.Verifying.{document_stops, document_then_stops, policy_line_too_long, policy_read, under_policy_taken}
use Rattle.jwt_command.proofs.verify.verify.Goals as goal

pub returns-in-Err-TooLong-clause-line : goal.returns-in-Err-TooLong-clause-line
returns-in-Err-TooLong-clause-line g c =
    IfSome_then (g.R.Source.remaining c.args.r.now) c.in-Err-TooLong.ensures.fails
    (λ x h. let long = rw c.in-Err-TooLong.field-0-is at h in
    subst (λ (a : Answer). IfOk c.refused_policy.result (λ r. reply_view r.reply ≡ a)) (policy_line_too_long (printer_of c.args.options.now.printing c.args.options.now.expected) (verifiers_for c.args.options.now.public_keys (held_view c.args.held) (map (λ b. (goal.Verifier-dyn g (b.vtable, b.value)).meaning b.value) c.args.options.now.verifiers.now)) c.args.options.now.moment.seconds (held_view c.args.held) x _ long.1 long.0) c.refused_policy.ensures.line)

pub returns-in-Err-TooLong-clause-stops : goal.returns-in-Err-TooLong-clause-stops
returns-in-Err-TooLong-clause-stops g c = IfSome_then (g.R.Source.remaining c.args.r.now) c.in-Err-TooLong.ensures.taken (λ x h. document_stops LONGEST_POLICY (behind_policy (held_view c.args.held) (policy_of (document (held_view c.args.held).policy x)) (behind (held_view c.args.held).policy x)) (held_view c.args.held).policy x _ _ h)

pub returns-in-Err-OutOfMemory-clause-stops : goal.returns-in-Err-OutOfMemory-clause-stops
returns-in-Err-OutOfMemory-clause-stops g c = IfSome_then (g.R.Source.remaining c.args.r.now) c.in-Err-OutOfMemory.ensures.taken (λ x h. document_stops LONGEST_POLICY (behind_policy (held_view c.args.held) (policy_of (document (held_view c.args.held).policy x)) (behind (held_view c.args.held).policy x)) (held_view c.args.held).policy x _ _ h)

pub returns-in-Ok-read-clause-line : goal.returns-in-Ok-read-clause-line
returns-in-Ok-read-clause-line g c =
    let vs = verifiers_for c.args.options.now.public_keys (held_view c.args.held) (map (λ b. (goal.Verifier-dyn g (b.vtable, b.value)).meaning b.value) c.args.options.now.verifiers.now) in
    IfSome_then (g.R.Source.remaining c.args.r.now) c.in-Ok.ensures.document
    (λ x h.
    let is : Ok c.in-Ok-read.policy ≡ policy_of c.octets.result.now = c.in-Ok-read.ensures.answer (λ bad. cc bad) in
    policy_read (printer_of c.args.options.now.printing c.args.options.now.expected) (λ a. reply_view a.reply) c.on_keys.result vs c.args.options.now.moment.seconds (held_view c.args.held) c.in-Ok-read.policy x _ _ _ h (ap policy_of (sym c.octets.ensures) ∙ sym is) c.on_keys.ensures.line)

pub returns-in-Ok-read-clause-stops : goal.returns-in-Ok-read-clause-stops
returns-in-Ok-read-clause-stops g c =
    IfSome_then (g.R.Source.remaining c.args.r.now) c.in-Ok.ensures.document
    (λ x h.
    let is : Ok c.in-Ok-read.policy ≡ policy_of c.octets.result.now = c.in-Ok-read.ensures.answer (λ bad. cc bad) in
    let text : c.octets.result.now ≡ document (held_view c.args.held).policy x = c.octets.ensures ∙ h.octets_are in
    under_policy_taken (held_view c.args.held) x c.in-Ok-read.policy _ _ (sym (is ∙ ap policy_of text))
    (document_then_stops LONGEST_POLICY (λ y. keys_most (token_most (held_view c.args.held) c.in-Ok-read.policy) (held_view c.args.held).keys y) (held_view c.args.held).policy x _ _ _ _ h c.on_keys.ensures.stops))

pub returns-in-Err-OutOfMemory-read-clause-stops : goal.returns-in-Err-OutOfMemory-read-clause-stops
returns-in-Err-OutOfMemory-read-clause-stops g c = IfSome_then (g.R.Source.remaining c.args.r.now) c.in-Ok.ensures.document (λ x h. document_stops LONGEST_POLICY (behind_policy (held_view c.args.held) (policy_of (document (held_view c.args.held).policy x)) (behind (held_view c.args.held).policy x)) (held_view c.args.held).policy x _ _ (inr h.taken))

pub returns : goal.returns
returns g c = record {
  line = search rules;
  failed = search rules;
  stops = IfSome_then (g.R.Source.remaining c.args.r.now) c.in-Ok.ensures.document (λ x h. document_stops LONGEST_POLICY (behind_policy (held_view c.args.held) (policy_of (document (held_view c.args.held).policy x)) (behind (held_view c.args.held).policy x)) (held_view c.args.held).policy x _ _ (inr h.taken));
}
