use Rattle.std.proofs.Common.{rules, ◌≡◌, inr, map, subst, IfOk, ◌∙◌, sym, ap}
use Rattle.std.proofs.lemmas.Option.{IfSome_then}
use Rattle.jwt_text.specs.declared.limits.TheConstants.{LONGEST_KEY_SET}
use Rattle.jwt_output.specs.Printed.{Answer}
use Rattle.jwt_keys.specs.KeySets.{key_set, key_set_of}
use Rattle.jwt_command.specs.Documents.{document}
use Rattle.jwt_command.specs.Stops.{behind_keys, token_most}
use Rattle.jwt_command.specs.Verify.{verifiers_for}
use Rattle.jwt_command.specs.Views.{printer_of}
use Rattle.jwt_words.specs.Seen.{held_view}
use Rattle.jwt_output.specs.Views.{reply_view}
use Rattle.jwt_command.proofs.Refusing.{keys_read}
use Rattle.jwt_command.proofs.Verifying.{behind_keys_taken, document_stops, keys_line_too_long}
use Rattle.jwt_command.proofs.verify.on_keys.Goals as goal

pub returns-in-Err-TooLong-clause-line : goal.returns-in-Err-TooLong-clause-line
returns-in-Err-TooLong-clause-line g c =
    IfSome_then (g.R.Source.remaining c.args.r.now) c.in-Err-TooLong.ensures.fails
    (λ x h. let long = rw c.in-Err-TooLong.field-0-is at h in
    subst (λ (a : Answer). IfOk c.refused_keys.result (λ r. reply_view r.reply ≡ a)) (keys_line_too_long (printer_of c.args.options.now.printing c.args.options.now.expected) (verifiers_for c.args.options.now.public_keys (held_view c.args.held) (map (λ b. (goal.Verifier-dyn g (b.vtable, b.value)).meaning b.value) c.args.options.now.verifiers.now)) c.args.options.now.moment.seconds (held_view c.args.held) c.args.policy.now x _ long.1 long.0) c.refused_keys.ensures.line)

pub returns-in-Err-TooLong-clause-stops : goal.returns-in-Err-TooLong-clause-stops
returns-in-Err-TooLong-clause-stops g c = IfSome_then (g.R.Source.remaining c.args.r.now) c.in-Err-TooLong.ensures.taken (λ x h. document_stops LONGEST_KEY_SET (behind_keys (token_most (held_view c.args.held) c.args.policy.now) (key_set_of (document (held_view c.args.held).keys x))) (held_view c.args.held).keys x _ _ h)

pub returns-in-Err-OutOfMemory-clause-stops : goal.returns-in-Err-OutOfMemory-clause-stops
returns-in-Err-OutOfMemory-clause-stops g c = IfSome_then (g.R.Source.remaining c.args.r.now) c.in-Err-OutOfMemory.ensures.taken (λ x h. document_stops LONGEST_KEY_SET (behind_keys (token_most (held_view c.args.held) c.args.policy.now) (key_set_of (document (held_view c.args.held).keys x))) (held_view c.args.held).keys x _ _ h)

pub returns-in-Ok-read-clause-stops : goal.returns-in-Ok-read-clause-stops
returns-in-Ok-read-clause-stops g c =
    IfSome_then (g.R.Source.remaining c.args.r.now) c.in-Ok.ensures.document
    (λ x h.
    behind_keys_taken (token_most (held_view c.args.held) c.args.policy.now) (held_view c.args.held).keys x _ _ _ _ (key_set c.in-Ok-read.keys)
    h (ap key_set_of (sym c.octets.ensures) ∙ c.in-Ok-read.ensures.answer) (rw c.terms_at-terms.ensures.policy at c.on_rule.ensures.stops))

pub returns-in-Ok-read-clause-line : goal.returns-in-Ok-read-clause-line
returns-in-Ok-read-clause-line g c =
    let vs = verifiers_for c.args.options.now.public_keys (held_view c.args.held) (map (λ b. (goal.Verifier-dyn g (b.vtable, b.value)).meaning b.value) c.args.options.now.verifiers.now) in
    IfSome_then (g.R.Source.remaining c.args.r.now) c.in-Ok.ensures.document
    (λ x h.
    keys_read (printer_of c.args.options.now.printing c.args.options.now.expected) (λ a. reply_view a.reply) c.on_rule.result vs c.args.options.now.moment.seconds (held_view c.args.held) c.args.policy.now (key_set c.in-Ok-read.keys) x _ _ _
    h (ap key_set_of (sym c.octets.ensures) ∙ c.in-Ok-read.ensures.answer) (rw c.verifiers_for-verifiers.ensures at (rw c.terms_at-terms.ensures.meant at (rw c.of-asked.ensures.printing at (rw c.of-asked.ensures.expected at c.on_rule.ensures.line)))))

pub returns-in-Err-OutOfMemory-read-clause-stops : goal.returns-in-Err-OutOfMemory-read-clause-stops
returns-in-Err-OutOfMemory-read-clause-stops g c = IfSome_then (g.R.Source.remaining c.args.r.now) c.in-Ok.ensures.document (λ x h. document_stops LONGEST_KEY_SET (behind_keys (token_most (held_view c.args.held) c.args.policy.now) (key_set_of (document (held_view c.args.held).keys x))) (held_view c.args.held).keys x _ _ (inr h.taken))

pub returns : goal.returns
returns g c = record {
  line = search rules;
  failed = search rules;
  stops = IfSome_then (g.R.Source.remaining c.args.r.now) c.in-Ok.ensures.document (λ x h. document_stops LONGEST_KEY_SET (behind_keys (token_most (held_view c.args.held) c.args.policy.now) (key_set_of (document (held_view c.args.held).keys x))) (held_view c.args.held).keys x _ _ (inr h.taken));
}
