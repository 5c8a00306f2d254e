use Rattle.std.proofs.Common.{◌+◌, rules, ◌≡◌, ◌∙◌, inr, ap, sym, subst, option_map, IfOk}
use Rattle.std.proofs.lemmas.Option.{IfSome_then}
use Rattle.jwt_text.specs.declared.limits.TheConstants.{LONGEST_KEY_SET, LONGEST_TOKEN}
use Rattle.jwt_output.specs.Printed.{Answer}
use Rattle.jwt_keys.specs.KeySets.{key_set, key_set_of}
use Rattle.jwt_command.specs.Documents.{document}
use Rattle.jwt_command.specs.Stops.{behind_keys}
use Rattle.jwt_output.specs.Views.{reply_view}
use Rattle.jwt_issue.specs.Views.{options_parts}
use Rattle.jwt_command.proofs.Verifying.{behind_keys_taken, document_stops, issue_line_too_long}
use Rattle.jwt_command.proofs.issue.issue.Goals as goal

pub returns-in-Err-TooLong-clause-line : goal.returns-in-Err-TooLong-clause-line
returns-in-Err-TooLong-clause-line g c =
    IfSome_then (g.R.Source.remaining c.args.r.now) c.in-Err-TooLong.ensures.fails
    (λ x h. let long = rw c.in-Err-TooLong.field-0-is at h in
    subst (λ (a : Answer). IfOk c.refused_keys.result (λ r. reply_view r.reply ≡ a)) (issue_line_too_long (options_parts c.args.options) (option_map (λ t. t.now) c.args.keys) x _ long.1 long.0) c.refused_keys.ensures.line)

pub returns-in-Err-TooLong-clause-stops : goal.returns-in-Err-TooLong-clause-stops
returns-in-Err-TooLong-clause-stops g c = IfSome_then (g.R.Source.remaining c.args.r.now) c.in-Err-TooLong.ensures.taken (λ x h. document_stops LONGEST_KEY_SET (behind_keys (LONGEST_TOKEN + 1) (key_set_of (document (option_map (λ t. t.now) c.args.keys) x))) (option_map (λ t. t.now) c.args.keys) x _ _ h)

pub returns-in-Err-OutOfMemory-clause-stops : goal.returns-in-Err-OutOfMemory-clause-stops
returns-in-Err-OutOfMemory-clause-stops g c = IfSome_then (g.R.Source.remaining c.args.r.now) c.in-Err-OutOfMemory.ensures.taken (λ x h. document_stops LONGEST_KEY_SET (behind_keys (LONGEST_TOKEN + 1) (key_set_of (document (option_map (λ t. t.now) c.args.keys) x))) (option_map (λ t. t.now) c.args.keys) x _ _ h)

pub returns-in-Ok-read-clause-stops : goal.returns-in-Ok-read-clause-stops
returns-in-Ok-read-clause-stops g c =
    IfSome_then (g.R.Source.remaining c.args.r.now) c.in-Ok.ensures.document
    (λ x h. behind_keys_taken (LONGEST_TOKEN + 1) (option_map (λ t. t.now) c.args.keys) x _ _ _ _ (key_set c.in-Ok-read.keys)
    h (ap key_set_of (sym c.octets.ensures) ∙ c.in-Ok-read.ensures.answer) c.on_claims.ensures.taken)

pub returns-in-Err-OutOfMemory-read-clause-stops : goal.returns-in-Err-OutOfMemory-read-clause-stops
returns-in-Err-OutOfMemory-read-clause-stops g c = IfSome_then (g.R.Source.remaining c.args.r.now) c.in-Ok.ensures.document (λ x h. document_stops LONGEST_KEY_SET (behind_keys (LONGEST_TOKEN + 1) (key_set_of (document (option_map (λ t. t.now) c.args.keys) x))) (option_map (λ t. t.now) c.args.keys) x _ _ (inr h.taken))

pub returns : goal.returns
returns g c = record {
  line = search rules;
  failed = search rules;
  stops = IfSome_then (g.R.Source.remaining c.args.r.now) c.in-Ok.ensures.document (λ x h. document_stops LONGEST_KEY_SET (behind_keys (LONGEST_TOKEN + 1) (key_set_of (document (option_map (λ t. t.now) c.args.keys) x))) (option_map (λ t. t.now) c.args.keys) x _ _ (inr h.taken));
}
