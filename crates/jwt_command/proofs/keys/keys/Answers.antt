use Rattle.std.proofs.Common.{rules, ◌≡◌, ◌∙◌, ap, Ok, Err}
use Rattle.std.proofs.lemmas.Option.{IfSome_then}
use Rattle.std.proofs.lemmas.Result.{IfOk-weaker}
use Rattle.jwt_keys.specs.KeySets.{key_set, key_set_of}
use Rattle.jwt_output.specs.Printed.{Answer}
use Rattle.jwt_output.specs.Views.{reply_view}
use Rattle.jwt_command.specs.Keys.{IsListed}
use Rattle.jwt_command.proofs.Refusing.{set_listed}
use Rattle.jwt_command.proofs.keys.keys.Goals as goal

pub returns-in-Ok-clause-answer : goal.returns-in-Ok-clause-answer
returns-in-Ok-clause-answer g c =
    let read = rw c.in-Some.is at c.in_ok-input.ensures.read in
    let works = rw c.in-Some.is at c.in_ok-input.ensures.works in
    IfSome_then (g.R.Source.remaining c.args.r.now) read
    (λ x taken. set_listed c.args.printing x c.octets.result.now _ (Ok (key_set c.in-Ok.set)) (reply_view c.advised.result.reply) (c.octets.ensures.value ∙ taken) works c.in-Ok.ensures.answer
    (ap (λ (a : Answer). a.status) (ap reply_view c.advised.ensures.reply) ∙ c.in_ok-printed_set-in-Ok.ensures))

pub returns : goal.returns
returns g c =
    let read = rw c.in-Some.is at c.in_ok-input.ensures.read in
    let works = rw c.in-Some.is at c.in_ok-input.ensures.works in
    let is : key_set_of c.octets.result.now ≡ Err c.in-Err.fault = search rules in
    record {
      answer = IfSome_then (g.R.Source.remaining c.args.r.now) read
          (λ x taken. IfOk-weaker c.refused_keys.result _ (λ r. IsListed c.args.printing (g.R.Source.failed c.read_document.new.r) x (reply_view r.reply))
          (λ r said. set_listed c.args.printing x c.octets.result.now _ (Err c.in-Err.fault) (reply_view r.reply) (c.octets.ensures.value ∙ taken) works is said) c.refused_keys.ensures.line);
      taken = search rules;
      failed = search rules;
    }
