use Rattle.std.proofs.Common.{◌<◌, length, sym, ◌∙◌, arith}
use Rattle.jwt_keys.specs.KeySets.{key_set}
use Rattle.jwt_handles.specs.Issuers.{is_secret_key}
use Rattle.jwt_handles.proofs.Counting.{some_yes, some_no}
use Rattle.jwt_handles.proofs.issuers.some_is_secret.Goals as goal

pub returns-then-is_secret_at : goal.returns-then-is_secret_at
returns-then-is_secret_at c =
    let keys = (key_set c.args.keys.now).keys in
    let here : c.loop-number.number < length keys = omega arith in
    some_yes is_secret_key keys c.loop-number.number _ here (sym c.is_secret_at.ensures ∙ c.if-is_secret_at.true) c.loop-number.invariant

pub loop-number-preserved : goal.loop-number-preserved
loop-number-preserved c =
    let keys = (key_set c.args.keys.now).keys in
    let here : c.loop-number.number < length keys = omega arith in
    some_no is_secret_key keys c.loop-number.number _ here (sym c.is_secret_at.ensures ∙ c.if-is_secret_at.false) c.loop-number.invariant
