use Rattle.std.proofs.Common.{sym, ◌∙◌}
use Rattle.jwt_keys.specs.KeySets.{key_set}
use Rattle.jwt_document.proofs.SetLemmas.{refused, not_read, of_use, of_no_use}
use Rattle.jwt_document.proofs.pem.pem_set.Goals as goal

pub returns-in-Err : goal.returns-in-Err
returns-in-Err c = rw c.pem_fault.ensures (refused c.args.number c.args.algs.now c.args.text.now c.in-Err.fault c.in-Err.ensures.exact c.in-Err.ensures.only)

pub returns-in-Err-read : goal.returns-in-Err-read
returns-in-Err-read c = rw c.set_fault.ensures (not_read c.args.number c.args.algs.now c.args.text.now c.in-Ok.set.items c.as_slice.result.now c.in-Ok.ensures.ok c.as_slice.ensures.value c.in-Err-read.fault c.in-Err-read.ensures.answer c.in-Err-read.ensures.too_long)

pub returns-then-has_usable : goal.returns-then-has_usable
returns-then-has_usable c = of_use c.args.number c.args.algs.now c.args.text.now c.in-Ok.set.items c.as_slice.result.now c.in-Ok.ensures.ok c.as_slice.ensures.value (key_set c.in-Ok-read.keys) (λ lt. let e = c.in-Ok-read.ensures.too_long lt in absurd cc) c.in-Ok-read.ensures.answer (sym c.has_usable.ensures ∙ c.if-has_usable.true)

pub returns : goal.returns
returns c = of_no_use c.args.number c.args.algs.now c.args.text.now c.in-Ok.set.items c.as_slice.result.now c.in-Ok.ensures.ok c.as_slice.ensures.value (key_set c.in-Ok-read.keys) (λ lt. let e = c.in-Ok-read.ensures.too_long lt in absurd cc) c.in-Ok-read.ensures.answer (sym c.has_usable.ensures ∙ c.if-has_usable.false)
