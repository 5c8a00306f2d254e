use Rattle.std.proofs.Common.{[], ◌∷◌, ◌<◌, length, map, option_map, arith}
use Rattle.std.proofs.lemmas.List.{map-append}
use Rattle.std.proofs.lemmas.Result.{err_from_is_err_and}
use Rattle.jwt_keys.specs.KeySets.{key_set}
use Rattle.jwt_document.proofs.PemLemmas.{are_more, first_of}
use Rattle.jwt_document.proofs.pem.pem_sets.Goals as goal

pub returns-in_err-set-clause-err : goal.returns-in_err-set-clause-err
returns-in_err-set-clause-err c =
    let p = err_from_is_err_and c.from_residual.result c.from_residual.ensures.1 in
    let lt : c.loop-number.number < length c.args.issuers.now = omega arith in
    rw (p.1, p.2) (λ other. first_of c.args.members.now c.args.issuers.now c.loop-number.number c.index-issuers-number.result (map (option_map key_set) c.loop-number.sets.items) c.in_err-set.field-0.0 lt c.loop-number.invariant (rw c.index-issuers-number.is at c.in_err-set.ensures))

pub loop-number-preserved : goal.loop-number-preserved
loop-number-preserved c =
    let lt : c.loop-number.number < length c.args.issuers.now = omega arith in
    rw (c.in_ok-push.ensures.items, map-append (option_map key_set) c.loop-number.sets.items (c.in_ok-set.set ∷ [])) (are_more c.args.members.now c.args.issuers.now c.loop-number.number c.index-issuers-number.result (map (option_map key_set) c.loop-number.sets.items) (option_map key_set c.in_ok-set.set) lt c.loop-number.invariant (rw c.index-issuers-number.is at c.in_ok-set.ensures))
