use Rattle.std.proofs.Common.{◌≡◌, ◌==◌, ◌-◌, ℕ, List, length, ap, ◌∙◌, arith}
use Rattle.std.proofs.lemmas.Bool.{both_ways}
use Rattle.jwt_jwk.specs.declared.text_blocks.text.Block.{Block}
use Rattle.jwt_jwk.specs.declared.text_blocks.fault.PemFault.TheVariants as pem
use Rattle.jwt_jwk.specs.Jwk.{optional_text}
use Rattle.jwt_jwk.specs.Converted.{Adds, kid_of}
use Rattle.jwt_jwk.specs.Refusals.{IsFault}
use Rattle.jwt_jwk.specs.declared.fault.JwkFault.TheVariants.{OutOfMemory}
use Rattle.jwt_jwk.proofs.Files.{bad_key, behind_first, first_key, first_made, next_keys, no_first, on_err, on_ok, one_more}
use Rattle.jwt_jwk.proofs.Refused.{for_memory, value_is_no_fault}
use Rattle.jwt_jwk.proofs.set.+add_jwks.Goals as goal

pub returns-in-Err-clause-only : goal.returns-in-Err-clause-only
returns-in-Err-clause-only depth c = λ keys file few.
    no_first keys c.args.text.now (c.pem_fault.result ≡ OutOfMemory) file
    (λ e. both_ways c.is_empty.result c.if-is_empty.false (c.is_empty.ensures ∙ ap (λ (t : List ℕ). length t == 0) (c.trim.ensures ∙ e)))
    (λ label octets rest are block. c.pem_fault.ensures ∙ for_memory {T = Block} c.in-Err.fault (c.in-Err.ensures.only label octets rest are block))

pub returns-in-Ok-push_jwk-clause-ok : goal.returns-in-Ok-push_jwk-clause-ok
returns-in-Ok-push_jwk-clause-ok depth c =
    let kid = kid_of c.args.kid in
    let alg = optional_text c.args.alg in
    on_ok c.add_jwks.result (Adds _ kid alg (c.args.left - 1) c.in-Ok.block.rest.now c.push_jwk.new.set.items c.add_jwks.new.set.items) (Adds c.args.later kid alg c.args.left c.args.text.now c.args.set.now.items c.add_jwks.new.set.items)
    (one_more c.args.later kid alg c.in-Ok.block.label c.in-Ok.block.octets.items c.deref.result.now c.args.text.now c.in-Ok.block.rest.now c.in-Ok-jwk_of_block.jwk.items c.deref-in-Ok-jwk_of_block.result.now
    c.args.set.now.items c.push_jwk.new.set.items c.add_jwks.new.set.items c.in-Ok.ensures.octets c.in-Ok.ensures.found c.deref.ensures.value c.in-Ok-jwk_of_block.ensures.ok c.deref-in-Ok-jwk_of_block.ensures.value
    c.in-Ok-push_jwk.ensures c.args.left (λ e. omega (arith, e, c.if-left-eq0.false))) c.add_jwks.ensures.ok

pub returns-in-Ok-push_jwk-clause-only : goal.returns-in-Ok-push_jwk-clause-only
returns-in-Ok-push_jwk-clause-only depth c = λ keys file few.
    next_keys keys c.args.text.now c.in-Ok.block.label c.in-Ok.block.octets.items c.in-Ok.block.rest.now c.args.left _ file few
    (λ e. both_ways c.is_empty.result c.if-is_empty.false (c.is_empty.ensures ∙ ap (λ (t : List ℕ). length t == 0) (c.trim.ensures ∙ e)))
    (λ label octets rest are block. c.in-Ok.ensures.only label octets rest are block (value_is_no_fault c.in-Ok.block pem.OutOfMemory))
    c.add_jwks.ensures.only

pub returns-clause-only : goal.returns-clause-only
returns-clause-only depth c = λ keys file few.
    first_key keys c.args.text.now c.deref.result.now c.in-Ok.block.label c.in-Ok.block.octets.items c.in-Ok.block.rest.now (c.in-Err-jwk_of_block.fault ≡ OutOfMemory) file
    (λ e. both_ways c.is_empty.result c.if-is_empty.false (c.is_empty.ensures ∙ ap (λ (t : List ℕ). length t == 0) (c.trim.ensures ∙ e)))
    (λ label octets rest are block. c.in-Ok.ensures.only label octets rest are block (value_is_no_fault c.in-Ok.block pem.OutOfMemory))
    c.deref.ensures.value c.in-Err-jwk_of_block.ensures.only

pub returns-in-Ok-push_jwk-clause-exact : goal.returns-in-Ok-push_jwk-clause-exact
returns-in-Ok-push_jwk-clause-exact depth c =
    let block = c.in-Ok.block in let text = c.args.text.now in let made = c.in-Ok-jwk_of_block.ensures.ok in
    on_err c.add_jwks.result (IsFault (c.args.left - 1) block.rest.now) (IsFault c.args.left text)
    (λ fault more. behind_first c.args.left text block.rest.now made.key fault (λ e. omega (arith, e, c.if-left-eq0.false))
    (first_made block.label block.octets.items c.deref.result.now text block.rest.now c.in-Ok-jwk_of_block.jwk.items (kid_of c.args.kid) (optional_text c.args.alg) c.in-Ok.ensures.octets c.in-Ok.ensures.found c.deref.ensures.value made) more)
    c.add_jwks.ensures.exact

pub returns-clause-exact : goal.returns-clause-exact
returns-clause-exact depth c =
    let block = c.in-Ok.block in
    bad_key c.args.left c.args.text.now block.label block.octets.items c.deref.result.now block.rest.now c.in-Err-jwk_of_block.fault
    (λ e. both_ways c.is_empty.result c.if-is_empty.false (c.is_empty.ensures ∙ ap (λ (t : List ℕ). length t == 0) (c.trim.ensures ∙ e)))
    (λ e. omega (arith, e, c.if-left-eq0.false)) c.in-Ok.ensures.found c.deref.ensures.value c.in-Err-jwk_of_block.ensures.exact
