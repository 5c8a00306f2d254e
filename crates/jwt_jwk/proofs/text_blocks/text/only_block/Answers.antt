use Rattle.std.proofs.Common.{sym, ◌≡◌, ◌==◌, List, ℕ, true, length, Vec, Global, Bor, ap, ◌∙◌}
use Rattle.std.proofs.lemmas.Bool.{both_ways}
use Rattle.jwt_jwk.specs.text_blocks.Pem.{trimmed}
use Rattle.jwt_jwk.specs.declared.text_blocks.label.Label.{Label}
use Rattle.jwt_jwk.specs.declared.text_blocks.fault.PemFault.TheVariants.{OutOfMemory}
use Rattle.jwt_jwk.proofs.Faults.{value_is_no_fault, same_fault}
use Rattle.jwt_jwk.proofs.Blocks.{at_start, unbegun}
use Rattle.jwt_jwk.proofs.text_blocks.text.only_block.Goals as goal

pub returns-then-not-is_empty-clause-only : goal.returns-then-not-is_empty-clause-only
returns-then-not-is_empty-clause-only c = λ label octets bytes one fine.
    let here = at_start label c.in_ok-label.label octets c.args.text.now c.trim-start.result.now c.trim-start.ensures one (sym c.in_ok-label.ensures) in
    let read = c.in-Ok.ensures.only octets one.rest bytes here.1 (value_is_no_fault (c.in-Ok.octets, c.in-Ok.rest) OutOfMemory) in
    let none : c.trim.result.now ≡ _ = c.trim.ensures ∙ ap trimmed read.1 ∙ one.nothing in
    let empty : c.is_empty.result ≡ true = c.is_empty.ensures ∙ ap (λ (t : List ℕ). length t == 0) none in
    both_ways c.is_empty.result c.if-not-is_empty.true empty

pub returns-else-not-is_empty-clause-only : goal.returns-else-not-is_empty-clause-only
returns-else-not-is_empty-clause-only c = λ label octets bytes one fine.
    let here = at_start label c.in_ok-label.label octets c.args.text.now c.trim-start.result.now c.trim-start.ensures one (sym c.in_ok-label.ensures) in
    let read = c.in-Ok.ensures.only octets one.rest bytes here.1 (value_is_no_fault (c.in-Ok.octets, c.in-Ok.rest) OutOfMemory) in
    (here.0, read.0)

pub returns-in-Err-clause-only : goal.returns-in-Err-clause-only
returns-in-Err-clause-only c = λ label octets bytes one fine.
    let here = at_start label c.in_ok-label.label octets c.args.text.now c.trim-start.result.now c.trim-start.ensures one (sym c.in_ok-label.ensures) in
    c.in-Err.ensures.only octets one.rest bytes here.1 (λ h. fine (same_fault {T = Vec ℕ Global × Bor (List ℕ)} {U = Label × Vec ℕ Global} c.in-Err.fault OutOfMemory h))

pub returns-in_err-label-clause-only : goal.returns-in_err-label-clause-only
returns-in_err-label-clause-only c = λ label octets bytes one fine.
    absurd (unbegun label octets c.args.text.now c.trim-start.result.now one.rest _ c.trim-start.ensures one.block (sym c.in_err-label.ensures))
