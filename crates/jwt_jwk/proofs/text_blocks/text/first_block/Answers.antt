use Rattle.std.proofs.Common.{sym, List, ℕ, Vec, Global, Bor}
use Rattle.jwt_jwk.specs.declared.text_blocks.fault.PemFault.TheVariants.{OutOfMemory}
use Rattle.jwt_jwk.specs.declared.text_blocks.text.Block.{Block}
use Rattle.jwt_jwk.proofs.Faults.{value_is_no_fault, same_fault}
use Rattle.jwt_jwk.proofs.Blocks.{at_front, unbegun}
use Rattle.jwt_jwk.proofs.text_blocks.text.first_block.Goals as goal

pub returns-in-Ok-clause-only : goal.returns-in-Ok-clause-only
returns-in-Ok-clause-only c = λ label octets rest bytes block fine.
    let here = at_front label c.in_ok-label.label octets c.args.text.now c.trim-start.result.now rest c.trim-start.ensures block (sym c.in_ok-label.ensures) in
    let read = c.in-Ok.ensures.only octets rest bytes here.1 (value_is_no_fault (c.in-Ok.octets, c.in-Ok.rest) OutOfMemory) in
    (here.0, (read.0, read.1))

pub returns-in-Err-clause-only : goal.returns-in-Err-clause-only
returns-in-Err-clause-only c = λ label octets rest bytes block fine.
    let here = at_front label c.in_ok-label.label octets c.args.text.now c.trim-start.result.now rest c.trim-start.ensures block (sym c.in_ok-label.ensures) in
    c.in-Err.ensures.only octets rest bytes here.1 (λ h. fine (same_fault {T = Vec ℕ Global × Bor (List ℕ)} {U = Block} c.in-Err.fault OutOfMemory h))

pub returns-in_err-label-clause-only : goal.returns-in_err-label-clause-only
returns-in_err-label-clause-only c = λ label octets rest bytes block fine.
    absurd (unbegun label octets c.args.text.now c.trim-start.result.now rest _ c.trim-start.ensures block (sym c.in_err-label.ensures))
