use Rattle.std.proofs.Common.{List, ℕ, Vec, Global, Bor, ap, ◌∙◌}
use Rattle.jwt_jwk.specs.text_blocks.Pem.{without_blanks}
use Rattle.jwt_jwk.specs.declared.text_blocks.fault.PemFault.TheVariants.{OutOfMemory}
use Rattle.jwt_jwk.proofs.Faults.{value_is_no_fault, same_fault}
use Rattle.jwt_jwk.proofs.text_blocks.block.read_block.Goals as goal

pub returns-in_default-clause-only : goal.returns-in_default-clause-only
returns-in_default-clause-only c = λ octets rest bytes block fine. c.in_default.ensures.only block.body rest block.plain block.parts

pub returns-in-Ok-clause-only : goal.returns-in-Ok-clause-only
returns-in-Ok-clause-only c = λ octets rest bytes block fine.
    let p = c.in-Some.ensures.only block.body rest block.plain block.parts in
    (c.in-Ok.ensures.only octets bytes (ap without_blanks p.0 ∙ block.spells) (value_is_no_fault c.in-Ok.octets OutOfMemory), p.1)

pub returns-in-Err-clause-only : goal.returns-in-Err-clause-only
returns-in-Err-clause-only c = λ octets rest bytes block fine.
    let p = c.in-Some.ensures.only block.body rest block.plain block.parts in
    c.in-Err.ensures.only octets bytes (ap without_blanks p.0 ∙ block.spells)
    (λ h. fine (same_fault {T = Vec ℕ Global} {U = Vec ℕ Global × Bor (List ℕ)} c.in-Err.fault OutOfMemory h))
