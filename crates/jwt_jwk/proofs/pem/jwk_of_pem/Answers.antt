use Rattle.std.proofs.Common.{ℕ, Vec, Global, ◌∙◌}
use Rattle.jwt_jwk.specs.declared.text_blocks.label.Label.{Label}
use Rattle.jwt_jwk.specs.declared.text_blocks.fault.PemFault.TheVariants as pem
use Rattle.jwt_jwk.proofs.Refused.{for_memory, value_is_no_fault, encoded_here}
use Rattle.jwt_jwk.proofs.pem.jwk_of_pem.Goals as goal

pub returns-in-Err-clause-only : goal.returns-in-Err-clause-only
returns-in-Err-clause-only c = λ k is.
    c.pem_fault.ensures ∙ for_memory {T = Label × Vec ℕ Global} c.in-Err.fault (c.in-Err.ensures.only is.label is.octets is.are is.block)

pub returns-in-Ok-clause-only : goal.returns-in-Ok-clause-only
returns-in-Ok-clause-only c = λ k is.
    let same = c.in-Ok.ensures.only is.label is.octets is.are is.block (value_is_no_fault (c.in-Ok.label, c.in-Ok.octets) pem.OutOfMemory) in
    c.jwk_of_block.ensures.only k is.public (encoded_here is.label c.in-Ok.label k is.octets c.deref.result.now same.0 (c.deref.ensures.value ∙ same.1) is.encoded)
