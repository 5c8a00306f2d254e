use Rattle.std.proofs.Common.{◌≡◌, length}
use Rattle.jwt_jwk.specs.text_blocks.Pem.{trimmed}
use Rattle.jwt_jwk.proofs.text_blocks.text.trim.Given as goal

abbrev pub invariant-front : goal.invariant-front
invariant-front l = trimmed l.rest ≡ trimmed l.fn.text

abbrev pub decreases-front : goal.decreases-front
decreases-front l = length l.rest
