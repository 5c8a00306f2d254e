use Rattle.std.proofs.Common.{◌≡◌, length}
use denote.Text.{Utf8}
use denote.Shadow.{shadow}
use Rattle.jwt_access.specs.expected.Views.{walked}
use Rattle.jwt_access.proofs.expected.claim.end_of.Given as goal

abbrev pub invariant-tokens : goal.invariant-tokens
invariant-tokens l = (walked l.rest l.home ≡ walked l.tokens l.fn.claims) × shadow (Utf8 l.rest)

abbrev pub decreases-tokens : goal.decreases-tokens
decreases-tokens l = length l.rest
