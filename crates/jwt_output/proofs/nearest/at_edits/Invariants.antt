use Rattle.std.proofs.Common.{◌≡◌, map}
use Rattle.jwt_output.specs.Nearest.{at_edits}
use Rattle.jwt_output.proofs.NearLemmas.{from_place}
use Rattle.jwt_output.proofs.nearest.at_edits.Given as goal

abbrev pub invariant-loop-word : goal.invariant-loop-word
invariant-loop-word l =
    from_place l.count l.name l.known l.word-index ≡ at_edits l.count l.name (map (λ k. k.now) l.known)
