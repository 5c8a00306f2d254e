use Rattle.std.proofs.Common.{◌≡◌, drop, not, ◌&&◌}
use Rattle.jwt_jws.specs.Views.{parts}
use Rattle.jwt_jws.specs.Token.{in_header}
use Rattle.jwt_policy.specs.Texts.{each_text, is_among}
use Rattle.jwt_policy.specs.Bars.{registered_names}
use Rattle.jwt_policy.proofs.crit.are_other_headers.Given as goal

abbrev pub invariant-loop-place : goal.invariant-loop-place
invariant-loop-place l = each_text (λ t. in_header t (parts l.signature) && not (is_among registered_names t)) (drop l.place l.list)
    ≡ each_text (λ t. in_header t (parts l.signature) && not (is_among registered_names t)) l.list
