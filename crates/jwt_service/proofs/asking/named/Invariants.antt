use Rattle.std.proofs.Common.{◌≡◌, drop}
use Rattle.std.specs.Prelude.{find}
use Rattle.std.specs.Str.{bytes_eq}
use Rattle.jwt_service.proofs.asking.named.Given as goal

abbrev pub invariant-loop-rule : goal.invariant-loop-rule
invariant-loop-rule l = find (λ rule. bytes_eq rule.name.now l.name) (drop l.rule-index l.rules) ≡ find (λ rule. bytes_eq rule.name.now l.name) l.rules
