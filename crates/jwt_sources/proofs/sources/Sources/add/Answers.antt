use Rattle.std.proofs.Common.{rules, refl}
use Rattle.jwt_sources.proofs.Runs.{added_stands}
use Rattle.jwt_sources.proofs.sources.Sources.add.Goals as goal

pub returns-clause-stands : goal.returns-clause-stands
returns-clause-stands g c = λ log st. added_stands c.args.self.now _ c.new.result log refl (search rules) c.new.ensures.step c.new.ensures.keys st
