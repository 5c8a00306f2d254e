use Rattle.std.proofs.Common.{sym, ◌∙◌}
use Rattle.jwt_keys.specs.KeySets.{key_set}
use Rattle.jwt_document.specs.Given.{is_usable_for}
use Rattle.jwt_document.proofs.SomeLemmas.{some_here, none_here}
use Rattle.jwt_document.proofs.given.has_usable.Goals as goal

pub returns-then-is_usable_at : goal.returns-then-is_usable_at
returns-then-is_usable_at c = sym (some_here (is_usable_for c.args.algs.now) (key_set c.args.keys.now).keys c.loop-number.number (sym c.is_usable_at.ensures ∙ c.if-is_usable_at.true)) ∙ c.loop-number.invariant

pub loop-number-preserved : goal.loop-number-preserved
loop-number-preserved c = sym (none_here (is_usable_for c.args.algs.now) (key_set c.args.keys.now).keys c.loop-number.number (sym c.is_usable_at.ensures ∙ c.if-is_usable_at.false)) ∙ c.loop-number.invariant
