use Rattle.std.proofs.Common.{map, nat_lt, sym, ◌∙◌, arith}
use Rattle.jwt_mac.specs.declared.algorithm.Alg.{Alg}
use Rattle.jwt_mac.specs.declared.algorithm.Alg.TheVariants.{HS256}
use Rattle.jwt_keys.specs.KeySets.{key_set}
use Rattle.jwt_advice.specs.Uses.{key_count}
use Rattle.jwt_advice.proofs.Walks.{next_yes, next_no}
use Rattle.jwt_advice.proofs.advice.shares_alg.Goals as goal

pub returns-then-has_two_keys : goal.returns-then-has_two_keys
returns-then-has_two_keys g c =
    sym (next_yes (λ (a : Alg). nat_lt 1 (key_count (map (λ b. (goal.Verifier-dyn g (b.vtable, b.value)).meaning b.value) c.args.verifiers.now) (key_set c.args.keys.now).keys a)) c.args.algs.now c.loop-alg.alg-index HS256 (omega arith) (sym c.has_two_keys.ensures ∙ c.if-has_two_keys.true))
    ∙ c.loop-alg.invariant

pub loop-alg-preserved : goal.loop-alg-preserved
loop-alg-preserved g c =
    sym (next_no (λ (a : Alg). nat_lt 1 (key_count (map (λ b. (goal.Verifier-dyn g (b.vtable, b.value)).meaning b.value) c.args.verifiers.now) (key_set c.args.keys.now).keys a)) c.args.algs.now c.loop-alg.alg-index HS256 (omega arith) (sym c.has_two_keys.ensures ∙ c.if-has_two_keys.false))
    ∙ c.loop-alg.invariant
