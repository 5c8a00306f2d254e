use Rattle.std.proofs.Common.{◌&&◌}
use Rattle.std.specs.Prelude.{map}
use Rattle.jwt_keys.specs.Views.{key_parts}
use Rattle.jwt_keys.specs.Keys.{has_kid, has_thumbprint}
use Rattle.jwt_keys.specs.Numbers.{IsLeastFrom}
use Rattle.jwt_keys.proofs.Ascending.{numbers_ascend}
use Rattle.jwt_keys.proofs.Least.{first_is_least, earlier_is_least}
use Rattle.jwt_keys.proofs.set.KeySet.with_kid.Goals as goal

pub returns : goal.returns
returns c =
    let s = c.args.self.now in
    let kid = c.args.kid.now in
    let keys = map key_parts s.keys.items in
    let own : IsLeastFrom (has_kid kid) keys c.args.from c.first_from-own.result = rw c.first_from-own.ensures (first_is_least (has_kid kid) c.args.from keys _ (s.indexed.kids kid)) in
    rw c.earlier.ensures (earlier_is_least (has_kid kid) (λ k. c.args.thumb && has_thumbprint kid k) keys c.args.from _ _ own c.thumbprint_from.ensures)

pub first_from-own-requires : goal.first_from-own-requires
first_from-own-requires c = rw (c.args.self.now.indexed.kids c.args.kid.now) (numbers_ascend (has_kid c.args.kid.now) 0 (map key_parts c.args.self.now.keys.items))
