use Rattle.std.specs.Prelude.{map}
use Rattle.jwt_keys.specs.Views.{key_parts}
use Rattle.jwt_keys.specs.Keys.{has_thumbprint}
use Rattle.jwt_keys.proofs.Ascending.{numbers_ascend}
use Rattle.jwt_keys.proofs.Least.{first_is_least}
use Rattle.jwt_keys.proofs.set.KeySet.thumbprint_from.Goals as goal

pub returns-then-thumb : goal.returns-then-thumb
returns-then-thumb c =
    let s = c.args.self.now in
    rw (c.if-thumb.true, c.first_from.ensures) (first_is_least (has_thumbprint c.args.text.now) c.args.from (map key_parts s.keys.items) _ (s.indexed.thumbprints c.args.text.now))

pub first_from-requires : goal.first_from-requires
first_from-requires c = rw (c.args.self.now.indexed.thumbprints c.args.text.now) (numbers_ascend (has_thumbprint c.args.text.now) 0 (map key_parts c.args.self.now.keys.items))
