-- A service that asks nothing beside its issuer's policy.
use Rattle.std.specs.Prelude.{◌≡◌, true, false, [], None, pos}
use Rattle.jwt_keys.specs.declared.set.KeySet.{KeySet}
use Rattle.jwt_policy.specs.Settings.{Settings}
use Rattle.jwt_service.specs.declared.service.Certificates.TheVariants.{Ignored}
use Rattle.jwt_service.specs.declared.service.Service.{Service}

-- it takes bearer's tokens of this issuer from 2020 on, and no proofs, certificates, rules or expectations; and no token counts once
pub record IsPlain (its_policy : Settings) (its_keys : KeySet) (service : Service) : Type 0 where
  pub policy : service.issuer.policy.now ≡ its_policy
  pub keys : service.issuer.keys.now ≡ its_keys
  pub alone : service.others.now ≡ []
  pub rules : service.rules.now ≡ []
  pub expects : service.expects.now ≡ []
  pub earliest : service.earliest ≡ pos 1577836800
  pub bearer : service.bearer ≡ true
  pub proofs : service.proofs ≡ None
  pub certificates : service.certificates ≡ Ignored
  pub once : service.once ≡ false
