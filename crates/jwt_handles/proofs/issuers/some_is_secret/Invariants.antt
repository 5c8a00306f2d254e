use Rattle.std.proofs.Common.{◌≡◌, drop}
use Rattle.std.specs.List.{list_any}
use Rattle.jwt_keys.specs.KeySets.{key_set}
use Rattle.jwt_handles.specs.Issuers.{is_secret_key}
use Rattle.jwt_handles.proofs.issuers.some_is_secret.Given as goal

-- one of the rest is where one of all is
abbrev pub invariant-loop-number : goal.invariant-loop-number
invariant-loop-number l = list_any is_secret_key (drop l.number (key_set l.keys).keys) ≡ list_any is_secret_key (key_set l.keys).keys
