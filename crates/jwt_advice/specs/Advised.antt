-- The advice on a policy and its keys, one line each.
use Rattle.std.specs.Prelude.{ℕ, List, [], ◌∷◌, length, Bool, true, false, not, ◌==◌, ◌&&◌, ◌||◌, nat_lt, codes, is_none}
use Rattle.std.specs.List.{list_any, count_by}
use Rattle.std.specs.Option.{option_map_or}
use Rattle.jwt_mac.specs.declared.algorithm.Alg.{Alg}
use Rattle.jwt_mac.specs.Algorithm.{is_hmac_alg}
use Rattle.jwt_mac.specs.Verifying.{Meaning}
use Rattle.jwt_keys.specs.Keys.{KeyParts, has_name, permits_of}
use Rattle.jwt_policy.specs.declared.mode.Mode.{Mode}
use Rattle.jwt_policy.specs.declared.mode.Mode.TheVariants as mode
use Rattle.jwt_policy.specs.Settings.{Settings}
use Rattle.jwt_policy.specs.Texts.{is_among, some_passes}
use Rattle.jwt_advice.specs.Uses.{key_count, is_unused}
use Rattle.jwt_advice.specs.Costs.{greatest_cost}
use Rattle.jwt_advice.specs.RsaKeys.{is_refused_rsa, is_small_rsa}
use Rattle.jwt_advice.specs.RefusedKeys.{is_refused_ec, is_refused_okp}
use Rattle.jwt_advice.specs.Secrets.{is_uniform, is_printable, is_short}
use Rattle.jwt_advice.specs.declared.costs.Cost.TheVariants.{Work, Calls}
use Rattle.jwt_advice.specs.declared.advice.Advice.{Advice}
use Rattle.jwt_advice.specs.declared.advice.Advice.TheVariants.{NoExp, NoIssuers, NoAudiences, NoTyp, MixedAlgs, UncheckedSignatures, AlgWithoutKey, NoKid, LowWork, LowCalls, ManyCalls, UnusedKey, KidTwice, UniformSecret, PrintableSecret, ShortSecret, SmallRsa, RefusedRsa, RefusedEc, RefusedOkp}

-- ---- of a policy, whatever its keys

-- some of the algorithms are HMAC, and some are not
abbrev pub mixes : List Alg → Bool
mixes algs = list_any is_hmac_alg algs && list_any (λ algorithm. not (is_hmac_alg algorithm)) algs

abbrev pub is_any : Mode → Bool
is_any mode.Any = true
is_any mode.All = false

abbrev pub policy_advises : Advice → Settings → Bool
policy_advises NoExp policy = not (is_among policy.claims.required (codes "exp"))
policy_advises NoIssuers policy = length policy.claims.issuers == 0
policy_advises NoAudiences policy = length policy.claims.audiences == 0
policy_advises NoTyp policy = is_none policy.header.typ
policy_advises MixedAlgs policy = mixes policy.run.algs
policy_advises UncheckedSignatures policy = is_any policy.run.mode && nat_lt 1 policy.run.max_signatures
policy_advises _ policy = false

-- ---- of a policy with its keys as a whole

-- no key can verify one of the algorithms
abbrev pub lacks_key : List Alg → List Meaning → List KeyParts → Bool
lacks_key algs verifiers keys = list_any (λ algorithm. key_count verifiers keys algorithm == 0) algs

-- two keys can verify one of the algorithms
abbrev pub shares_alg : List Alg → List Meaning → List KeyParts → Bool
shares_alg algs verifiers keys = list_any (λ algorithm. nat_lt 1 (key_count verifiers keys algorithm)) algs

abbrev pub set_advises : Advice → Settings → List Meaning → List KeyParts → Bool
set_advises AlgWithoutKey policy verifiers keys = lacks_key policy.run.algs verifiers keys
set_advises NoKid policy verifiers keys = shares_alg policy.run.algs verifiers keys && not policy.header.need_kid
set_advises LowWork policy verifiers keys = nat_lt policy.run.work (greatest_cost Work policy verifiers keys)
set_advises LowCalls policy verifiers keys = some_passes (λ ceiling. nat_lt ceiling (greatest_cost Calls policy verifiers keys)) policy.max_calls
set_advises ManyCalls policy verifiers keys = option_map_or (λ ceiling. nat_lt 32 ceiling) policy.max_calls true && nat_lt 32 (greatest_cost Calls policy verifiers keys)
set_advises _ policy verifiers keys = false

-- ---- of one key

-- two keys or more have this `kid`
abbrev pub stands_twice : List KeyParts → List ℕ → Bool
stands_twice keys name = nat_lt 1 (count_by (has_name name false) keys)

-- two keys or more have the key's `kid`
abbrev pub is_twice : List KeyParts → KeyParts → Bool
is_twice keys key = option_map_or (stands_twice keys) key.kid false

abbrev pub concerns_signer : Advice → Settings → List Meaning → List KeyParts → KeyParts → Bool
concerns_signer UnusedKey policy verifiers keys key = is_unused policy verifiers key
concerns_signer KidTwice policy verifiers keys key = is_twice keys key
concerns_signer UniformSecret policy verifiers keys key = is_uniform key.octets
concerns_signer PrintableSecret policy verifiers keys key = is_printable key.octets
concerns_signer ShortSecret policy verifiers keys key = is_short key.octets
concerns_signer SmallRsa policy verifiers keys key = is_small_rsa key.octets
concerns_signer RefusedRsa policy verifiers keys key = is_refused_rsa key.octets
concerns_signer RefusedEc policy verifiers keys key = is_refused_ec key.octets
concerns_signer RefusedOkp policy verifiers keys key = is_refused_okp key.octets
concerns_signer _ policy verifiers keys key = false

-- it may sign or verify: a key for encryption, whose `use` is `enc`, may neither (RFC 7517, sections 4.2 and 4.3)
abbrev pub is_for_signing : KeyParts → Bool
is_for_signing key = permits_of (codes "verify") key || permits_of (codes "sign") key

-- a key for encryption is no concern of a policy
abbrev pub concerns : Advice → Settings → List Meaning → List KeyParts → KeyParts → Bool
concerns advice policy verifiers keys key = is_for_signing key && concerns_signer advice policy verifiers keys key

-- ---- all

-- this is to be advised: of the policy, of the policy with its keys, or of one of the keys
abbrev pub advises : Advice → Settings → List Meaning → List KeyParts → Bool
advises advice policy verifiers keys = policy_advises advice policy || set_advises advice policy verifiers keys || list_any (concerns advice policy verifiers keys) keys

abbrev pub every_advice : List Advice
every_advice =
    NoExp ∷ NoIssuers ∷ NoAudiences ∷ NoTyp ∷ MixedAlgs ∷ UncheckedSignatures ∷ AlgWithoutKey ∷ NoKid ∷ LowWork ∷ LowCalls ∷ ManyCalls
    ∷ UnusedKey ∷ KidTwice ∷ UniformSecret ∷ PrintableSecret ∷ ShortSecret ∷ SmallRsa ∷ RefusedRsa ∷ RefusedEc ∷ RefusedOkp ∷ []

-- the names, as they are printed
abbrev pub advice_name : Advice → List ℕ
advice_name NoExp = codes "NoExp"
advice_name NoIssuers = codes "NoIssuers"
advice_name NoAudiences = codes "NoAudiences"
advice_name NoTyp = codes "NoTyp"
advice_name MixedAlgs = codes "MixedAlgs"
advice_name UncheckedSignatures = codes "UncheckedSignatures"
advice_name AlgWithoutKey = codes "AlgWithoutKey"
advice_name NoKid = codes "NoKid"
advice_name LowWork = codes "LowWork"
advice_name LowCalls = codes "LowCalls"
advice_name ManyCalls = codes "ManyCalls"
advice_name UnusedKey = codes "UnusedKey"
advice_name KidTwice = codes "KidTwice"
advice_name UniformSecret = codes "UniformSecret"
advice_name PrintableSecret = codes "PrintableSecret"
advice_name ShortSecret = codes "ShortSecret"
advice_name SmallRsa = codes "SmallRsa"
advice_name RefusedRsa = codes "RefusedRsa"
advice_name RefusedEc = codes "RefusedEc"
advice_name RefusedOkp = codes "RefusedOkp"
