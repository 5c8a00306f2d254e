-- What a service asks where the policy of an issuer doesn't say it.
use Rattle.std.specs.Prelude.{List, [], ◌∷◌, ◌++◌, ℕ, codes, Bool, ◌||◌, if◌then◌else◌, Result, Ok}
use Rattle.serde_json.specs.Data.{Members}
use Rattle.jwt_text.specs.Answers.{◌>>=◌}
use Rattle.jwt_text.specs.Members.{has}
use Rattle.jwt_policy.specs.Settings.{RunSettings, ClaimSettings, Settings}
use Rattle.jwt_policy.specs.Texts.{is_among}
use Rattle.jwt_policy.specs.Ceilings.{with_ceiling}
use Rattle.jwt_policy.specs.Document.{policy_in}
use Rattle.jwt_policy.specs.declared.policy_fault.PolicyFault.{PolicyFault}

-- one signature, unless the members say how many
abbrev pub run_in_service : Members → RunSettings → RunSettings
run_in_service ms run = record run { max_signatures = if has (codes "max_signatures") ms then run.max_signatures else 1 }

-- `exp`, unless tokens are lasting
abbrev pub required_in_service : Bool → List (List ℕ) → List (List ℕ)
required_in_service lasting names = if lasting || is_among names (codes "exp") then names else names ++ codes "exp" ∷ []

abbrev pub claims_in_service : Bool → ClaimSettings → ClaimSettings
claims_in_service lasting claims = record claims { required = required_in_service lasting claims.required }

-- a policy with these, and with the ceiling on tries
abbrev pub settings_in_service : Bool → Members → Settings → Settings
settings_in_service lasting ms s = with_ceiling (record {
  run = run_in_service ms s.run;
  header = s.header;
  claims = claims_in_service lasting s.claims;
  max_calls = s.max_calls;
})

-- the policy of these members in a service, or the first cause to refuse it
unfoldable pub service_policy_of : Bool → Members → Result Settings PolicyFault
service_policy_of lasting ms = policy_in ms >>= λ s. Ok (settings_in_service lasting ms s)
