-- The issuers of a service.
use Rattle.std.specs.Prelude.{ℕ, ℤ, pos, negsuc, nat_lt, ◌&&◌, ◌||◌, List, codes, Bool, true, false, Option, Some, None, Result, Ok, Err, option_map, ◌==◌, not, length, if◌then◌else◌}
use Rattle.std.specs.List.{list_any}
use Rattle.std.specs.Option.{option_map_or}
use Rattle.jwt_mac.specs.Algorithm.{is_hmac_alg}
use Rattle.serde_json.specs.Data.{Data, Members}
use Rattle.serde_json.specs.Find.{as_object}
use Rattle.jwt_text.specs.Answers.{some_or, unless, ◌>>=◌}
use Rattle.jwt_text.specs.Members.{has, object_at, whole_at}
use Rattle.jwt_policy.specs.Settings.{Settings}
use Rattle.jwt_policy.specs.InService.{service_policy_of}
use Rattle.jwt_policy.specs.declared.policy_fault.PolicyFault.{PolicyFault}
use Rattle.jwt_keys.specs.KeySets.{KeyList}
use Rattle.jwt_document.specs.declared.entries.Source.{Source}
use Rattle.jwt_document.specs.declared.entries.Source.TheVariants as source
use Rattle.jwt_document.specs.declared.fault.ServiceFault.{ServiceFault}
use Rattle.jwt_document.specs.declared.fault.ServiceFault.TheVariants as fault
use Rattle.jwt_document.specs.Tables.{first_fault, is_true_at}
use Rattle.jwt_document.specs.Service.{entry_tables}
use Rattle.jwt_document.specs.Given.{keys_of}

-- what is asked of its tokens, where its keys come from, and the keys, where the document has them as a set or a secret
pub record Issuer : Type 0 where
  pub policy : Settings
  pub source : Source
  pub keys : Option KeyList

abbrev pub the_source : Bool → Bool → Bool → Bool → Bool → Bool → Option Source
the_source true false false false false false = Some source.Set
the_source false true false false false false = Some source.Pem
the_source false false true false false false = Some source.Secret
the_source false false false true false false = Some source.File
the_source false false false false true false = Some source.Url
the_source false false false false false true = Some source.Discover
the_source _ _ _ _ _ _ = None

-- the one of six members that is there
abbrev pub source_of : Members → Option Source
source_of ms = the_source (has (codes "set") ms) (has (codes "pem") ms) (has (codes "secret") ms) (has (codes "file") ms) (has (codes "url") ms) (has (codes "discover") ms)

-- the fault of a policy, with the number of its entry
abbrev pub of_entry : ℕ → Result Settings PolicyFault → Result Settings ServiceFault
of_entry n (Ok s) = Ok s
of_entry n (Err f) = Err (fault.Policy n f)

abbrev pub is_positive : ℤ → Bool
is_positive (pos n) = nat_lt 0 n
is_positive (negsuc n) = false

-- of the options that keys have which are fetched, one that a file hasn't, and one that keys in the document haven't
abbrev pub is_fetching : Members → Bool
is_fetching ms = has (codes "cool_down") ms || has (codes "timeout") ms || has (codes "http") ms

abbrev pub is_renewing : Members → Bool
is_renewing ms = has (codes "refresh_after") ms || has (codes "max_age") ms

abbrev pub has_more : Members → Source → Bool
has_more ms source.Url = false
has_more ms source.Discover = false
has_more ms source.File = is_fetching ms
has_more ms _ = is_fetching ms || is_renewing ms

-- a file that is looked at again
abbrev pub is_refreshed : Members → Bool
is_refreshed ms = option_map_or is_positive (whole_at (codes "refresh_after") ms) false

-- keys from there are public ones alone
abbrev pub are_public : Members → Source → Bool
are_public ms source.Set = false
are_public ms source.Secret = false
are_public ms source.File = is_refreshed ms
are_public ms _ = true

-- keys at a URL need an issuer that the policy names, and those that are found by metadata need one alone
abbrev pub lacks_issuer : List (List ℕ) → Source → Bool
lacks_issuer names source.Url = length names == 0
lacks_issuer names source.Discover = not (length names == 1)
lacks_issuer names _ = false

-- why a policy and where keys come from don't suit each other
abbrev pub unsuited : ℕ → Settings → Members → Source → Option ServiceFault
unsuited n s ms from =
    if has_more ms from then Some (fault.Together n)
    else (if lacks_issuer s.claims.issuers from then Some (fault.Issuer n)
    else (if are_public ms from && list_any is_hmac_alg s.run.algs then Some (fault.NotPublic n) else None))

-- the issuer of an entry that the tables let through
abbrev pub entry_in : ℕ → Members → Result Issuer ServiceFault
entry_in n ms = do
  members ← some_or (fault.EntryKind n) (object_at (codes "policy") ms)
  policy ← of_entry n (service_policy_of (is_true_at (codes "lasting") ms) members)
  keys ← some_or (fault.EntryKind n) (object_at (codes "keys") ms)
  from ← some_or (fault.Together n) (source_of keys)
  given ← unless (unsuited n policy keys from) (keys_of n policy keys from)
  Ok (record { policy = policy; source = from; keys = given })

abbrev pub entry_with : ℕ → Members → Result Issuer ServiceFault
entry_with n ms = unless (option_map (λ f. fault.Entry n f) (first_fault ms entry_tables)) (entry_in n ms)

-- the issuer of an entry, or the first cause to refuse it
unfoldable pub entry_of : ℕ → Data → Result Issuer ServiceFault
entry_of n d = some_or (fault.EntryKind n) (as_object d) >>= entry_with n
