-- The documents that say a rule, in words.
use Rattle.std.specs.Prelude.{◌≡◌, ◌≢◌, ◌⊎◌, ◌≤◌, ℕ, pos, List, [], codes, map, length, false, true, Some}
use Rattle.std.specs.List.{Contains, AllZip}
use Rattle.serde_json.specs.Data.{Data, string, Members}
use Rattle.jwt_text.specs.Members.{has, text_at, whole_at, list_at, object_at, member_names}
use Rattle.jwt_text.specs.declared.limits.TheConstants.{LONGEST_POLICY}
use Rattle.jwt_text.specs.ObjectText.{IsObjectText}
use Rattle.jwt_access.specs.Rules.{Allowed, Demand, Asked, absent, only, an_object, aged, ascii, Further, Rule}
use Rattle.jwt_access.specs.Scopes.{is_scope}
use Rattle.jwt_access.specs.Granted.{IsPath, IsValue}
use Rattle.jwt_access.specs.Document.{known_names}

-- `scopes` is a list of these scope tokens, or is absent, and there are none
abbrev pub SaysScopes : Members → List (List ℕ) → Type 0
SaysScopes members scopes =
    ((has (codes "scopes") members ≡ false) × (scopes ≡ []))
    ⊎ ((list_at (codes "scopes") members ≡ Some (map string scopes)) × ((scope : List ℕ) → Contains scopes scope → is_scope scope ≡ true))

-- `scope_claim` is this name, or is absent, and it is `scope`; the name has a path
abbrev pub SaysScopeClaim : Members → List ℕ → Type 0
SaysScopeClaim members name =
    (((has (codes "scope_claim") members ≡ false) × (codes "scope" ≡ name)) ⊎ (text_at (codes "scope_claim") members ≡ Some name))
    × ((path : List (List ℕ)) × IsPath name path)

-- a member of `claims`: its name, which has a path, and a list of values, not empty
pub record SaysDemand (claims : Members) (name : List ℕ) (demand : Demand) : Type 0 where
  pub named : name ≡ demand.name
  pub path : List (List ℕ)
  pub leads : IsPath name path
  pub list : List Data
  pub is : list_at name claims ≡ Some list
  pub some : demand.allowed ≢ []
  pub values : AllZip IsValue demand.allowed list

-- `claims` is an object with a member for each demand, in ascending octet order of their names, or is absent, and there are none
abbrev pub SaysClaims : Members → List Demand → Type 0
SaysClaims members demands =
    ((has (codes "claims") members ≡ false) × (demands ≡ []))
    ⊎ ((claims : Members) × (object_at (codes "claims") members ≡ Some claims) × AllZip (SaysDemand claims) (member_names claims) demands)

-- a name of a list, which has a path: this is asked of its claim
pub record SaysName (asked : Asked) (name : List ℕ) (further : Further) : Type 0 where
  pub named : name ≡ further.name
  pub asks : further.asked ≡ asked
  pub path : List (List ℕ)
  pub leads : IsPath name path

-- the member is a list of texts, and of the claim of each this is asked, in their order; or it is absent, and there are none
abbrev pub SaysNames : Asked → List ℕ → Members → List Further → Type 0
SaysNames asked member members furthers =
    ((has member members ≡ false) × (furthers ≡ []))
    ⊎ ((names : List (List ℕ)) × (list_at member members ≡ Some (map string names)) × AllZip (SaysName asked) names furthers)

-- a list of these values, not empty
abbrev pub SaysOnly : Members → List ℕ → Asked → Type 0
SaysOnly claims name asked =
    (allowed : List Allowed) × (list : List Data) × (asked ≡ only allowed) × (list_at name claims ≡ Some list) × (allowed ≢ []) × AllZip IsValue allowed list

-- this whole number, at most 2^32 - 1
abbrev pub SaysCount : (ℕ → Asked) → Members → List ℕ → Asked → Type 0
SaysCount asks claims name asked = (count : ℕ) × (asked ≡ asks count) × (whole_at name claims ≡ Some (pos count)) × (count ≤ 4294967295)

-- a member of such an object: its name, which has a path, and what is asked of its claim
pub record SaysFurther (Says : Members → List ℕ → Asked → Type 0) (claims : Members) (name : List ℕ) (further : Further) : Type 0 where
  pub named : name ≡ further.name
  pub path : List (List ℕ)
  pub leads : IsPath name path
  pub says : Says claims name further.asked

-- the member is an object with a member for each of these, in ascending octet order of their names, or is absent, and there are none
abbrev pub SaysValues : (Members → List ℕ → Asked → Type 0) → List ℕ → Members → List Further → Type 0
SaysValues Says member members furthers =
    ((has member members ≡ false) × (furthers ≡ []))
    ⊎ ((claims : Members) × (object_at member members ≡ Some claims) × AllZip (SaysFurther Says claims) (member_names claims) furthers)

-- no other member is there, and each says its part
pub record SaysRule (members : Members) (rule : Rule) : Type 0 where
  pub known : (name : List ℕ) → Contains (member_names members) name → Contains known_names name
  pub scopes : SaysScopes members rule.scopes
  pub scope_claim : SaysScopeClaim members rule.scope_claim
  pub claims : SaysClaims members rule.claims
  pub absent_claims : SaysNames absent (codes "absent") members rule.absent_claims
  pub only_claims : SaysValues SaysOnly (codes "only") members rule.only_claims
  pub object_claims : SaysNames an_object (codes "objects") members rule.object_claims
  pub aged_claims : SaysValues (SaysCount aged) (codes "ages") members rule.aged_claims
  pub ascii_claims : SaysValues (SaysCount ascii) (codes "ascii") members rule.ascii_claims

-- at most 65,536 octets, the text of an object that says the rule
abbrev pub IsRuleText : List ℕ → Rule → Type 0
IsRuleText document rule = (length document ≤ LONGEST_POLICY) × (members : Members) × IsObjectText document members × SaysRule members rule
