-- The claims that meet a rule, in words.
use Rattle.std.specs.Prelude.{◌≡◌, ◌≢◌, ◌⊎◌, ◌<◌, ◌≤◌, ◌≤ℤ◌, ◌+◌, ◌+ℤ◌, ℕ, ℤ, pos, List, [], ◌∷◌, ◌++◌, ◌==◌, length, Bool, true, false, codes, if◌then◌else◌, Some, option_and_then}
use Rattle.std.specs.List.{Contains, join_with_byte}
use Rattle.serde_json.specs.Data.{Data, string, boolean, array, object, Items, Members}
use Rattle.serde_json.specs.Find.{as_number, as_i64}
use Rattle.jwt_text.specs.Members.{elements, are_texts}
use Rattle.jwt_access.specs.Rules.{Allowed, text, flag, whole, Demand, Asked, absent, only, an_object, aged, ascii, Further, Rule, further_of}
use Rattle.jwt_access.specs.declared.moment.Moment.{Moment}
use Rattle.jwt_access.specs.Pointers.{value_at}
use Rattle.jwt_access.specs.Scopes.{is_scope}

-- ---- the name of a claim

-- a name in a JSON Pointer: `~` is written `~0`, and `/` is written `~1` (RFC 6901, section 3)
abbrev pub escaped : List ℕ → List ℕ
escaped [] = []
escaped (c ∷ rest) = (if c == 126 then codes "~0" else (if c == 47 then codes "~1" else c ∷ [])) ++ escaped rest

-- the JSON Pointer along a path: a `/` and a name, again and again (RFC 6901, section 3)
abbrev pub pointer : List (List ℕ) → List ℕ
pointer [] = []
pointer (name ∷ path) = 47 ∷ (escaped name ++ pointer path)

-- the text begins with `/`
abbrev pub is_pointer : List ℕ → Bool
is_pointer [] = false
is_pointer (c ∷ rest) = c == 47

-- The path of a claim's name: the one along which the name is the JSON Pointer; or, where the name begins with no `/`, the name alone.
abbrev pub IsPath : List ℕ → List (List ℕ) → Type 0
IsPath name path = ((path ≢ []) × (name ≡ pointer path)) ⊎ ((is_pointer name ≡ false) × (path ≡ name ∷ []))

-- the claim of this name is there, and has this value: it stands at the end of the name's path, which goes through objects
abbrev pub IsClaim : List ℕ → Members → Data → Type 0
IsClaim name members value = (path : List (List ℕ)) × IsPath name path × (value_at path members ≡ Some value)

-- ---- scopes

-- A value grants a scope: it is a text of scope tokens parted by single spaces, and the scope is one of them (RFC 6749, section 3.3;
-- RFC 8693, section 4.2); or it is a list of texts, and the scope is one of them.
abbrev pub Grants : Data → List ℕ → Type 0
Grants value scope =
    ((tokens : List (List ℕ)) × (value ≡ string (join_with_byte 32 tokens)) × ((token : List ℕ) → Contains tokens token → is_scope token ≡ true) × Contains tokens scope)
    ⊎ ((items : Items) × (value ≡ array items) × (are_texts (elements items) ≡ true) × Contains (elements items) (string scope))

-- ---- values

-- the very text, truth value or whole number
abbrev pub IsValue : Allowed → Data → Type 0
IsValue (text wanted) value = value ≡ string wanted
IsValue (flag wanted) value = value ≡ boolean wanted
IsValue (whole wanted) value = option_and_then as_i64 (as_number value) ≡ Some wanted

-- the value that is allowed, or a list that holds it
abbrev pub HasValue : Allowed → Data → Type 0
HasValue allowed value = IsValue allowed value ⊎ ((items : Items) × (element : Data) × (value ≡ array items) × Contains (elements items) element × IsValue allowed element)

-- the text that is allowed is a scope that the value grants
abbrev pub HasWord : Allowed → Data → Type 0
HasWord (text wanted) value = Grants value wanted
HasWord (flag wanted) value = ⊥
HasWord (whole wanted) value = ⊥

-- one of these values
abbrev pub IsOneOf : List Allowed → Data → Type 0
IsOneOf allowed value = (one : Allowed) × Contains allowed one × IsValue one value

-- one of these values, or a list of which each element is one of them
abbrev pub HasOnly : List Allowed → Data → Type 0
HasOnly allowed value =
    IsOneOf allowed value ⊎ ((items : Items) × (value ≡ array items) × ((element : Data) → Contains (elements items) element → IsOneOf allowed element))

-- an object
abbrev pub IsObject : Data → Type 0
IsObject value = (members : Members) × (value ≡ object members)

-- a text of at most so many octets, all of ASCII
abbrev pub IsAscii : ℕ → Data → Type 0
IsAscii most value = (octets : List ℕ) × (value ≡ string octets) × (length octets ≤ most) × ((octet : ℕ) → Contains octets octet → octet < 128)

-- ---- dates (RFC 7519, section 2: NumericDate), in seconds since 1970-01-01T00:00:00Z

-- a whole number within 64 signed bits, as the dates of RFC 7519 are read
abbrev pub IsDate : Data → ℤ → Type 0
IsDate value date = option_and_then as_i64 (as_number value) ≡ Some date

-- not later than the moment, the leeway added
abbrev pub IsReachedBy : Moment → ℤ → Type 0
IsReachedBy moment date = date ≤ℤ (moment.now +ℤ pos moment.leeway)

-- not older than this age, the leeway added
abbrev pub IsWithin : Moment → ℕ → ℤ → Type 0
IsWithin moment age date = moment.now ≤ℤ (date +ℤ pos (age + moment.leeway))

-- a date that is neither
abbrev pub IsRecent : Moment → ℕ → Data → Type 0
IsRecent moment age value = (date : ℤ) × IsDate value date × IsReachedBy moment date × IsWithin moment age date

-- ---- the rule

-- the claim of this name grants the scope
abbrev pub HasScope : List ℕ → Members → List ℕ → Type 0
HasScope name members scope = (value : Data) × IsClaim name members value × Grants value scope

-- a value of the claim that the demand names is as it asks: it has what is allowed, or, of the claim that carries scopes, a word is that
abbrev pub Meets : List ℕ → Demand → Allowed → Data → Type 0
Meets scope_claim demand allowed value = HasValue allowed value ⊎ ((demand.name ≡ scope_claim) × HasWord allowed value)

-- the claim is there, and has one of the values that are allowed
abbrev pub IsMet : List ℕ → Members → Demand → Type 0
IsMet scope_claim members demand = (value : Data) × IsClaim demand.name members value × ((allowed : Allowed) × Contains demand.allowed allowed × Meets scope_claim demand allowed value)

-- the claim of this name is as is asked: absent, or there, and its value is
abbrev pub IsAsked : Moment → Members → List ℕ → Asked → Type 0
IsAsked moment members name absent = (value : Data) → ¬ IsClaim name members value
IsAsked moment members name (only allowed) = (value : Data) × IsClaim name members value × HasOnly allowed value
IsAsked moment members name an_object = (value : Data) × IsClaim name members value × IsObject value
IsAsked moment members name (aged age) = (value : Data) × IsClaim name members value × IsRecent moment age value
IsAsked moment members name (ascii most) = (value : Data) × IsClaim name members value × IsAscii most value

-- the claims meet the rule at a moment: each scope is granted, each demand is met, and all is as is asked further
pub record IsGranted (rule : Rule) (moment : Moment) (members : Members) : Type 0 where
  pub scopes : (scope : List ℕ) → Contains rule.scopes scope → HasScope rule.scope_claim members scope
  pub claims : (demand : Demand) → Contains rule.claims demand → IsMet rule.scope_claim members demand
  pub further : (further : Further) → Contains (further_of rule) further → IsAsked moment members further.name further.asked

-- ---- Cited by laws alone

-- the second rule asks for all that the first asks for, of the same claims
pub record AsksNoMore (less more : Rule) : Type 0 where
  pub scope_claim : less.scope_claim ≡ more.scope_claim
  pub scopes : (scope : List ℕ) → Contains less.scopes scope → Contains more.scopes scope
  pub claims : (demand : Demand) → Contains less.claims demand → Contains more.claims demand
  pub further : (further : Further) → Contains (further_of less) further → Contains (further_of more) further
