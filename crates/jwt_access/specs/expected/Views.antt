-- The steps on the way to a claim. Only private clauses cite them.
use Rattle.std.specs.Prelude.{◌≡◌, ℕ, ◌==◌, List, [], ◌∷◌, codes, false, if◌then◌else◌, Option, option_and_then}
use Rattle.std.specs.List.{All}
use Rattle.serde_json.specs.Data.{Data, Members}
use Rattle.serde_json.specs.Find.{get_member}
use Rattle.jwt_mac.specs.declared.algorithm.Alg.{Alg}
use Rattle.jwt_access.specs.Pointers.{value_at, unescaped, tokens_path}
use Rattle.jwt_access.specs.expected.Expected.{IsMet}
use Rattle.jwt_access.specs.expected.Unmet.{IsAbsent, IsOther}
use Rattle.jwt_access.specs.declared.expected.claim.Spot.{Spot}
use Rattle.jwt_access.specs.declared.expected.expected.Expected.{Expected}
use Rattle.jwt_access.specs.declared.expected.expected.Standing.{Standing}
use Rattle.jwt_access.specs.declared.expected.expected.Standing.TheVariants.{Met, Absent, Other}

-- none of a text is this character
abbrev pub Lacks : ℕ → List ℕ → Type 0
Lacks c text = All (λ x. (x == c) ≡ false) text

-- an octet of a name as a pointer writes it (RFC 6901, section 3)
abbrev pub spelled : ℕ → List ℕ
spelled c = if c == 126 then codes "~0" else (if c == 47 then codes "~1" else c ∷ [])

-- the member whose name a token spells
abbrev pub member_of : List ℕ → Members → Option Data
member_of token members = option_and_then (λ name. get_member name members) (unescaped token)

-- what stands at the end of a pointer whose first `/` is left out
abbrev pub walked : List ℕ → Members → Option Data
walked tokens members = option_and_then (λ path. value_at path members) (tokens_path tokens)

-- the claim that stands at a spot, if any
abbrev pub found : Spot → Option Data
found spot = get_member spot.own.now spot.home

-- how a claim stands to what is expected of it
abbrev pub Stands : Alg → Members → Expected → Standing → Type 0
Stands alg members expected Met = IsMet alg members expected
Stands alg members expected Absent = IsAbsent members expected
Stands alg members expected Other = IsOther alg members expected
