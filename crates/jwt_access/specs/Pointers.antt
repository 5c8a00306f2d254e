-- The claim of a name: the name is a JSON Pointer (RFC 6901) through objects where it begins with `/`, else that of a member of the claims.
use Rattle.std.specs.Prelude.{ℕ, List, [], ◌∷◌, ◌++◌, ◌==◌, if◌then◌else◌, Option, Some, None, option_map, option_and_then}
use Rattle.std.specs.List.{slice_split}
use Rattle.serde_json.specs.Data.{Data, Members}
use Rattle.serde_json.specs.Find.{get_member}
use Rattle.jwt_text.specs.Members.{object_at}
use Rattle.jwt_policy.specs.MemberKinds.{all_some}

-- ---- what stands at the end of a path

-- the value that a path of names leads to, each but the last the name of an object
abbrev pub value_at : List (List ℕ) → Members → Option Data
value_at [] fields = None
value_at (name ∷ []) fields = get_member name fields
value_at (name ∷ next ∷ path) fields = option_and_then (value_at (next ∷ path)) (object_at name fields)

-- ---- the path of a name

-- what a text that follows a `~` stands for, with the character that both spell (RFC 6901, section 4)
abbrev pub after_tilde : List ℕ → Option (List ℕ)
after_tilde [] = None
after_tilde (c ∷ rest) = if c == 48 then Some (126 ∷ rest) else (if c == 49 then Some (47 ∷ rest) else None)

-- the texts after each `~`, decoded and joined
abbrev pub after_tildes : List (List ℕ) → Option (List ℕ)
after_tildes [] = Some []
after_tildes (piece ∷ pieces) = option_and_then (λ decoded. option_map (λ rest. decoded ++ rest) (after_tildes pieces)) (after_tilde piece)

-- the text before the first `~`, with the others after it
abbrev pub joined_tildes : List (List ℕ) → Option (List ℕ)
joined_tildes [] = Some []
joined_tildes (piece ∷ pieces) = option_map (λ rest. piece ++ rest) (after_tildes pieces)

-- the name that a reference token spells, if any
abbrev pub unescaped : List ℕ → Option (List ℕ)
unescaped token = joined_tildes (slice_split (λ c. c == 126) token)

-- the names of the tokens of a pointer, whose first `/` is left out
abbrev pub tokens_path : List ℕ → Option (List (List ℕ))
tokens_path tokens = all_some unescaped (slice_split (λ c. c == 47) tokens)

-- the path of a claim's name, if it has one
unfoldable pub path_of : List ℕ → Option (List (List ℕ))
path_of [] = Some ([] ∷ [])
path_of (c ∷ rest) = if c == 47 then tokens_path rest else Some ((c ∷ rest) ∷ [])

-- the claim of a name
abbrev pub claim_at : List ℕ → Members → Option Data
claim_at name fields = option_and_then (λ path. value_at path fields) (path_of name)
