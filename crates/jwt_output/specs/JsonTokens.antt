-- The tokens of the objects that are printed, as they are written one by one.
use Rattle.std.specs.Prelude.{List, [], ◌∷◌, ◌++◌}
use Rattle.json.specs.Token.{Token}
use Rattle.json.specs.Tree.{json_tokens}
use Rattle.jwt_output.specs.Json.{Named}

-- of names with their values
abbrev pub named_tokens : List Named → List Token
named_tokens [] = []
named_tokens (m ∷ ms) = Token.key m.0 ∷ (json_tokens m.1 ++ named_tokens ms)
