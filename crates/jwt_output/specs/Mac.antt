-- The line of a tag.
use Rattle.std.specs.Prelude.{ℕ, Bool, List, [], ◌∷◌, codes, if◌then◌else◌}
use Rattle.hex.specs.Hex.{encode_lower}
use Rattle.jwt_output.specs.Printed.{Answer, line}

-- the tag of the signing input, and whether the signature is that tag
pub record Digest : Type 0 where
  pub tag : List ℕ
  pub equal : Bool

abbrev pub digest_line : Digest → Answer
digest_line d = if d.equal then line (codes "mac " ∷ encode_lower d.tag ∷ codes " equal" ∷ []) 0 else line (codes "mac " ∷ encode_lower d.tag ∷ codes " differ" ∷ []) 1

-- of a key text that is refused, whatever the input
abbrev pub key_refused : Answer
key_refused = line (codes "refused Key" ∷ []) 2
