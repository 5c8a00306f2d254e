-- What a proof that was accepted says, and its times.
use Rattle.std.specs.Prelude.{ℕ, ◌+◌, List, [], codes, Option, Some, None, unwrap_or, string_bytes}
use Rattle.std.specs.Option.{option_map_or}
use Rattle.serde_json.specs.Data.{Members}
use Rattle.jwt_text.specs.Members.{text_at, whole_at}
use Rattle.jwt_policy.specs.Settings.{Settings}
use Rattle.jwt_possession.specs.declared.once.once.Times.{Times}
use Rattle.jwt_possession.specs.once.Accepted.{seconds, issued_of, owner_in}
use Rattle.jwt_possession.specs.once.Marks.{mark_of}
use Rattle.jwt_possession.specs.declared.possession.Possession.{Possession}

-- the thumbprint of the key that was proved to be held (RFC 7638), the claims of the proof, whose it is, and its times
pub record Proved : Type 0 where
  pub thumbprint : List ℕ
  pub claims : Members
  pub owner : Option (List ℕ)
  pub times : Times

-- what contracts see of a possession
abbrev pub proved : Possession → Proved
proved possession = record { thumbprint = string_bytes possession.thumbprint; claims = possession.claims; owner = possession.owner; times = possession.times }

-- `jti` of the proof, by which it is told from others of its key (RFC 9449, section 11.1)
abbrev pub id_of : Members → List ℕ
id_of claims = unwrap_or (text_at (codes "jti") claims) []

-- by which a proof is held: the mark of the thumbprint of its key and its `jti`
abbrev pub proof_mark : Proved → List ℕ
proof_mark it = mark_of it.thumbprint (id_of it.claims)

-- Whose a proof is, beside an access token with these claims: the token's owner is its own. Where no token came, it is its key's, by the digest of its thumbprint.
abbrev pub owner_beside : Option Members → (thumbprint : List ℕ) → Option (List ℕ)
owner_beside None thumbprint = Some (mark_of thumbprint [])
owner_beside (Some claims) thumbprint = owner_in claims

-- The times of a proof with these claims: its own moment is `iat`, whatever the policy; its grace is the policy's greatest age and leeway.
abbrev pub proof_times : Settings → Members → Times
proof_times policy claims = record {
  moment = option_map_or seconds (whole_at (codes "iat") claims) 0;
  grace = unwrap_or policy.claims.max_age 0 + policy.claims.leeway;
  issued = issued_of policy claims;
}
