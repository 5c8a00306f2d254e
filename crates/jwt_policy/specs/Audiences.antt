-- The claim `aud` (RFC 7519, section 4.1.3): a text, or a list of texts.
use Rattle.std.specs.Prelude.{ℕ, List, codes, Option, option_map}
use Rattle.std.specs.Option.{option_or}
use Rattle.serde_json.specs.Data.{Data, Members}
use Rattle.jwt_text.specs.Members.{text_at, list_at}
use Rattle.jwt_policy.specs.declared.claims.Audience.{Audience}
use Rattle.jwt_policy.specs.declared.claims.Audience.TheVariants.{Text, Texts}

pub data AudienceData : Type 0 where
  One : (text : List ℕ) → AudienceData
  Several : (texts : List Data) → AudienceData

-- what contracts see of an audience
abbrev pub audience_data : Audience → AudienceData
audience_data (Text t) = One t.now
audience_data (Texts l) = Several l

abbrev pub aud_at : Members → Option AudienceData
aud_at ms = option_or (option_map One (text_at (codes "aud") ms)) (option_map Several (list_at (codes "aud") ms))
