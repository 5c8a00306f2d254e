-- The rule that a document says, or the first cause to refuse it.
use Rattle.std.specs.Prelude.{ℕ, List, [], ◌∷◌, codes, Bool, not, nat_lt, if◌then◌else◌, Option, Some, None, Result, Ok, Err, length}
use Rattle.std.specs.List.{find}
use Rattle.serde_json.specs.Data.{Members}
use Rattle.jwt_text.specs.Answers.{◌>>=◌}
use Rattle.jwt_text.specs.declared.fault.TextFault.{TextFault}
use Rattle.jwt_text.specs.declared.fault.TextFault.TheVariants.{NameTwice}
use Rattle.jwt_text.specs.declared.limits.TheConstants.{LONGEST_POLICY}
use Rattle.jwt_text.specs.ObjectText.{object_of}
use Rattle.jwt_text.specs.Members.{member_names}
use Rattle.jwt_policy.specs.Texts.{is_among}
use Rattle.jwt_access.specs.Rules.{Rule, absent, an_object}
use Rattle.jwt_access.specs.MemberKinds.{scopes_in, scope_claim_in, demands_in, names_in, values_in, only_of, age_of, ascii_of}
use Rattle.jwt_access.specs.declared.access_fault.AccessFault.{AccessFault}
use Rattle.jwt_access.specs.declared.access_fault.AccessFault.TheVariants as fault

-- ---- the members in order

abbrev pub settings_of : Members → Result Rule AccessFault
settings_of fields = do
  scopes ← scopes_in (codes "scopes") fields
  scope_claim ← scope_claim_in (codes "scope_claim") fields
  claims ← demands_in (codes "claims") fields
  absent_claims ← names_in absent (codes "absent") fields
  only_claims ← values_in only_of (codes "only") fields
  object_claims ← names_in an_object (codes "objects") fields
  aged_claims ← values_in age_of (codes "ages") fields
  ascii_claims ← values_in ascii_of (codes "ascii") fields
  Ok (record {
    scopes = scopes;
    scope_claim = scope_claim;
    claims = claims;
    absent_claims = absent_claims;
    only_claims = only_claims;
    object_claims = object_claims;
    aged_claims = aged_claims;
    ascii_claims = ascii_claims;
  })

-- ---- their names

abbrev pub known_names : List (List ℕ)
known_names =
    codes "scopes" ∷ codes "scope_claim" ∷ codes "claims" ∷ codes "absent" ∷ codes "only" ∷ codes "objects" ∷ codes "ages" ∷ codes "ascii" ∷ []

abbrev pub is_known : List ℕ → Bool
is_known name = is_among known_names name

-- the first unknown name, in ascending octet order
abbrev pub first_unknown : Members → Option (List ℕ)
first_unknown fields = find (λ name. not (is_known name)) (member_names fields)

-- ---- the document

abbrev pub unless_unknown : Option (List ℕ) → Members → Result Rule AccessFault
unless_unknown (Some name) fields = Err (fault.Member name)
unless_unknown None fields = settings_of fields

unfoldable pub rule_in : Members → Result Rule AccessFault
rule_in fields = unless_unknown (first_unknown fields) fields

abbrev pub document_in : Result Members TextFault → Result Rule AccessFault
document_in (Ok fields) = rule_in fields
document_in (Err NameTwice) = Err fault.NameTwice
document_in (Err _) = Err fault.Json

-- the rule of a document, or the first cause to refuse it
unfoldable pub rule_of : List ℕ → Result Rule AccessFault
rule_of document = if nat_lt LONGEST_POLICY (length document) then Err fault.TooLong else document_in (object_of document)
