-- The status of `jwt policy --service`: 1 where the document is refused, or something is advised of one of its issuers. Its text is held by rows.
use Rattle.std.specs.Prelude.{◌≡◌, ◌⊎◌, ℕ, ◌+◌, List, [], ◌∷◌, Option, codes, option_and_then, unwrap_or}
use Rattle.std.specs.Option.{option_map_or}
use Rattle.serde_json.specs.Data.{Data, Members}
use Rattle.jwt_text.specs.Members.{list_at, object_at}
use Rattle.jwt_mac.specs.Verifying.{Meaning}
use Rattle.jwt_keys.specs.Numbers.{numbers}
use Rattle.jwt_advice.specs.Findings.{Findings, found_alone, found_with}
use Rattle.jwt_advice.specs.Private.{is_private}
use Rattle.jwt_document.specs.Entries.{Issuer}
use Rattle.jwt_document.specs.Meanings.{IsRead, IsRefused, keys_of_issuer, meaning}
use Rattle.jwt_document.specs.Pem.{keys_at}
use Rattle.jwt_document.specs.declared.document.Document.{Document}
use Rattle.jwt_document.specs.declared.fault.ServiceFault.{ServiceFault}
use Rattle.jwt_output.specs.verdicts.Meant.{service_status}
use Rattle.jwt_output.specs.Printed.{Answer}

-- the entries of the key set that stands in the entry of this number, where one does
abbrev pub set_entries : ℕ → Members → Option (List Data)
set_entries n ms = option_and_then (list_at (codes "keys")) (option_and_then (object_at (codes "set")) (keys_at n ms))

-- the places of those with a private member
abbrev pub private_in : ℕ → Members → List ℕ
private_in n ms = numbers is_private 0 (unwrap_or (set_entries n ms) [])

-- what is found of the issuer of this number, with its keys, where the document has them
abbrev pub found_of : List Meaning → Document → ℕ → Issuer → Findings
found_of verifiers d n issuer = option_map_or (λ set. found_with issuer.policy verifiers set.keys (private_in n (meaning d).members)) (keys_of_issuer n d) (found_alone issuer.policy)

-- of each, the first of which has this number
abbrev pub found_from : List Meaning → Document → ℕ → List Issuer → List Findings
found_from verifiers d n [] = []
found_from verifiers d n (issuer ∷ issuers) = found_of verifiers d n issuer ∷ found_from verifiers d (n + 1) issuers

-- a document that is read
abbrev pub IsAdvised : List Meaning → List ℕ → Answer → Type 0
IsAdvised verifiers octets a = (d : Document) × IsRead octets d × (a.status ≡ service_status (found_from verifiers d 0 (meaning d).issuers))

-- a document that is refused
abbrev pub IsRefusedWith : List ℕ → Answer → Type 0
IsRefusedWith octets a = (f : ServiceFault) × IsRefused octets f × (a.status ≡ 1)

-- the status of a document's answer
abbrev pub IsServiceAnswer : List Meaning → List ℕ → Answer → Type 0
IsServiceAnswer verifiers octets a = IsAdvised verifiers octets a ⊎ IsRefusedWith octets a
