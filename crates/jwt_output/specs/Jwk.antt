-- The output of `jwt jwk`.
use Rattle.std.specs.Prelude.{ℕ, List, [], ◌∷◌, ◌++◌, codes, Option, Some, None}
use Rattle.jwt_output.specs.Printed.{Answer}
use Rattle.jwt_output.specs.declared.fields.field.FieldName.TheVariants as name
use Rattle.jwt_output.specs.fields.Fields.{Field, Text, field, printed}
use Rattle.jwt_output.specs.fields.Verdicts.{fault_fields}
use Rattle.jwt_settings.specs.declared.printing.Printing.{Printing}

-- a key set or a JWK, on one line, in JSON as it is
abbrev pub jwk_line : List ℕ → Answer
jwk_line json = record { text = json ++ 10 ∷ []; status = 0 }

abbrev pub remedy_fields : Option (List ℕ) → List Field
remedy_fields None = []
remedy_fields (Some remedy) = field name.Remedy (Text remedy) ∷ []

-- octets of no public key: the name of what is wrong with them, and the command that makes a public key of them, where there is one
abbrev pub jwk_refused : Printing → List ℕ → Option (List ℕ) → Answer
jwk_refused printing name remedy = printed printing (fault_fields (codes "refused") name ++ remedy_fields remedy) 1

-- the system's random source gave fewer octets than were asked for
abbrev pub random_failed : Printing → Answer
random_failed printing = printed printing (fault_fields (codes "failed") (codes "Random")) 3
