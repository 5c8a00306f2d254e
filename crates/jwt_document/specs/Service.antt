-- The members of the document of a service, object by object.
use Rattle.std.specs.Prelude.{ℕ, List, [], ◌∷◌, codes}
use Rattle.jwt_document.specs.declared.rows.Form.TheVariants as form
use Rattle.jwt_document.specs.Rows.{Kind, flag, given, whole, text, texts, word, an_object, items, Absent, refused, nothing, number, said, listed, Row, Table}
use Rattle.jwt_document.specs.declared.rows.Within.TheVariants as within

abbrev pub row : List ℕ → Kind → Absent → Row
row name kind absent = record { name = name; kind = kind; absent = absent }

unfoldable pub the_service : Table
the_service = record {
  within = within.Whole;
  rows =
      row (codes "version") (whole 1 1) (number 1)
      ∷ row (codes "issuers") (items 64) refused
      ∷ row (codes "rules") an_object nothing
      ∷ row (codes "realm") (text form.Printable 0 256) (said (codes "jwt"))
      ∷ row (codes "describe") flag nothing
      ∷ row (codes "earliest") (whole 0 4294967295) (number 1577836800)
      ∷ row (codes "prepare") (whole 0 1024) (number 16)
      ∷ row (codes "remember") an_object nothing
      ∷ row (codes "expects") (texts form.Any 0 64) (listed ([]))
      ∷ row (codes "once") flag nothing
      ∷ row (codes "dpop") an_object nothing
      ∷ row (codes "certificates") (word (codes "bound" ∷ codes "required" ∷ [])) nothing
      ∷ row (codes "memory") an_object nothing
      ∷ row (codes "issue") an_object nothing
      ∷ row (codes "onward") an_object nothing
      ∷ [];
}

unfoldable pub remembering : Table
remembering = record {
  within = within.Remember;
  rows =
      row (codes "tokens") (whole 1 1000000) refused
      ∷ row (codes "longest") (whole 1 1048576) (number 4096)
      ∷ [];
}

unfoldable pub dpop : Table
dpop = record {
  within = within.Dpop;
  rows =
      row (codes "origins") (texts form.Origin 1 64) refused
      ∷ row (codes "only") flag nothing
      ∷ row (codes "algs") (texts form.PublicAlg 1 64) (listed (codes "ES256" ∷ codes "EdDSA" ∷ []))
      ∷ row (codes "max_age") (whole 1 3600) (number 60)
      ∷ row (codes "leeway") (whole 0 300) (number 5)
      ∷ row (codes "nonce") an_object nothing
      ∷ [];
}

unfoldable pub nonce : Table
nonce = record {
  within = within.Nonce;
  rows =
      row (codes "secret") (text form.Any 1 4096) refused
      ∷ row (codes "period") (whole 1 86400) (number 60)
      ∷ [];
}

unfoldable pub memory : Table
memory = record {
  within = within.Memory;
  rows =
      row (codes "proofs") (whole 1 100000000) nothing
      ∷ row (codes "tokens") (whole 1 100000000) nothing
      ∷ row (codes "share") (whole 1 1000) (number 16)
      ∷ row (codes "earlier") flag nothing
      ∷ [];
}

unfoldable pub issue : Table
issue = record {
  within = within.Issue;
  rows =
      row (codes "set") an_object nothing
      ∷ row (codes "secret") (text form.Any 1 4096) nothing
      ∷ row (codes "alg") (word (codes "HS256" ∷ codes "HS384" ∷ codes "HS512" ∷ [])) refused
      ∷ row (codes "typ") (text form.Any 1 256) nothing
      ∷ row (codes "form") (word (codes "compact" ∷ codes "flattened" ∷ codes "general" ∷ [])) (said (codes "compact"))
      ∷ row (codes "key") (whole 0 1023) (number 0)
      ∷ [];
}

unfoldable pub onward : Table
onward = record {
  within = within.Onward;
  rows =
      row (codes "issuer") (text form.Any 0 4096) refused
      ∷ row (codes "audience") (text form.Any 0 4096) refused
      ∷ row (codes "lifetime") (whole 1 86400) (number 60)
      ∷ row (codes "claims") (texts form.FreeClaim 0 64) (listed (codes "sub" ∷ codes "scope" ∷ []))
      ∷ [];
}

abbrev pub rows_of : Table → List Row
rows_of table = table.rows

-- ---- an entry of `issuers`

unfoldable pub entry : Table
entry = record {
  within = within.Entry;
  rows =
      row (codes "policy") an_object refused
      ∷ row (codes "keys") an_object refused
      ∷ row (codes "lasting") flag nothing
      ∷ [];
}

unfoldable pub keys : Table
keys = record {
  within = within.Keys;
  rows =
      row (codes "set") an_object nothing
      ∷ row (codes "pem") (text form.Any 1 1048576) nothing
      ∷ row (codes "secret") (text form.Any 1 4096) nothing
      ∷ row (codes "file") (text form.Any 1 4096) nothing
      ∷ row (codes "url") (text form.Any 1 4096) nothing
      ∷ row (codes "discover") given nothing
      ∷ row (codes "refresh_after") (whole 0 31536000) (number 600)
      ∷ row (codes "max_age") (whole 1 31536000) (number 3600)
      ∷ row (codes "cool_down") (whole 0 31536000) (number 30)
      ∷ row (codes "timeout") (whole 1 3600) (number 5)
      ∷ row (codes "http") flag nothing
      ∷ [];
}

abbrev pub entry_tables : List Table
entry_tables = entry ∷ keys ∷ []

-- ---- the service

-- in the order in which they are read
abbrev pub service_tables : List Table
service_tables = the_service ∷ remembering ∷ dpop ∷ nonce ∷ memory ∷ issue ∷ onward ∷ []
