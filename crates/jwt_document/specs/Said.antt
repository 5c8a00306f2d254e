-- What a document that was read says, object by object, with what holds where a member is absent.
use Rattle.std.specs.Prelude.{◌≡◌, ℕ, List, [], codes, if◌then◌else◌, Option, Some, None, option_map, option_and_then, unwrap_or, map}
use Rattle.std.specs.Option.{option_map_or}
use Rattle.std.specs.Borrow.{Bor}
use Rattle.std.specs.Str.{bytes_eq}
use Rattle.serde_json.specs.Data.{Data, Members}
use Rattle.serde_json.specs.Find.{as_str}
use Rattle.jwt_text.specs.Members.{text_at, whole_at, list_at, object_at}
use Rattle.jwt_document.specs.declared.entries.Source.{Source}
use Rattle.jwt_document.specs.declared.entries.Source.TheVariants as source
use Rattle.jwt_document.specs.declared.said.Certificates.{Certificates}
use Rattle.jwt_document.specs.declared.said.Certificates.TheVariants as certificates
use Rattle.jwt_document.specs.declared.said.Whole.{Whole}
use Rattle.jwt_document.specs.declared.said.Remember.{Remember}
use Rattle.jwt_document.specs.declared.said.Dpop.{Dpop}
use Rattle.jwt_document.specs.declared.said.Nonce.{Nonce}
use Rattle.jwt_document.specs.declared.said.Memory.{Memory}
use Rattle.jwt_document.specs.declared.said.Issue.{Issue}
use Rattle.jwt_document.specs.declared.said.Onward.{Onward}
use Rattle.jwt_document.specs.declared.said.Keys.{Keys}
use Rattle.jwt_document.specs.Rows.{Absent, said, listed, Row}
use Rattle.jwt_document.specs.Service.{rows_of, the_service, remembering, dpop, nonce, memory, issue, onward, keys}
use Rattle.jwt_document.specs.Tables.{number_at, natural, row_named, is_true_at}

-- ---- a member, by the rows of its object

-- a number: the one that is written, or that of its row
abbrev pub number_in : List Row → List ℕ → Members → ℕ
number_in rows name ms = unwrap_or (number_at name rows ms) 0

-- a number that may be absent
abbrev pub number_if : List ℕ → Members → Option ℕ
number_if name ms = option_and_then natural (whole_at name ms)

abbrev pub default_text : Absent → List ℕ
default_text (said t) = t
default_text _ = []

abbrev pub row_text : List Row → List ℕ → List ℕ
row_text rows name = option_map_or (λ row. default_text row.absent) (row_named name rows) []

-- a text: the one that is written, or that of its row
abbrev pub text_in : List Row → List ℕ → Members → List ℕ
text_in rows name ms = unwrap_or (text_at name ms) (row_text rows name)

abbrev pub default_texts : Absent → List (List ℕ)
default_texts (listed ts) = ts
default_texts _ = []

abbrev pub row_texts : List Row → List ℕ → List (List ℕ)
row_texts rows name = option_map_or (λ row. default_texts row.absent) (row_named name rows) []

abbrev pub text_of : Data → List ℕ
text_of d = unwrap_or (as_str d) []

-- texts: those that are written, or those of their row
abbrev pub texts_in : List Row → List ℕ → Members → List (List ℕ)
texts_in rows name ms = option_map_or (map text_of) (list_at name ms) (row_texts rows name)

-- texts, and a text that may be absent, as contracts see them
abbrev pub texts : List (Bor (List ℕ)) → List (List ℕ)
texts ts = map (λ t. t.now) ts

abbrev pub text_if : Option (Bor (List ℕ)) → Option (List ℕ)
text_if t = option_map (λ t. t.now) t

-- both are absent, or both are there and one is of the other
abbrev pub Both : {A B : Type 0} → (A → B → Type 0) → Option A → Option B → Type 0
Both Is None None = Unit {0}
Both Is (Some a) (Some b) = Is a b
Both Is _ _ = ⊥

-- ---- object by object

-- those that are bound to a certificate, or all
abbrev pub certificates_named : List ℕ → Option Certificates
certificates_named t = if bytes_eq t (codes "bound") then Some certificates.Bound else (if bytes_eq t (codes "required") then Some certificates.Required else None)

pub record IsWhole (ms : Members) (it : Whole) : Type 0 where
  pub realm : it.realm.now ≡ text_in (rows_of the_service) (codes "realm") ms
  pub describe : it.describe ≡ is_true_at (codes "describe") ms
  pub earliest : it.earliest ≡ number_in (rows_of the_service) (codes "earliest") ms
  pub prepare : it.prepare ≡ number_in (rows_of the_service) (codes "prepare") ms
  pub expects : texts it.expects.items ≡ texts_in (rows_of the_service) (codes "expects") ms
  pub once : it.once ≡ is_true_at (codes "once") ms
  pub certificates : it.certificates ≡ option_and_then certificates_named (text_at (codes "certificates") ms)

pub record IsRemember (ms : Members) (it : Remember) : Type 0 where
  pub tokens : it.tokens ≡ number_in (rows_of remembering) (codes "tokens") ms
  pub longest : it.longest ≡ number_in (rows_of remembering) (codes "longest") ms

pub record IsNonce (ms : Members) (it : Nonce) : Type 0 where
  pub secret : it.secret.now ≡ text_in (rows_of nonce) (codes "secret") ms
  pub period : it.period ≡ number_in (rows_of nonce) (codes "period") ms

pub record IsDpop (ms : Members) (it : Dpop) : Type 0 where
  pub origins : texts it.origins.items ≡ texts_in (rows_of dpop) (codes "origins") ms
  pub only : it.only ≡ is_true_at (codes "only") ms
  pub algs : texts it.algs.items ≡ texts_in (rows_of dpop) (codes "algs") ms
  pub max_age : it.max_age ≡ number_in (rows_of dpop) (codes "max_age") ms
  pub leeway : it.leeway ≡ number_in (rows_of dpop) (codes "leeway") ms
  pub nonce : Both IsNonce (object_at (codes "nonce") ms) it.nonce

pub record IsMemory (ms : Members) (it : Memory) : Type 0 where
  pub proofs : it.proofs ≡ number_if (codes "proofs") ms
  pub tokens : it.tokens ≡ number_if (codes "tokens") ms
  pub share : it.share ≡ number_in (rows_of memory) (codes "share") ms
  pub earlier : it.earlier ≡ is_true_at (codes "earlier") ms

pub record IsIssue (ms : Members) (it : Issue) : Type 0 where
  pub alg : it.alg.now ≡ text_in (rows_of issue) (codes "alg") ms
  pub typ : text_if it.typ ≡ text_at (codes "typ") ms
  pub form : it.form.now ≡ text_in (rows_of issue) (codes "form") ms
  pub key : it.key ≡ number_in (rows_of issue) (codes "key") ms

pub record IsOnward (ms : Members) (it : Onward) : Type 0 where
  pub issuer : it.issuer.now ≡ text_in (rows_of onward) (codes "issuer") ms
  pub audience : it.audience.now ≡ text_in (rows_of onward) (codes "audience") ms
  pub lifetime : it.lifetime ≡ number_in (rows_of onward) (codes "lifetime") ms
  pub claims : texts it.claims.items ≡ texts_in (rows_of onward) (codes "claims") ms

-- ---- the keys of an issuer

-- the member whose text says them, or where they are
abbrev pub text_from : Source → Members → Option (List ℕ)
text_from source.Pem ms = text_at (codes "pem") ms
text_from source.Secret ms = text_at (codes "secret") ms
text_from source.File ms = text_at (codes "file") ms
text_from source.Url ms = text_at (codes "url") ms
text_from _ ms = None

-- a file is read again, and its keys have a greatest age, where that is written alone
abbrev pub refresh_from : Source → Members → ℕ
refresh_from source.File ms = unwrap_or (number_if (codes "refresh_after") ms) 0
refresh_from _ ms = number_in (rows_of keys) (codes "refresh_after") ms

abbrev pub max_age_from : Source → Members → Option ℕ
max_age_from source.File ms = number_if (codes "max_age") ms
max_age_from _ ms = Some (number_in (rows_of keys) (codes "max_age") ms)

-- from where, and what the entry says of them
pub record Origin : Type 0 where
  pub from : Source
  pub said : Members

pub record IsKeys (origin : Origin) (it : Keys) : Type 0 where
  pub source : it.source ≡ origin.from
  pub text : text_if it.text ≡ text_from origin.from origin.said
  pub refresh_after : it.refresh_after ≡ refresh_from origin.from origin.said
  pub max_age : it.max_age ≡ max_age_from origin.from origin.said
  pub cool_down : it.cool_down ≡ number_in (rows_of keys) (codes "cool_down") origin.said
  pub timeout : it.timeout ≡ number_in (rows_of keys) (codes "timeout") origin.said
  pub http : it.http ≡ is_true_at (codes "http") origin.said
