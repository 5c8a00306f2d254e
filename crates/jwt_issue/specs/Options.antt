-- A token issued by the keys of a set.
use Rattle.std.specs.Prelude.{ℕ, List, map, slice_get, Option, Result, Err}
use Rattle.std.specs.Option.{option_map_or}
use Rattle.jwt_mac.specs.declared.algorithm.Alg.{Alg}
use Rattle.jwt_jws.specs.declared.fault.Form.{Form}
use Rattle.jwt_jws.specs.declared.fault.Form.TheVariants.{Compact, Flattened, General}
use Rattle.jwt_keys.specs.Keys.{KeyParts}
use Rattle.jwt_issue.specs.Issued.{PairParts, signing_pair, issued_compact, flattened_of, general_of}
use Rattle.jwt_issue.specs.declared.fault.IssueFault.{IssueFault}
use Rattle.jwt_issue.specs.declared.fault.IssueFault.TheVariants.{NoKey}

-- how a token is to be issued: `key` is the number of the key that signs in compact and flattened form
pub record OptionParts : Type 0 where
  pub alg : Alg
  pub typ : Option (List ℕ)
  pub form : Form
  pub key : ℕ

-- the octets that HMAC may be fed
abbrev pub budget : ℕ
budget = 1000000000000

-- what is issued with one key, if there is one
abbrev pub issued_with : (PairParts → Result (List ℕ) IssueFault) → Alg → Option KeyParts → Result (List ℕ) IssueFault
issued_with token alg key = option_map_or (λ key. token (signing_pair alg key)) key (Err NoKey)

-- the token of some claims: in compact and flattened form one key signs, in general form each does
abbrev pub issued_in : Form → OptionParts → List KeyParts → List ℕ → Result (List ℕ) IssueFault
issued_in Compact options keys claims = issued_with (issued_compact budget options.typ claims) options.alg (slice_get keys options.key)
issued_in Flattened options keys claims = issued_with (flattened_of budget options.typ claims) options.alg (slice_get keys options.key)
issued_in General options keys claims = general_of budget options.typ claims (map (signing_pair options.alg) keys)

abbrev pub issued_by : OptionParts → List KeyParts → List ℕ → Result (List ℕ) IssueFault
issued_by options = issued_in options.form options
