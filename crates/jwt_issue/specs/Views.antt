-- This crate's values as contracts see them.
use Rattle.std.specs.Prelude.{ℕ, List, Option, option_map}
use Rattle.std.specs.Borrow.{Bor}
use Rattle.jwt_keys.specs.Views.{key_parts}
use Rattle.jwt_keys.specs.declared.key.Key.{Key}
use Rattle.jwt_mac.specs.declared.algorithm.Alg.{Alg}
use Rattle.jwt_issue.specs.Issued.{PairParts, SignerParts}
use Rattle.jwt_issue.specs.Options.{OptionParts}
use Rattle.jwt_issue.specs.declared.options.IssueOptions.{IssueOptions}
use Rattle.jwt_issue.specs.declared.signer.Signer.{Signer}

abbrev pub pair_of : Alg → Key → PairParts
pair_of alg key = record { alg = alg; key = key_parts key }

abbrev pub pair_parts : Alg × Bor Key → PairParts
pair_parts pair = pair_of pair.0 pair.1.now

-- a text that may be absent
abbrev pub optional_text : Option (Bor (List ℕ)) → Option (List ℕ)
optional_text text = option_map (λ s. s.now) text

abbrev pub options_parts : IssueOptions → OptionParts
options_parts options = record { alg = options.alg; typ = optional_text options.typ; form = options.form; key = options.key }

-- ---- Cited by contracts of private functions alone

abbrev pub signer_parts : Signer → SignerParts
signer_parts s = record { alg = s.alg; secret = s.secret.now; protected = s.protected.items }
