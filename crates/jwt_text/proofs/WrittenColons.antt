-- A JSON text has a colon outside string literals for each name that is written in it.
use Rattle.std.proofs.Common.{◌≡◌, ℕ, List, [], Some, ap, ◌∙◌, append-nil}
use Rattle.json.specs.Lex.{between, fresh, lex, tokens}
use Rattle.json.specs.Json.{Json, value}
use Rattle.json.specs.Tree.{json_tokens}
use Rattle.json.proofs.Unique.Spelling.{value-json_tokens_back}
use Rattle.jwt_text.specs.ObjectText.{colons}
use Rattle.jwt_text.specs.NamesWritten.{names_written}
use Rattle.jwt_text.proofs.LexemeLemmas.{colons-marks}
use Rattle.jwt_text.proofs.TokenLemmas.{none_bad, keys_in, punctuated, none_bad-json, keys_in-json}

pub colons-names : (text : List ℕ) (depth : ℕ) (j : Json) → value depth (tokens text) ≡ Some (j, []) → colons text ≡ names_written j
colons-names text depth j e =
    let spelled : tokens text ≡ json_tokens j = value-json_tokens_back depth (tokens text) [] j e ∙ append-nil (json_tokens j) in
    let fine = punctuated (lex between text) fresh (ap none_bad spelled ∙ none_bad-json j) in
    colons-marks text fine.0 ∙ fine.1 ∙ ap keys_in spelled ∙ keys_in-json j
