-- The text of a protected header is the text of that header.
use Rattle.std.proofs.Common.{◌≡◌, ℕ, suc, ◌≤◌, List, [], ◌∷◌, ◌++◌, Option, Some, None, codes, IsUtf8, refl, sym, ap, ◌∙◌, arith, rules, append-nil}
use Rattle.std.specs.Prelude.{option_and_then}
use Rattle.std.proofs.lemmas.Str.{is_utf8-from_IsUtf8}
use Rattle.json.specs.Json as json
use Rattle.json.specs.Token.{Token}
use Rattle.json.specs.Lex.{tokens}
use Rattle.json.specs.Tree as tree
use Rattle.json.specs.Print.{quoted, ArePrintable}
use Rattle.json.proofs.Printed.Tokens.{tokens-print}
use Rattle.json.proofs.Printed.Trees.{value-json_tokens}
use Rattle.serde_json.specs.Data.{Data, Members, no_members, put, string, object}
use Rattle.serde_json.specs.Read.{of_json}
use Rattle.serde_json.specs.Written.{compact_text, outline}
use Rattle.serde_json.proofs.Texts.{print-outline}
use Rattle.jwt_text.specs.ObjectText.{colons, reading, IsObjectText}
use Rattle.jwt_issue.specs.Issued.{PairParts, with_text, header}
use Rattle.jwt_mac.specs.Algorithm.{name_of}

abbrev whole : Option (json.Json × List Token) → Option Data
whole o = option_and_then of_json (option_and_then (λ p. json.if_last p.0 p.1) o)

-- what is written of a value is read as the value
pub reads : (d : Data) → ArePrintable (tree.json_tokens (outline d)) → of_json (outline d) ≡ Some d → tree.depth (outline d) ≤ 127
    → IsUtf8 (compact_text d) → reading (compact_text d) ≡ Some d
reads d printable same shallow utf8 =
    let written = ap tokens (sym (print-outline d)) ∙ tokens-print (tree.json_tokens (outline d)) printable ∙ sym (append-nil (tree.json_tokens (outline d))) in
    rw (is_utf8-from_IsUtf8 (compact_text d) utf8)
    (ap whole (ap (json.value 127) written ∙ value-json_tokens (outline d) 127 [] shallow) ∙ same)

-- one member of a text has one colon
pub one : ((text rest : List ℕ) → colons (quoted text ++ rest) ≡ colons rest) → (k s rest : List ℕ) → colons (quoted k ++ 58 ∷ (quoted s ++ rest)) ≡ suc (colons rest)
one law k s rest = law k (58 ∷ (quoted s ++ rest)) ∙ ap suc (law s rest)

-- the header of these texts
abbrev made : List ℕ → Option (List ℕ) → Option (List ℕ) → Members
made a kid typ = with_text (codes "typ") typ (with_text (codes "kid") kid (put (codes "alg") (string a) no_members))

made_text : (law : (text rest : List ℕ) → colons (quoted text ++ rest) ≡ colons rest) (a : List ℕ) (kid typ : Option (List ℕ))
    → IsUtf8 (compact_text (object (made a kid typ))) → IsObjectText (compact_text (object (made a kid typ))) (made a kid typ)
unfolding ArePrintable
made_text law a None None utf8 =
    (reads (object (made a None None)) (search rules) refl (omega arith) utf8, one law (codes "alg") a (125 ∷ []))
made_text law a (Some k) None utf8 = (
  reads (object (made a (Some k) None)) (search rules) refl (omega arith) utf8,
  one law (codes "alg") a _ ∙ ap suc (one law (codes "kid") k (125 ∷ [])),
)
made_text law a None (Some t) utf8 = (
  reads (object (made a None (Some t))) (search rules) refl (omega arith) utf8,
  one law (codes "alg") a _ ∙ ap suc (one law (codes "typ") t (125 ∷ [])),
)
made_text law a (Some k) (Some t) utf8 = (
  reads (object (made a (Some k) (Some t))) (search rules) refl (omega arith) utf8,
  one law (codes "alg") a _ ∙ ap suc (one law (codes "kid") k _ ∙ ap suc (one law (codes "typ") t (125 ∷ []))),
)

pub header_text : (law : (text rest : List ℕ) → colons (quoted text ++ rest) ≡ colons rest) (typ : Option (List ℕ)) (pair : PairParts)
    → IsUtf8 (compact_text (object (header typ pair))) → IsObjectText (compact_text (object (header typ pair))) (header typ pair)
header_text law typ pair utf8 = made_text law (name_of pair.alg) pair.key.kid typ utf8
