-- The object that a text writes, from what was read of it into a store.
use Rattle.std.proofs.Common.{◌≡◌, ℕ, List, [], ◌∷◌, Some, option_map, option_and_then, IsUtf8, sym, ap, ◌∙◌, arith, subst}
use Rattle.json.specs.Token.{Token}
use Rattle.json.specs.Lex.{tokens}
use Rattle.json.specs.Json.{parse_map, if_last, value}
use Rattle.json.specs.Json as json
use Rattle.json.proofs.Grammar.{value-begin_object}
use Rattle.std.specs.List.Sorted.{IsStrictlySortedBy}
use Rattle.serde_json.specs.Data.{object}
use Rattle.serde_json.specs.Read.{of_json}
use Rattle.jwt_text.specs.ObjectText.{IsObjectText}
use Rattle.jwt_text.specs.declared.node.Entry.{Entry}
use Rattle.jwt_text.specs.declared.store.Store.{Store}
use Rattle.jwt_text.specs.Flat.{members_data, AreEntries, IsNode}
use Rattle.jwt_text.specs.Reads.{ReadsMembers}
use Rattle.jwt_text.proofs.ReadingLemmas.{reading_some}
use Rattle.jwt_text.proofs.WrittenColons.{colons-names}

pub object_text : (t : List ℕ) → IsUtf8 t → (ts : List Token) (before after : Store) (es : List Entry) → tokens t ≡ Token.begin_object ∷ ts → ReadsMembers 126 ts [] before after es → IsObjectText t (members_data 126 after es)
object_text t utf8 ts before after es first r =
    let parsed : value 127 (tokens t) ≡ Some (json.object r.trees, []) = ap (value 127) first ∙ value-begin_object 127 ts (omega arith) ∙ ap (parse_map json.object) r.parsed in (
      reading_some t (object (members_data 126 after es)) utf8 (ap (λ o. option_and_then of_json (option_and_then (λ p. if_last p.0 p.1) o)) parsed ∙ ap (option_map object) r.is),
      colons-names t 127 (json.object r.trees) parsed ∙ sym r.counted,
    )

none_of_them : (k : ℕ) (s : Store) → AreEntries (IsNode k s) s []
unfolding IsStrictlySortedBy
none_of_them k s = (tt, tt)

pub no_entries : (k : ℕ) (s : Store) (es : List Entry) → es ≡ [] → AreEntries (IsNode k s) s es
no_entries k s es none = subst (AreEntries (IsNode k s) s) (sym none) (none_of_them k s)
