use Rattle.std.proofs.Common.{sym, ap, ◌∙◌, option_and_then, arith, true≢false}
use Rattle.std.proofs.lemmas.Str.Pattern.{contains_char}
use Rattle.serde_json.specs.Find.{get_member}
use Rattle.jwt_access.proofs.Tokens.{lacks, plain}
use Rattle.jwt_access.proofs.expected.token.name_of.Goals as goal

pub returns-else-contains : goal.returns-else-contains
returns-else-contains c =
    let token = c.args.token.now in
    let found = contains_char 126 token c.contains.result c.contains.ensures.cases (omega arith) in
    let none = lacks 126 token (λ i lt e. true≢false (sym (found.1 i lt e) ∙ c.if-contains.false)) in
    sym (ap (λ o. option_and_then (λ n. get_member n c.args.home.now) o) (plain token none))
