use Rattle.std.proofs.Common.{◌≡◌, refl, sym, ap, ◌∙◌, option_and_then, arith}
use Rattle.serde_json.specs.Find.{get_member}
use Rattle.jwt_access.specs.Granted.{escaped}
use Rattle.jwt_access.proofs.Tokens.{unescaped_of, none_there}
use Rattle.jwt_access.proofs.expected.token.spelled_name.Goals as goal

pub returns-then-is_spelling : goal.returns-then-is_spelling
returns-then-is_spelling c =
    let token = c.args.token.now in
    let name = c.in-Some.name.now in
    let is : token ≡ escaped name = sym c.as_bytes.ensures.value ∙ c.if-is_spelling.ensures.0 refl ∙ ap escaped c.as_bytes-in-Some.ensures.value in
    sym (ap (λ o. option_and_then (λ n. get_member n c.args.home.now) o) (unescaped_of c.paths_are_spelled.ensures token name c.requires is))

pub returns : goal.returns
returns c = sym (none_there c.paths_are_spelled.ensures c.args.token.now c.args.home.now c.loop-place.place c.requires (omega (arith, c.loop-place-test.false, c.member_count-place-end.ensures)) c.loop-place.invariant)
