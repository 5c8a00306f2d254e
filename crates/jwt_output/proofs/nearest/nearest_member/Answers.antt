use Rattle.std.proofs.Common.{◌≡◌, ◌∙◌, ap, ℕ, List, None, Option, option_map}
use Rattle.std.proofs.lemmas.Result.{IfOk-weaker}
use Rattle.std.specs.Option.{option_or}
use Rattle.jwt_policy.specs.Document.{names_of_version_one}
use Rattle.jwt_output.specs.Nearest.{at_edits, nearest_member}
use Rattle.jwt_output.proofs.nearest.nearest_member.Goals as goal

pub returns-in-Some : goal.returns-in-Some
returns-in-Some c =
    ap (λ (o : Option (List ℕ)). option_or o (at_edits 2 c.args.name.now names_of_version_one)) (rw c.in-Some.is at c.in_ok-word.ensures)

pub returns-in-None : goal.returns-in-None
returns-in-None c =
    let one : None ≡ at_edits 1 c.args.name.now names_of_version_one = rw c.in-None.is at c.in_ok-word.ensures in
    IfOk-weaker c.at_edits-in-None.result _ (λ o. option_map (λ t. t.now) o ≡ nearest_member c.args.name.now)
    (λ o is. is ∙ ap (λ (o : Option (List ℕ)). option_or o (at_edits 2 c.args.name.now names_of_version_one)) one) c.at_edits-in-None.ensures
