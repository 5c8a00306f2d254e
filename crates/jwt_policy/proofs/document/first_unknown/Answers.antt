use Rattle.std.proofs.Common.{◌≡◌, true, false, Some, sym, ap, ◌∙◌, arith, slice_get}
use Rattle.jwt_text.specs.Members.{member_names}
use Rattle.jwt_policy.specs.Document.{is_known, unknown_in}
use Rattle.jwt_policy.proofs.NamesLemmas.{unknown_here, unknown_later}
use Rattle.jwt_policy.proofs.document.first_unknown.Goals as goal

pub returns-then-not-is_known : goal.returns-then-not-is_known
returns-then-not-is_known c =
    let l = c.loop-place in
    let ts = member_names c.args.members.now in
    let two = c.is_version_two-two.result in
    let t = c.in-Some.name.now in
    let found : slice_get ts l.place ≡ Some t = grind arith in
    let unknown : is_known two t ≡ false = grind arith in
    sym (unknown_here two ts l.place t found unknown) ∙ l.invariant ∙ ap (λ b. unknown_in b ts) c.is_version_two-two.ensures

pub loop-place-preserved : goal.loop-place-preserved
loop-place-preserved c =
    let l = c.loop-place in
    let ts = member_names c.args.members.now in
    let two = c.is_version_two-two.result in
    let t = c.in-Some.name.now in
    let found : slice_get ts l.place ≡ Some t = grind arith in
    let known : is_known two t ≡ true = grind arith in
    sym (unknown_later two ts l.place t found known) ∙ l.invariant
