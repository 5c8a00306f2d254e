use Rattle.std.proofs.Common.{◌≡◌, ◌≤◌, ◌+◌, ◌-◌, length, take, drop, sym, ap, ◌∙◌, arith}
use Rattle.jwt_command.specs.TakenLines.{after_line}
use Rattle.jwt_command.proofs.LineLemmas.{behind_part, length-part}
use Rattle.jwt_command.proofs.input.buffered.Ahead.take_part.Goals as goal

pub returns-in_ok-hold-in-Some-clause-rest : goal.returns-in_ok-hold-in-Some-clause-rest
returns-in_ok-hold-in-Some-clause-rest c =
    let start = c.self.inside.start in
    let end = c.self.inside.end in
    let octets = c.self.inside.octets.items in
    let i = c.in-Some.i in
    let part = take (end - start) (drop start octets) in
    let held : c.octets-octets.result.now ≡ c.args.self.now = search (c.octets-octets.ensures) in
    let is : part ≡ c.args.self.now = search (c.self.view_is) in
    let within : start + (i + 1) ≤ end = omega (arith, c.in-Some.ensures.1, ap length (held ∙ sym is), length-part (drop start octets) (end - start), c.self.invariant) in
    sym (behind_part octets start end i within) ∙ ap (drop (i + 1)) (is ∙ sym held) ∙ sym c.in-Some.ensures.3 ∙ ap after_line held
