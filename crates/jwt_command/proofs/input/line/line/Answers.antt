use Rattle.std.proofs.Common.{rules, ◌≡◌, ◌<◌, ◌∙◌, ap, inr, length, take, subst, ◌∷◌, [], List, ℕ, get_or, arith}
use Rattle.std.proofs.lemmas.Option.{IfSome_then}
use Rattle.std.specs.Io.KnownBytes.{Consumes}
use Rattle.std.proofs.lemmas.Result.{err_from_is_err_and}
use Rattle.jwt_command.proofs.LineLemmas.{line_at_end, line_at_feed, line_taken, line_too_long, line_without_memory, one_octet, too_long_taken}
use Rattle.jwt_command.proofs.input.line.line.Goals as goal

pub returns-in-Some-eq0 : goal.returns-in-Some-eq0
returns-in-Some-eq0 g c =
    let told = g.R.Source.remaining c.args.r.now in
    let mid = g.R.Source.remaining c.octets.r in
    let rest = g.R.Source.remaining c.pull.new.self in
    let before = c.octets.invariant in
    let pulled = c.in-Some-eq0.ensures in
    let some : 0 < length c.pull.new.buf = omega arith in
    let consumed : Consumes mid rest [] = subst (λ (n : ℕ). Consumes mid rest (take n c.pull.new.buf)) c.in-Some-eq0.field-0-test pulled.octets in
    let line = line_at_end c.args.limit told mid rest c.octets.octets.items before.unread consumed (pulled.end c.in-Some-eq0.field-0-test some) before.no_feed (omega arith) in
    record { line = line; works = search rules; read = search rules; fails = search rules; taken = IfSome_then told line (λ x h. inr (line_taken c.args.limit x _ rest h)) }

pub returns-then-octet-eq10 : goal.returns-then-octet-eq10
returns-then-octet-eq10 g c =
    let told = g.R.Source.remaining c.args.r.now in
    let mid = g.R.Source.remaining c.octets.r in
    let rest = g.R.Source.remaining c.pull.new.self in
    let before = c.octets.invariant in
    let sized : length c.pull.new.buf ≡ 1 = omega arith in
    let one = one_octet c.pull.new.buf c.in-Some.field-0 sized c.in-Some.ensures.count c.in-Some.field-0-test.1 in
    let piece : take c.in-Some.field-0 c.pull.new.buf ≡ 10 ∷ [] = one ∙ ap (λ x. x ∷ []) c.if-octet-eq10.true in
    let line = line_at_feed c.args.limit told mid rest c.octets.octets.items before.unread (subst (λ (l : List ℕ). Consumes mid rest l) piece c.in-Some.ensures.octets) before.no_feed (omega arith) in
    record { line = line; works = search rules; read = search rules; fails = search rules; taken = IfSome_then told line (λ x h. inr (line_taken c.args.limit x _ rest h)) }

pub returns-in_err-push-in-Some : goal.returns-in_err-push-in-Some
returns-in_err-push-in-Some g c =
    let p = err_from_is_err_and c.from_residual.result c.from_residual.ensures.1 in
    let told = g.R.Source.remaining c.args.r.now in
    let mid = g.R.Source.remaining c.octets.r in
    let rest = g.R.Source.remaining c.pull.new.self in
    let before = c.octets.invariant in
    let sized : length c.pull.new.buf ≡ 1 = omega arith in
    let one = one_octet c.pull.new.buf c.in-Some.field-0 sized c.in-Some.ensures.count c.in-Some.field-0-test.1 in
    let front = line_without_memory c.args.limit told mid rest c.octets.octets.items (get_or c.pull.new.buf 0 0) before.unread
    (subst (λ (l : List ℕ). Consumes mid rest l) one c.in-Some.ensures.octets) before.no_feed (omega arith) in
    record { line = rw (p.1) (search rules); works = rw (p.1) (search rules); read = rw (p.1) (search rules); fails = rw (p.1, p.2) front; taken = IfSome_then told front (λ x h. inr h) }

pub returns : goal.returns
returns g c =
    let told = g.R.Source.remaining c.args.r.now in
    let mid = g.R.Source.remaining c.octets.r in
    let before = c.octets.invariant in
    let long = line_too_long c.args.limit (g.R.Source.failed c.octets.r) told mid c.octets.octets.items before.unread before.no_feed (omega arith) (before.works (omega arith)) in
    record { line = search rules; works = search rules; read = search rules; fails = long; taken = IfSome_then told long (λ x h. inr (too_long_taken c.args.limit _ x mid h)) }
