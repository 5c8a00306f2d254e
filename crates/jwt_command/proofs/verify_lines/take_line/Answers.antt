use Rattle.std.proofs.Common.{◌∙◌, ◌+◌, ◌++◌, ap, sym, Some, length, arith}
use Rattle.std.proofs.lemmas.Option.{IfSome_then}
use Rattle.std.specs.Io.KnownBytes.{prepend_known}
use Rattle.jwt_command.specs.TakenLines.{first_line}
use Rattle.jwt_command.proofs.LineLemmas.{length-part}
use Rattle.jwt_command.proofs.WalkedLines.{walked_end, walked_feed, walked_part}
use Rattle.jwt_command.proofs.verify_lines.take_line.Goals as goal

pub returns-in-Ok-true-clause-line : goal.returns-in-Ok-true-clause-line
returns-in-Ok-true-clause-line g c =
    let told = prepend_known c.args.ahead.now (g.R.Source.remaining c.args.r.now) in
    let left = prepend_known c.parts.ahead (g.R.Source.remaining c.parts.r) in
    let feed = sym c.in-Ok-true.ensures.feed ∙ c.in-Ok-true.field-0-test in
    IfSome_then told (walked_feed c.args.limit told left (g.R.Source.remaining c.fill.new.r) c.parts.line.items c.take_part.new.line.items c.fill.new.self c.take_part.new.self c.parts.any
    c.parts.invariant.walked c.fill.ensures.kept feed c.in-Ok-true.ensures.rest c.in-Ok-true.ensures.line) (λ x line. λ is. line)

pub returns-in-Some-false-clause-line : goal.returns-in-Some-false-clause-line
returns-in-Some-false-clause-line g c =
    let told = prepend_known c.args.ahead.now (g.R.Source.remaining c.args.r.now) in
    let left = prepend_known c.parts.ahead (g.R.Source.remaining c.parts.r) in
    let end = c.fill.ensures.end (c.in-Some-false.is ∙ ap Some c.in-Some-false.field-0-test) in
    IfSome_then told (walked_end c.args.limit told left _ c.parts.line.items c.parts.any c.parts.invariant.walked c.fill.ensures.kept end) (λ x line. λ is. line (cc is))

pub parts-preserved : goal.parts-preserved
parts-preserved g c =
    let told = prepend_known c.args.ahead.now (g.R.Source.remaining c.args.r.now) in
    let left = prepend_known c.parts.ahead (g.R.Source.remaining c.parts.r) in
    let none = sym c.in-Ok-false.ensures.feed ∙ c.in-Ok-false.field-0-test in
    let some = c.fill.ensures.more (c.in-Some-true.is ∙ ap Some c.in-Some-true.field-0-test) in
    record {
      walked = walked_part c.args.limit told left (g.R.Source.remaining c.fill.new.r) c.parts.line.items c.take_part.new.line.items c.fill.new.self c.take_part.new.self c.parts.any
          c.parts.invariant.walked c.fill.ensures.kept none some c.in-Ok-false.ensures.rest c.in-Ok-false.ensures.line;
      fits = omega (arith, ap length c.in-Ok-false.ensures.line, length-part (c.parts.line.items ++ first_line c.fill.new.self) (c.args.limit + 1));
    }
