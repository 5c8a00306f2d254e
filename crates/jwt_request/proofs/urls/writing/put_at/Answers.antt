use Rattle.std.proofs.Common.{rules, arith, ◌+◌, ◌-◌, length}
use Rattle.std.proofs.lemmas.Slice.{drop-put_mid}
use Rattle.jwt_request.proofs.urls.writing.put_at.Goals as goal

pub returns-clause-behind : goal.returns-clause-behind
returns-clause-behind c = λ n enough.
    drop-put_mid c.args.at (c.args.at + length c.args.octets.now - c.args.at) c.args.out.now c.copy_from_slice.new.self n
    (omega (arith, enough)) (omega (arith, c.requires)) (search rules)
