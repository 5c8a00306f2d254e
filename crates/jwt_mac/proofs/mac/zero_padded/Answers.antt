use Rattle.std.proofs.Common.{◌++◌, length, ap}
use Rattle.std.proofs.lemmas.List.{drop-replicate}
use Rattle.jwt_mac.proofs.mac.zero_padded.Goals as goal

pub returns : goal.returns
returns c =
    let tail = drop-replicate (length c.args.octets.now) 128 0 in
    rw c.copy_from_slice.ensures.after (ap (λ zs. c.args.octets.now ++ zs) tail)
