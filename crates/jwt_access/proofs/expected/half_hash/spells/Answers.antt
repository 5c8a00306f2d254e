use Rattle.std.proofs.Common.{◌≡◌, length, take, Ok, arith}
use Rattle.base64.specs.Engines.{url_safe_no_pad}
use Rattle.base64.specs.GeneralPurpose.{encoded_size_of}
use Rattle.jwt_text.specs.Base64url.{spelling}
use Rattle.jwt_access.proofs.Encoded.{fits, spelled_in}
use Rattle.jwt_access.proofs.expected.half_hash.spells.Goals as goal

pub returns-in-Ok : goal.returns-in-Ok
returns-in-Ok c =
    let m = c.args.octets.now in
    let is : Ok c.in-Ok.len ≡ Ok (encoded_size_of url_safe_no_pad (length m)) = c.in-Ok.ensures.fits (fits (length m) c.requires) in
    let len : c.in-Ok.len ≡ encoded_size_of url_safe_no_pad (length m) = cc in
    let cut : take c.in-Ok.len c.encode_slice.new.output ≡ spelling m = spelled_in m _ c.encode_slice.new.output c.in-Ok.len (λ i. omega (arith, c.type_inv.octets i)) len c.in-Ok.ensures.written in
    grind arith
