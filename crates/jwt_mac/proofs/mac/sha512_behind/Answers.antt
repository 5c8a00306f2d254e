use Rattle.std.proofs.Common.{◌≡◌, List, ℕ, [], length, get_or, ap, ◌∙◌, arith}
use Rattle.std.specs.Borrow.{Bor}
use Rattle.jwt_mac.specs.Algorithm.{sha512_of}
use Rattle.jwt_mac.specs.Hmac.{all_octets}
use Rattle.jwt_mac.proofs.Parts.{joined-three, joined_behind}
use Rattle.jwt_mac.proofs.mac.sha512_behind.Goals as goal

pub returns : goal.returns
unfolding sha512_of
returns c =
    let three : length c.args.parts ≡ 3 = omega arith in
    let nothing : Bor (List ℕ) = record { ref_ptr = (0, 0); now = [] } in
    c.finalize.ensures _ (c.update-5.ensures _ (c.update-4.ensures _ (c.update-3.ensures _ (c.update-2.ensures _ (c.update.ensures [] c.new-hasher.ensures)))))
    ∙ ap sha512_of (joined_behind c.args.first.now c.args.second.now (get_or c.args.parts 0 nothing).now (get_or c.args.parts 1 nothing).now
    (get_or c.args.parts 2 nothing).now (all_octets c.args.parts) (joined-three c.args.parts nothing three))
