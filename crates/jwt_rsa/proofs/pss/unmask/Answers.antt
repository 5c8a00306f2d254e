use Rattle.std.proofs.Common.{◌≡◌, ◌≤◌, ◌<◌, ◌+◌, ◌*◌, ◌++◌, length, length-append, take, drop, sym, ap, ◌∙◌, arith}
use Rattle.std.proofs.Math.Nat.{mul-le-mul_left}
use Rattle.jwt_mac.specs.Algorithm.{octets_of}
use Rattle.jwt_rsa.specs.Pss.{xored, mgf1_blocks}
use Rattle.std.specs.Int.{div_ceil}
use Rattle.jwt_rsa.proofs.Masks.{block_more, blocks_all, next_blocks, ceil_below, ceil_above}
use Rattle.jwt_rsa.proofs.pss.unmask.Goals as goal

pub counters-preserved : goal.counters-preserved
counters-preserved c =
    let hash = c.args.hash in
    let seed = c.args.seed.now in
    let os = c.args.octets.now in
    let count = c.counters.counter in
    let end = c.min-end.result in
    let digest = c.octets.result.now in
    let before : count * c.octets-size.result < length os = ceil_below (length os) c.octets-size.result count (omega arith) (omega arith) in
    let least : count * 32 ≤ count * c.octets-size.result = mul-le-mul_left count c.octets-size.ensures.range.0 in
    let size : length (mgf1_blocks hash seed count) ≡ c.counters.start = omega (arith, c.counters.invariant.size) in
    let next : mgf1_blocks hash seed count ++ digest ≡ mgf1_blocks hash seed (count + 1) =
    next_blocks hash seed digest count (omega arith) (c.octets.ensures.is ∙ c.digest-digest.ensures.is) in
    record {
      place = omega arith;
      size = ap length (sym next) ∙ length-append (mgf1_blocks hash seed count) digest
          ∙ omega (arith, c.counters.invariant.size, c.digest-digest.ensures.size, ap length c.octets.ensures.is);
      written = block_more c.counters.octets os c.xor_with.new.octets (mgf1_blocks hash seed count) digest c.counters.start end
          (omega arith) (omega arith) size c.counters.invariant.written c.xor_with.ensures
          ∙ ap (λ m. xored (take end os) m ++ drop end os) next;
    }

pub returns : goal.returns
returns c =
    let os = c.args.octets.now in
    let past : length os ≤ c.counters.counter * c.octets-size.result = ceil_above (length os) c.octets-size.result c.counters.counter (omega arith) (omega arith) in
    let count : c.counters.counter ≡ div_ceil (length os) (octets_of c.args.hash) =
    omega arith ∙ ap (λ k. div_ceil (length os) k) c.octets-size.ensures.is in
    blocks_all c.args.hash c.counters.octets os c.args.seed.now c.counters.start c.counters.counter (omega arith) c.counters.invariant.written count
