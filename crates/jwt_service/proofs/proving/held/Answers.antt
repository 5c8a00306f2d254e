use Rattle.std.proofs.Common.{◌∙◌, List, ℕ, [], sym, slice_index_or, Bor}
use Rattle.jwt_possession.specs.Possessions.{proved}
use Rattle.jwt_service.proofs.Tests.{alone, is_so, not_so}
use Rattle.jwt_service.proofs.proving.held.Goals as goal

pub proof_at-requires : goal.proof_at-requires
proof_at-requires g c = c.as_str-uri.ensures.value ∙ c.in-Ok.ensures

pub returns-then-not-begins_with_slash : goal.returns-then-not-begins_with_slash
returns-then-not-begins_with_slash g c =
    let none : Bor (List ℕ) = record { ref_ptr = (0, 0); now = [] } in
    let values = c.args.call.now.proofs.now in (
      c.in-Some.proofs,
      (slice_index_or values 0 none).now,
      (c.in-Dpop.is, c.in-Some.is, alone values none c.if-call-ne1.false),
      sym c.begins_with_slash.ensures ∙ c.if-not-begins_with_slash.true,
    )

pub returns-in-Err-proof_at : goal.returns-in-Err-proof_at
returns-in-Err-proof_at g c =
    let none : Bor (List ℕ) = record { ref_ptr = (0, 0); now = [] } in
    let values = c.args.call.now.proofs.now in (
      c.in-Some.proofs,
      (slice_index_or values 0 none).now,
      ((c.in-Dpop.is, c.in-Some.is, alone values none c.if-call-ne1.false), sym c.begins_with_slash.ensures ∙ c.if-not-begins_with_slash.false),
      c.in-Err-proof_at.ensures.fault,
    )

pub returns-then-not-has_nonce : goal.returns-then-not-has_nonce
returns-then-not-has_nonce g c =
    let none : Bor (List ℕ) = record { ref_ptr = (0, 0); now = [] } in
    let values = c.args.call.now.proofs.now in (
      c.in-Some.proofs,
      (slice_index_or values 0 none).now,
      proved c.in-Ok-proof_at.possession,
      ((c.in-Dpop.is, c.in-Some.is, alone values none c.if-call-ne1.false), sym c.begins_with_slash.ensures ∙ c.if-not-begins_with_slash.false),
      c.in-Ok-proof_at.ensures.proof,
      not_so c.has_nonce.result c.has_nonce.ensures c.if-not-has_nonce.true,
    )

pub returns : goal.returns
returns g c =
    let none : Bor (List ℕ) = record { ref_ptr = (0, 0); now = [] } in
    let values = c.args.call.now.proofs.now in (
      c.in-Some.proofs,
      (slice_index_or values 0 none).now,
      ((c.in-Dpop.is, c.in-Some.is, alone values none c.if-call-ne1.false), sym c.begins_with_slash.ensures ∙ c.if-not-begins_with_slash.false),
      c.in-Ok-proof_at.ensures.proof,
      is_so c.has_nonce.result c.has_nonce.ensures c.if-not-has_nonce.false,
    )
