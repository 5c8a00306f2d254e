use Rattle.std.proofs.Common.{◌&&◌, nat_lt, true, false, ap, sym, ◌∙◌}
use Rattle.std.proofs.Math.Path.{ap₂}
use Rattle.ecdsa.specs.Inverse.{inverse}
use Rattle.numbers.specs.Limbs.{number}
use Rattle.ecdsa.specs.Curve.{holds_by, is_key}
use Rattle.ecdsa.specs.Domains.{domain}
use Rattle.ecdsa.proofs.SignatureVerdicts.{holds_tests}
use Rattle.ecdsa.proofs.signatures.holds.Goals as goal

pub returns-then-not-is_scalar : goal.returns-then-not-is_scalar
returns-then-not-is_scalar g c base own =
    let E = domain c.args.curve.now in
    let rest = holds_by E (number c.args.claimed.now.x) (number c.args.claimed.now.y) (number c.args.claimed.now.e) (number c.args.claimed.now.r) (inverse E.n (number c.args.claimed.now.s)) in
    let key = is_key E (number c.args.claimed.now.x) (number c.args.claimed.now.y) in
    let s_test = nat_lt 0 (number c.args.claimed.now.s) && nat_lt (number c.args.claimed.now.s) E.n in
    ap (λ b. b && (s_test && (key && rest))) (sym c.if-not-is_scalar.true ∙ c.is_scalar.ensures)
    ∙ holds_tests E (number c.args.claimed.now.x) (number c.args.claimed.now.y) (number c.args.claimed.now.e) (number c.args.claimed.now.r) (number c.args.claimed.now.s)

pub returns-then-not-is_scalar-2 : goal.returns-then-not-is_scalar-2
returns-then-not-is_scalar-2 g c base own =
    let E = domain c.args.curve.now in
    let rest = holds_by E (number c.args.claimed.now.x) (number c.args.claimed.now.y) (number c.args.claimed.now.e) (number c.args.claimed.now.r) (inverse E.n (number c.args.claimed.now.s)) in
    let key = is_key E (number c.args.claimed.now.x) (number c.args.claimed.now.y) in
    let s_test = nat_lt 0 (number c.args.claimed.now.s) && nat_lt (number c.args.claimed.now.s) E.n in
    ap₂ (λ a b. a && (b && (key && rest))) (sym c.if-not-is_scalar.false ∙ c.is_scalar.ensures) (sym c.if-not-is_scalar-2.true ∙ c.is_scalar-2.ensures)
    ∙ holds_tests E (number c.args.claimed.now.x) (number c.args.claimed.now.y) (number c.args.claimed.now.e) (number c.args.claimed.now.r) (number c.args.claimed.now.s)

pub returns-then-not-is_key : goal.returns-then-not-is_key
returns-then-not-is_key g c base own =
    let E = domain c.args.curve.now in
    let rest = holds_by E (number c.args.claimed.now.x) (number c.args.claimed.now.y) (number c.args.claimed.now.e) (number c.args.claimed.now.r) (inverse E.n (number c.args.claimed.now.s)) in
    let key = is_key E (number c.args.claimed.now.x) (number c.args.claimed.now.y) in
    let s_test = nat_lt 0 (number c.args.claimed.now.s) && nat_lt (number c.args.claimed.now.s) E.n in
    ap₂ (λ a b. a && (b && (false && rest))) (sym c.if-not-is_scalar.false ∙ c.is_scalar.ensures) (sym c.if-not-is_scalar-2.false ∙ c.is_scalar-2.ensures)
    ∙ ap (λ b. (nat_lt 0 (number c.args.claimed.now.r) && nat_lt (number c.args.claimed.now.r) E.n) && (s_test && (b && rest))) (sym c.if-not-is_key.true ∙ c.is_key.ensures.is)
    ∙ holds_tests E (number c.args.claimed.now.x) (number c.args.claimed.now.y) (number c.args.claimed.now.e) (number c.args.claimed.now.r) (number c.args.claimed.now.s)

pub returns : goal.returns
returns g c base own =
    let E = domain c.args.curve.now in
    let rest = holds_by E (number c.args.claimed.now.x) (number c.args.claimed.now.y) (number c.args.claimed.now.e) (number c.args.claimed.now.r) (inverse E.n (number c.args.claimed.now.s)) in
    let key = is_key E (number c.args.claimed.now.x) (number c.args.claimed.now.y) in
    let s_test = nat_lt 0 (number c.args.claimed.now.s) && nat_lt (number c.args.claimed.now.s) E.n in
    c.holds_with.ensures base own
    ∙ ap₂ (λ a b. a && (b && (true && rest))) (sym c.if-not-is_scalar.false ∙ c.is_scalar.ensures) (sym c.if-not-is_scalar-2.false ∙ c.is_scalar-2.ensures)
    ∙ ap (λ b. (nat_lt 0 (number c.args.claimed.now.r) && nat_lt (number c.args.claimed.now.r) E.n) && (s_test && (b && rest))) (sym c.if-not-is_key.false ∙ c.is_key.ensures.is)
    ∙ holds_tests E (number c.args.claimed.now.x) (number c.args.claimed.now.y) (number c.args.claimed.now.e) (number c.args.claimed.now.r) (number c.args.claimed.now.s)
