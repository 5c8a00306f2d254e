use Rattle.std.proofs.Common.{rules, ◌==◌, ◌∷◌, ℕ, List, ap, length, ◌∙◌, arith}
use Rattle.std.proofs.lemmas.Bool.{both_ways}
use Rattle.jwt_jwk.specs.Jwk.{optional_text}
use Rattle.jwt_jwk.specs.Converted.{kid_of}
use Rattle.jwt_jwk.proofs.Files.{whole_set}
use Rattle.jwt_jwk.proofs.set.jwk_set_of_pem.Goals as goal

pub returns-in-Err-clause-only : goal.returns-in-Err-clause-only
returns-in-Err-clause-only c = λ key keys file few. c.in-Err.ensures.only (key ∷ keys) file (omega (arith, few))

pub returns-in-Ok-extend_from_slice-clause-ok : goal.returns-in-Ok-extend_from_slice-clause-ok
returns-in-Ok-extend_from_slice-clause-ok c =
    whole_set c.quoted_texts.ensures c.object_texts.ensures.object (kid_of c.args.kid) (optional_text c.args.alg) c.args.text.now c.in-Ok.set.items c.add_jwks.new.set.items c.extend_from_slice.new.self.items (search rules)
    (λ e. both_ways c.is_empty.result c.if-is_empty.false (c.is_empty.ensures ∙ ap (λ (t : List ℕ). length t == 0) (c.trim.ensures ∙ e)))
    c.in-Ok-add_jwks.ensures.ok c.in-Ok-extend_from_slice.ensures.items
