use Rattle.std.proofs.Common.{◌≡◌, ◌∙◌, sym, ap, refl, subst, Ok, Err, drop, arith}
use Rattle.base64.specs.Engines.{url_safe_no_pad}
use Rattle.base64.specs.GeneralPurpose.{decode_of}
use Rattle.base64.proofs.EngineFacts.{decode_of_iff, decode_of_strict}
use Rattle.jwt_text.specs.Answers.{some_or}
use Rattle.jwt_text.specs.Base64url.{AreOctets, octets_of}
use Rattle.jwt_text.specs.declared.fault.TextFault.TheVariants.{Base64}
use Rattle.jwt_text.proofs.Base64urlLemmas.{encoded}
use Rattle.jwt_text.proofs.OctetsLaw.{law, none}
use Rattle.jwt_text.proofs.base64url.decode_into.Goals as goal

pub returns-in-Ok-clause-value : goal.returns-in-Ok-clause-value
returns-in-Ok-clause-value c =
    let v = c.decode_vec.new.buffer.items in
    let start : c.clear.new.self.len ≡ 0 = c.clear.ensures.len in
    let is : decode_of url_safe_no_pad c.args.text.now ≡ Ok v = subst (λ n. decode_of url_safe_no_pad c.args.text.now ≡ Ok (drop n v)) start c.in-Ok.ensures.ok in
    let bytes : AreOctets v = subst (λ n. AreOctets (drop n v)) start c.in-Ok.ensures.bytes in
    ap (some_or Base64) ((law _ _).1 (bytes, decode_of_strict url_safe_no_pad c.args.text.now v (refl, refl) (λ i. let f = c.type_inv.text i in omega arith) is ∙ encoded _ bytes))

pub returns-in-Err-DecodeError-clause-value : goal.returns-in-Err-DecodeError-clause-value
returns-in-Err-DecodeError-clause-value c = λ _.
    let was : decode_of url_safe_no_pad c.args.text.now ≡ Err c.in-Err-DecodeError.field-0-0 = rw c.in-Err-DecodeError.field-0-is at c.in-Err-DecodeError.ensures.err in
    let spells_none : octets_of c.args.text.now ≡ _ = none c.args.text.now (λ octets spells.
    let again = (decode_of_iff url_safe_no_pad c.args.text.now octets (refl, refl) (λ i. let f = c.type_inv.text i in omega arith) spells.0).1 (spells.1 ∙ sym (encoded octets spells.0)) in
    cc (again, was)) in
    ap (some_or Base64) spells_none
