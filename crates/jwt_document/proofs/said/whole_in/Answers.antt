use Rattle.std.proofs.Common.{◌≡◌, List, codes, subst}
use Rattle.jwt_document.specs.Rows.{Row}
use Rattle.jwt_document.specs.Said.{number_in, text_in, texts, texts_in}
use Rattle.jwt_document.proofs.said.whole_in.Goals as goal

pub returns : goal.returns
returns c =
    let same = c.the_service_rows-rows.ensures in
    record {
      realm = subst (λ (rows : List Row). c.text_in.result.now ≡ text_in rows (codes "realm") c.args.members.now) same c.text_in.ensures;
      describe = c.is_true.ensures;
      earliest = subst (λ (rows : List Row). c.number_in.result ≡ number_in rows (codes "earliest") c.args.members.now) same c.number_in.ensures;
      prepare = subst (λ (rows : List Row). c.number_in-2.result ≡ number_in rows (codes "prepare") c.args.members.now) same c.number_in-2.ensures;
      expects = subst (λ (rows : List Row). texts c.in_ok-expects.expects.items ≡ texts_in rows (codes "expects") c.args.members.now) same c.in_ok-expects.ensures;
      once = c.is_true-2.ensures;
      certificates = c.certificates_in.ensures;
    }
