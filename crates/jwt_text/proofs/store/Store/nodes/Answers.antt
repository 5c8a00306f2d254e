use Rattle.std.proofs.Common.{◌≡◌, ◌<◌, false, nat_le, length, sym, ap, ◌∙◌, subst}
use Rattle.std.proofs.lemmas.Bool.{lt-leb}
use Rattle.jwt_text.specs.Flat.{short, run_by, IsRunBy}
use Rattle.jwt_text.proofs.GrowthLemmas.{long_is}
use Rattle.jwt_text.proofs.store.Store.nodes.Goals as goal

pub returns-else-len-le-SHORT : goal.returns-else-len-le-SHORT
returns-else-len-le-SHORT c =
    let s = c.args.self.now in
    let p = c.args.span in
    let size : nat_le p.len short ≡ false = lt-leb p.len short c.if-len-le-SHORT.false in
    let within : p.start < length s.long.items = subst (λ b. IsRunBy b s p) size c.requires in
    c.deref-else-len-le-SHORT.ensures.value ∙ ap (λ v. v.items) c.index.ensures ∙ long_is s.long.items p.start _ within ∙ ap (λ b. run_by b s p) (sym size)
