use Rattle.std.proofs.Common.{◌≡◌, ◌<◌, Some, true, inl, inr, subst, arith}
use Rattle.std.specs.List.{slice_get}
use Rattle.std.proofs.lemmas.Option.{slice_get_read}
use Rattle.jwt_sources.specs.Changes.{IsLike}
use Rattle.jwt_sources.proofs.Lists.{one_at, below_or_at}
use Rattle.jwt_sources.proofs.sources.Sources.place_like.Goals as goal

pub loop-at-preserved : goal.loop-at-preserved
loop-at-preserved g c =
    let inside : c.loop-at.at < c.args.self.now.sources.len = omega (arith, c.loop-at-test.true, c.len-at-end.ensures) in
    let at : slice_get c.args.self.now.sources.items c.loop-at.at ≡ Some c.index.result.now =
    slice_get_read c.args.self.now.sources.items c.args.self.now.sources.len c.loop-at.at c.index.result.now c.args.self.now.sources.ok.0 inside c.index.ensures in
    λ k source below is. elim (below_or_at k c.loop-at.at below) [
      | inl before ↦ c.loop-at.invariant k source before is
      | inr same ↦ λ like.
          let here : slice_get c.args.self.now.sources.items c.loop-at.at ≡ Some source = subst (λ n. slice_get c.args.self.now.sources.items n ≡ Some source) same is in
          let one : source ≡ c.index.result.now = one_at c.args.self.now.sources.items c.loop-at.at source c.index.result.now here at in
          let yes : c.is_like.result ≡ true = c.is_like.ensures.1 (subst (λ x. IsLike x c.args.other.now) one like) in
          let no = c.if-is_like.false in cc
    ]
