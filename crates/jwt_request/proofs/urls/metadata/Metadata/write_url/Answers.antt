use Rattle.std.proofs.Common.{rules, ◌≡◌, true, Some, drop, subst, sym, ◌∙◌}
use Rattle.std.specs.List.{list_all}
use Rattle.jwt_request.specs.declared.urls.kind.Kind.TheVariants.{Path}
use Rattle.jwt_request.specs.urls.Urls.{is_of, url_where}
use Rattle.jwt_request.specs.urls.Metadata.{metadata_of, metadata_where, metadata_url}
use Rattle.jwt_request.proofs.Choices.{chosen_by}
use Rattle.jwt_request.proofs.urls.metadata.Metadata.write_url.Goals as goal

pub returns-in-None : goal.returns-in-None
unfolding metadata_url
returns-in-None c =
    let some : c.url_of.result ≡ Some c.in-Some.at = c.in-Some.is in
    let parts : Some c.in-Some.at ≡ url_where true c.args.issuer.now = sym some ∙ c.url_of.ensures.value in
    let paths : list_all (is_of Path) (drop c.in-Some.at.target c.args.issuer.now) ≡ true = search rules in
    let there = chosen_by (list_all (is_of Path) (drop c.in-Some.at.target c.args.issuer.now)) (metadata_of c.args.self c.in-Some.at.target c.args.issuer.now) paths in (
      metadata_of c.args.self c.in-Some.at.target c.args.issuer.now,
      subst (λ x. metadata_where c.args.self x c.args.issuer.now ≡ Some (metadata_of c.args.self c.in-Some.at.target c.args.issuer.now)) parts there,
      c.in-None.ensures.put.0,
      c.in-None.ensures.put.1,
    )
