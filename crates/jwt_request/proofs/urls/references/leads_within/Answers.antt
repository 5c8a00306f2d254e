use Rattle.std.proofs.Common.{rules, ◌≡◌, ◌&&◌, ◌==◌, ◌∙◌, sym, subst, true, false, take, slice_index}
use Rattle.std.proofs.lemmas.List.{take_rest}
use Rattle.std.specs.Str.{str_eq_ignore_ascii_case}
use Rattle.jwt_request.specs.urls.Urls.{behind_host, host_len, host_of, is_laid, port_of}
use Rattle.jwt_request.specs.urls.References.{is_whole}
use Rattle.jwt_request.proofs.Parts.{within_host, within_seam}
use Rattle.jwt_request.proofs.urls.references.leads_within.Goals as goal

pub returns-then-has_host : goal.returns-then-has_host
returns-then-has_host c =
    let whole : is_whole c.args.location.now ≡ false = search rules in
    let slashes : (slice_index c.args.location.now 0 == 47 && slice_index c.args.location.now 1 == 47) ≡ true = search rules in
    subst (λ xs. c.is_of_host.result ≡ (is_laid xs && c.args.at.port == port_of c.args.at.is_https (behind_host xs)
    && str_eq_ignore_ascii_case (host_of c.args.at c.args.url.now) (take (host_len xs) xs)))
    (take_rest c.args.location.now 2) c.is_of_host.ensures
    ∙ sym (within_host c.args.at c.args.url.now c.args.location.now c.requires.placed c.requires.parts whole slashes)

pub returns-else-has_host : goal.returns-else-has_host
returns-else-has_host c =
    let whole : is_whole c.args.location.now ≡ false = search rules in
    let no_host : (slice_index c.args.location.now 0 == 47 && slice_index c.args.location.now 1 == 47) ≡ false = search rules in
    c.is_of_target.ensures ∙ sym (within_seam c.args.at c.args.url.now c.args.location.now c.requires.placed c.requires.parts whole no_host)
