-- What passes isn't refused.
use Rattle.std.proofs.Common.{◌≡◌, ◌-◌, ◌∙◌, ℕ, List, [], ◌∷◌, codes, length, take, drop, true, false, Option, None, Some, Ok, Err, refl, sym, ap, subst, inl, inr, arith}
use Rattle.std.specs.Option.{IfSome}
use Rattle.std.specs.Prelude.{option_map}
use Rattle.serde_json.specs.Data.{Members}
use Rattle.jwt_text.specs.Members.{text_at}
use Rattle.jwt_mac.specs.Verifying.{Meaning}
use Rattle.jwt_mac.specs.declared.algorithm.Alg.{Alg}
use Rattle.jwt_jws.specs.Token.{Token}
use Rattle.jwt_policy.specs.Settings.{Settings}
use Rattle.jwt_access.specs.declared.denial.Denial.{Denial}
use Rattle.jwt_request.specs.declared.scheme.Scheme.{Scheme}
use Rattle.jwt_request.specs.declared.scheme.Scheme.TheVariants.{Bearer, Dpop}
use Rattle.jwt_request.specs.declared.scheme.Schemes.{Schemes}
use Rattle.jwt_request.specs.declared.credentials.Credentials.TheVariants as found
use Rattle.jwt_request.specs.Spelled.{IsFound}
use Rattle.jwt_verify.specs.Accepted.{IsAccepted as IsAcceptedBy, HasOneVerdict, TellsTokens}
use Rattle.jwt_verify.specs.Reports.{FoundMemory, terms}
use Rattle.jwt_verify.specs.Verdict.{Terms}
use Rattle.jwt_verify.specs.declared.report.Fault.{Fault}
use Rattle.jwt_verify.specs.declared.report.Verdict.TheVariants as verdict
use Rattle.jwt_access.specs.expected.Unmet.{IsFirstUnmet}
use Rattle.jwt_possession.specs.Bindings.{bound_key, digest_text}
use Rattle.jwt_possession.specs.Laws.{IsOfOctets}
use Rattle.jwt_possession.specs.Paths.{has_agreed_path}
use Rattle.jwt_possession.specs.Possessions.{Proved, proved, proof_mark, owner_beside, proof_times}
use Rattle.jwt_possession.specs.Requests.{IsForRequest}
use Rattle.jwt_possession.specs.Uris.{normal_uri}
use Rattle.jwt_possession.specs.declared.once.accepted.Entry.{Entry}
use Rattle.jwt_possession.specs.declared.possession.Possession.{Possession}
use Rattle.jwt_possession.specs.declared.proof.ProofFault.{ProofFault}
use Rattle.jwt_possession.specs.declared.request.Access.{Access}
use Rattle.jwt_possession.specs.declared.request.Request.{Request}
use Rattle.jwt_service.specs.declared.call.Call.{Call}
use Rattle.jwt_service.specs.declared.service.Issuer.{Issuer}
use Rattle.jwt_service.specs.declared.service.Service.{Service}
use Rattle.jwt_service.specs.declared.service.Proofs.{Proofs}
use Rattle.jwt_service.specs.declared.service.NamedRule.{NamedRule}
use Rattle.jwt_service.specs.declared.asking.AskingFault.{AskingFault}
use Rattle.jwt_service.specs.declared.asking.AskingFault.TheVariants.{NoMoment, NoRule, Unasked}
use Rattle.jwt_service.specs.declared.shown.Shown.TheVariants as shown
use Rattle.jwt_service.specs.declared.proving.ProvingFault.{ProvingFault}
use Rattle.jwt_service.specs.declared.proving.ProvingFault.TheVariants.{NotOne, Path, Proof, Nonce}
use Rattle.jwt_service.specs.declared.proving.ProvingFault.TheVariants as proving
use Rattle.jwt_service.specs.declared.admission.Passed.{Passed}
use Rattle.jwt_service.specs.declared.admission.Refusal.{Refusal}
use Rattle.jwt_service.specs.declared.admission.Refusal.TheVariants.{Misasked, Several, Absent, Malformed, Refused, Denied, Unexpected, Unproved, Unshown, Lacking, OutOfMemory}
use Rattle.jwt_service.specs.Shown.{CarriesToken, Shows, IsShown, schemes_of, values_of}
use Rattle.jwt_service.specs.Asking.{IsAsked, IsMisasked}
use Rattle.jwt_service.specs.Judged.{alg_at, IsByAlg, AcceptsToken, RefusesToken}
use Rattle.jwt_service.specs.Rule.{Meets, MeetsRule, IsDenied}
use Rattle.jwt_service.specs.Proving.{Proves, Asks, IsNoProof, HasNonce, IsBeside, IsHeld, IsUnproved}
use Rattle.jwt_service.specs.Unshown.{HasUnshown}
use Rattle.jwt_service.specs.Taking.{IsProofEntry, IsTokenEntry}
use Rattle.jwt_service.specs.Admission.{Subject, IsToken, IsAccepted, IsPassed, IsRefusal}
use Rattle.jwt_service.specs.Issuers.{IsChosen}
use Rattle.jwt_service.specs.Laws.{IsOfProof, IsOfRequest}
use Rattle.jwt_service.proofs.Below.{Below}
use Rattle.jwt_service.proofs.Choices.{one_chosen}
use Rattle.jwt_service.proofs.Asked.{one_rule}
use Rattle.jwt_service.proofs.Bound.{one_unshown}
use Rattle.jwt_service.proofs.OneEntry.{one_proof_entry, one_token_entry}

-- ---- one token

same_value : (values value other : List (List ℕ)) (a b : List ℕ) → values ≡ a ∷ [] → values ≡ b ∷ [] → b ≡ a
same_value values value other a b is is' = let both : a ∷ [] ≡ b ∷ [] = sym is ∙ is' in cc

same_token : Below → (schemes : Schemes) (values : List (List ℕ)) (a b : Scheme) (t u : List ℕ) → Shows schemes values a t → Shows schemes values b u → (b ≡ a) × (u ≡ t)
same_token below schemes values a b t u (value, is, one) (value', is', other) =
    let same : value' ≡ value = same_value values [] [] value value' is is' in
    let moved : CarriesToken schemes value b u = subst (λ (v : List ℕ). CarriesToken schemes v b u) same other in
    let alike : found.Token b moved.from moved.to ≡ found.Token a one.from one.to =
    below.found schemes value (found.Token a one.from one.to) (found.Token b moved.from moved.to) (one.taken, one.carried) (moved.taken, moved.carried) in
    let scheme : b ≡ a = cc in
    let from : moved.from ≡ one.from = cc in
    let to : moved.to ≡ one.to = cc in (
      scheme,
      moved.octets ∙ ap (λ (n : ℕ). take (moved.to - n) (drop n value)) from ∙ ap (λ (n : ℕ). take (n - one.from) (drop one.from value)) to ∙ sym one.octets,
    )

not_several : (schemes : Schemes) (values : List (List ℕ)) (scheme : Scheme) (token : List ℕ) → Shows schemes values scheme token → IsShown schemes values shown.Several → ⊥
not_several schemes values scheme token (value, is, one) several = let few : length values ≡ 1 = ap length is in omega (arith, few, several)

not_absent : Below → (schemes : Schemes) (values : List (List ℕ)) (scheme : Scheme) (token : List ℕ) → Shows schemes values scheme token → IsShown schemes values shown.Absent → ⊥
not_absent below schemes values scheme token (value, is, one) (inl none) = let no : value ∷ [] ≡ [] = sym is ∙ none in cc
not_absent below schemes values scheme token (value, is, one) (inr (value', is', absent)) =
    let same : value' ≡ value = same_value values [] [] value value' is is' in
    let alike : found.Absent ≡ found.Token scheme one.from one.to =
    below.found schemes value (found.Token scheme one.from one.to) found.Absent (one.taken, one.carried) (subst (λ (v : List ℕ). IsFound schemes v found.Absent) same absent) in
    cc

not_malformed : Below → (schemes : Schemes) (values : List (List ℕ)) (scheme other : Scheme) (token : List ℕ) → Shows schemes values scheme token → IsShown schemes values (shown.Malformed other) → ⊥
not_malformed below schemes values scheme other token (value, is, one) (value', is', malformed) =
    let same : value' ≡ value = same_value values [] [] value value' is is' in
    let alike : found.Malformed other ≡ found.Token scheme one.from one.to =
    below.found schemes value (found.Token scheme one.from one.to) (found.Malformed other) (one.taken, one.carried) (subst (λ (v : List ℕ). IsFound schemes v (found.Malformed other)) same malformed) in
    cc

-- ---- one verdict

one_claims : HasOneVerdict → (t : Terms) (octets : List ℕ) (ceiling s k s' k' : ℕ) (claims others : Members)
    → IsAcceptedBy t octets ceiling s k claims → IsAcceptedBy t octets ceiling s' k' others → (others ≡ claims) × (s' ≡ s)
one_claims law t octets ceiling s k s' k' claims others one other =
    let told = law t octets ceiling in
    let both : verdict.Accepted s' k' others ≡ verdict.Accepted s k claims = told.2 (verdict.Accepted s' k' others) other ∙ sym (told.2 (verdict.Accepted s k claims) one) in
    (cc, cc)

one_alg : TellsTokens → (policy : Settings) (octets : List ℕ) (signature other : ℕ) (a b : Alg) → other ≡ signature → IsByAlg policy octets signature a → IsByAlg policy octets other b → b ≡ a
one_alg law policy octets signature other a b same (token, read, is) (token', read', is') =
    let tokens : Ok token' ≡ Ok token = sym ((law policy octets token').1 read') ∙ (law policy octets token).1 read in
    let one : token' ≡ token = cc in
    let both : Some b ≡ Some a = sym is' ∙ ap (λ (n : ℕ). alg_at token' n) same ∙ ap (λ (t : Token). alg_at t signature) one ∙ is in
    cc

not_refused : Below → (issuer : Issuer) (verifiers : List Meaning) (call : Call) (token : List ℕ) (claims : Members) (alg : Alg) (fault : Fault)
    → AcceptsToken issuer verifiers call token claims alg → RefusesToken issuer verifiers call token fault → FoundMemory (verdict.Refused fault) → ⊥
not_refused below issuer verifiers call token claims alg fault (s, k, accepted, by) refused memory =
    let told = below.verdict (terms issuer.policy.now issuer.keys.now call.moment verifiers) token issuer.policy.now.run.work in
    let both : verdict.Refused fault ≡ verdict.Accepted s k claims = told.2 (verdict.Refused fault) (refused memory) ∙ sym (told.2 (verdict.Accepted s k claims) accepted) in
    cc

same_claims : Below → (issuer : Issuer) (verifiers : List Meaning) (call : Call) (token : List ℕ) (claims others : Members) (a b : Alg)
    → AcceptsToken issuer verifiers call token claims a → AcceptsToken issuer verifiers call token others b → (others ≡ claims) × (b ≡ a)
same_claims below issuer verifiers call token claims others a b (s, k, one, by) (s', k', other, by') =
    let same = one_claims below.verdict (terms issuer.policy.now issuer.keys.now call.moment verifiers) token issuer.policy.now.run.work s k s' k' claims others one other in
    (same.0, one_alg below.tokens issuer.policy.now token s s' a b same.1 by by')

same_issuer : Below → (service : Service) (call : Call) (a b : Scheme) (t u : List ℕ) (i j : Issuer) → IsToken service call a t → IsChosen service t i → IsToken service call b u → IsChosen service u j
    → (u ≡ t) × (b ≡ a) × (j ≡ i)
same_issuer below service call a b t u i j shows chosen shows' chosen' =
    let same = same_token below (schemes_of service) (values_of call) a b t u shows.1 shows'.1 in
    (same.1, same.0, one_chosen service t i j chosen (subst (λ (o : List ℕ). IsChosen service o j) same.1 chosen'))

pub same_subject : Below → (service : Service) (verifiers : List Meaning) (call : Call) (a b : Subject) → IsAccepted service verifiers call a → IsAccepted service verifiers call b → b ≡ a
same_subject below service verifiers call a b one other =
    let same = same_issuer below service call a.scheme b.scheme a.token b.token a.issuer b.issuer one.shown one.chosen other.shown other.chosen in
    let here = subst (λ (o : List ℕ). AcceptsToken b.issuer verifiers call o b.claims b.alg) same.0 other.accepted in
    let there = subst (λ (x : Issuer). AcceptsToken x verifiers call a.token b.claims b.alg) same.2 here in
    let verdict = same_claims below a.issuer verifiers call a.token a.claims b.claims a.alg b.alg one.accepted there in
    let token : b.token ≡ a.token = same.0 in
    let scheme : b.scheme ≡ a.scheme = same.1 in
    let issuer : b.issuer ≡ a.issuer = same.2 in
    let claims : b.claims ≡ a.claims = verdict.0 in
    let alg : b.alg ≡ a.alg = verdict.1 in
    let its : Subject = record { scheme = a.scheme; token = a.token; issuer = a.issuer; claims = a.claims; alg = a.alg } in
    let others : Subject = record { scheme = b.scheme; token = b.token; issuer = b.issuer; claims = b.claims; alg = b.alg } in
    let all : others ≡ its = cc in
    all

-- ---- one proof

with_hash : (name : Option (List ℕ)) (token : List ℕ) (claims : Members) (access : Option Access)
    → IfSome access (λ a. (a.token.now ≡ token) × (a.claims.now ≡ claims)) → name ≡ Some (digest_text token) → IfSome access (λ a. name ≡ Some (digest_text a.token.now))
with_hash name token claims None h is = tt
with_hash name token claims (Some a) h is = is ∙ ap (λ (t : List ℕ). Some (digest_text t)) (sym h.0)

with_key : (thumbprint token : List ℕ) (claims : Members) (access : Option Access)
    → IfSome access (λ a. (a.token.now ≡ token) × (a.claims.now ≡ claims)) → bound_key claims ≡ Some thumbprint → IfSome access (λ a. bound_key a.claims.now ≡ Some thumbprint)
with_key thumbprint token claims None h is = tt
with_key thumbprint token claims (Some a) h is = ap bound_key h.1 ∙ is

for_request : (proofs : Proofs) (verifiers : List Meaning) (call : Call) (token : List ℕ) (claims : Members) (proof : List ℕ) (it : Proved) (request : Request)
    → (proves : Proves proofs verifiers call token claims proof it) → Asks proofs call token claims request → IsForRequest it.claims request proves.key.thumbprint
for_request proofs verifiers call token claims proof it request proves asks = record {
  method = proves.method ∙ ap (λ (t : List ℕ). Some t) (sym asks.method);
  path = ap has_agreed_path asks.uri ∙ proves.path;
  uri = (proves.uri.0, proves.uri.1, proves.uri.2, proves.uri.3, ap normal_uri asks.uri ∙ proves.uri.4);
  nonce = rw asks.nonce tt;
  access = with_hash (text_at (codes "ath") it.claims) token claims request.access asks.access proves.access;
  key = with_key proves.key.thumbprint token claims request.access asks.access proves.bound;
}

no_other_proof : Below → (proofs : Proofs) (verifiers : List Meaning) (call : Call) (token : List ℕ) (claims : Members) (proof : List ℕ) (it : Proved) (fault : ProofFault)
    → Proves proofs verifiers call token claims proof it → IsNoProof proofs verifiers call token claims proof fault → IsOfOctets fault → ⊥
no_other_proof below proofs verifiers call token claims proof it fault proves (request, asks, faulty) of_octets =
    below.proofs proofs.policy.now verifiers call.moment request proof proves.key it.claims fault
    (record { signed = proves.signed; for_request = for_request proofs verifiers call token claims proof it request proves asks }) of_octets faulty

no_both : (scheme : Scheme) → scheme ≡ Bearer → scheme ≡ Dpop → ⊥
no_both scheme bearer dpop = let both : Bearer ≡ Dpop = sym bearer ∙ dpop in cc

same_beside : (service : Service) (call : Call) (scheme : Scheme) (a b : Proofs) (x y : List ℕ) → IsBeside service call scheme a x → IsBeside service call scheme b y → (b ≡ a) × (y ≡ x)
same_beside service call scheme a b x y (dpop, is, values) (dpop', is', values') =
    let proofs : Some b ≡ Some a = sym is' ∙ is in
    let proof : y ∷ [] ≡ x ∷ [] = sym values' ∙ values in
    (cc, cc)

not_unproved : Below → (service : Service) (verifiers : List Meaning) (call : Call) (scheme : Scheme) (token : List ℕ) (claims : Members) (held : Option Possession) (fault : ProvingFault)
    → IsHeld service verifiers call scheme token claims held → IsUnproved service verifiers call scheme token claims fault → IsOfProof fault → ⊥
not_unproved below service verifiers call scheme token claims None NotOne bearer (dpop, none) memory = no_both scheme bearer dpop
not_unproved below service verifiers call scheme token claims None Path bearer (proofs, proof, beside, other) memory = no_both scheme bearer beside.0
not_unproved below service verifiers call scheme token claims None (Proof fault) bearer (proofs, proof, at, faulty) memory = no_both scheme bearer at.0.0
not_unproved below service verifiers call scheme token claims None Nonce bearer (proofs, proof, it, at, proves, stale) memory = no_both scheme bearer at.0.0
not_unproved below service verifiers call scheme token claims None proving.OutOfMemory bearer lacked memory = absurd memory
not_unproved below service verifiers call scheme token claims (Some held) NotOne (proofs, proof, at, proves, fresh) (dpop, none) memory = none proofs proof at.0
not_unproved below service verifiers call scheme token claims (Some held) Path (proofs, proof, at, proves, fresh) (proofs', proof', beside', other) memory =
    let both : true ≡ false = sym at.1 ∙ other in
    cc
not_unproved below service verifiers call scheme token claims (Some held) (Proof fault) (proofs, proof, at, proves, fresh) (proofs', proof', at', faulty) memory =
    let same = same_beside service call scheme proofs proofs' proof proof' at.0 at'.0 in
    let here = subst (λ (p : Proofs). IsNoProof p verifiers call token claims proof' fault) same.0 faulty in
    no_other_proof below proofs verifiers call token claims proof (proved held) fault proves (subst (λ (x : List ℕ). IsNoProof proofs verifiers call token claims x fault) same.1 here) memory
not_unproved below service verifiers call scheme token claims (Some held) Nonce (proofs, proof, at, proves, fresh) (proofs', proof', it, at', proves', stale) memory =
    let same = same_beside service call scheme proofs proofs' proof proof' at.0 at'.0 in
    let here = subst (λ (p : Proofs). Proves p verifiers call token claims proof' it) same.0 proves' in
    let there = subst (λ (x : List ℕ). Proves proofs verifiers call token claims x it) same.1 here in
    let claims_are = (below.own_key proofs.policy.now verifiers call.moment proof proves.key there.key (proved held).claims it.claims proves.signed there.signed).1 in
    subst (λ (m : Members). HasNonce proofs call m → ⊥) claims_are (subst (λ (p : Proofs). HasNonce p call it.claims → ⊥) same.0 stale) fresh
not_unproved below service verifiers call scheme token claims (Some held) proving.OutOfMemory proves lacked memory = absurd memory

-- of two, that they are by one key, and held in one way
pub record IsAlike (p q : Option Possession) : Type 0 where
  pub key : option_map (λ it. (proved it).thumbprint) q ≡ option_map (λ it. (proved it).thumbprint) p
  pub entry : (a b : Option Entry) → IsProofEntry p a → IsProofEntry q b → b ≡ a

alike : (p q : Possession) → (proved q).thumbprint ≡ (proved p).thumbprint → (proved q).claims ≡ (proved p).claims → (proved q).owner ≡ (proved p).owner → (proved q).times ≡ (proved p).times → IsAlike (Some p) (Some q)
alike p q thumbprint claims owner times =
    let mark : proof_mark (proved q) ≡ proof_mark (proved p) = cc in
    record { key = ap (λ (t : List ℕ). Some t) thumbprint; entry = λ a b h g. one_proof_entry p q a b mark owner times h g }

pub same_held : Below → (service : Service) (verifiers : List Meaning) (call : Call) (scheme : Scheme) (token : List ℕ) (claims : Members) (p q : Option Possession)
    → IsHeld service verifiers call scheme token claims p → IsHeld service verifiers call scheme token claims q → IsAlike p q
same_held below service verifiers call scheme token claims None None bearer bearer' = record { key = refl; entry = λ a b h g. g ∙ sym h }
same_held below service verifiers call scheme token claims None (Some q) bearer (proofs, proof, at, proves, fresh) = absurd (no_both scheme bearer at.0.0)
same_held below service verifiers call scheme token claims (Some p) None (proofs, proof, at, proves, fresh) bearer = absurd (no_both scheme bearer at.0.0)
same_held below service verifiers call scheme token claims (Some p) (Some q) (proofs, proof, at, proves, fresh) (proofs', proof', at', proves', fresh') =
    let same = same_beside service call scheme proofs proofs' proof proof' at.0 at'.0 in
    let here = subst (λ (x : Proofs). Proves x verifiers call token claims proof' (proved q)) same.0 proves' in
    let there = subst (λ (x : List ℕ). Proves proofs verifiers call token claims x (proved q)) same.1 here in
    let signed = below.own_key proofs.policy.now verifiers call.moment proof proves.key there.key (proved p).claims (proved q).claims proves.signed there.signed in
    let thumbprint : (proved q).thumbprint ≡ (proved p).thumbprint = there.thumbprint ∙ ap (λ k. k.thumbprint) signed.0 ∙ sym proves.thumbprint in
    let owner : (proved q).owner ≡ (proved p).owner = there.owner ∙ ap (λ (t : List ℕ). owner_beside (Some claims) t) thumbprint ∙ sym proves.owner in
    let times : (proved q).times ≡ (proved p).times = there.times ∙ ap (λ (m : Members). proof_times proofs.policy.now m) signed.1 ∙ sym proves.times in
    alike p q thumbprint signed.1 owner times

-- ---- what the program asks

asked_right : (service : Service) (call : Call) → IsAsked service call → (fault : AskingFault) → ¬ IsMisasked service call fault
asked_right service call asked NoMoment early = let both : true ≡ false = sym early ∙ asked.moment in cc
asked_right service call asked NoRule none = none asked.rule.0 asked.rule.1
asked_right service call asked (Unasked name) (among, not) = let both : true ≡ false = sym (asked.expected name among) ∙ not in cc

not_denied : (service : Service) (issuer : Issuer) (call : Call) (claims : Members) (denial : Denial) → MeetsRule service issuer call claims → ¬ IsDenied service issuer call claims denial
not_denied service issuer call claims denial (rule, is, meets) (other, is', denied) =
    denied.met_not (subst (λ (r : Option NamedRule). Meets r issuer call claims) (sym (one_rule service call rule other is is')) meets)

-- ---- all causes

abbrev pub subject_in : Passed → List ℕ → Alg → Subject
subject_in passed token alg = record { scheme = passed.scheme; token = token; issuer = passed.issuer; claims = passed.claims; alg = alg }

pub accepted_in : (service : Service) (verifiers : List Meaning) (call : Call) (passed : Passed) (h : IsPassed service verifiers call passed) → IsAccepted service verifiers call (subject_in passed h.token h.alg)
accepted_in service verifiers call passed h = h.before.before.before.before.before

pub passed_is_not_refused : Below → (service : Service) (verifiers : List Meaning) (call : Call) (passed : Passed) (refusal : Refusal)
    → IsPassed service verifiers call passed → IsOfRequest refusal → ¬ IsRefusal service verifiers call refusal
passed_is_not_refused below service verifiers call passed (Misasked fault) h memory misasked = asked_right service call (accepted_in service verifiers call passed h).shown.0 fault misasked
passed_is_not_refused below service verifiers call passed Several h memory several =
    not_several (schemes_of service) (values_of call) passed.scheme h.token (accepted_in service verifiers call passed h).shown.1 several.1
passed_is_not_refused below service verifiers call passed Absent h memory absent =
    not_absent below (schemes_of service) (values_of call) passed.scheme h.token (accepted_in service verifiers call passed h).shown.1 absent.1
passed_is_not_refused below service verifiers call passed (Malformed scheme) h memory malformed =
    not_malformed below (schemes_of service) (values_of call) passed.scheme scheme h.token (accepted_in service verifiers call passed h).shown.1 malformed.1
passed_is_not_refused below service verifiers call passed (Refused scheme fault) h memory (token', issuer', shows, chosen, refuses) =
    let accepted = accepted_in service verifiers call passed h in
    let same = same_issuer below service call passed.scheme scheme h.token token' passed.issuer issuer' accepted.shown accepted.chosen shows chosen in
    let here = subst (λ (o : List ℕ). RefusesToken issuer' verifiers call o fault) same.0 refuses in
    not_refused below passed.issuer verifiers call h.token passed.claims h.alg fault accepted.accepted (subst (λ (i : Issuer). RefusesToken i verifiers call h.token fault) same.2 here) memory
passed_is_not_refused below service verifiers call passed (Denied scheme denial) h memory (it, is, accepted, denied) =
    let same = same_subject below service verifiers call (subject_in passed h.token h.alg) it (accepted_in service verifiers call passed h) accepted in
    not_denied service passed.issuer call passed.claims denial h.before.before.before.before.rule (subst (λ (s : Subject). IsDenied service s.issuer call s.claims denial) same denied)
passed_is_not_refused below service verifiers call passed (Unexpected scheme unmet) h memory (it, is, granted, first) =
    let same = same_subject below service verifiers call (subject_in passed h.token h.alg) it (accepted_in service verifiers call passed h) granted.before in
    below.unmet h.alg passed.claims call.expected.now unmet (subst (λ (s : Subject). IsFirstUnmet s.alg s.claims call.expected.now unmet) same first) h.before.before.before.expected
passed_is_not_refused below service verifiers call passed (Unproved fault) h memory (it, expected, unproved) =
    let same = same_subject below service verifiers call (subject_in passed h.token h.alg) it (accepted_in service verifiers call passed h) expected.before.before in
    not_unproved below service verifiers call passed.scheme h.token passed.claims h.possession fault h.before.before.held
    (subst (λ (s : Subject). IsUnproved service verifiers call s.scheme s.token s.claims fault) same unproved) memory
passed_is_not_refused below service verifiers call passed (Unshown scheme fault) h memory (it, possession', is, proves, unshown) =
    let same = same_subject below service verifiers call (subject_in passed h.token h.alg) it (accepted_in service verifiers call passed h) proves.before.before.before in
    let held = subst (λ (s : Subject). IsHeld service verifiers call s.scheme s.token s.claims possession') same proves.held in
    let pair = same_held below service verifiers call passed.scheme h.token passed.claims h.possession possession' h.before.before.held held in
    let there = subst (λ (s : Subject). HasUnshown service call s.claims possession' (Some fault)) same unshown in
    let both : Some fault ≡ None = one_unshown service call passed.claims h.possession possession' None (Some fault) pair.key h.before.shown there in
    cc
passed_is_not_refused below service verifiers call passed (Lacking scheme lack) h memory (it, possession', is, bound, lacks) =
    let same = same_subject below service verifiers call (subject_in passed h.token h.alg) it (accepted_in service verifiers call passed h) bound.before.before.before.before in
    let there = subst (λ (s : Subject). IsTokenEntry service s.issuer call s.claims (Err lack)) same lacks in
    let both : Err lack ≡ Ok passed.token = one_token_entry service.once passed.issuer call passed.claims (Ok passed.token) (Err lack) h.token_entry there in
    cc
passed_is_not_refused below service verifiers call passed OutOfMemory h memory refused = absurd memory
