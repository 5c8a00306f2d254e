-- A proof and a token are held in one way.
use Rattle.std.proofs.Common.{◌≡◌, ◌∙◌, ℕ, ℤ, Bool, true, false, List, codes, Option, None, Some, Result, Ok, Err, sym, ap}
use Rattle.serde_json.specs.Data.{Members}
use Rattle.jwt_text.specs.Members.{text_at, whole_at}
use Rattle.jwt_policy.specs.Settings.{Settings}
use Rattle.jwt_possession.specs.once.Accepted.{is_ahead, IsEntryUnless, IsEntryWith}
use Rattle.jwt_possession.specs.declared.once.accepted.Entry.{Entry}
use Rattle.jwt_possession.specs.declared.once.accepted.Lack.{Lack}
use Rattle.jwt_possession.specs.Possessions.{proved, proof_mark}
use Rattle.jwt_possession.specs.declared.possession.Possession.{Possession}
use Rattle.jwt_service.specs.declared.call.Call.{Call}
use Rattle.jwt_service.specs.declared.service.Issuer.{Issuer}
use Rattle.jwt_service.specs.Taking.{IsProofEntry, IsTokenEntryWhere}

pub one_proof_entry : (p q : Possession) (a b : Option Entry) → proof_mark (proved q) ≡ proof_mark (proved p) → (proved q).owner ≡ (proved p).owner → (proved q).times ≡ (proved p).times
    → IsProofEntry (Some p) a → IsProofEntry (Some q) b → b ≡ a
one_proof_entry p q a b mark owner times h g = cc

same_entry : (a b : Entry) → b.mark ≡ a.mark → b.owner ≡ a.owner → b.times ≡ a.times → b ≡ a
same_entry a b mark owner times =
    let one : Entry = record { mark = a.mark; owner = a.owner; times = a.times } in
    let other : Entry = record { mark = b.mark; owner = b.owner; times = b.times } in
    let all : other ≡ one = cc in
    all

one_unless : (ahead : Bool) (policy : Settings) (claims : Members) (a b : Result Entry Lack) (jti : List ℕ) (exp : ℤ)
    → IsEntryUnless ahead policy claims a jti exp → IsEntryUnless ahead policy claims b jti exp → b ≡ a
one_unless true policy claims a b jti exp h g = g ∙ sym h
one_unless false policy claims a b jti exp (held, is, mark, owner, times) (held', is', mark', owner', times') =
    is' ∙ ap (λ (e : Entry). Ok e) (same_entry held held' (mark' ∙ sym mark) (owner' ∙ sym owner) (times' ∙ sym times)) ∙ sym is

one_entry : (policy : Settings) (claims : Members) (now : ℤ) (a b : Result Entry Lack) (jti : Option (List ℕ)) (exp : Option ℤ)
    → IsEntryWith policy claims now a jti exp → IsEntryWith policy claims now b jti exp → b ≡ a
one_entry policy claims now a b None exp h g = g ∙ sym h
one_entry policy claims now a b (Some jti) None h g = g ∙ sym h
one_entry policy claims now a b (Some jti) (Some exp) h g = one_unless (is_ahead policy claims now) policy claims a b jti exp h g

pub one_token_entry : (once : Bool) (issuer : Issuer) (call : Call) (claims : Members) (a b : Result (Option Entry) Lack)
    → IsTokenEntryWhere once issuer call claims a → IsTokenEntryWhere once issuer call claims b → b ≡ a
one_token_entry false issuer call claims a b h g = g ∙ sym h
one_token_entry true issuer call claims (Ok None) b h g = absurd h
one_token_entry true issuer call claims (Ok (Some a)) (Ok None) h g = absurd g
one_token_entry true issuer call claims (Ok (Some a)) (Ok (Some b)) h g =
    let same : Ok b ≡ Ok a = one_entry issuer.policy.now claims call.moment (Ok a) (Ok b) (text_at (codes "jti") claims) (whole_at (codes "exp") claims) h g in
    let entries : b ≡ a = cc in
    ap (λ (e : Entry). Ok (Some e)) entries
one_token_entry true issuer call claims (Ok (Some a)) (Err lack) h g =
    let no : Err lack ≡ Ok a = one_entry issuer.policy.now claims call.moment (Ok a) (Err lack) (text_at (codes "jti") claims) (whole_at (codes "exp") claims) h g in
    absurd cc
one_token_entry true issuer call claims (Err lack) (Ok None) h g = absurd g
one_token_entry true issuer call claims (Err lack) (Ok (Some b)) h g =
    let no : Ok b ≡ Err lack = one_entry issuer.policy.now claims call.moment (Err lack) (Ok b) (text_at (codes "jti") claims) (whole_at (codes "exp") claims) h g in
    absurd cc
one_token_entry true issuer call claims (Err lack) (Err other) h g =
    let same : Err other ≡ Err lack = one_entry issuer.policy.now claims call.moment (Err lack) (Err other) (text_at (codes "jti") claims) (whole_at (codes "exp") claims) h g in
    let lacks : other ≡ lack = cc in
    ap (λ (l : Lack). Err l) lacks
