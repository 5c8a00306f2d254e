-- The work in a caller's terms.
use Rattle.std.proofs.Common.{◌≡◌, ℕ, zero, suc, ◌+◌, ◌-◌, ◌*◌, ◌==◌, ◌&&◌, ◌<◌, ◌≤◌, Bool, true, false, List, [], ◌∷◌, length, take, get_or, map, Option, Some, None, refl, sym, ◌∙◌, ap, subst, inl, inr, arith, add-one}
use Rattle.std.specs.Prelude.{slice_get, nat_lt, if◌then◌else◌}
use Rattle.std.specs.List.{All, sum_by, filter, flat_map}
use Rattle.std.specs.Option.{option_map_or}
use Rattle.std.proofs.Math.Nat.{mul-le-mul_right, mul-le-mul_left, suc-mul}
use Rattle.std.proofs.lemmas.Bool.{cases_Bool}
use Rattle.std.proofs.lemmas.List.{take_more, take_all, length-take-le}
use Rattle.std.proofs.lemmas.List.Elements.{All-head, All-tail}
use Rattle.std.proofs.lemmas.List.Sums.{sum_by-append, sum_by_push, sum_by-cons}
use Rattle.std.proofs.lemmas.Option.{slice_get-get_or}
use Rattle.jwt_mac.specs.declared.algorithm.Alg.{Alg}
use Rattle.jwt_mac.specs.declared.algorithm.Hash.TheVariants.{Sha256, Sha384, Sha512}
use Rattle.jwt_mac.specs.declared.algorithm.Kind.{Kind}
use Rattle.jwt_mac.specs.declared.algorithm.Kind.TheVariants.{Hmac}
use Rattle.jwt_mac.specs.Algorithm.{is_hmac_alg, kind_of, block_by, digest_by, block_size, digest_size}
use Rattle.jwt_mac.specs.Verifying.{KeyOctets, OctKey, RsaKey, EcKey, OkpKey, signing_input}
use Rattle.jwt_jws.specs.Token.{Token, SignatureParts, message_of}
use Rattle.jwt_jws.specs.SignedToken.{MessagesFit, SignaturesAreFew}
use Rattle.jwt_keys.specs.Keys.{KeyParts, secret_length}
use Rattle.jwt_policy.specs.Bars.{alg}
use Rattle.jwt_verify.specs.declared.report.Try.{Try}
use Rattle.jwt_verify.specs.Table.{Table, below, entry, tried, pairs, tries, work}
use Rattle.jwt_verify.specs.Trying.{at_pair, table_of}
use Rattle.jwt_verify.specs.Verdict.{without_line_feed}
use Rattle.jwt_verify.specs.Laws.{greatest, common_cost, long_secret, long_key}
use Rattle.jwt_verify.specs.Verdicts.{secrets, CallersBound, GreatestWork}
use Rattle.jwt_verify.proofs.Below.{below_more, below-zero, length-below}
use Rattle.jwt_verify.proofs.Bounds.{work_bounded}
use Rattle.jwt_verify.proofs.Ceilings.{table_cost}
use Rattle.jwt_verify.proofs.Pinning.{table_is}
use Rattle.jwt_verify.proofs.Words.{Laws}

-- ---- sums over the tries

sum_filter : (f : Try → ℕ) (p : Try → Bool) (xs : List Try) → sum_by f (filter p xs) ≤ sum_by f xs
sum_filter f p [] = omega arith
sum_filter f p (x ∷ xs) = elim (cases_Bool (p x)) [
  | inl y ↦ rw y (omega (arith, sum_filter f p xs, sum_by-cons f x (filter p xs), sum_by-cons f x xs))
  | inr n ↦ rw n (omega (arith, sum_filter f p xs, sum_by-cons f x xs))
]

sum_flat : (f : Try → ℕ) (g : ℕ → List Try) (most : ℕ) → ((i : ℕ) → sum_by f (g i) ≤ most) → (is : List ℕ) → sum_by f (flat_map g is) ≤ length is * most
sum_flat f g most h [] = omega arith
sum_flat f g most h (i ∷ is) = omega (arith, h i, sum_flat f g most h is, sum_by-append f (g i) (flat_map g is), suc-mul (length is) most)

sum_row : (t : Table) (f : Try → ℕ) (c : ℕ → ℕ) (i : ℕ) → ((j : ℕ) → f (entry t i j) ≤ c j) → (js : List ℕ) → sum_by f (map (entry t i) js) ≤ sum_by c js
sum_row t f c i h [] = omega arith
sum_row t f c i h (j ∷ js) = omega (arith, h j, sum_row t f c i h js, sum_by-cons f (entry t i j) (map (entry t i) js), sum_by-cons c j js)

sum_tries : (t : Table) (f : Try → ℕ) (c : ℕ → ℕ) → ((i j : ℕ) → f (entry t i j) ≤ c j) → sum_by f (tries t) ≤ t.signatures * sum_by c (below t.keys)
unfolding tries pairs
sum_tries t f c h =
    let all = sum_filter f (λ e. tried t e.signature e.key) (pairs t) in
    let flat = sum_flat f (λ i. map (entry t i) (below t.keys)) (sum_by c (below t.keys)) (λ i. sum_row t f c i (h i) (below t.keys)) (below t.signatures) in
    let n = length-below t.signatures in
    omega (arith, all, rw n at flat)

-- ---- the secrets

secret_at : List KeyParts → ℕ → ℕ
secret_at keys j = option_map_or (λ key. secret_length key.octets) (slice_get keys j) 0

secrets_to : (keys : List KeyParts) (d : KeyParts) (n : ℕ) → n ≤ length keys → sum_by (secret_at keys) (below n) ≡ sum_by (λ key. secret_length key.octets) (take n keys)
unfolding secret_at
secrets_to keys d zero l = rw below-zero refl
secrets_to keys d (suc n) l =
    let m : n < length keys = omega (arith, l) in
    let s : (key : KeyParts) → ℕ = λ key. secret_length key.octets in
    let here : secret_at keys n ≡ s (get_or keys n d) = ap (λ o. option_map_or s o 0) (slice_get-get_or keys n d m) in
    rw (sym (add-one n)) (
    ap (sum_by (secret_at keys)) (below_more n) ∙ sum_by_push (secret_at keys) (below n) n
    ∙ ap (λ a. a + secret_at keys n) (secrets_to keys d n (omega (arith, m))) ∙ ap (λ b. sum_by s (take n keys) + b) here
    ∙ sym (sum_by_push s (take n keys) (get_or keys n d)) ∙ ap (sum_by s) (sym (take_more keys n d m))
    )

secrets_all : (keys : List KeyParts) → sum_by (secret_at keys) (below (length keys)) ≡ secrets keys
secrets_all [] = rw below-zero refl
secrets_all (key ∷ keys) = secrets_to (key ∷ keys) key (length (key ∷ keys)) (omega arith) ∙ ap (sum_by (λ key. secret_length key.octets)) (take_all (length (key ∷ keys)) (key ∷ keys) (omega arith))

long_at_most : (a : Alg) (k : KeyOctets) → long_secret a k ≤ secret_length k
long_at_most a (OctKey k) = go (is_hmac_alg a) (nat_lt (block_size a) (length k))
  where
    go : (b c : Bool) → (if b then (if c then length k else 0) else 0) ≤ length k
    go true true = omega arith
    go true false = omega arith
    go false c = omega arith
long_at_most a (RsaKey n e) = omega arith
long_at_most a (EcKey c x y) = omega arith
long_at_most a (OkpKey c x) = omega arith

long_pair : (token : Token) (keys : List KeyParts) (i j : ℕ) → at_pair long_key 0 token keys i j ≤ secret_at keys j
unfolding secret_at
long_pair token keys i j = go (slice_get token.signatures i) (slice_get keys j)
  where
    named : (o : Option Alg) (key : KeyParts) → option_map_or (λ a. long_secret a key.octets) o 0 ≤ secret_length key.octets
    named None key = omega arith
    named (Some a) key = long_at_most a key.octets

    go : (s : Option SignatureParts) (k : Option KeyParts) → option_map_or (λ s. option_map_or (long_key s) k 0) s 0 ≤ option_map_or (λ key. secret_length key.octets) k 0
    go None k = omega arith
    go (Some s) None = omega arith
    go (Some s) (Some key) = named (alg s) key

-- ---- the greatest value

most_of : (f : Alg → ℕ) (most : ℕ) → ((a : Alg) → f a ≤ most) → (algs : List Alg) → greatest (map f algs) ≤ most
most_of f most h [] = omega arith
most_of f most h (a ∷ algs) = omega (arith, h a, most_of f most h algs)

greatest_most : {A : Type 0} (f : A → ℕ) (most : ℕ) (xs : List A) → All (λ x. f x ≤ most) xs → greatest (map f xs) ≤ most
greatest_most f most [] h = omega arith
greatest_most f most (x ∷ xs) h = omega (arith, All-head (λ y. f y ≤ most) x xs h, greatest_most f most xs (All-tail (λ y. f y ≤ most) x xs h))

shorter : (drops : Bool) (x : List ℕ) → length (without_line_feed drops x) ≤ length x
shorter drops x = either (drops && option_map_or (λ octet. octet == 10) (slice_get x (length x - 1)) false)
  where
    either : (b : Bool) → length (if b then take (length x - 1) x else x) ≤ length x
    either true = omega (arith, length-take-le (length x - 1) x)
    either false = omega arith

block_most : (a : Alg) → block_size a ≤ 128
block_most a = by (kind_of a)
  where
    by : (kind : Kind) → block_by kind ≤ 128
    by (Hmac Sha256) = omega arith
    by (Hmac Sha384) = omega arith
    by (Hmac Sha512) = omega arith
    by _ = omega arith

digest_most : (a : Alg) → digest_size a ≤ 64
digest_most a = by (kind_of a)
  where
    by : (kind : Kind) → digest_by kind ≤ 64
    by (Hmac Sha256) = omega arith
    by (Hmac Sha384) = omega arith
    by (Hmac Sha512) = omega arith
    by _ = omega arith

secrets_most : (keys : List KeyParts) → All (λ key. secret_length key.octets ≤ 4096) keys → secrets keys ≤ length keys * 4096
secrets_most [] h = omega arith
secrets_most (key ∷ keys) h =
    let here = All-head (λ (key : KeyParts). secret_length key.octets ≤ 4096) key keys h in
    let rest = secrets_most keys (All-tail (λ (key : KeyParts). secret_length key.octets ≤ 4096) key keys h) in
    omega (arith, here, rest, sum_by-cons (λ (key : KeyParts). secret_length key.octets) key keys, suc-mul (length keys) 4096)

product_most : (a b c m n p : ℕ) → a ≤ m → b ≤ n → c ≤ p → a * b * c ≤ m * n * p
product_most a b c m n p h k l =
    let ab : a * b ≤ m * b = mul-le-mul_right b h in
    let mb : m * b ≤ m * n = mul-le-mul_left m k in
    let abc : a * b * c ≤ m * n * c = mul-le-mul_right c (omega (arith, ab, mb)) in
    let mnc : m * n * c ≤ m * n * p = mul-le-mul_left (m * n) l in
    omega (arith, abc, mnc)

module _ (laws : Laws) where
  pub callers_bound : CallersBound
  callers_bound q x token t asks =
      let T = table_of q.policy q.verifiers q.keys token in
      let extra = at_pair long_key 0 token q.keys in
      let common = common_cost q.policy token in
      let within = work_bounded T common extra (table_cost (λ p s k v h. (laws.eligible p s k v).0 h) laws.no_bar q.policy q.verifiers q.keys token) in
      let more = sum_tries T (λ e. extra e.signature e.key) (secret_at q.keys) (λ i j. long_pair token q.keys i j) in
      let all = rw (secrets_all q.keys) at more in
      subst (λ t. work (tries t) ≤ length token.signatures * length q.keys * common + length token.signatures * secrets q.keys)
      (sym (table_is laws.eligible laws.bar q token t asks.1)) (omega (arith, within, all))

  pub greatest_work : MessagesFit → SignaturesAreFew → GreatestWork
  greatest_work fit few q x token t asks some most limit keys small =
      let signed = asks.0.1 in
      let z = without_line_feed q.policy.run.line_feed x in
      let inputs = greatest_most (λ s. length (signing_input (message_of token s))) (length z) token.signatures (fit q.policy.run.max_signatures z token signed) in
      let short = shorter q.policy.run.line_feed x in
      let count : length token.signatures ≤ 32 = omega (arith, few q.policy.run.max_signatures z token some signed) in
      let b = callers_bound q x token t asks in
      let blocks = most_of block_size 128 block_most q.policy.run.algs in
      let digests = most_of digest_size 64 digest_most q.policy.run.algs in
      let common : common_cost q.policy token ≤ 1048896 = omega (arith, inputs, short, asks.0.0, blocks, digests) in
      let pairs = product_most (length token.signatures) (length q.keys) (common_cost q.policy token) 32 1024 1048896 count keys common in
      let lengths : secrets q.keys ≤ 4194304 = omega (arith, secrets_most q.keys small, keys) in
      let secret = product_most 1 (length token.signatures) (secrets q.keys) 1 32 4194304 (omega arith) count lengths in
      omega (arith, b, pairs, secret)
