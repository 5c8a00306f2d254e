-- DB and its parts.
use Rattle.std.proofs.Common.{◌≡◌, ℕ, ◌+◌, ◌-◌, ◌*◌, ◌/◌, ◌%◌, ◌^◌, suc, zero, get_or, ⊎_elim, ◌<◌, ◌≤◌, Bool, true, false, ◌&&◌, ◌↔◌, List, [], ◌∷◌, ◌++◌, length, take, drop, replicate, sym, ◌∙◌, ap, refl, arith}
use Rattle.std.proofs.Math.Path.{ap₂}
use Rattle.std.proofs.Math.Nat.{pow-suc, pow-succ', div-one, div-div-eq-div-mul, div-eq_of_lt}
use Rattle.std.proofs.lemmas.Nat.{div_below, mod_below, div-add-mod'}
use Rattle.jwt_rsa.specs.powers.Octets.{i2osp}
use Rattle.std.specs.Str.{bytes_eq}
use Rattle.std.proofs.lemmas.Bool.{false_from_ne_true, cases_lt}
use Rattle.std.proofs.lemmas.Slice.Eq.{bytes_eq-Decides}
use Rattle.std.proofs.lemmas.List.{length-take-le, length-append, append-nil, take_rest}
use Rattle.jwt_mac.specs.declared.algorithm.Hash.{Hash}
use Rattle.jwt_mac.specs.Algorithm.{octets_of}
use Rattle.jwt_rsa.specs.Pss.{mgf1, xored, without_top, db_size, h_of, db_of}

pub and_three : (a b c d : Bool) → a ≡ true → b ≡ true → c ≡ true → (a && b && c && d) ≡ d
and_three a b c d ea eb ec = rw (ea, eb, ec) refl

pub bytes_ne : (xs ys : List ℕ) → (xs ≡ ys → ⊥) → bytes_eq xs ys ≡ false
bytes_ne xs ys differ = false_from_ne_true (bytes_eq xs ys) (λ same. differ ((bytes_eq-Decides xs ys).0 same))

pub bytes_same : (xs ys : List ℕ) → xs ≡ ys → bytes_eq xs ys ≡ true
bytes_same xs ys same = (bytes_eq-Decides xs ys).1 same

-- H as it is read
pub h_is : (hash : Hash) (em : List ℕ) (size db_len : ℕ) → size ≡ octets_of hash → db_len + octets_of hash + 1 ≡ length em →
    take (db_len + size - db_len) (drop db_len em) ≡ h_of hash em
h_is hash em size db_len is_size room =
    let width : db_len + size - db_len ≡ octets_of hash = omega arith in
    let place : db_len ≡ db_size hash em = omega arith in
    ap₂ (λ n k. take n (drop k em)) width place

-- DB as it is made
pub db_is : (hash : Hash) (em masked unmasked db : List ℕ) (unused size db_len : ℕ) → size ≡ octets_of hash →
    db_len + octets_of hash + 1 ≡ length em → masked ≡ take db_len em →
    unmasked ≡ xored masked (mgf1 hash (take (db_len + size - db_len) (drop db_len em)) (length masked)) →
    db ≡ without_top unused unmasked → db ≡ db_of hash em unused
unfolding db_of
db_is hash em masked unmasked db unused size db_len is_size room is_masked is_unmasked is_db =
    let place : db_len ≡ db_size hash em = omega arith in
    let front : masked ≡ take (db_size hash em) em = is_masked ∙ ap (λ k. take k em) place in
    let long : length masked ≡ db_size hash em = ap length front ∙ length-take-le (db_size hash em) em (omega arith) in
    let seed = h_is hash em size db_len is_size room in
    is_db ∙ ap (without_top unused)
    (is_unmasked ∙ ap₂ (λ m n. xored m (mgf1 hash (take (db_len + size - db_len) (drop db_len em)) n)) front long
    ∙ ap (λ h. xored (take (db_size hash em) em) (mgf1 hash h (db_size hash em))) seed)

-- the padding and the salt of DB
pub padding_is : (hash : Hash) (em db : List ℕ) (unused salt : ℕ) → db ≡ db_of hash em unused → length db ≡ db_size hash em → 0 < salt →
    salt ≡ db_size hash em - octets_of hash - 1 + 1 → salt ≤ length db →
    (take salt db ≡ replicate (length (take salt db) - 1) 0 ++ 1 ∷ [])
    ↔ (take (db_size hash em - octets_of hash - 1 + 1) (db_of hash em unused) ≡ replicate (db_size hash em - octets_of hash - 1) 0 ++ 1 ∷ [])
padding_is hash em db unused salt is_db long some is_salt within =
    let front : take salt db ≡ take (db_size hash em - octets_of hash - 1 + 1) (db_of hash em unused) = ap₂ take is_salt is_db in
    let pad : length (take salt db) - 1 ≡ db_size hash em - octets_of hash - 1 = omega (arith, length-take-le salt db within) in
    let same : replicate (length (take salt db) - 1) 0 ++ 1 ∷ [] ≡ replicate (db_size hash em - octets_of hash - 1) 0 ++ 1 ∷ [] =
    ap (λ n. replicate n 0 ++ 1 ∷ []) pad in
    ((λ e. sym front ∙ e ∙ same), (λ e. front ∙ e ∙ sym same))

-- M' as it is joined, and as it is stated (section 9.1.2, step 12)
pub message_is : (m_hash db db' : List ℕ) (salt salt' : ℕ) → salt ≡ salt' → db ≡ db' →
    replicate 8 0 ++ (m_hash ++ (take (length db - salt) (drop salt db) ++ [])) ≡ replicate 8 0 ++ m_hash ++ drop salt' db'
message_is m_hash db db' salt salt' is_salt is_db =
    ap (λ rest. replicate 8 0 ++ (m_hash ++ rest)) (append-nil (take (length db - salt) (drop salt db)) ∙ take_rest db salt ∙ ap₂ drop is_salt is_db)

pub length-i2osp : (x n : ℕ) → length (i2osp x n) ≡ n
length-i2osp x zero = refl
length-i2osp x (suc n) = length-append (i2osp (x / 256) n) (x % 256 ∷ []) ∙ omega (arith, length-i2osp (x / 256) n)

-- the first octet of a number, before the others
i2osp_front : (x i : ℕ) → i2osp x (suc i) ≡ (x / 256 ^ i) % 256 ∷ i2osp x i
i2osp_front x zero = ap (λ z. z % 256 ∷ []) (sym (div-one x))
i2osp_front x (suc i) =
    ap (λ front. front ++ x % 256 ∷ []) (i2osp_front (x / 256) i)
    ∙ ap (λ z. z % 256 ∷ (i2osp (x / 256) i ++ x % 256 ∷ [])) (div-div-eq-div-mul x 256 (256 ^ i) ∙ ap (λ z. x / z) (sym (pow-succ' 256 i)))

pub top_split : (m len : ℕ) (em : List ℕ) → 0 < len → em ≡ i2osp m len → em ≡ (m / 256 ^ (len - 1)) % 256 ∷ i2osp m (len - 1)
top_split m len em some is =
    let next : len ≡ suc (len - 1) = omega arith in
    is ∙ ap (i2osp m) next ∙ i2osp_front m (len - 1)

pub top_rest : (m len : ℕ) (em : List ℕ) → 0 < len → em ≡ i2osp m len → drop 1 em ≡ i2osp m (len - 1)
top_rest m len em some is = ap (drop 1) (top_split m len em some is)

pub top_above : (m len : ℕ) (em : List ℕ) → 0 < len → em ≡ i2osp m len → (get_or em 0 0 ≡ 0 → ⊥) → 256 ^ (len - 1) ≤ m
top_above m len em some is not_zero =
    ⊎_elim
    (λ below. absurd (not_zero (ap (λ os. get_or os 0 0) (top_split m len em some is) ∙ ap (λ q. q % 256) (div-eq_of_lt below))))
    (λ above. above)
    (cases_lt m (256 ^ (len - 1)))

pub top_below : (m len : ℕ) (em : List ℕ) → 0 < len → m < 256 ^ len → em ≡ i2osp m len → get_or em 0 0 ≡ 0 → m < 256 ^ (len - 1)
top_below m len em some small is zero_octet =
    let w = 256 ^ (len - 1) in
    let next : suc (len - 1) ≡ len = omega arith in
    let weight : 256 ^ len ≡ w * 256 = ap (λ k. 256 ^ k) (sym next) ∙ pow-suc 256 (len - 1) in
    let some_w : 0 < w = omega arith in
    let first : (m / w) % 256 ≡ 0 = sym (ap (λ os. get_or os 0 0) (top_split m len em some is)) ∙ zero_octet in
    let within : m / w < 256 = div_below m w 256 some_w (omega arith) in
    let none : m / w ≡ 0 = omega arith in
    omega (arith, mod_below m w some_w, div-add-mod' m w, ap (λ q. q * w) none)

pub and_true : (a b : Bool) → a ≡ true → (a && b) ≡ b
and_true a b is = rw is refl
