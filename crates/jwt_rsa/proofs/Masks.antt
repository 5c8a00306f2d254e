-- Octets under a mask.
use Rattle.std.proofs.Common.{◌≡◌, ℕ, suc, zero, ◌+◌, ◌-◌, ◌*◌, ◌/◌, ◌%◌, ◌<◌, ◌≤◌, List, [], ◌∷◌, ◌++◌, length, get_or, set, take, drop, sym, ◌∙◌, ap, refl, ⊎_elim, arith}
use Rattle.std.proofs.Math.Path.{ap₂}
use Rattle.std.specs.Int.{div_ceil}
use Rattle.std.specs.Int.Bits.{bit_xor}
use Rattle.std.proofs.lemmas.List.{append_assoc, append-nil, length-take-le, take_more, take_more_set, take_all, take_at, drop_at, drop_all, drop-drop, get_or-set_other, take-append-drop, take-take, drop-take}
use Rattle.std.proofs.Math.Nat.{mul-le-mul_right}
use Rattle.std.proofs.Math.Numerals.{add-one}
use Rattle.std.proofs.lemmas.Bool.{cases_lt}
use Rattle.std.proofs.lemmas.Nat.{div-add-mod', mod_below}
use borrow.Rule.Slice.PartMut.{put_mid}
use Rattle.jwt_rsa.specs.powers.Octets.{i2osp}
use Rattle.jwt_mac.specs.declared.algorithm.Hash.{Hash}
use Rattle.jwt_mac.specs.Algorithm.{hashed, octets_of}
use Rattle.jwt_rsa.specs.Pss.{mgf1, mgf1_blocks, xored}

pub take_split : (xs : List ℕ) (n m : ℕ) → take (n + m) xs ≡ take n xs ++ take m (drop n xs)
take_split xs n m =
    sym (take-append-drop n (take (n + m) xs))
    ∙ ap (λ front. front ++ drop n (take (n + m) xs)) (take-take n (n + m) xs (omega arith))
    ∙ ap (λ rest. take n xs ++ rest) (drop-take n m xs)

pub xored_append : (xs ys xs' ys' : List ℕ) → length xs ≡ length ys → xored (xs ++ xs') (ys ++ ys') ≡ xored xs ys ++ xored xs' ys'
xored_append [] [] xs' ys' same = refl
xored_append [] (y ∷ ys) xs' ys' same = absurd (omega arith)
xored_append (x ∷ xs) [] xs' ys' same = absurd (omega arith)
xored_append (x ∷ xs) (y ∷ ys) xs' ys' same = ap (λ rest. bit_xor x y ∷ rest) (xored_append xs ys xs' ys' (omega arith))

-- a mask beyond the octets isn't looked at
pub xored_take : (xs ys : List ℕ) (n : ℕ) → length xs ≤ n → xored xs (take n ys) ≡ xored xs ys
xored_take [] ys n h = refl
xored_take (x ∷ xs) [] zero h = refl
xored_take (x ∷ xs) [] (suc n) h = refl
xored_take (x ∷ xs) (y ∷ ys) zero h = absurd (omega arith)
xored_take (x ∷ xs) (y ∷ ys) (suc n) h = ap (λ rest. bit_xor x y ∷ rest) (xored_take xs ys n (omega arith))

pub length-xored : (xs ys : List ℕ) → length xs ≤ length ys → length (xored xs ys) ≡ length xs
length-xored [] ys h = refl
length-xored (x ∷ xs) [] h = absurd (omega arith)
length-xored (x ∷ xs) (y ∷ ys) h = ap suc (length-xored xs ys (omega arith))

-- one more octet
pub xored_more : (now xs ys : List ℕ) (i : ℕ) → i < length now → length now ≡ length xs → length xs ≤ length ys →
    take i now ≡ xored (take i xs) (take i ys) → get_or now i 0 ≡ get_or xs i 0 →
    take (i + 1) (set now i (bit_xor (get_or now i 0) (get_or ys i 0))) ≡ xored (take (i + 1) xs) (take (i + 1) ys)
xored_more now xs ys i within long room so_far here =
    let same : length (take i xs) ≡ length (take i ys) = length-take-le i xs (omega arith) ∙ sym (length-take-le i ys (omega arith)) in
    take_more_set now i _ within
    ∙ ap₂ (λ front x. front ++ bit_xor x (get_or ys i 0) ∷ []) so_far here
    ∙ sym (xored_append (take i xs) (take i ys) (get_or xs i 0 ∷ []) (get_or ys i 0 ∷ []) same)
    ∙ sym (ap₂ xored (take_more xs i 0 (omega arith)) (take_more ys i 0 (omega arith)))

pub rest_more : (xs ys : List ℕ) (i y : ℕ) → ((k : ℕ) → i ≤ k → get_or xs k 0 ≡ get_or ys k 0) → (k : ℕ) → i + 1 ≤ k → get_or (set xs i y) k 0 ≡ get_or ys k 0
rest_more xs ys i y h k above = get_or-set_other xs i k y 0 (omega arith) ∙ h k (omega arith)

pub xored_all : (now xs ys : List ℕ) (i : ℕ) → length xs ≤ i → length now ≡ length xs → take i now ≡ xored (take i xs) (take i ys) → now ≡ xored xs ys
xored_all now xs ys i end long written =
    sym (take_all i now (omega arith)) ∙ written ∙ ap (λ front. xored front (take i ys)) (take_all i xs end) ∙ xored_take xs ys i end

-- one more block: the octets from start to end
pub block_more : (now xs piece blocks digest : List ℕ) (start end : ℕ) → start ≤ end → end ≤ length xs → length blocks ≡ start →
    now ≡ xored (take start xs) blocks ++ drop start xs →
    piece ≡ xored (take (end - start) (drop start now)) digest →
    put_mid start (end - start) now piece ≡ xored (take end xs) (blocks ++ digest) ++ drop end xs
block_more now xs piece blocks digest start end order within long so_far is_piece =
    let size : length (take start xs) ≡ start = length-take-le start xs (omega arith) in
    let front_size : length (xored (take start xs) blocks) ≡ start = length-xored (take start xs) blocks (omega arith) ∙ size in
    let front : take start now ≡ xored (take start xs) blocks = ap (take start) so_far ∙ take_at _ _ start front_size in
    let behind : drop start now ≡ drop start xs = ap (drop start) so_far ∙ drop_at _ _ start front_size in
    let over : start + (end - start) ≡ end = omega arith in
    let both : take end xs ≡ take start xs ++ take (end - start) (drop start xs) = ap (λ k. take k xs) (sym over) ∙ take_split xs start (end - start) in
    ap₂ (λ f r. f ++ r) front
    (ap₂ (λ p r. p ++ r)
    (is_piece ∙ ap (λ rest. xored (take (end - start) rest) digest) behind)
    (ap (drop (end - start)) behind ∙ drop-drop (end - start) start xs ∙ ap (λ k. drop k xs) over))
    ∙ sym (append_assoc (xored (take start xs) blocks) (xored (take (end - start) (drop start xs)) digest) (drop end xs))
    ∙ ap (λ f. f ++ drop end xs) (sym (xored_append (take start xs) blocks (take (end - start) (drop start xs)) digest (size ∙ sym long)) ∙ ap (λ f. xored f (blocks ++ digest)) (sym both))

pub blocks_all : (hash : Hash) (now xs seed : List ℕ) (start count : ℕ) → length xs ≤ start →
    now ≡ xored (take start xs) (mgf1_blocks hash seed count) ++ drop start xs → count ≡ div_ceil (length xs) (octets_of hash) →
    now ≡ xored xs (mgf1 hash seed (length xs))
blocks_all hash now xs seed start count end so_far all =
    so_far ∙ ap₂ (λ f r. xored f (mgf1_blocks hash seed count) ++ r) (take_all start xs end) (drop_all start xs end)
    ∙ append-nil _ ∙ ap (λ k. xored xs (mgf1_blocks hash seed k)) all
    ∙ sym (xored_take xs (mgf1_blocks hash seed (div_ceil (length xs) (octets_of hash))) (length xs) (omega arith))

-- the counter's octets
pub counter_octets : (c : ℕ) → c < 256 → i2osp c 4 ≡ 0 ∷ 0 ∷ 0 ∷ c ∷ []
counter_octets c small =
    let a : c / 256 / 256 / 256 % 256 ≡ 0 = omega arith in
    let b : c / 256 / 256 % 256 ≡ 0 = omega arith in
    let d : c / 256 % 256 ≡ 0 = omega arith in
    let e : c % 256 ≡ c = omega arith in
    ap₂ (λ x y. x ∷ y ∷ (c / 256 % 256) ∷ (c % 256) ∷ []) a b ∙ ap₂ (λ x y. 0 ∷ 0 ∷ x ∷ y ∷ []) d e

-- counters below the number of blocks, and at it
pub ceil_below : (n k c : ℕ) → 0 < k → c < div_ceil n k → c * k < n
ceil_below n k c some below =
    let split : n / k * k + n % k ≡ n = div-add-mod' n k in
    ⊎_elim
    (λ h. let more : (c + 1) * k ≤ n / k * k = mul-le-mul_right k (omega arith) in omega arith)
    (λ h. let more : c * k ≤ n / k * k = mul-le-mul_right k (omega arith) in omega arith)
    (cases_lt (n % k) 1)

pub ceil_above : (n k c : ℕ) → 0 < k → div_ceil n k ≤ c → n ≤ c * k
ceil_above n k c some above =
    let split : n / k * k + n % k ≡ n = div-add-mod' n k in
    let small : n % k < k = mod_below n k some in
    ⊎_elim
    (λ h. let more : n / k * k ≤ c * k = mul-le-mul_right k (omega arith) in omega arith)
    (λ h. let more : (n / k + 1) * k ≤ c * k = mul-le-mul_right k (omega arith) in omega arith)
    (cases_lt (n % k) 1)

pub next_blocks : (hash : Hash) (seed digest : List ℕ) (c : ℕ) → c < 256 → digest ≡ hashed hash (seed ++ 0 ∷ 0 ∷ 0 ∷ c ∷ []) →
    mgf1_blocks hash seed c ++ digest ≡ mgf1_blocks hash seed (c + 1)
next_blocks hash seed digest c small is =
    ap (λ d. mgf1_blocks hash seed c ++ d) (is ∙ ap (λ z. hashed hash (seed ++ z)) (sym (counter_octets c small)))
    ∙ ap (mgf1_blocks hash seed) (sym (add-one c))
