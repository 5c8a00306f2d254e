-- RSASSA-PSS (RFC 8017, sections 8.1.2, 9.1.2 and B.2.1), with a salt as long as the digest (RFC 7518, section 3.5).
use Rattle.std.specs.Prelude.{ℕ, suc, zero, ◌+◌, ◌-◌, ◌*◌, ◌^◌, ◌%◌, ◌==◌, Bool, ◌&&◌, List, [], ◌∷◌, ◌++◌, length, take, drop, replicate, slice_index, bit_xor, nat_lt}
use Rattle.std.specs.Int.{div_ceil}
use Rattle.std.specs.Str.{bytes_eq}
use Rattle.jwt_rsa.specs.powers.Moduli.{bit_count}
use Rattle.jwt_rsa.specs.powers.Octets.{os2ip, i2osp, without_zeros}
use Rattle.jwt_mac.specs.declared.algorithm.Hash.{Hash}
use Rattle.jwt_mac.specs.Algorithm.{hashed, octets_of}
use Rattle.jwt_rsa.specs.PublicKey.{is_asked, rsavp1}

-- the digests of the seed and each counter from 0 on, joined (section B.2.1, step 3)
abbrev pub mgf1_blocks : Hash → List ℕ → ℕ → List ℕ
mgf1_blocks hash seed zero = []
mgf1_blocks hash seed (suc counter) = mgf1_blocks hash seed counter ++ hashed hash (seed ++ i2osp counter 4)

-- MGF1 (section B.2.1)
abbrev pub mgf1 : Hash → List ℕ → ℕ → List ℕ
mgf1 hash seed len = take len (mgf1_blocks hash seed (div_ceil len (octets_of hash)))

-- each octet, xor the mask's
abbrev pub xored : List ℕ → List ℕ → List ℕ
xored [] mask = []
xored (octet ∷ octets) [] = []
xored (octet ∷ octets) (m ∷ mask) = bit_xor octet m ∷ xored octets mask

-- the leftmost bits of the leftmost octet, set to zero
abbrev pub without_top : ℕ → List ℕ → List ℕ
without_top unused [] = []
without_top unused (octet ∷ octets) = octet % 2 ^ (8 - unused) ∷ octets

-- the octets of maskedDB (section 9.1.2, step 5)
abbrev pub db_size : Hash → List ℕ → ℕ
db_size hash em = length em - octets_of hash - 1

-- H (step 5)
abbrev pub h_of : Hash → List ℕ → List ℕ
h_of hash em = take (octets_of hash) (drop (db_size hash em) em)

-- DB (steps 7 to 9), where 8emLen - emBits bits are unused
unfoldable pub db_of : Hash → List ℕ → ℕ → List ℕ
db_of hash em unused = without_top unused (xored (take (db_size hash em) em) (mgf1 hash (h_of hash em) (db_size hash em)))

-- EMSA-PSS-VERIFY (section 9.1.2, steps 4 to 14)
unfoldable pub pss_verified : Hash → List ℕ → List ℕ → ℕ → Bool
pss_verified hash m_hash em unused =
    let pad = db_size hash em - octets_of hash - 1 in
    slice_index em (length em - 1) == 0xbc && nat_lt (slice_index em 0) (2 ^ (8 - unused))
    && bytes_eq (take (pad + 1) (db_of hash em unused)) (replicate pad 0 ++ 1 ∷ [])
    && bytes_eq (hashed hash (replicate 8 0 ++ m_hash ++ drop (pad + 1) (db_of hash em unused))) (h_of hash em)

-- what follows RSAVP1 (section 8.1.2, steps 2c and 3), of the message representative m; n is a modulus's octets without leading
-- zeros, and emBits is modBits - 1
unfoldable pub pss_represents : Hash → List ℕ → List ℕ → ℕ → Bool
pss_represents hash n m_hash m =
    let em_bits = bit_count n - 1 in
    let em_len = div_ceil em_bits 8 in
    nat_lt m (256 ^ em_len) && pss_verified hash m_hash (i2osp m em_len) (8 * em_len - em_bits)

-- RSASSA-PSS-VERIFY (section 8.1.2)
unfoldable pub pss_accepts : Hash → List ℕ → List ℕ → List ℕ → List ℕ → Bool
pss_accepts hash n e message signature =
    is_asked n e signature
    && pss_represents hash (without_zeros n) (hashed hash message) (rsavp1 (os2ip n) (os2ip e) (os2ip signature))
