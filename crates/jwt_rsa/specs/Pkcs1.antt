-- RSASSA-PKCS1-v1_5 (RFC 8017, sections 8.2.2 and 9.2).
use Rattle.std.specs.Prelude.{ℕ, ◌+◌, ◌-◌, Bool, ◌&&◌, List, ◌∷◌, ◌++◌, length, replicate}
use Rattle.std.specs.Str.{bytes_eq}
use Rattle.jwt_rsa.specs.powers.Octets.{os2ip, i2osp, without_zeros}
use Rattle.jwt_rsa.specs.PublicKey.{is_asked, rsavp1}
use Rattle.jwt_mac.specs.declared.algorithm.Hash.{Hash}
use Rattle.jwt_mac.specs.Algorithm.{hashed}
use Rattle.jwt_rsa.specs.Hashing.{digest_info}

-- 0x00 || 0x01 || PS || 0x00 || T, where T is the DER encoding of DigestInfo (section 9.2, step 5)
abbrev pub framed : List ℕ → List ℕ → List ℕ → List ℕ
framed padding info digest = 0 ∷ 1 ∷ padding ++ (0 ∷ info ++ digest)

-- EMSA-PKCS1-v1_5-ENCODE (section 9.2): PS is octets 0xff, as many as fill emLen
abbrev pub encoded_message : List ℕ → List ℕ → ℕ → List ℕ
encoded_message info digest em_len = framed (replicate (em_len - (length info + length digest) - 3) 255) info digest

-- RSASSA-PKCS1-V1_5-VERIFY (section 8.2.2): the whole of EM is compared with the encoding of the message
unfoldable pub pkcs1_accepts : Hash → List ℕ → List ℕ → List ℕ → List ℕ → Bool
pkcs1_accepts hash n e message signature =
    let k = length (without_zeros n) in
    let em = i2osp (rsavp1 (os2ip n) (os2ip e) (os2ip signature)) k in
    is_asked n e signature && bytes_eq em (encoded_message (digest_info hash) (hashed hash message) k)
