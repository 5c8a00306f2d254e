-- RSA public keys and RSAVP1 (RFC 8017, sections 3.1 and 5.2.2).
use Rattle.std.specs.Prelude.{ℕ, ◌^◌, ◌%◌, ◌==◌, Bool, ◌&&◌, List, length, nat_lt, nat_le}
use Rattle.jwt_rsa.specs.powers.Moduli.{is_modulus}
use Rattle.jwt_rsa.specs.powers.Octets.{os2ip, without_zeros}

-- the keys that are taken: n odd and of 2,048 to 8,192 bits, e odd, at least 3 (section 3.1), and of at most eight octets
abbrev pub is_key : ℕ → ℕ → Bool
is_key n e = is_modulus n && nat_lt e (2 ^ 64) && nat_le 3 e && e % 2 == 1

-- RSAVP1 (section 5.2.2, step 2): the message representative
abbrev pub rsavp1 : ℕ → ℕ → ℕ → ℕ
rsavp1 n e s = s ^ e % n

-- what is asked before RSAVP1 of a key and a signature, by their octets: a key that is taken, a signature of as many octets as the
-- modulus has (sections 8.1.2 and 8.2.2, step 1), and a number less than the modulus (section 5.2.2, step 1)
unfoldable pub is_asked : List ℕ → List ℕ → List ℕ → Bool
is_asked n e signature =
    is_key (os2ip n) (os2ip e) && length signature == length (without_zeros n) && nat_lt (os2ip signature) (os2ip n)
