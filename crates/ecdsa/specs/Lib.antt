-- ---- What contracts of public functions cite, in reading order

-- the inverse of a number modulo another
pub mod Inverse
-- elliptic curves over a prime field, and ECDSA on them
pub mod Curve
-- the curves of NIST SP 800-186, sections 3.2.1.3 to 3.2.1.5
pub mod Curves
-- ECDSA signatures as octets
pub mod Ecdsa
-- the keys that are prepared
pub mod Held
-- the primes of P-256 and P-521
pub mod Primes
-- congruence modulo m, and what has an inverse
pub mod Residues
-- numbers modulo n, in the form of Montgomery over limbs
pub mod Field
-- jacobian coordinates that stand for a result of the curve's definition
pub mod Stands
-- tables of a point's windows
pub mod Windows
-- signatures on tokens
pub mod jws
-- ---- What laws alone cite

-- the definition's parameters of a curve as it is held
pub mod Domains
-- the doubles of a curve's base point, as a table has them
pub mod Doubles
-- ---- What contracts of private functions alone cite, which nobody has to believe

-- the invariant of Euclid's algorithm, of x and the modulus m
pub mod Reached
