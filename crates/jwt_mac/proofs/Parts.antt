-- Three pieces, joined.
use Rattle.std.proofs.Common.{◌≡◌, ℕ, List, [], ◌∷◌, ◌++◌, length, get_or, ap, ◌∙◌, sym, arith, append_assoc, append-nil}
use Rattle.std.specs.Borrow.{Bor}
use Rattle.jwt_mac.specs.Hmac.{all_octets}

pub joined-three : (parts : List (Bor (List ℕ))) (d : Bor (List ℕ)) → length parts ≡ 3 →
    all_octets parts ≡ (get_or parts 0 d).now ++ (get_or parts 1 d).now ++ (get_or parts 2 d).now
joined-three [] d three = absurd (omega arith)
joined-three (a ∷ []) d three = absurd (omega arith)
joined-three (a ∷ b ∷ []) d three = absurd (omega arith)
joined-three (a ∷ b ∷ e ∷ []) d three = ap (λ t. a.now ++ (b.now ++ t)) (append-nil e.now) ∙ sym (append_assoc a.now b.now e.now)
joined-three (a ∷ b ∷ e ∷ f ∷ rest) d three = absurd (omega arith)

-- a block and three pieces
pub joined_block : (x p a b d m : List ℕ) → x ≡ p → m ≡ a ++ b ++ d → x ++ a ++ b ++ d ≡ p ++ m
joined_block x p a b d m first rest =
    let regroup : x ++ a ++ b ++ d ≡ x ++ (a ++ b ++ d) = simp append_assoc in
    regroup ∙ (λ i. first i ++ sym rest i)

-- two pieces and three parts
pub joined_behind : (x y a b d m : List ℕ) → m ≡ a ++ b ++ d → x ++ y ++ a ++ b ++ d ≡ x ++ y ++ m
joined_behind x y a b d m rest =
    let regroup : x ++ y ++ a ++ b ++ d ≡ x ++ y ++ (a ++ b ++ d) = simp append_assoc in
    regroup ∙ ap (λ t. x ++ y ++ t) (sym rest)
