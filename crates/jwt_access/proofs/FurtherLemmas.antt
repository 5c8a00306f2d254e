-- What else is asked, part by part.
use Rattle.std.proofs.Common.{◌≡◌, List, [], ◌∷◌, ◌++◌, Option, Some, None, refl, ap, ◌∙◌}
use Rattle.std.specs.Option.{option_or}
use Rattle.serde_json.specs.Data.{Members}
use Rattle.jwt_text.specs.Rows.{first_row}
use Rattle.jwt_access.specs.Rules.{Further}
use Rattle.jwt_access.specs.Pointers.{claim_at}
use Rattle.jwt_access.specs.Denials.{asked_rows, first_unasked}
use Rattle.jwt_access.specs.declared.denial.Denial.{Denial}
use Rattle.jwt_access.specs.declared.moment.Moment.{Moment}

pub or_assoc : {A : Type 0} (a b c : Option A) → option_or a (option_or b c) ≡ option_or (option_or a b) c
or_assoc None b c = refl
or_assoc (Some x) b c = refl

pub unasked_append : (at : Moment) (ms : Members) (xs ys : List Further) → first_unasked at ms (xs ++ ys) ≡ option_or (first_unasked at ms xs) (first_unasked at ms ys)
unasked_append at ms [] ys = refl
unasked_append at ms (x ∷ xs) ys =
    ap (option_or (first_row (asked_rows at x.name x.asked (claim_at x.name ms)))) (unasked_append at ms xs ys)
    ∙ or_assoc (first_row (asked_rows at x.name x.asked (claim_at x.name ms))) (first_unasked at ms xs) (first_unasked at ms ys)

one_part : (at : Moment) (ms : Members) (o : Option Denial) (xs ys : List Further) → option_or o (first_unasked at ms (xs ++ ys)) ≡ option_or (option_or o (first_unasked at ms xs)) (first_unasked at ms ys)
one_part at ms o xs ys = ap (option_or o) (unasked_append at ms xs ys) ∙ or_assoc o (first_unasked at ms xs) (first_unasked at ms ys)

-- one part after the other
pub denial_parts : (at : Moment) (ms : Members) (o : Option Denial) (a b c d e : List Further)
    → option_or o (first_unasked at ms (a ++ (b ++ (c ++ (d ++ e)))))
    ≡ option_or (option_or (option_or (option_or (option_or o (first_unasked at ms a)) (first_unasked at ms b)) (first_unasked at ms c)) (first_unasked at ms d)) (first_unasked at ms e)
denial_parts at ms o a b c d e =
    one_part at ms o a (b ++ (c ++ (d ++ e)))
    ∙ one_part at ms (option_or o (first_unasked at ms a)) b (c ++ (d ++ e))
    ∙ one_part at ms (option_or (option_or o (first_unasked at ms a)) (first_unasked at ms b)) c (d ++ e)
    ∙ one_part at ms (option_or (option_or (option_or o (first_unasked at ms a)) (first_unasked at ms b)) (first_unasked at ms c)) d e
