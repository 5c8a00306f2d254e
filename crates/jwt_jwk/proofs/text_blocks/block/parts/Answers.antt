use Rattle.std.proofs.Common.{◌≡◌, ◌++◌, List, ℕ, sym, ap, ◌∙◌}
use Rattle.std.proofs.lemmas.List.{append_cancel_left}
use Rattle.jwt_jwk.specs.text_blocks.Pem.{end_line}
use Rattle.jwt_jwk.proofs.Blocks.{IsFirstHyphen, split}
use Rattle.jwt_jwk.proofs.text_blocks.block.parts.Goals as goal

pub returns-in_default-clause-only : goal.returns-in_default-clause-only
returns-in_default-clause-only c = λ body rest plain e.
    c.in_default.ensures (body ++ (end_line c.args.label ++ rest)) (e ∙ ap (λ (b : List ℕ). b ++ (body ++ (end_line c.args.label ++ rest))) (sym c.begin_line.ensures))

pub returns-in_default-behind-clause-only : goal.returns-in_default-behind-clause-only
returns-in_default-behind-clause-only c = λ body rest plain e.
    let first : IsFirstHyphen c.in-Some.after.now c.hyphen.result = record { within = c.hyphen.ensures.within; before = c.hyphen.ensures.before; found = c.hyphen.ensures.found } in
    let cut = split c.args.label c.args.text.now c.begin_line.result.now c.in-Some.after.now body rest c.hyphen.result c.begin_line.ensures c.in-Some.ensures first plain e in
    c.in_default-behind.ensures rest (c.split_at.ensures.back ∙ cut.1 ∙ ap (λ (b : List ℕ). b ++ rest) (sym c.end_line.ensures))

pub returns-clause-only : goal.returns-clause-only
returns-clause-only c = λ body rest plain e.
    let first : IsFirstHyphen c.in-Some.after.now c.hyphen.result = record { within = c.hyphen.ensures.within; before = c.hyphen.ensures.before; found = c.hyphen.ensures.found } in
    let cut = split c.args.label c.args.text.now c.begin_line.result.now c.in-Some.after.now body rest c.hyphen.result c.begin_line.ensures c.in-Some.ensures first plain e in
    let end = c.in-Some-behind.rest.now in
    let same : end_line c.args.label ++ end ≡ end_line c.args.label ++ rest = ap (λ (b : List ℕ). b ++ end) (sym c.end_line.ensures) ∙ sym c.in-Some-behind.ensures ∙ c.split_at.ensures.back ∙ cut.1 in
    (c.split_at.ensures.front ∙ cut.0, append_cancel_left (end_line c.args.label) end rest same)
