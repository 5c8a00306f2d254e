use Rattle.std.proofs.Common.{◌≡◌, ◌∙◌, ap, List, [], ◌∷◌, ◌++◌, append_assoc}
use Rattle.std.proofs.lemmas.Result.{on_ok_weaker}
use Rattle.std.specs.Prelude.{codes}
use Rattle.jwt_output.specs.fields.Fields.{Field, Octets, field, word}
use Rattle.jwt_output.specs.fields.Verdicts.{pair_fields}
use Rattle.jwt_output.specs.declared.fields.field.FieldName.TheVariants as name
use Rattle.jwt_output.proofs.fields.verdict.put_accepted.Goals as goal

three : (old a b d : List Field) (w k : Field) (p : List Field) → a ≡ old ++ w ∷ [] → b ≡ a ++ p → d ≡ b ++ k ∷ [] → d ≡ old ++ w ∷ (p ++ k ∷ [])
three old a b d w k p f m n =
    n ∙ ap (λ l. l ++ k ∷ []) (m ∙ ap (λ l. l ++ p) f) ∙ append_assoc (old ++ w ∷ []) p (k ∷ []) ∙ append_assoc old (w ∷ []) (p ++ k ∷ [])

pub returns-in_ok-put_pair-in-None : goal.returns-in_ok-put_pair-in-None
returns-in_ok-put_pair-in-None c =
    rw c.in-None.is
    (on_ok_weaker c.put.result
    (λ n. three c.args.out.now c.word.new.self c.put_pair.new.out c.put.new.self (word name.Verdict (codes "accepted")) (field name.Claims (Octets c.args.payload.now)) (pair_fields c.args.i c.args.j)
    c.in_ok-word-in-None.ensures c.in_ok-put_pair-in-None.ensures n) c.put.ensures)
