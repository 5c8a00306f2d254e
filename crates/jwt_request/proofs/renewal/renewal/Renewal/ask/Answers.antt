use Rattle.jwt_request.proofs.renewal.renewal.Renewal.ask.Goals as goal

pub returns-then-is_wanted-clause-keys : goal.returns-then-is_wanted-clause-keys
returns-then-is_wanted-clause-keys c = λ h s. rw (← c.hear.ensures.times) (c.keys-keys.ensures _ (c.hear.ensures.stands h s))

pub returns-else-is_wanted-clause-keys : goal.returns-else-is_wanted-clause-keys
returns-else-is_wanted-clause-keys c = λ h s. rw (← c.hear.ensures.times) (c.keys-keys.ensures _ (c.hear.ensures.stands h s))
