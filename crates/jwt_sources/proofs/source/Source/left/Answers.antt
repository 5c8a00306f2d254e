use Rattle.jwt_sources.proofs.source.Source.left.Goals as goal

pub returns : goal.returns
returns g c = λ h more s. rw (← c.hear.ensures.times) (c.over_in.ensures _ more (c.hear.ensures.stands h s))
