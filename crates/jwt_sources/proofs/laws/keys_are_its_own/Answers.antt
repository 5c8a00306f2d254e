use Rattle.jwt_sources.proofs.Logs.{answered_handed, handed_once}
use Rattle.jwt_sources.proofs.laws.keys_are_its_own.Goals as goal

pub returns-clause-came : goal.returns-clause-came
returns-clause-came g c = λ state log at source it st is has. st.keys at source it is has

pub returns-clause-handed : goal.returns-clause-handed
returns-clause-handed g c = λ log at ticket content run came. answered_handed at ticket content log run came

pub returns-clause-alone : goal.returns-clause-alone
returns-clause-alone g c = λ log at other ticket run one two. handed_once at other ticket log run one two
