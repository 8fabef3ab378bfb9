use Rattle.hc_meaning.proofs.Law.{law}
use Rattle.hc_meaning.proofs.laws.one_instant.Goals as goal

pub returns : goal.returns
returns c = law
