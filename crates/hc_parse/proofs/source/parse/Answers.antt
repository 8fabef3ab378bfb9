use Rattle.hc_parse.proofs.Sources.{only_tree, only_refusal}
use Rattle.hc_parse.proofs.source.parse.Goals as goal

pub returns-clause-accepts : goal.returns-clause-accepts
returns-clause-accepts c = only_tree c.one_tree.ensures c.args.tokens.now.tokens c.args.tokens.now.end c.parsed.result c.parsed.ensures.tree c.parsed.ensures.refused

pub returns-clause-refuses : goal.returns-clause-refuses
returns-clause-refuses c = only_refusal c.args.tokens.now.tokens c.args.tokens.now.end c.parsed.result c.parsed.ensures.tree c.parsed.ensures.refused
