use Rattle.hc_parse.proofs.Checks.{only_pass, only_breach}
use Rattle.hc_parse.proofs.check.check_tokens.Goals as goal

pub returns-clause-accepts : goal.returns-clause-accepts
returns-clause-accepts c = only_pass c.args.tokens.now.tokens c.checked.result c.checked.ensures.breach

pub returns-clause-refuses : goal.returns-clause-refuses
returns-clause-refuses c = only_breach c.args.tokens.now.tokens c.checked.result c.checked.ensures.passes c.checked.ensures.breach
