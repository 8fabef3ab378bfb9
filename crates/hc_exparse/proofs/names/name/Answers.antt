use Rattle.hc_exparse.proofs.Walk.{plain_answer}
use Rattle.hc_grammar.specs.Form as f
use Rattle.hc_exparse.proofs.names.name.Goals as goal

pub returns : goal.returns
returns c = plain_answer f.name c.args.c.now c.ident.new.c c.ident.result c.ident.ensures
