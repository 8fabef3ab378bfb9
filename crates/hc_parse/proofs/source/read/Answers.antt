use Rattle.std.proofs.Common.{sym, ap, subst, ◌∙◌}
use Rattle.hc_tree.specs.declared.refusal.Rule.TheVariants.{S2}
use Rattle.hc_tree.specs.declared.refusal.Detail.TheVariants.{Nothing}
use Rattle.hc_tree.specs.declared.refusal.FrontErr.TheVariants.{Refused}
use Rattle.hc_grammar.specs.declared.halt.Halt.TheVariants as halt
use Rattle.hc_grammar.specs.Answers.{Halts}
use Rattle.hc_grammar.specs.Cursor.{place_before}
use Rattle.hc_grammar.specs.Form as f
use Rattle.hc_grammar.specs.Grammar.{grammar}
use Rattle.hc_grammar.specs.Table.{Reads, Stops}
use Rattle.hc_parse.specs.Parsed.{FirstRefusal}
use Rattle.hc_parse.specs.Refused.{IfRefused}
use Rattle.hc_parse.proofs.Sources.{read_whole, stopped}
use Rattle.hc_parse.proofs.source.read.Goals as goal

pub returns-in-Ok-clause-tree : goal.returns-in-Ok-clause-tree
returns-in-Ok-clause-tree c =
    let begins = ap (λ a. a.rest) c.new-c.ensures in
    read_whole c.reads_where.ensures c.requires
    (subst (λ ts. Reads grammar f.program ts c.in-Ok.tree c.program.new.c.rest) begins c.in-Ok.ensures.0)

pub returns-in-Err-Refused-clause-refused : goal.returns-in-Err-Refused-clause-refused
returns-in-Err-Refused-clause-refused c =
    let h : Halts f.program c.new-c.result (halt.Refused c.in-Err-Refused.field-0-0) c.program.new.c =
    subst (λ h. Halts f.program c.new-c.result h c.program.new.c) c.in-Err-Refused.field-0-is c.in-Err-Refused.ensures in
    let stops = subst (λ ts. Stops grammar f.program ts c.program.new.c.rest) (ap (λ a. a.rest) c.new-c.ensures) h.0 in
    let place_is = c.place.ensures ∙ ap (λ end. place_before end c.program.new.c.rest) (h.1 ∙ ap (λ a. a.end) c.new-c.ensures) in
    subst (λ e. IfRefused e (FirstRefusal c.args.tokens.now.tokens c.args.tokens.now.end)) (sym (c.refused.ensures ∙ ap (λ p. Refused (record { rule = S2; place = p; detail = Nothing })) place_is))
    (stopped c.read_or_stopped.ensures c.stops_where.ensures c.args.tokens.now.end c.requires stops)
