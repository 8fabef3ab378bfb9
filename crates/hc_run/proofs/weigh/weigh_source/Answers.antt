use Rattle.std.proofs.Common.{arith}
use Rattle.hc_lex.specs.Place.{start}
use Rattle.hc_run.proofs.Sources.{refused, tokens_weighed}
use Rattle.hc_run.proofs.weigh.weigh_source.Goals as goal

pub weigh_tokens-weighed-requires : goal.weigh_tokens-weighed-requires
weigh_tokens-weighed-requires c =
    let tokens = c.in-Ok.tokens in
    c.tokens_are_plain.ensures start c.args.bytes.now tokens.tokens tokens.end c.in-Ok.ensures.reads

pub returns-in-Ok-clause-weighs : goal.returns-in-Ok-clause-weighs
returns-in-Ok-clause-weighs c =
    let tokens = c.in-Ok.tokens in
    tokens_weighed c.args.bytes.now (record { tokens = tokens.tokens; end = tokens.end; reads = c.in-Ok.ensures.reads; short = c.in-Ok.ensures.short; few = omega (arith, c.in-Ok.ensures.few) }) c.weigh_tokens-weighed.result c.weigh_tokens-weighed.ensures.weighs

pub returns-in-Ok-clause-refused : goal.returns-in-Ok-clause-refused
returns-in-Ok-clause-refused c =
    let tokens = c.in-Ok.tokens in
    refused c.args.bytes.now (record { tokens = tokens.tokens; end = tokens.end; reads = c.in-Ok.ensures.reads; short = c.in-Ok.ensures.short; few = omega (arith, c.in-Ok.ensures.few) }) c.weigh_tokens-weighed.result c.weigh_tokens-weighed.ensures.refused
