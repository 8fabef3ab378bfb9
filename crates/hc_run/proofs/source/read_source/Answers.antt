use Rattle.std.proofs.Common.{arith}
use Rattle.hc_lex.specs.Place.{start}
use Rattle.hc_run.proofs.Sources.{accepted, refused}
use Rattle.hc_run.proofs.source.read_source.Goals as goal

pub read_tokens-read-requires : goal.read_tokens-read-requires
read_tokens-read-requires c =
    let tokens = c.in-Ok.tokens in
    c.tokens_are_plain.ensures start c.args.bytes.now tokens.tokens tokens.end c.in-Ok.ensures.reads

pub returns-in-Ok-clause-accepted : goal.returns-in-Ok-clause-accepted
returns-in-Ok-clause-accepted c =
    let tokens = c.in-Ok.tokens in
    accepted c.args.bytes.now (record { tokens = tokens.tokens; end = tokens.end; reads = c.in-Ok.ensures.reads; short = c.in-Ok.ensures.short; few = omega (arith, c.in-Ok.ensures.few) }) c.read_tokens-read.result c.read_tokens-read.ensures.source

pub returns-in-Ok-clause-refused : goal.returns-in-Ok-clause-refused
returns-in-Ok-clause-refused c =
    let tokens = c.in-Ok.tokens in
    refused c.args.bytes.now (record { tokens = tokens.tokens; end = tokens.end; reads = c.in-Ok.ensures.reads; short = c.in-Ok.ensures.short; few = omega (arith, c.in-Ok.ensures.few) }) c.read_tokens-read.result c.read_tokens-read.ensures.refused
