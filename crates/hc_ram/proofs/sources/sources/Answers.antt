use Rattle.std.proofs.Common.{arith, length, subst, sym, ◌+◌}
use Rattle.hc_bits.proofs.Parts.{IfOk-both}
use Rattle.hc_ram.specs.Enabled.{AreLists}
use Rattle.hc_ram.proofs.PinSources.{address_room, sources_none, sources_made, word_room, writers_there, writers_words, writers_same}
use Rattle.hc_ram.proofs.sources.sources.Goals as goal

pub returns-then-is_empty : goal.returns-then-is_empty
returns-then-is_empty c =
    IfOk-both c.zeros.result _ _ _
    (λ z size made. sources_none c.args.ram.now (c.len.result + 1 + c.len-then-is_empty.result) c.args.enables.now c.args.writes.now z c.args.indexes.now c.args.values.now c.args.b.now c.zeros.new.b (grind arith) (omega arith) size made)
    c.zeros.ensures.width c.zeros.ensures.circuit

pub any_enabled-requires-clause-values : goal.any_enabled-requires-clause-values
any_enabled-requires-clause-values c = subst (λ n. AreLists (length c.args.b.now.nodes) n c.args.indexes.now) (sym c.len-2.ensures) c.requires.indexes

pub any_enabled-requires-clause-room : goal.any_enabled-requires-clause-room
any_enabled-requires-clause-room c = address_room (length c.args.ram.now.addr) (length c.args.ram.now.d) c.len-2.result c.args.b.now.nodes c.args.enables.now c.args.writes.now c.len-2.ensures c.requires.write_uses c.requires.room

pub written-requires-clause-enables : goal.written-requires-clause-enables
written-requires-clause-enables c =
    writers_there c.args.enables.now c.args.writes.now c.in_ok-writers.writers.enables c.args.b.now c.any_enabled.new.b c.requires.enables c.in_ok-writers.ensures.enables c.in_ok-sources.ensures.circuit.adds

pub written-requires-clause-words : goal.written-requires-clause-words
written-requires-clause-words c =
    writers_words (length c.args.ram.now.d) c.len-3.result c.args.writes.now c.args.values.now c.in_ok-writers.writers.words.items c.args.b.now c.any_enabled.new.b
    c.requires.writes c.requires.values c.len-3.ensures c.in_ok-writers.ensures.words c.in_ok-sources.ensures.circuit.adds

pub written-requires-clause-uses : goal.written-requires-clause-uses
written-requires-clause-uses c =
    writers_same c.args.enables.now c.args.writes.now c.in_ok-writers.writers.enables c.args.values.now c.in_ok-writers.writers.words.items c.args.b.now.nodes
    c.requires.write_uses c.requires.value_uses c.in_ok-writers.ensures.enables c.in_ok-writers.ensures.words

pub written-requires-clause-room : goal.written-requires-clause-room
written-requires-clause-room c =
    word_room (length c.args.ram.now.addr) (length c.args.ram.now.d) c.len-2.result c.len-3.result c.args.enables.now c.args.writes.now c.in_ok-writers.writers.enables c.in_ok-sources.sources c.args.indexes.now
    c.args.b.now c.any_enabled.new.b c.len-2.ensures c.len-3.ensures c.requires.write_uses c.requires.room c.in_ok-writers.ensures.enables c.in_ok-sources.ensures.circuit

pub returns : goal.returns
returns c =
    sources_made c.args.ram.now c.len-2.result c.len-3.result c.args.enables.now c.args.writes.now c.in_ok-sources.sources c.in_ok-word.word c.in_ok-writers.writers.enables _ c.args.indexes.now c.args.values.now
    c.in_ok-writers.writers.words.items c.args.b.now c.any_enabled.new.b c.written.new.b c.requires.index_uses c.requires.write_uses c.requires.value_uses c.requires.indexes c.requires.values
    c.len-2.ensures c.len-3.ensures c.in_ok-sources.ensures.width c.in_ok-word.ensures.width c.in_ok-append.ensures c.in_ok-writers.ensures.enables c.in_ok-writers.ensures.words
    c.in_ok-sources.ensures.circuit c.in_ok-word.ensures.circuit
