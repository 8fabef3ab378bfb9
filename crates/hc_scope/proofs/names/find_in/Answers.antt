use Rattle.std.proofs.Common.{sym}
use Rattle.std.specs.Str.{bytes_eq}
use Rattle.std.proofs.lemmas.Map.Made.{lookup_key_passes}
use Rattle.hc_scope.proofs.Places.{declares-among, passes-absent, passes-later}
use Rattle.hc_scope.proofs.names.find_in.Goals as goal

pub returns-then-at-seen-clause-among : goal.returns-then-at-seen-clause-among
returns-then-at-seen-clause-among c = λ around.
    let name = c.args.name.now in
    let es = c.args.names.now.entries in
    let key = c.in-Some._key.now in
    declares-among name es c.in-Some.at c.args.seen (key, c.in-Some.declared.now) around c.len-len.ensures.unique c.in-Some.ensures.entry
    (lookup_key_passes (λ k. bytes_eq name k.now) es key (sym c.in-Some.ensures.key)) c.if-at-seen.true

pub returns-else-at-seen-clause-among : goal.returns-else-at-seen-clause-among
returns-else-at-seen-clause-among c = λ around.
    let name = c.args.name.now in
    let es = c.args.names.now.entries in
    let key = c.in-Some._key.now in
    passes-later name es c.in-Some.at c.args.seen (key, c.in-Some.declared.now) around c.len-len.ensures.unique c.in-Some.ensures.entry
    (lookup_key_passes (λ k. bytes_eq name k.now) es key (sym c.in-Some.ensures.key)) c.if-at-seen.false

pub returns-in-None-clause-among : goal.returns-in-None-clause-among
returns-in-None-clause-among c = λ around. passes-absent c.args.name.now c.args.names.now.entries c.args.seen around (sym c.in-None.ensures.value)
