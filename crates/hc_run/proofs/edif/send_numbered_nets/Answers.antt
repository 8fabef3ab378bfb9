use Rattle.std.proofs.Common.{arith, ap, ◌∙◌, sym, subst, length, map}
use Rattle.std.proofs.lemmas.List.{length-map}
use Rattle.hc_run.specs.Edif.{drivers, each_from, numbered_net, readers}
use Rattle.hc_run.specs.Pins.{ref_of, read_by, IsOrdered}
use Rattle.hc_run.proofs.NetText.{numbered_nets-is}
use Rattle.hc_run.proofs.Sending.{Sent-none, Stopped-memory, ok_at, err_at}
use Rattle.hc_run.proofs.Sizes.{length-drivers}
use Rattle.hc_run.proofs.edif.send_numbered_nets.Goals as goal

pub send_nets-requires-clause-few : goal.send_nets-requires-clause-few
send_nets-requires-clause-few g c =
    let few = c.requires.valid.v1.few_nets in
    let all = length-drivers c.args.net.now in
    let same = ap length c.in-Ok.ensures in
    let mapped = length-map c.in-Ok.pins.items ref_of in
    let slice = ap length c.as_slice.ensures.value in
    omega arith

pub returns-in-Ok-ordered_readers-clause-ok : goal.returns-in-Ok-ordered_readers-clause-ok
returns-in-Ok-ordered_readers-clause-ok g c =
    let ordered = subst (λ t. IsOrdered (readers c.args.net.now) (map read_by t)) (sym c.as_slice-in-Ok-ordered_readers.ensures.value) c.in-Ok-ordered_readers.ensures in
    ok_at _ _ _ _ _ (numbered_nets-is ordered (ap (map ref_of) c.as_slice.ensures.value ∙ c.in-Ok.ensures)) c.send_nets.ensures.ok

pub returns-in-Ok-ordered_readers-clause-err : goal.returns-in-Ok-ordered_readers-clause-err
returns-in-Ok-ordered_readers-clause-err g c =
    let ordered = subst (λ t. IsOrdered (readers c.args.net.now) (map read_by t)) (sym c.as_slice-in-Ok-ordered_readers.ensures.value) c.in-Ok-ordered_readers.ensures in
    err_at _ _ _ _ (numbered_nets-is ordered (ap (map ref_of) c.as_slice.ensures.value ∙ c.in-Ok.ensures)) c.send_nets.ensures.err

pub returns-in-Ok-clause-err : goal.returns-in-Ok-clause-err
returns-in-Ok-clause-err g c = Stopped-memory {before = c.args.text.now.items} (each_from (numbered_net (readers c.args.net.now)) 0 (drivers c.args.net.now)) (Sent-none _ _)
