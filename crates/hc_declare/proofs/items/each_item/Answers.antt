use Rattle.hc_declare.specs.Items.{items_in}
use Rattle.hc_scope.specs.Nodes.{nodes}
use Rattle.hc_declare.proofs.EachItem.{items_step, first_plain, rest_plain}
use Rattle.hc_declare.proofs.ItemNames.{ports_behind, sound_behind}
use Rattle.hc_evaluate.proofs.Lists.{split_first}
use Rattle.hc_declare.proofs.items.each_item.Goals as goal

pub loop-list-preserved : goal.loop-list-preserved
loop-list-preserved c =
    let apart = split_first c.loop-list.list.now c.first-item.result c.in-len1-up.len_at_least c.first-item.is in
    record {
      answers = items_step (nodes 2000) c.args.list.now c.loop-list.list.now c.first-item.result (items_in c.args.names.now.entries c.args.around.now c.args.roots)
          (items_in c.loop-list.names.entries c.args.around.now c.loop-list.roots) (items_in c.item.new.names.entries c.args.around.now c.in-Ok.next) c.args.state.now
          c.loop-list.state c.item.new.state c.loop-list.invariant.answers apart c.in-Ok.ensures.answers;
      sound = sound_behind c.first-item.result c.loop-list.state.objects c.item.new.state.objects c.in-Ok.ensures.grows;
      plain = rest_plain c.loop-list.list.now c.first-item.result apart c.loop-list.invariant.plain;
      pin = c.in-Ok.ensures.pin;
      ports = ports_behind 2000 c.loop-list.names.entries c.item.new.names.entries c.args.around.now c.loop-list.roots c.in-Ok.next c.first-item.result c.loop-list.state
          c.item.new.state (first_plain c.loop-list.list.now c.first-item.result apart c.loop-list.invariant.plain) c.in-Ok.ensures.answers c.in-Ok.ensures.grows
          c.loop-list.invariant.ports;
    }
