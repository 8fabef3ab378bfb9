-- The nodes of an end of a channel, in the order in which they are added and fed.
use Rattle.std.proofs.Common.{◌≡◌, ◌<◌, ℕ, suc, ◌+◌, List, [], ◌∷◌, length, Bool, true, false, not, ◌&&◌, ◌||◌, None, refl, ap, sym, ◌∙◌, subst, arith}
use Rattle.std.proofs.lemmas.List.Elements.{All-nil, All-cons}
use Rattle.hc_net.specs.Circuit.{Circuit, Extends, constant_at, node_at}
use Rattle.hc_net.specs.Gate.{differ}
use Rattle.hc_net.specs.Run.{Trace}
use Rattle.hc_net.specs.Circuit.{History, Explains}
use Rattle.hc_net.specs.Made.{Over, argument, Makes}
use Rattle.hc_net.specs.MadeLemmas.{Makes-gate}
use Rattle.hc_net.specs.declared.net.FlopName.TheVariants.{Token}
use Rattle.hc_net.specs.declared.node.Node.TheVariants.{Flop, Wire, Gate}
use Rattle.hc_net.specs.declared.gate.GateKind.TheVariants as kind
use Rattle.hc_token.specs.Control.{IsFlop, IsNever}
use Rattle.hc_token.specs.Growing.{Puts, Feeds, Grows, grows_then, grows_node, grows_connected, put_size, put_at, put_front, fed_size, fed_other, reach_flop, flop_reach}
use Rattle.hc_token.specs.Part.{AddsPart, part_then, part_gate, part_wire, part_fed, part_token}
use Rattle.hc_channel.specs.Offers.{MakesOffer, StandsUntilDone, partner_rank}
use Rattle.hc_channel.specs.declared.end.Offer.{Offer}

-- what stands and isn't done
still_is : (a p : Bool) → differ a (a && p) ≡ (a && not p)
still_is true true = refl
still_is true false = refl
still_is false p = refl

module _ (token start pass waits active partner done still finish : ℕ) (old one two three four five six seven eight new : Circuit)
    (puts_pass : Puts (Gate kind.Zero 0 0) old one pass) (puts_waits : Puts (Flop (Token token) false None) one two waits)
    (puts_active : Puts (Gate kind.Or start waits) two three active) (puts_partner : Puts (Wire partner_rank None) three four partner)
    (puts_done : Puts (Gate kind.And active partner) four five done) (puts_still : Puts (Gate kind.Xor active done) five six still)
    (feeds_waits : Feeds waits still six seven) (earlier_waits : Extends six.nodes seven.nodes)
    (puts_finish : Puts (Flop (Token (token + 1)) false None) seven eight finish)
    (feeds_finish : Feeds finish done eight new) (earlier_finish : Extends eight.nodes new.nodes)
  where
    abbrev pub offered : Offer
    offered = record { active = active; partner = partner; done = done; ends = record { pass = pass; finish = finish } }

    -- the circuits of growing nodes
    from_eight : Grows eight.nodes new.nodes
    from_eight = grows_connected finish done feeds_finish earlier_finish

    from_seven : Grows seven.nodes new.nodes
    from_seven = grows_then (grows_node _ puts_finish.1) from_eight

    from_six : Grows six.nodes new.nodes
    from_six = grows_then (grows_connected waits still feeds_waits earlier_waits) from_seven

    from_five : Grows five.nodes new.nodes
    from_five = grows_then (grows_node _ puts_still.1) from_six

    from_three : Grows three.nodes new.nodes
    from_three = grows_then (grows_node _ puts_partner.1) (grows_then (grows_node _ puts_done.1) from_five)

    from_two : Grows two.nodes new.nodes
    from_two = grows_then (grows_node _ puts_active.1) from_three

    from_one : Grows one.nodes new.nodes
    from_one = grows_then (grows_node _ puts_waits.1) from_two

    size_one : length one.nodes ≡ length old.nodes + 1
    size_one = put_size _ old puts_pass

    size_two : length two.nodes ≡ length old.nodes + 2
    size_two = omega (arith, put_size _ one puts_waits, size_one)

    size_three : length three.nodes ≡ length old.nodes + 3
    size_three = omega (arith, put_size _ two puts_active, size_two)

    size_four : length four.nodes ≡ length old.nodes + 4
    size_four = omega (arith, put_size _ three puts_partner, size_three)

    size_five : length five.nodes ≡ length old.nodes + 5
    size_five = omega (arith, put_size _ four puts_done, size_four)

    size_seven : length seven.nodes ≡ length old.nodes + 6
    size_seven = omega (arith, fed_size six waits still feeds_waits, put_size _ five puts_still, size_five)

    size_new : length new.nodes ≡ length old.nodes + 7
    size_new = omega (arith, fed_size eight finish done feeds_finish, put_size _ seven puts_finish, size_seven)

    adds : AddsPart 5 token 2 (partner ∷ []) old new
    adds =
        part_then (omega arith) (part_gate token kind.Zero 0 0 puts_pass.1)
        (part_then refl
        (part_fed still puts_waits.0 puts_waits.1 refl
        (part_then (omega arith) (part_gate (token + 1) kind.Or start waits puts_active.1)
        (part_then (omega arith) (part_wire (token + 1) partner_rank partner puts_partner.0 puts_partner.1)
        (part_then (omega arith) (part_gate (token + 1) kind.And active partner puts_done.1) (part_gate (token + 1) kind.Xor active done puts_still.1))))
        feeds_waits earlier_waits)
        (part_token done puts_finish.0 puts_finish.1 feeds_finish earlier_finish))

    -- the gates, as circuits over these nets
    abbrev args : List ℕ
    args = waits ∷ start ∷ partner ∷ []

    zero_made : Makes 1 [] old one (pass ∷ []) (λ v. v pass ≡ false)
    zero_made = Makes-gate [] old one kind.Zero 0 0 pass puts_pass.0 puts_pass.1 tt

    active_made : Makes 1 (waits ∷ start ∷ []) two three (active ∷ []) (λ v. v active ≡ (v start || v waits))
    active_made = Makes-gate (waits ∷ start ∷ []) two three kind.Or start waits active puts_active.0 puts_active.1 (argument start 1 (omega arith) refl, argument waits 0 (omega arith) refl)

    active_over : Over four.nodes args active
    active_over = (grows_node (Wire partner_rank None) puts_partner.1).keeps.over args active
        ((Makes-gate args two three kind.Or start waits active puts_active.0 puts_active.1 (argument start 1 (omega arith) refl, argument waits 0 (omega arith) refl)).reach 0 0 (omega arith))

    done_made : Makes 1 args four five (done ∷ []) (λ v. v done ≡ (v active && v partner))
    done_made = Makes-gate args four five kind.And active partner done puts_done.0 puts_done.1 (active_over, argument partner 2 (omega arith) refl)

    waits_is_flop : IsFlop (node_at new.nodes waits)
    waits_is_flop = from_two.flops waits (subst IsFlop (sym (put_at one puts_waits)) tt)

    finish_is_flop : IsFlop (node_at new.nodes finish)
    finish_is_flop = from_eight.flops finish (subst IsFlop (sym (put_at seven puts_finish)) tt)

    pub never : IsNever new.nodes pass
    never = from_one.keeps.constant pass false (ap constant_at (put_at old puts_pass))

    undriven : node_at new.nodes partner ≡ Wire partner_rank None
    undriven =
        fed_other eight finish done partner feeds_finish (λ same. absurd (omega (arith, same, puts_finish.0, puts_partner.0, size_seven, size_three)))
        ∙ put_front _ seven partner puts_finish (omega (arith, puts_partner.0, size_seven, size_three))
        ∙ fed_other six waits still partner feeds_waits (λ same. absurd (omega (arith, same, puts_waits.0, puts_partner.0, size_one, size_three)))
        ∙ put_front _ five partner puts_still (omega (arith, puts_partner.0, size_five, size_three))
        ∙ put_front _ four partner puts_done (omega (arith, puts_partner.0, size_four, size_three))
        ∙ put_at three puts_partner

    module _ (waits_first : (trace : Trace) (h : History) → Explains two.nodes trace h → h 0 waits ≡ false)
        (still_is_bit : (trace : Trace) (h : History) → Explains six.nodes trace h → (t : ℕ) → h t still ≡ differ (h t active) (h t done))
        (waits_later : (trace : Trace) (h : History) → Explains seven.nodes trace h → (t : ℕ) → h (suc t) waits ≡ h t still)
        (finish_first : (trace : Trace) (h : History) → Explains eight.nodes trace h → h 0 finish ≡ false)
        (finish_later : (trace : Trace) (h : History) → Explains new.nodes trace h → (t : ℕ) → h (suc t) finish ≡ h t done)
      where
        stands : (trace : Trace) (h : History) → Explains new.nodes trace h → StandsUntilDone start offered h
        stands trace h e =
            let is_done : (t : ℕ) → h t done ≡ (h t active && h t partner) = done_made.value trace h (from_five.keeps.earlier trace h e) in
            record {
              waits = λ t. h t waits;
              first = waits_first trace h (from_two.keeps.earlier trace h e);
              later = λ t.
                  waits_later trace h (from_seven.keeps.earlier trace h e) t
                  ∙ still_is_bit trace h (from_six.keeps.earlier trace h e) t
                  ∙ ap (differ (h t active)) (is_done t)
                  ∙ still_is (h t active) (h t partner);
              active = active_made.value trace h (from_three.keeps.earlier trace h e);
              done = is_done;
              pass = zero_made.value trace h (from_one.keeps.earlier trace h e);
              unfinished = finish_first trace h (from_eight.keeps.earlier trace h e);
              finish = finish_later trace h e;
            }

        pub makes : MakesOffer token start old new offered
        makes = record {
          adds = adds;
          there =
              All-cons (λ k. k < length new.nodes) active (partner ∷ done ∷ pass ∷ finish ∷ []) (omega (arith, puts_active.0, size_two, size_new))
              (All-cons (λ k. k < length new.nodes) partner (done ∷ pass ∷ finish ∷ []) (omega (arith, puts_partner.0, size_three, size_new))
              (All-cons (λ k. k < length new.nodes) done (pass ∷ finish ∷ []) (omega (arith, puts_done.0, size_four, size_new))
              (All-cons (λ k. k < length new.nodes) pass (finish ∷ []) (omega (arith, puts_pass.0, size_new))
              (All-cons (λ k. k < length new.nodes) finish [] (omega (arith, puts_finish.0, size_seven, size_new)) (All-nil _)))));
          fresh = omega (arith, puts_partner.0, size_three);
          undriven = undriven;
          active = reach_flop new.nodes (start ∷ []) waits active waits_is_flop (from_three.keeps.over (waits ∷ start ∷ []) active (active_made.reach 0 0 (omega arith)));
          done = reach_flop new.nodes (start ∷ partner ∷ []) waits done waits_is_flop (from_five.keeps.over args done (done_made.reach 0 0 (omega arith)));
          pass = from_one.keeps.over [] pass (zero_made.reach 0 0 (omega arith));
          finish = flop_reach new.nodes finish finish_is_flop;
          value = stands;
        }
