-- The gates of branches that wait, as one circuit.
use Rattle.std.proofs.Common.{◌≡◌, ◌<◌, ◌≤◌, ℕ, ◌+◌, ◌-◌, ◌*◌, List, [], ◌∷◌, ◌++◌, length, map, get_or, Bool, false, not, ◌&&◌, ◌||◌, refl, ap, sym, ◌∙◌, arith}
use Rattle.std.specs.List.{range_with_len}
use Rattle.std.proofs.lemmas.List.{get_or-map}
use Rattle.std.proofs.lemmas.List.Elements.{All-append}
use Rattle.std.proofs.lemmas.List.FromFn.{get_or-map-range_with_len}
use Rattle.hc_net.specs.Circuit.{Circuit}
use Rattle.hc_net.specs.Made.{Over, argument, Makes}
use Rattle.hc_net.specs.MadeLemmas.{Adds-most, Adds-then, Adds-there, Adds-over, Adds-extends, Makes-then, Makes-last, Makes-holds}
use Rattle.hc_token.specs.Circuits.{every}
use Rattle.hc_token.specs.Waits.{HoldsNext, done_at, Waits}
use Rattle.hc_token.specs.declared.waiting.Waiting.{Waiting}
use Rattle.hc_token.proofs.Parts.{All-one, All-two, Over-right, Makes-over}

-- three circuits, and a row over them
pub next_made : (start pass finish waits held over : ℕ) (passes done z : List ℕ) (old one two three new : Circuit)
    → Makes 1 (pass ∷ []) old one (waits ∷ []) (λ v. v waits ≡ not (v pass))
    → Makes 1 (start ∷ waits ∷ []) one two (held ∷ []) (λ v. v held ≡ (v start && v waits))
    → Makes 1 (finish ∷ []) two three (over ∷ []) (λ v. v over ≡ not (v finish))
    → Makes (3 * length passes) (held ∷ over ∷ passes ++ done) three new z (λ v. map v z ≡ map (λ i. (v held && v (get_or passes i 0)) || (v over && v (get_or done i 0))) (range_with_len 0 (length passes)))
    → Makes (3 * length passes + 3) (start ∷ pass ∷ finish ∷ passes ++ done) old new z (HoldsNext start pass finish passes done z)
next_made start pass finish waits held over passes done z old one two three new p both q row =
    let args = start ∷ pass ∷ finish ∷ passes ++ done in
    let a = Makes-over p (All-one (Over old.nodes args) pass (argument pass 1 (omega arith) refl)) in
    let b = Makes-last a both (All-two (Over one.nodes args) start waits (argument start 0 (omega arith) refl) (a.reach 0 0 (omega arith))) in
    let bc = Makes-then b q (All-one (Over two.nodes args) finish (argument finish 2 (omega arith) refl)) in
    let d = Makes-last bc row (All-append (Over three.nodes args) (held ∷ over ∷ []) (passes ++ done) bc.reach (Over-right (start ∷ pass ∷ finish ∷ []) (passes ++ done))) in
    Makes-holds d (omega arith)
    (λ v holds.
    holds.1
    ∙ ap (λ x. map (λ i. (x && v (get_or passes i 0)) || (v over && v (get_or done i 0))) (range_with_len 0 (length passes))) (holds.0.0.1 ∙ ap (λ x. v start && x) holds.0.0.0)
    ∙ ap (λ x. map (λ i. ((v start && not (v pass)) && v (get_or passes i 0)) || (x && v (get_or done i 0))) (range_with_len 0 (length passes))) holds.0.1)

-- bit i of a row
bit_at : (v : ℕ → Bool) (nets : List ℕ) (f : ℕ → Bool) (n i : ℕ) → length nets ≡ n → map v nets ≡ map f (range_with_len 0 n) → i < n → v (get_or nets i 0) ≡ f i
bit_at v nets f n i size are within =
    sym (get_or-map v nets i 0 false (omega arith)) ∙ ap (λ l. get_or l i false) are ∙ get_or-map-range_with_len f 0 n i i false within (omega arith)

-- the nets that are done, whether all are, and what the latches read
pub waited : (start pass : ℕ) (passes finishes latches done : List ℕ) (w : Waiting) (old one two new : Circuit)
    → 1 ≤ length passes → length finishes ≡ length passes → length done ≡ length finishes → length w.sources ≡ length passes
    → Makes (length finishes) (finishes ++ latches) old one done (λ v. map v done ≡ map (λ i. v (get_or finishes i 0) || v (get_or latches i 0)) (range_with_len 0 (length finishes)))
    → Makes (length done - 1) done one two (w.finish ∷ []) (λ v. v w.finish ≡ every (map v done))
    → Makes (3 * length passes + 3) (start ∷ pass ∷ w.finish ∷ passes ++ done) two new w.sources (HoldsNext start pass w.finish passes done w.sources)
    → Waits start pass passes finishes latches old new w
waited start pass passes finishes latches done w old one two new some width size all_size d f s =
    let df = Makes-last d f d.reach in
    let n = length passes in
    record {
      adds = Adds-most (omega arith) (Adds-then df.adds s.adds);
      there = Adds-there (w.finish ∷ []) s.adds f.there 0 0 (omega arith);
      size = all_size;
      sources_there = s.there;
      over = Adds-over (w.finish ∷ []) s.adds df.reach 0 0 (omega arith);
      finish = λ trace h e t.
          let earlier = Adds-extends s.adds trace h e in
          let both = df.value trace h earlier t in
          both.1 ∙ ap every both.0 ∙ ap (λ m. every (map (done_at finishes latches (h t)) (range_with_len 0 m))) width;
      next = λ trace h e t i within.
          let earlier = Adds-extends s.adds trace h e in
          let both = df.value trace h earlier t in
          bit_at (h t) w.sources _ n i all_size (s.value trace h e t) within
          ∙ ap (λ x. ((h t start && not (h t pass)) && h t (get_or passes i 0)) || (not (h t w.finish) && x)) (bit_at (h t) done (done_at finishes latches (h t)) (length finishes) i size both.0 (omega arith));
    }
