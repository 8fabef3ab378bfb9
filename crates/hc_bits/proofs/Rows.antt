-- A row of gates of one kind, and the digits that carries give.
use Rattle.std.proofs.Common.{◌≡◌, ℕ, suc, ◌+◌, ◌<◌, ◌≤◌, Bool, false, List, [], ◌∷◌, ◌++◌, length, map, take, drop, get_or, refl, ap, sym, subst, ◌∙◌, arith}
use Rattle.std.specs.Prelude.{All, not}
use Rattle.std.proofs.lemmas.List.{take_all, length-map, map_push, get_or-map, length_push}
use Rattle.std.proofs.lemmas.List.Elements.{All-nil, All-cons, All-append, All-tail, All-head}
use Rattle.hc_net.specs.Circuit.{Circuit, with_node}
use Rattle.hc_net.specs.Gate.{gate_bit, differ}
use Rattle.hc_net.specs.Made.{Over, Makes}
use Rattle.hc_net.specs.MadeLemmas.{GateOver, Makes-gate, Makes-none, Makes-then, Makes-holds, Makes-as, Over-self, Over-left, Adds-longer}
use Rattle.hc_net.specs.declared.node.Node.{Node}
use Rattle.hc_net.specs.declared.node.Node.TheVariants.{Gate}
use Rattle.hc_net.specs.declared.gate.GateKind.{GateKind}
use Rattle.hc_net.specs.declared.gate.GateKind.TheVariants as kind
use Rattle.hc_bits.specs.Carry.{each, carries, digits}
use Rattle.hc_bits.proofs.Carries.{each-more, turned, lowest_passes}
use Rattle.hc_bits.proofs.Parts.{Over-right, Makes-wider}

over_both : (nodes : List Node) (args : List ℕ) (g : GateKind) (a b : ℕ) → Over nodes args a → Over nodes args b → GateOver nodes args g a b
over_both nodes args kind.Zero a b p q = tt
over_both nodes args kind.One a b p q = tt
over_both nodes args kind.Not a b p q = p
over_both nodes args kind.And a b p q = (p, q)
over_both nodes args kind.Or a b p q = (p, q)
over_both nodes args kind.Xor a b p q = (p, q)

-- the row up to place i
pub record EachMade (old new : Circuit) (g : GateKind) (x y z : List ℕ) (i : ℕ) : Type 0 where
  pub width : length z ≡ i
  pub makes : Makes i (x ++ y) old new z (λ v. map v z ≡ each (gate_bit g) (take i (map v x)) (map v y))

pub each_none : (c : Circuit) (g : GateKind) (x y : List ℕ) → EachMade c c g x y [] 0
each_none c g x y = record {
  width = refl;
  makes = Makes-holds (Makes-none c (x ++ y) [] (All-nil _) (All-nil _)) (omega arith) (λ v h. refl);
}

pub each_more : (old mid new : Circuit) (g : GateKind) (x y z : List ℕ) (i net : ℕ) → EachMade old mid g x y z i → i < length x → length x ≤ length y
    → (net ≡ length mid.nodes) × (new ≡ with_node mid (Gate g (get_or x i 0) (get_or y i 0)))
    → EachMade old new g x y (z ++ net ∷ []) (i + 1)
each_more old mid new g x y z i net e hx le p =
    let hy : i < length y = omega arith in
    let gate = Makes-gate (x ++ y) mid new g (get_or x i 0) (get_or y i 0) net p.0 p.1 (over_both _ _ g _ _ (Over-left x y i 0 hx) (Over-right x y i 0 hy)) in
    record {
      width = length_push z net ∙ ap (λ n. n + 1) e.width;
      makes = Makes-holds (Makes-then e.makes gate (Over-self (x ++ y))) (omega arith) (λ v h. pushed v hy h.0 h.1);
    }
  where
    pushed : (v : ℕ → Bool) → i < length y → map v z ≡ each (gate_bit g) (take i (map v x)) (map v y) → v net ≡ gate_bit g (v (get_or x i 0)) (v (get_or y i 0))
        → map v (z ++ net ∷ []) ≡ each (gate_bit g) (take (i + 1) (map v x)) (map v y)
    pushed v hy front here =
        let more = each-more (gate_bit g) i (map v x) (map v y) false (omega (arith, length-map x v)) (omega (arith, length-map y v)) in
        let at_x = get_or-map v x i 0 false hx in
        let at_y = get_or-map v y i 0 false hy in
        let push = map_push v z net in
        cc

pub each_done : (old new : Circuit) (g : GateKind) (x y z : List ℕ) → EachMade old new g x y z (length x)
    → Makes (length x) (x ++ y) old new z (λ v. map v z ≡ each (gate_bit g) (map v x) (map v y))
each_done old new g x y z e =
    Makes-holds e.makes (omega arith) (λ v h. h ∙ ap (λ l. each (gate_bit g) l (map v y)) (take_all (length x) (map v x) (omega (arith, length-map x v))))

-- ---- digits

-- a net of those before below the nets of a circuit
with_lowest : {m n : ℕ} {args few : List ℕ} {old new : Circuit} {holds so : (ℕ → Bool) → Type 0} (lowest : ℕ) (nets : List ℕ) → Makes m few old new nets holds → m ≤ n
    → lowest < length old.nodes → Over new.nodes args lowest → All (Over new.nodes args) few → ((v : ℕ → Bool) → holds v → so v) → Makes n args old new (lowest ∷ nets) so
with_lowest {args = args} {new = new} lowest nets made le there over all follows =
    let wide = Makes-wider {wide = args} made all in
    let longer = Adds-longer made.adds in
    Makes-as wide le (All-cons (λ k. k < length new.nodes) lowest nets (omega arith) made.there) (All-cons (Over new.nodes args) lowest nets over wide.reach) follows

pub digits_made : (old new : Circuit) (s rest c changed z : List ℕ) → rest ≡ drop 1 s → length s ≡ length c + 1 → z ≡ get_or s 0 0 ∷ changed → All (λ k. k < length old.nodes) s
    → Makes (length rest) (rest ++ c) old new changed (λ v. map v changed ≡ each differ (map v rest) (map v c))
    → Makes (length c) (s ++ c) old new z (λ v. map v z ≡ digits (map v s) (map v c))
digits_made old new [] rest c changed z rest_is width z_is there m = absurd (omega (arith, width))
digits_made old new (lowest ∷ above) rest c changed z rest_is width z_is there m =
    subst (λ (l : List ℕ). Makes (length c) (lowest ∷ above ++ c) old new l (λ v. map v l ≡ digits (map v (lowest ∷ above)) (map v c))) (sym z_is)
    (with_lowest lowest changed (subst (λ (r : List ℕ). Makes (length r) (r ++ c) old new changed (λ v. map v changed ≡ each differ (map v r) (map v c))) rest_is m) (omega (arith, width))
    (there 0 0 (omega arith)) (All-head (Over new.nodes (lowest ∷ above ++ c)) lowest (above ++ c) (Over-self (lowest ∷ above ++ c))) (All-tail (Over new.nodes (lowest ∷ above ++ c)) lowest (above ++ c) (Over-self (lowest ∷ above ++ c)))
    (λ v h. ap (λ l. v lowest ∷ l) h))

-- ---- what passes a borrow on

pub passing_made : (old new : Circuit) (s rest others z : List ℕ) → rest ≡ drop 1 s → 1 ≤ length s → z ≡ get_or s 0 0 ∷ others → All (λ k. k < length old.nodes) s
    → Makes (length rest) (rest ++ rest) old new others (λ v. map v others ≡ each (λ x y. not x) (map v rest) (map v rest))
    → Makes (length s) s old new z (λ v. (gs : List Bool) → carries false gs (map v z) ≡ carries false gs (turned (map v s)))
passing_made old new [] rest others z rest_is some z_is there m = absurd (omega (arith, some))
passing_made old new (lowest ∷ above) rest others z rest_is some z_is there m =
    let args = lowest ∷ above in
    let tail = All-tail (Over new.nodes args) lowest above (Over-self args) in
    subst (λ (l : List ℕ). Makes (suc (length above)) (lowest ∷ above) old new l (λ v. (gs : List Bool) → carries false gs (map v l) ≡ carries false gs (turned (v lowest ∷ map v above)))) (sym z_is)
    (with_lowest lowest others (subst (λ (r : List ℕ). Makes (length r) (r ++ r) old new others (λ v. map v others ≡ turned (map v r))) rest_is m) (omega arith)
    (there 0 0 (omega arith)) (All-head (Over new.nodes args) lowest above (Over-self args)) (All-append (Over new.nodes args) above above tail tail)
    (λ v h gs. ap (λ l. carries false gs (v lowest ∷ l)) h ∙ lowest_passes gs (turned (map v above)) (v lowest) (not (v lowest))))
