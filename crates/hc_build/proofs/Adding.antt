-- Nodes that are added behind others, and their nets.
use Rattle.std.proofs.Common.{◌≡◌, ℕ, zero, suc, ◌+◌, List, [], ◌∷◌, ◌++◌, length, sym, ap, ◌∙◌, subst, arith, append_assoc, length-append}
use Rattle.std.specs.List.{range_with_len}
use Rattle.std.proofs.lemmas.List.{length_push}
use Rattle.hc_net.specs.Circuit.{Circuit, with_node}
use Rattle.hc_net.specs.declared.node.Node.{Node}
use Rattle.hc_build.specs.Objects.{AddsNodes}

-- numbers in a row: one more, and two rows
pub range_more : (a n : ℕ) → range_with_len a (n + 1) ≡ range_with_len a n ++ (a + n) ∷ []
range_more a zero = ap (λ k. k ∷ []) (let e : a ≡ a + 0 = omega arith in e)
range_more a (suc n) =
    ap (range_with_len a) (let e : suc n + 1 ≡ suc (n + 1) = omega arith in e)
    ∙ ap (λ l. a ∷ l) (range_more (a + 1) n ∙ ap (λ k. range_with_len (a + 1) n ++ k ∷ []) (let e : a + 1 + n ≡ a + suc n = omega arith in e))

pub range_append : (a m n : ℕ) → range_with_len a (m + n) ≡ range_with_len a m ++ range_with_len (a + m) n
range_append a zero n =
    ap (range_with_len a) (let e : 0 + n ≡ n = omega arith in e) ∙ ap (λ k. range_with_len k n) (let e : a ≡ a + 0 = omega arith in e)
range_append a (suc m) n =
    ap (range_with_len a) (let e : suc m + n ≡ suc (m + n) = omega arith in e)
    ∙ ap (λ l. a ∷ l) (range_append (a + 1) m n ∙ ap (λ k. range_with_len (a + 1) m ++ range_with_len k n) (let e : a + 1 + m ≡ a + suc m = omega arith in e))

-- how many nodes there are then
pub adds_size : (nodes : List Node) (before nets : List ℕ) (old now : Circuit) → AddsNodes nodes before old now nets → length now.nodes ≡ length old.nodes + length nodes
adds_size nodes before nets old now m = ap (λ (c : Circuit). length c.nodes) m.adds ∙ length-append old.nodes nodes

-- one node more
pub adds_push : (nodes : List Node) (node : Node) (before nets nets' : List ℕ) (net : ℕ) (old now new : Circuit) → AddsNodes nodes before old now nets
    → net ≡ length now.nodes → new ≡ with_node now node → nets' ≡ nets ++ net ∷ [] → AddsNodes (nodes ++ node ∷ []) before old new nets'
adds_push nodes node before nets nets' net old now new m at is pushed =
    let start : ℕ = length old.nodes in
    let place : net ≡ start + length nodes = at ∙ adds_size nodes before nets old now m in
    record {
      adds = is ∙ ap (λ (c : Circuit). with_node c node) m.adds ∙ (λ i. record { clock = old.clock; ports = old.ports; nodes = append_assoc old.nodes nodes (node ∷ []) i });
      nets_are = pushed ∙ ap (λ l. l ++ net ∷ []) m.nets_are ∙ append_assoc before (range_with_len start (length nodes)) (net ∷ [])
          ∙ ap (λ l. before ++ l) (ap (λ k. range_with_len start (length nodes) ++ k ∷ []) place ∙ sym (range_more start (length nodes)) ∙ ap (range_with_len start) (sym (length_push nodes node)));
    }

-- nodes behind nodes
pub adds_append : (xs ys : List Node) (before nets nets' : List ℕ) (old mid new : Circuit) → AddsNodes xs before old mid nets → AddsNodes ys nets mid new nets'
    → AddsNodes (xs ++ ys) before old new nets'
adds_append xs ys before nets nets' old mid new a b =
    let start : ℕ = length old.nodes in
    let middle : length mid.nodes ≡ start + length xs = adds_size xs before nets old mid a in
    record {
      adds = b.adds ∙ ap (λ (c : Circuit). record { clock = c.clock; ports = c.ports; nodes = c.nodes ++ ys }) a.adds ∙ (λ i. record { clock = old.clock; ports = old.ports; nodes = append_assoc old.nodes xs ys i });
      nets_are = b.nets_are ∙ ap (λ l. l ++ range_with_len (length mid.nodes) (length ys)) a.nets_are
          ∙ append_assoc before (range_with_len start (length xs)) (range_with_len (length mid.nodes) (length ys))
          ∙ ap (λ l. before ++ l) (ap (λ k. range_with_len start (length xs) ++ range_with_len k (length ys)) middle ∙ sym (range_append start (length xs) (length ys)) ∙ ap (range_with_len start) (sym (length-append xs ys)));
    }

-- the same nodes by another name
pub adds_as : {xs ys : List Node} {before nets : List ℕ} {old new : Circuit} → xs ≡ ys → AddsNodes xs before old new nets → AddsNodes ys before old new nets
adds_as {before = before} {nets = nets} {old = old} {new = new} same m = subst (λ (l : List Node). AddsNodes l before old new nets) same m
