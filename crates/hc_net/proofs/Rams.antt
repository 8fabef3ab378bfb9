-- The nodes of RAMs among the nodes of a builder, as nodes are added and connected.
use Rattle.std.proofs.Common.{◌≡◌, ◌<◌, ◌≤◌, ℕ, zero, suc, ◌+◌, ◌-◌, ◌^◌, ◌⊎◌, List, [], ◌∷◌, ◌++◌, length, replicate, Option, Some, None, set, refl, ap, sym, ◌∙◌, subst, inl, inr, arith, length-append}
use Rattle.std.specs.Prelude.{All}
use Rattle.std.proofs.lemmas.List.{get_or_append_left, get_or-append_right, get_or_past, get_or-set_same, get_or-set_other, length-set}
use Rattle.std.proofs.lemmas.Bool.{cases_lt, cases_eq}
use Rattle.hc_net.specs.Circuit.{node_at, input_bits_of, flops_of, nets_of_cells, last_rank, reading, IsAlone, HasAddress, AreRams}
use Rattle.hc_net.specs.declared.ram.RamCell.{RamCell}
use Rattle.hc_net.specs.declared.node.Node.{Node}
use Rattle.hc_net.specs.declared.node.Node.TheVariants.{Input, Flop, Wire, Gate, Ram}
use Rattle.hc_net.proofs.Lists.{input_bits_of-append, flops_of-append, nets_of_cells-append, node_at-append, node_at_past, input_bits_of-connected, flops_of-connected, nets_of_cells-connected}

-- no part of a RAM
abbrev pub Plain : Node → Type 0
Plain (Input p i) = Unit {0}
Plain (Flop name init d) = Unit {0}
Plain (Wire rank from) = rank ≤ last_rank
Plain (Gate g a b) = Unit {0}
Plain (Ram rank first ram) = ⊥

plain_alone : (n : Node) → IsAlone n → Plain n
plain_alone (Input p i) a = tt
plain_alone (Flop name init d) a = tt
plain_alone (Wire rank from) a = a
plain_alone (Gate g x y) a = tt
plain_alone (Ram rank first ram) a = absurd a

plain_few : (ys : List Node) → ((k : ℕ) → Plain (node_at ys k)) → length (input_bits_of ys) + length (flops_of ys) + nets_of_cells ys ≤ length ys
plain_few [] p = omega arith
plain_few (Input q i ∷ ys) p = omega (arith, plain_few ys (λ k. p (suc k)))
plain_few (Flop name init d ∷ ys) p = omega (arith, plain_few ys (λ k. p (suc k)))
plain_few (Wire rank from ∷ ys) p = omega (arith, plain_few ys (λ k. p (suc k)))
plain_few (Gate g a b ∷ ys) p = omega (arith, plain_few ys (λ k. p (suc k)))
plain_few (Ram rank first ram ∷ ys) p = absurd (p 0)

-- a node of a RAM and a placeholder that is there stay
pub ram_kept : (xs ys : List Node) (k rank first : ℕ) (ram : Option RamCell) → node_at xs k ≡ Ram rank first ram → node_at (xs ++ ys) k ≡ Ram rank first ram
ram_kept xs ys k rank first ram is = elim (cases_lt k (length xs)) [
  | inl low ↦ node_at-append xs ys k low ∙ is
  | inr high ↦ let gone = node_at_past xs k high in absurd cc
]

pub ram_inside : (xs : List Node) (k rank first : ℕ) (ram : Option RamCell) → node_at xs k ≡ Ram rank first ram → k < length xs
ram_inside xs k rank first ram is = elim (cases_lt k (length xs)) [
  | inl low ↦ low
  | inr high ↦ let gone = node_at_past xs k high in absurd cc
]

pub address_kept : (xs ys : List Node) (k rank : ℕ) (addr : List ℕ) → k ≤ length xs → HasAddress xs k rank addr → HasAddress (xs ++ ys) k rank addr
address_kept xs ys k rank addr within has i d inside =
    let a = has i d inside in
    (a.0, (a.1.0, node_at-append xs ys _ (let low = a.0 in omega arith) ∙ a.1.1))

-- the node at a place among two lists
pub behind : (xs ys : List Node) (k : ℕ) → length xs ≤ k → node_at (xs ++ ys) k ≡ node_at ys (k - length xs)
behind xs ys k high = get_or-append_right xs ys (length xs) k _ refl high

pub few_both : (xs ys : List Node) → length (input_bits_of xs) + length (flops_of xs) + nets_of_cells xs ≤ length xs → length (input_bits_of ys) + length (flops_of ys) + nets_of_cells ys ≤ length ys
    → length (input_bits_of (xs ++ ys)) + length (flops_of (xs ++ ys)) + nets_of_cells (xs ++ ys) ≤ length (xs ++ ys)
few_both xs ys one two =
    let i = ap length (input_bits_of-append xs ys) ∙ length-append (input_bits_of xs) (input_bits_of ys) in
    let f = ap length (flops_of-append xs ys) ∙ length-append (flops_of xs) (flops_of ys) in
    let n = nets_of_cells-append xs ys in
    omega (arith, length-append xs ys)

plain_no_ram : (n : Node) (rank first : ℕ) (ram : Option RamCell) → Plain n → n ≡ Ram rank first ram → ⊥
plain_no_ram n rank first ram p is = subst Plain is p

-- nodes behind others, none of them a part of a RAM
pub AreRams-plain : (xs ys : List Node) → AreRams xs → ((k : ℕ) → Plain (node_at ys k)) → AreRams (xs ++ ys)
AreRams-plain xs ys r plain =
    let not_behind : (k rank first : ℕ) (ram : Option RamCell) → node_at (xs ++ ys) k ≡ Ram rank first ram → (k < length xs) × (node_at xs k ≡ Ram rank first ram) =
    λ k rank first ram is. elim (cases_lt k (length xs)) [
      | inl low ↦ (low, sym (node_at-append xs ys k low) ∙ is)
      | inr high ↦ absurd (plain_no_ram _ rank first ram (plain (k - length xs)) (sym (behind xs ys k high) ∙ is))
    ] in
    record {
      first = λ k rank first ram is.
          let at = not_behind k rank first (Some ram) is in
          let f = r.first k rank first ram at.1 in
          (f.0, f.1, address_kept xs ys k rank ram.addr (let low = at.0 in omega arith) f.2);
      other = λ k rank first is.
          let at = not_behind k rank first None is in
          let o = r.other k rank first at.1 in
          (o.0, ram_kept xs ys first rank first (Some o.0) o.1, o.2, o.3);
      all = λ k rank first ram i is some within.
          let at = not_behind k rank first (Some ram) is in
          ram_kept xs ys (k + i) rank k None (r.all k rank first ram i at.1 some within);
      ranks = λ k rank from is. elim (cases_lt k (length xs)) [
        | inl low ↦ r.ranks k rank from (sym (node_at-append xs ys k low) ∙ is)
        | inr high ↦ subst Plain (sym (behind xs ys k high) ∙ is) (plain (k - length xs))
      ];
      few = few_both xs ys r.few (plain_few ys plain);
    }

alone_plain : (node : Node) (k : ℕ) → IsAlone node → Plain (node_at (node ∷ []) k)
alone_plain node zero a = plain_alone node a
alone_plain node (suc k) a = omega arith

pub AreRams-alone : (xs : List Node) (node : Node) → AreRams xs → IsAlone node → AreRams (xs ++ node ∷ [])
AreRams-alone xs node r alone = AreRams-plain xs (node ∷ []) r (λ k. alone_plain node k alone)

-- ---- a node is connected

-- a node without what it reads
abbrev bare : Node → Node
bare (Input p i) = Input p i
bare (Flop name init d) = Flop name init None
bare (Wire rank from) = Wire rank None
bare (Gate g a b) = Gate g a b
bare (Ram rank first ram) = Ram rank first ram

bare-reading : (d : ℕ) (n : Node) → bare (reading d n) ≡ bare n
bare-reading d (Input p i) = refl
bare-reading d (Flop name init x) = refl
bare-reading d (Wire rank x) = refl
bare-reading d (Gate g a b) = refl
bare-reading d (Ram rank first ram) = refl

bare_ram : (n : Node) (rank first : ℕ) (ram : Option RamCell) → bare n ≡ Ram rank first ram → n ≡ Ram rank first ram
bare_ram (Input p i) rank first ram e = absurd cc
bare_ram (Flop name init d) rank first ram e = absurd cc
bare_ram (Wire r from) rank first ram e = absurd cc
bare_ram (Gate g a b) rank first ram e = absurd cc
bare_ram (Ram r f m) rank first ram e = e

bare_wire : (n : Node) (rank : ℕ) → bare n ≡ Wire rank None → (from : Option ℕ) × (n ≡ Wire rank from)
bare_wire (Input p i) rank e = absurd cc
bare_wire (Flop name init d) rank e = absurd cc
bare_wire (Wire r from) rank e = (from, let same : r ≡ rank = cc in ap (λ (q : ℕ). Wire q from) same)
bare_wire (Gate g a b) rank e = absurd cc
bare_wire (Ram r f m) rank e = absurd cc

bare_connected : (xs : List Node) (k d j : ℕ) → bare (node_at (set xs k (reading d (node_at xs k))) j) ≡ bare (node_at xs j)
bare_connected [] k d j = refl
bare_connected (x ∷ xs) zero d zero = bare-reading d x
bare_connected (x ∷ xs) zero d (suc j) = refl
bare_connected (x ∷ xs) (suc k) d zero = refl
bare_connected (x ∷ xs) (suc k) d (suc j) = bare_connected xs k d j

module _ (xs : List Node) (k d : ℕ) where
  abbrev ys : List Node
  ys = set xs k (reading d (node_at xs k))

  ram_before : (j rank first : ℕ) (ram : Option RamCell) → node_at ys j ≡ Ram rank first ram → node_at xs j ≡ Ram rank first ram
  ram_before j rank first ram is = bare_ram (node_at xs j) rank first ram (sym (bare_connected xs k d j) ∙ ap bare is)

  ram_after : (j rank first : ℕ) (ram : Option RamCell) → node_at xs j ≡ Ram rank first ram → node_at ys j ≡ Ram rank first ram
  ram_after j rank first ram is = bare_ram (node_at ys j) rank first ram (bare_connected xs k d j ∙ ap bare is)

  pub AreRams-connected : AreRams xs → AreRams ys
  AreRams-connected r = record {
    first = λ j rank first ram is.
        let f = r.first j rank first ram (ram_before j rank first (Some ram) is) in
        (f.0, f.1, λ i e inside. let a = f.2 i e inside in (a.0, bare_wire _ rank (bare_connected xs k d _ ∙ ap bare a.1.1)));
    other = λ j rank first is.
        let o = r.other j rank first (ram_before j rank first None is) in
        (o.0, ram_after first rank first (Some o.0) o.1, o.2, o.3);
    all = λ j rank first ram i is some within. ram_after (j + i) rank j None (r.all j rank first ram i (ram_before j rank first (Some ram) is) some within);
    ranks = λ j rank from is.
        let w = bare_wire (node_at xs j) rank (sym (bare_connected xs k d j) ∙ ap bare is) in
        r.ranks j rank w.0 w.1;
    few = omega (arith, length-set xs k (reading d (node_at xs k)), ap length (input_bits_of-connected xs k d), flops_of-connected xs k d, nets_of_cells-connected xs k d, r.few);
  }
