-- The rules of a valid netlist.
use Rattle.std.specs.Prelude.{◌≡◌, ◌≢◌, ◌<◌, ◌≤◌, ℕ, ◌+◌, ◌*◌, ◌^◌, List, [], length, Some, slice_get, All}
use Rattle.hc_num.specs.Index.{index_width}
use Rattle.hc_net.specs.declared.net.Port.{Port}
use Rattle.hc_net.specs.declared.net.Port.TheVariants.{Input, Output}
use Rattle.hc_net.specs.declared.net.Flop.{Flop}
use Rattle.hc_net.specs.declared.net.Cell.{Cell}
use Rattle.hc_net.specs.declared.net.Cell.TheVariants.{Zero, One, Not, And, Or, Xor, Ram}
use Rattle.hc_net.specs.declared.net.RawNet.{RawNet}
use Rattle.hc_net.specs.declared.ram.RamCell.{RamCell}
use Rattle.hc_net.specs.declared.valid.Validity.{Validity}
use Rattle.hc_net.specs.declared.valid.Validity.TheVariants.{V1, V2, V3, V4, V5}
use Rattle.hc_net.specs.Run.{cell_net, net_count, rams_of}

abbrev pub port_name : Port → List ℕ
port_name (Input name width pins) = name
port_name (Output name width pins from) = name

-- a width from 1 to 128, and pins for all bits or none
pub record HasSizes (width : ℕ) (pins : List (List ℕ)) : Type 0 where
  pub least : 1 ≤ width
  pub most : width ≤ 128
  pub pinned : pins ≢ [] → length pins ≡ width

abbrev pub PortHasSizes : Port → Type 0
PortHasSizes (Input name width pins) = HasSizes width pins
PortHasSizes (Output name width pins from) = HasSizes width pins

-- an output has a net for each bit, below n
abbrev pub PortReadsBelow : ℕ → Port → Type 0
PortReadsBelow n (Input name width pins) = Unit {0}
PortReadsBelow n (Output name width pins from) = (length from ≡ width) × All (λ k. k < n) from

-- a gate reads nets below n, and so do the address nets of a RAM
abbrev pub CellReadsBelow : ℕ → Cell → Type 0
CellReadsBelow n Zero = Unit {0}
CellReadsBelow n One = Unit {0}
CellReadsBelow n (Not a) = a < n
CellReadsBelow n (And a b) = (a < n) × (b < n)
CellReadsBelow n (Or a b) = (a < n) × (b < n)
CellReadsBelow n (Xor a b) = (a < n) × (b < n)
CellReadsBelow n (Ram r) = All (λ k. k < n) r.addr

-- all nets that a cell reads are below n
abbrev pub CellReadsWithin : ℕ → Cell → Type 0
CellReadsWithin n Zero = Unit {0}
CellReadsWithin n One = Unit {0}
CellReadsWithin n (Not a) = a < n
CellReadsWithin n (And a b) = (a < n) × (b < n)
CellReadsWithin n (Or a b) = (a < n) × (b < n)
CellReadsWithin n (Xor a b) = (a < n) × (b < n)
CellReadsWithin n (Ram r) = All (λ k. k < n) r.addr × (r.we < n) × All (λ k. k < n) r.d

-- a RAM has a width from 1 to 128, 1 or more words, at most 65,536 bits, and as many nets and first bits as these ask
pub record RamHasSizes (r : RamCell) : Type 0 where
  pub least : 1 ≤ r.width
  pub most : r.width ≤ 128
  pub some : 1 ≤ r.words
  pub few : r.words * r.width ≤ 65536
  pub addr : length r.addr ≡ index_width r.words
  pub d : length r.d ≡ r.width
  pub init : length r.init ≡ r.words * r.width

-- V1: the nets that are read are there, an output has a net for each bit, and there are fewer than 2^32 nets and ports.
pub record KeepsV1 (raw : RawNet) : Type 0 where
  pub outputs : All (PortReadsBelow (net_count raw)) raw.ports
  pub fed : All (λ f. f.d < net_count raw) raw.flops
  pub cells : All (CellReadsWithin (net_count raw)) raw.cells
  pub few_nets : net_count raw < 2 ^ 32
  pub few_ports : length raw.ports < 2 ^ 32

-- V3: a gate reads nets of smaller numbers alone, and a RAM's address nets have smaller numbers than its outputs.
pub record KeepsV3 (raw : RawNet) : Type 0 where
  pub earlier : (j : ℕ) (c : Cell) → slice_get raw.cells j ≡ Some c → CellReadsBelow (cell_net raw j) c

-- V4: RAMs have their sizes.
pub record KeepsV4 (raw : RawNet) : Type 0 where
  pub rams : All RamHasSizes (rams_of raw.cells)

-- V5: ports have their widths and pins, and no two ports, flip-flops or RAMs have one name.
pub record KeepsV5 (raw : RawNet) : Type 0 where
  pub sizes : All PortHasSizes raw.ports
  pub port_names : (i j : ℕ) (p q : Port) → i < j → slice_get raw.ports i ≡ Some p → slice_get raw.ports j ≡ Some q → port_name p ≢ port_name q
  pub flop_names : (i j : ℕ) (f g : Flop) → i < j → slice_get raw.flops i ≡ Some f → slice_get raw.flops j ≡ Some g → f.name ≢ g.name
  pub ram_names : (i j : ℕ) (r s : RamCell) → i < j → slice_get (rams_of raw.cells) i ≡ Some r → slice_get (rams_of raw.cells) j ≡ Some s → r.object ≢ s.object

-- A netlist keeps a rule. V2, that each pin stands in one net, can't be broken by these data: it is a rule of texts.
abbrev pub Keeps : Validity → RawNet → Type 0
Keeps V1 raw = KeepsV1 raw
Keeps V2 raw = Unit {0}
Keeps V3 raw = KeepsV3 raw
Keeps V4 raw = KeepsV4 raw
Keeps V5 raw = KeepsV5 raw

-- none of V1 to V5 is broken
pub record IsValid (raw : RawNet) : Type 0 where
  pub v1 : KeepsV1 raw
  pub v3 : KeepsV3 raw
  pub v4 : KeepsV4 raw
  pub v5 : KeepsV5 raw

-- this rule is the first of V1 to V5 that is broken
abbrev pub IsFirstBroken : Validity → RawNet → Type 0
IsFirstBroken V1 raw = KeepsV1 raw → ⊥
IsFirstBroken V2 raw = ⊥
IsFirstBroken V3 raw = KeepsV1 raw × (KeepsV3 raw → ⊥)
IsFirstBroken V4 raw = KeepsV1 raw × KeepsV3 raw × (KeepsV4 raw → ⊥)
IsFirstBroken V5 raw = KeepsV1 raw × KeepsV3 raw × KeepsV4 raw × (KeepsV5 raw → ⊥)
