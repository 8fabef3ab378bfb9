-- What the lists of pins mean from which the nets of the EDIF text are written.
use Rattle.std.specs.Prelude.{◌≡◌, ◌+◌, ◌<◌, ◌≤◌, ℕ, List, [], ◌∷◌, ◌++◌, length, codes, decimal}
use Rattle.std.specs.List.{flat_map}
use Rattle.hc_net.specs.declared.net.Flop.{Flop}
use Rattle.hc_net.specs.declared.net.Port.{Port}
use Rattle.hc_net.specs.declared.net.Port.TheVariants.{Input, Output}
use Rattle.hc_run.specs.declared.edif.pins.Pin.{Pin}
use Rattle.hc_run.specs.declared.edif.pins.Pin.TheVariants.{PortBit, FlopD, FlopQ, FlopC, GateA, GateB, GateY, RamQ, RamA, RamD, RamWe, RamC}
use Rattle.hc_run.specs.declared.edif.pins.Reader.{Reader}
use Rattle.hc_net.specs.declared.net.RawNet.{RawNet}
use Rattle.hc_net.specs.declared.ram.RamCell.{RamCell}
use Rattle.hc_net.specs.Run.{cell_base}
use Rattle.hc_run.specs.Edif.{each_from, each_cell, port_id, flop_id, gate_id, ram_id, ram_pin, port_ref, pin_ref, of_net, head_lines, ram_cell_lines, main_lines, contents_lines, tail_lines, clock_line, port_lines, flop_line, cell_line, clock_net, numbered_net, readers, drivers}

-- how a net names a pin
unfoldable pub ref_of : Pin → List ℕ
ref_of (PortBit port bit) = port_ref (port_id port bit)
ref_of (FlopD name) = pin_ref (codes "d") (flop_id name)
ref_of (FlopQ name) = pin_ref (codes "q") (flop_id name)
ref_of (FlopC name) = pin_ref (codes "c") (flop_id name)
ref_of (GateA net) = pin_ref (codes "a") (gate_id net)
ref_of (GateB net) = pin_ref (codes "b") (gate_id net)
ref_of (GateY net) = pin_ref (codes "y") (gate_id net)
ref_of (RamQ object bit) = pin_ref (ram_pin (codes "q") bit) (ram_id object)
ref_of (RamA object bit) = pin_ref (ram_pin (codes "a") bit) (ram_id object)
ref_of (RamD object bit) = pin_ref (ram_pin (codes "d") bit) (ram_id object)
ref_of (RamWe object) = pin_ref (codes "we") (ram_id object)
ref_of (RamC object) = pin_ref (codes "c") (ram_id object)

-- the net that a pin reads, with the pin's name
abbrev pub read_by : Reader → ℕ × List ℕ
read_by r = (r.net, ref_of r.pin)

-- an output has a net for each bit
abbrev pub HasNets : Port → Type 0
HasNets (Input name width pins) = Unit {0}
HasNets (Output name width pins from) = length from ≡ width

-- the numbers of the nets that are read rise from n on
abbrev pub Rises : ℕ → List (ℕ × List ℕ) → Type 0
Rises n [] = Unit {0}
Rises n (r ∷ rs) = (n ≤ r.0) × Rises r.0 rs

-- pins in the order of their nets, where those of one net keep their order
pub record IsOrdered (old new : List (ℕ × List ℕ)) : Type 0 where
  pub rises : Rises 0 new
  pub same : (n : ℕ) → of_net n new ≡ of_net n old

-- the pins that read net n stand in front, and behind them those of later nets
pub record IsSplit (n : ℕ) (whole front back : List (ℕ × List ℕ)) : Type 0 where
  pub here : of_net n whole ≡ front
  pub rises : Rises (n + 1) back
  pub later : (m : ℕ) → n < m → of_net m back ≡ of_net m whole

-- how many bits all inputs have
abbrev pub input_width : Port → ℕ
input_width (Input name width pins) = width
input_width (Output name width pins from) = 0

abbrev pub input_total : List Port → ℕ
input_total [] = 0
input_total (port ∷ ports) = input_width port + input_total ports

-- the parts of a net's line: up to its driver, a pin after it, and the end
unfoldable pub net_head : ℕ → Pin → List ℕ
net_head n driver = codes "(net n" ++ decimal n ++ codes " (joined " ++ ref_of driver

unfoldable pub ref_part : Pin → List ℕ
ref_part pin = codes " " ++ ref_of pin

unfoldable pub clock_head : List ℕ
clock_head = codes "(net nc (joined (portRef clk)"

unfoldable pub net_end : List ℕ
net_end = codes "))\n"

-- a pin that reads a net in the net's line, and the clock's pins of a flip-flop and of a RAM in that of the clock
abbrev pub reader_part : Reader → List ℕ
reader_part r = ref_part r.pin

abbrev pub clock_part : Flop → List ℕ
clock_part f = ref_part (FlopC f.name)

abbrev pub ram_clock_part : RamCell → List ℕ
ram_clock_part r = ref_part (RamC r.object)

-- the line of net n with this driver and these readers
abbrev pub net_text : ℕ → Pin → List Reader → List ℕ
net_text n driver rs = net_head n driver ++ flat_map reader_part rs ++ net_end

-- that of the clock with the pins of these flip-flops and RAMs
abbrev pub clock_text : List Flop → List RamCell → List ℕ
clock_text flops rams = (clock_head ++ flat_map clock_part flops) ++ flat_map ram_clock_part rams ++ net_end

-- the library, up to the ports of the main cell
abbrev pub library_text : RawNet → List ℕ
library_text raw = head_lines ++ ram_cell_lines raw.cells ++ main_lines

-- three parts of the text: up to the ports, the instances, the nets
abbrev pub interface_text : RawNet → List ℕ
interface_text raw = library_text raw ++ clock_line raw.clock ++ each_from port_lines 0 raw.ports

abbrev pub instances_text : RawNet → List ℕ
instances_text raw = contents_lines ++ flat_map flop_line raw.flops ++ each_cell cell_line (cell_base raw) raw.cells

abbrev pub nets_text : RawNet → List ℕ
nets_text raw = clock_net raw ++ each_from (numbered_net (readers raw)) 0 (drivers raw) ++ tail_lines
