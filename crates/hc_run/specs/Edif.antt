-- The text of a netlist in EDIF 2 0 0 at level 0. The names of cells, ports, instances and nets are this project's own.
use Rattle.std.specs.Prelude.{ℕ, zero, suc, ◌+◌, ◌*◌, ◌/◌, ◌==◌, List, [], ◌∷◌, ◌++◌, length, map, Bool, true, false, Option, Some, None, slice_get, slice_index, slice_index_or, codes, decimal}
use Rattle.std.specs.List.{filter, flat_map, range_with_len}
use Rattle.std.specs.Ordering.{nat_cmp, ordering_then}
use Rattle.std.specs.declared.cmp.Ordering.{Ordering}
use Rattle.std.specs.BTreeSet.{insert_key}
use Rattle.hc_num.specs.Index.{index_width}
use Rattle.hc_net.specs.declared.net.Port.{Port}
use Rattle.hc_net.specs.declared.net.Port.TheVariants.{Input, Output}
use Rattle.hc_net.specs.declared.net.FlopName.{FlopName}
use Rattle.hc_net.specs.declared.net.FlopName.TheVariants.{Bit, Token}
use Rattle.hc_net.specs.declared.net.Flop.{Flop}
use Rattle.hc_net.specs.declared.net.Cell.{Cell}
use Rattle.hc_net.specs.declared.net.Cell.TheVariants.{Zero, One, Not, And, Or, Xor, Ram}
use Rattle.hc_net.specs.declared.net.RawNet.{RawNet}
use Rattle.hc_net.specs.declared.ram.RamCell.{RamCell}
use Rattle.hc_net.specs.Bits.{number}
use Rattle.hc_net.specs.Run.{cell_base, cell_width, rams_of}
use Rattle.hc_net.specs.Valid.{port_name}

-- what f gives of each element and its number, counted from n, one after the other
abbrev pub each_from : {X A : Type 0} → (ℕ → X → List A) → ℕ → List X → List A
each_from f n [] = []
each_from f n (x ∷ xs) = f n x ++ each_from f (n + 1) xs

-- what f gives of each cell and its first net, counted from n, one after the other
abbrev pub each_cell : {A : Type 0} → (ℕ → Cell → List A) → ℕ → List Cell → List A
each_cell f n [] = []
each_cell f n (c ∷ cells) = f n c ++ each_cell f (n + cell_width c) cells

-- ---- Names

-- the port of bit i of port k of the netlist, where inputs and outputs are counted together
unfoldable pub port_id : ℕ → ℕ → List ℕ
port_id k i = codes "p" ++ decimal k ++ codes "_" ++ decimal i

-- the instance of a flip-flop: a bit of an object, or a token
unfoldable pub flop_id : FlopName → List ℕ
flop_id (Bit object bit) = codes "R" ++ decimal object ++ codes "_" ++ decimal bit
flop_id (Token j) = codes "T" ++ decimal j

-- the instance of the gate whose output is net n
unfoldable pub gate_id : ℕ → List ℕ
gate_id n = codes "g" ++ decimal n

-- the instance of the RAM of an object
unfoldable pub ram_id : ℕ → List ℕ
ram_id object = codes "M" ++ decimal object

-- the cell of RAMs of n words of width w
unfoldable pub ram_cell : ℕ → ℕ → List ℕ
ram_cell n w = codes "HC_RAM_" ++ decimal n ++ codes "_" ++ decimal w

-- pin i of those pins of a RAM that have numbers: `a` of its address, `d` of its data, `q` of its outputs
unfoldable pub ram_pin : List ℕ → ℕ → List ℕ
ram_pin letter i = letter ++ decimal i

-- the cell of a flip-flop, by its initial bit
abbrev pub flop_cell : Bool → List ℕ
flop_cell false = codes "HC_DFF0"
flop_cell true = codes "HC_DFF1"

-- ---- The library, and how the main cell begins and ends

-- the cells of gates and flip-flops
unfoldable pub head_lines : List ℕ
head_lines =
    codes "(edif hc (edifVersion 2 0 0) (edifLevel 0) (keywordMap (keywordLevel 0))\n"
    ++ codes "(library hc (edifLevel 0) (technology (numberDefinition))\n"
    ++ codes "(cell HC_GND (cellType GENERIC) (view v (viewType NETLIST) (interface (port y (direction OUTPUT)))))\n"
    ++ codes "(cell HC_VCC (cellType GENERIC) (view v (viewType NETLIST) (interface (port y (direction OUTPUT)))))\n"
    ++ codes "(cell HC_INV (cellType GENERIC) (view v (viewType NETLIST) (interface (port y (direction OUTPUT)) (port a (direction INPUT)))))\n"
    ++ codes "(cell HC_AND2 (cellType GENERIC) (view v (viewType NETLIST) (interface (port y (direction OUTPUT)) (port a (direction INPUT)) (port b (direction INPUT)))))\n"
    ++ codes "(cell HC_OR2 (cellType GENERIC) (view v (viewType NETLIST) (interface (port y (direction OUTPUT)) (port a (direction INPUT)) (port b (direction INPUT)))))\n"
    ++ codes "(cell HC_XOR2 (cellType GENERIC) (view v (viewType NETLIST) (interface (port y (direction OUTPUT)) (port a (direction INPUT)) (port b (direction INPUT)))))\n"
    ++ codes "(cell HC_DFF0 (cellType GENERIC) (view v (viewType NETLIST) (interface (port q (direction OUTPUT)) (port d (direction INPUT)) (port c (direction INPUT)))))\n"
    ++ codes "(cell HC_DFF1 (cellType GENERIC) (view v (viewType NETLIST) (interface (port q (direction OUTPUT)) (port d (direction INPUT)) (port c (direction INPUT)))))\n"

-- a port of a cell, after one space
unfoldable pub cell_port : List ℕ → List ℕ → List ℕ
cell_port name direction = codes " (port " ++ name ++ codes " (direction " ++ direction ++ codes "))"

-- ports of a cell with the numbers below n
abbrev pub cell_ports : List ℕ → ℕ → List ℕ → List ℕ
cell_ports letter n direction = flat_map (λ i. cell_port (ram_pin letter i) direction) (range_with_len 0 n)

-- the cell of RAMs of n words of width w
unfoldable pub ram_cell_line : ℕ → ℕ → List ℕ
ram_cell_line n w =
    codes "(cell " ++ ram_cell n w ++ codes " (cellType GENERIC) (view v (viewType NETLIST) (interface"
    ++ cell_ports (codes "q") w (codes "OUTPUT")
    ++ cell_ports (codes "a") (index_width n) (codes "INPUT")
    ++ cell_ports (codes "d") w (codes "INPUT")
    ++ cell_port (codes "we") (codes "INPUT") ++ cell_port (codes "c") (codes "INPUT")
    ++ codes ")))\n"

-- the order of the shapes of RAMs: by the number of words, and then by the width
abbrev pub shape_order : ℕ × ℕ → ℕ × ℕ → Ordering
shape_order a b = ordering_then (nat_cmp a.0 b.0) (nat_cmp a.1 b.1)

-- shapes in their order, and those of more RAMs among them, each shape once
abbrev pub with_shapes : List (ℕ × ℕ) → List RamCell → List (ℕ × ℕ)
with_shapes shapes [] = shapes
with_shapes shapes (r ∷ rams) = with_shapes (insert_key shape_order shapes (r.words, r.width)) rams

-- a cell for each shape
abbrev pub shape_lines : List (ℕ × ℕ) → List ℕ
shape_lines shapes = flat_map (λ shape. ram_cell_line shape.0 shape.1) shapes

-- a cell for each shape of the RAMs
abbrev pub ram_cell_lines : List Cell → List ℕ
ram_cell_lines cells = shape_lines (with_shapes [] (rams_of cells))

unfoldable pub main_lines : List ℕ
main_lines = codes "(cell main (cellType GENERIC) (view v (viewType NETLIST) (interface\n"

unfoldable pub contents_lines : List ℕ
contents_lines = codes ")\n(contents\n"

unfoldable pub tail_lines : List ℕ
tail_lines = codes "))))\n(design main (cellRef main (libraryRef hc))))\n"

-- ---- Ports

-- the property of a pin, after one space
unfoldable pub pin_property : List ℕ → List ℕ
pin_property pin = codes " (property PIN (string \"" ++ pin ++ codes "\"))"

-- the clock's port, whose pin is the clock's label
unfoldable pub clock_line : List ℕ → List ℕ
clock_line clock = codes "(port clk (direction INPUT)" ++ pin_property clock ++ codes ")\n"

-- the property of a pin that may be missing
abbrev pub pin_part : Option (List ℕ) → List ℕ
pin_part None = []
pin_part (Some pin) = pin_property pin

-- a port's direction, after one space
unfoldable pub port_direction : Port → List ℕ
port_direction (Input name width pins) = codes " (direction INPUT)"
port_direction (Output name width pins from) = codes " (direction OUTPUT)"

abbrev pub port_width : Port → ℕ
port_width (Input name width pins) = width
port_width (Output name width pins from) = width

abbrev pub port_pins : Port → List (List ℕ)
port_pins (Input name width pins) = pins
port_pins (Output name width pins from) = pins

-- the property of the pin of bit i
unfoldable pub bit_pin : Port → ℕ → List ℕ
bit_pin port i = pin_part (slice_get (port_pins port) i)

-- the name of bit i of port k, with the text that it stands for
unfoldable pub bit_name : ℕ → Port → ℕ → List ℕ
bit_name k port i = codes "(rename " ++ port_id k i ++ codes " \"" ++ port_name port ++ codes "[" ++ decimal i ++ codes "]\")"

-- bit i of port k
unfoldable pub bit_line : ℕ → Port → ℕ → List ℕ
bit_line k port i =
    codes "(port " ++ bit_name k port i ++ port_direction port ++ bit_pin port i ++ codes ")\n"

-- the bits of port k, the lowest first
abbrev pub port_lines : ℕ → Port → List ℕ
port_lines k port = flat_map (bit_line k port) (range_with_len 0 (port_width port))

-- ---- Instances

-- an instance of a cell
abbrev pub instance_line : List ℕ → List ℕ → List ℕ
instance_line id cell = codes "(instance " ++ id ++ codes " (viewRef v (cellRef " ++ cell ++ codes ")))\n"

unfoldable pub flop_line : Flop → List ℕ
flop_line f = instance_line (flop_id f.name) (flop_cell f.init)

-- a hexadecimal digit
abbrev pub hex_digit : ℕ → ℕ
hex_digit n = slice_index (codes "0123456789abcdef") n

-- digit i of the number of some bits, the lowest being digit 0: of four bits, where those past the last are 0
abbrev pub digit_of : List Bool → ℕ → ℕ
digit_of bits i = hex_digit (number (map (λ b. slice_index_or bits (i * 4 + b) false) (range_with_len 0 4)))

-- the n lowest digits, the highest of them first
abbrev pub digits_of : List Bool → ℕ → List ℕ
digits_of bits zero = []
digits_of bits (suc i) = digit_of bits i ∷ digits_of bits i

-- the number of some bits, in as few digits as hold that many bits
abbrev pub hex_text : List Bool → List ℕ
hex_text bits = digits_of bits ((length bits + 3) / 4)

-- a RAM, with its first words
unfoldable pub ram_line : RamCell → List ℕ
ram_line r =
    codes "(instance " ++ ram_id r.object ++ codes " (viewRef v (cellRef " ++ ram_cell r.words r.width
    ++ codes ")) (property INIT (string \"" ++ hex_text r.init ++ codes "\")))\n"

-- the cell whose first output is net n
unfoldable pub cell_line : ℕ → Cell → List ℕ
cell_line n Zero = instance_line (gate_id n) (codes "HC_GND")
cell_line n One = instance_line (gate_id n) (codes "HC_VCC")
cell_line n (Not a) = instance_line (gate_id n) (codes "HC_INV")
cell_line n (And a b) = instance_line (gate_id n) (codes "HC_AND2")
cell_line n (Or a b) = instance_line (gate_id n) (codes "HC_OR2")
cell_line n (Xor a b) = instance_line (gate_id n) (codes "HC_XOR2")
cell_line n (Ram r) = ram_line r

-- ---- What nets join

-- a port of the main cell
unfoldable pub port_ref : List ℕ → List ℕ
port_ref port = codes "(portRef " ++ port ++ codes ")"

-- a port of an instance
unfoldable pub pin_ref : List ℕ → List ℕ → List ℕ
pin_ref port instance = codes "(portRef " ++ port ++ codes " (instanceRef " ++ instance ++ codes "))"

-- the drivers of the nets of port k, of a flip-flop's net, and of the nets of a cell from n on
abbrev pub port_drivers : ℕ → Port → List (List ℕ)
port_drivers k (Input name width pins) = map (λ i. port_ref (port_id k i)) (range_with_len 0 width)
port_drivers k (Output name width pins from) = []

abbrev pub flop_driver : Flop → List ℕ
flop_driver f = pin_ref (codes "q") (flop_id f.name)

abbrev pub cell_drivers : ℕ → Cell → List (List ℕ)
cell_drivers n Zero = pin_ref (codes "y") (gate_id n) ∷ []
cell_drivers n One = pin_ref (codes "y") (gate_id n) ∷ []
cell_drivers n (Not a) = pin_ref (codes "y") (gate_id n) ∷ []
cell_drivers n (And a b) = pin_ref (codes "y") (gate_id n) ∷ []
cell_drivers n (Or a b) = pin_ref (codes "y") (gate_id n) ∷ []
cell_drivers n (Xor a b) = pin_ref (codes "y") (gate_id n) ∷ []
cell_drivers n (Ram r) = map (λ i. pin_ref (ram_pin (codes "q") i) (ram_id r.object)) (range_with_len 0 r.width)

-- the driver of each net, in the order of the nets: inputs, flip-flops, cells
abbrev pub drivers : RawNet → List (List ℕ)
drivers raw =
    each_from port_drivers 0 raw.ports ++ map flop_driver raw.flops ++ each_cell cell_drivers (cell_base raw) raw.cells

-- the pins that read nets, each with the net that it reads: of a flip-flop, of the cell whose first output is net n, of port k
abbrev pub flop_reader : Flop → ℕ × List ℕ
flop_reader f = (f.d, pin_ref (codes "d") (flop_id f.name))

-- the pins of a RAM that have numbers from 0 on, each of which reads a net
abbrev pub ram_readers : List ℕ → ℕ → List ℕ → List (ℕ × List ℕ)
ram_readers letter object nets = each_from (λ i n. (n, pin_ref (ram_pin letter i) (ram_id object)) ∷ []) 0 nets

abbrev pub cell_readers : ℕ → Cell → List (ℕ × List ℕ)
cell_readers n Zero = []
cell_readers n One = []
cell_readers n (Not a) = (a, pin_ref (codes "a") (gate_id n)) ∷ []
cell_readers n (And a b) = (a, pin_ref (codes "a") (gate_id n)) ∷ (b, pin_ref (codes "b") (gate_id n)) ∷ []
cell_readers n (Or a b) = (a, pin_ref (codes "a") (gate_id n)) ∷ (b, pin_ref (codes "b") (gate_id n)) ∷ []
cell_readers n (Xor a b) = (a, pin_ref (codes "a") (gate_id n)) ∷ (b, pin_ref (codes "b") (gate_id n)) ∷ []
cell_readers n (Ram r) =
    ram_readers (codes "a") r.object r.addr ++ ram_readers (codes "d") r.object r.d ++ (r.we, pin_ref (codes "we") (ram_id r.object)) ∷ []

abbrev pub port_readers : ℕ → Port → List (ℕ × List ℕ)
port_readers k (Input name width pins) = []
port_readers k (Output name width pins from) = each_from (λ i n. (n, port_ref (port_id k i)) ∷ []) 0 from

-- all pins that read nets: flip-flops, cells, outputs
abbrev pub readers : RawNet → List (ℕ × List ℕ)
readers raw =
    map flop_reader raw.flops ++ each_cell cell_readers (cell_base raw) raw.cells ++ each_from port_readers 0 raw.ports

-- of pins that read nets those that read net n
abbrev pub of_net : ℕ → List (ℕ × List ℕ) → List (ℕ × List ℕ)
of_net n pins = filter (λ r. r.0 == n) pins

-- ---- Nets

-- a net with all that it joins, its driver first
abbrev pub net_line : List ℕ → List (List ℕ) → List ℕ
net_line name refs = codes "(net " ++ name ++ codes " (joined" ++ flat_map (λ r. codes " " ++ r) refs ++ codes "))\n"

-- the clock's net: the clock's port, and the clock pin of each flip-flop and of each RAM
abbrev pub clock_net : RawNet → List ℕ
clock_net raw =
    net_line (codes "nc")
    (port_ref (codes "clk") ∷ map (λ f. pin_ref (codes "c") (flop_id f.name)) raw.flops ++ map (λ r. pin_ref (codes "c") (ram_id r.object)) (rams_of raw.cells))

-- net n, which has this driver, and those of the pins that read it
abbrev pub numbered_net : List (ℕ × List ℕ) → ℕ → List ℕ → List ℕ
numbered_net pins n driver = net_line (codes "n" ++ decimal n) (driver ∷ map (λ r. r.1) (of_net n pins))

-- ---- The whole text

unfoldable pub edif : RawNet → List ℕ
edif raw =
    head_lines
    ++ ram_cell_lines raw.cells
    ++ main_lines
    ++ clock_line raw.clock
    ++ each_from port_lines 0 raw.ports
    ++ contents_lines
    ++ flat_map flop_line raw.flops
    ++ each_cell cell_line (cell_base raw) raw.cells
    ++ clock_net raw
    ++ each_from (numbered_net (readers raw)) 0 (drivers raw)
    ++ tail_lines
