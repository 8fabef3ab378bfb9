-- Netlists with their texts, written out.
use Rattle.std.specs.Prelude.{◌≡◌, [], ◌∷◌, ◌++◌, true, false, codes, refl}
use Rattle.std.specs.Fmt.{digits}
use Rattle.std.specs.List.{flat_map}
use Rattle.hc_net.specs.declared.net.Port.TheVariants.{Input, Output}
use Rattle.hc_net.specs.declared.net.FlopName.TheVariants.{Bit, Token}
use Rattle.hc_net.specs.declared.net.Cell.TheVariants.{Zero, One, Not, And, Or, Xor, Ram}
use Rattle.hc_net.specs.declared.net.RawNet.{RawNet}
use Rattle.hc_net.specs.Run.{cell_base}
use Rattle.hc_num.specs.Index.{index_width}
use Rattle.hc_run.specs.Edif.{port_id, flop_id, gate_id, ram_id, ram_cell, ram_pin, head_lines, cell_port, ram_cell_line, ram_cell_lines, main_lines, contents_lines, tail_lines, pin_property, clock_line, port_direction, bit_name, bit_pin, bit_line, port_lines, flop_line, ram_line, cell_line, hex_text, port_ref, pin_ref, clock_net, numbered_net, readers, drivers, each_from, each_cell, edif}

-- a flip-flop that takes the inverse of an input, and an output from it
abbrev small : RawNet
small = record {
  clock = codes "clk";
  ports = Input (codes "i") 1 [] ∷ Output (codes "o") 1 [] (1 ∷ []) ∷ [];
  flops = record { name = Bit 0 0; init = false; d = 2 } ∷ [];
  cells = Not 0 ∷ [];
}

small_text : edif small
    ≡ codes "(edif hc (edifVersion 2 0 0) (edifLevel 0) (keywordMap (keywordLevel 0))\n"
    ++ codes "(library hc (edifLevel 0) (technology (numberDefinition))\n"
    ++ codes "(cell HC_GND (cellType GENERIC) (view v (viewType NETLIST) (interface (port y (direction OUTPUT)))))\n"
    ++ codes "(cell HC_VCC (cellType GENERIC) (view v (viewType NETLIST) (interface (port y (direction OUTPUT)))))\n"
    ++ codes "(cell HC_INV (cellType GENERIC) (view v (viewType NETLIST) (interface (port y (direction OUTPUT)) (port a (direction INPUT)))))\n"
    ++ codes "(cell HC_AND2 (cellType GENERIC) (view v (viewType NETLIST) (interface (port y (direction OUTPUT)) (port a (direction INPUT)) (port b (direction INPUT)))))\n"
    ++ codes "(cell HC_OR2 (cellType GENERIC) (view v (viewType NETLIST) (interface (port y (direction OUTPUT)) (port a (direction INPUT)) (port b (direction INPUT)))))\n"
    ++ codes "(cell HC_XOR2 (cellType GENERIC) (view v (viewType NETLIST) (interface (port y (direction OUTPUT)) (port a (direction INPUT)) (port b (direction INPUT)))))\n"
    ++ codes "(cell HC_DFF0 (cellType GENERIC) (view v (viewType NETLIST) (interface (port q (direction OUTPUT)) (port d (direction INPUT)) (port c (direction INPUT)))))\n"
    ++ codes "(cell HC_DFF1 (cellType GENERIC) (view v (viewType NETLIST) (interface (port q (direction OUTPUT)) (port d (direction INPUT)) (port c (direction INPUT)))))\n"
    ++ codes "(cell main (cellType GENERIC) (view v (viewType NETLIST) (interface\n"
    ++ codes "(port clk (direction INPUT) (property PIN (string \"clk\")))\n"
    ++ codes "(port (rename p0_0 \"i[0]\") (direction INPUT))\n"
    ++ codes "(port (rename p1_0 \"o[0]\") (direction OUTPUT))\n"
    ++ codes ")\n"
    ++ codes "(contents\n"
    ++ codes "(instance R0_0 (viewRef v (cellRef HC_DFF0)))\n"
    ++ codes "(instance g2 (viewRef v (cellRef HC_INV)))\n"
    ++ codes "(net nc (joined (portRef clk) (portRef c (instanceRef R0_0))))\n"
    ++ codes "(net n0 (joined (portRef p0_0) (portRef a (instanceRef g2))))\n"
    ++ codes "(net n1 (joined (portRef q (instanceRef R0_0)) (portRef p1_0)))\n"
    ++ codes "(net n2 (joined (portRef y (instanceRef g2)) (portRef d (instanceRef R0_0))))\n"
    ++ codes "))))\n"
    ++ codes "(design main (cellRef main (libraryRef hc))))\n"
unfolding edif head_lines main_lines contents_lines tail_lines pin_property clock_line port_id flop_id gate_id port_direction bit_name bit_pin bit_line flop_line cell_line port_ref pin_ref digits
small_text = refl

-- pins, both kinds of flip-flops, the other gates, an output before the input, and nets with several readers or none
abbrev mixed : RawNet
mixed = record {
  clock = codes "P1";
  ports = Output (codes "y") 2 [] (8 ∷ 8 ∷ []) ∷ Input (codes "a") 2 (codes "P2" ∷ codes "P3" ∷ []) ∷ Output (codes "z") 1 (codes "P4" ∷ []) (0 ∷ []) ∷ [];
  flops = record { name = Token 4; init = true; d = 8 } ∷ record { name = Bit 12 3; init = false; d = 0 } ∷ [];
  cells = Zero ∷ One ∷ And 0 1 ∷ Or 6 2 ∷ Xor 7 7 ∷ [];
}

mixed_ports : clock_line mixed.clock ++ each_from port_lines 0 mixed.ports
    ≡ codes "(port clk (direction INPUT) (property PIN (string \"P1\")))\n"
    ++ codes "(port (rename p0_0 \"y[0]\") (direction OUTPUT))\n"
    ++ codes "(port (rename p0_1 \"y[1]\") (direction OUTPUT))\n"
    ++ codes "(port (rename p1_0 \"a[0]\") (direction INPUT) (property PIN (string \"P2\")))\n"
    ++ codes "(port (rename p1_1 \"a[1]\") (direction INPUT) (property PIN (string \"P3\")))\n"
    ++ codes "(port (rename p2_0 \"z[0]\") (direction OUTPUT) (property PIN (string \"P4\")))\n"
unfolding pin_property clock_line port_id port_direction bit_name bit_pin bit_line digits
mixed_ports = refl

mixed_instances : flat_map flop_line mixed.flops ++ each_cell cell_line (cell_base mixed) mixed.cells
    ≡ codes "(instance T4 (viewRef v (cellRef HC_DFF1)))\n"
    ++ codes "(instance R12_3 (viewRef v (cellRef HC_DFF0)))\n"
    ++ codes "(instance g4 (viewRef v (cellRef HC_GND)))\n"
    ++ codes "(instance g5 (viewRef v (cellRef HC_VCC)))\n"
    ++ codes "(instance g6 (viewRef v (cellRef HC_AND2)))\n"
    ++ codes "(instance g7 (viewRef v (cellRef HC_OR2)))\n"
    ++ codes "(instance g8 (viewRef v (cellRef HC_XOR2)))\n"
unfolding flop_id gate_id flop_line cell_line digits
mixed_instances = refl

mixed_nets : clock_net mixed ++ each_from (numbered_net (readers mixed)) 0 (drivers mixed)
    ≡ codes "(net nc (joined (portRef clk) (portRef c (instanceRef T4)) (portRef c (instanceRef R12_3))))\n"
    ++ codes "(net n0 (joined (portRef p1_0) (portRef d (instanceRef R12_3)) (portRef a (instanceRef g6)) (portRef p2_0)))\n"
    ++ codes "(net n1 (joined (portRef p1_1) (portRef b (instanceRef g6))))\n"
    ++ codes "(net n2 (joined (portRef q (instanceRef T4)) (portRef b (instanceRef g7))))\n"
    ++ codes "(net n3 (joined (portRef q (instanceRef R12_3))))\n"
    ++ codes "(net n4 (joined (portRef y (instanceRef g4))))\n"
    ++ codes "(net n5 (joined (portRef y (instanceRef g5))))\n"
    ++ codes "(net n6 (joined (portRef y (instanceRef g6)) (portRef a (instanceRef g7))))\n"
    ++ codes "(net n7 (joined (portRef y (instanceRef g7)) (portRef a (instanceRef g8)) (portRef b (instanceRef g8))))\n"
    ++ codes "(net n8 (joined (portRef y (instanceRef g8)) (portRef d (instanceRef T4)) (portRef p0_0) (portRef p0_1)))\n"
unfolding port_id flop_id gate_id port_ref pin_ref digits
mixed_nets = refl

-- a RAM and a ROM of two shapes, of which one stands twice, between gates
abbrev remembering : RawNet
remembering = record {
  clock = codes "clk";
  ports = Input (codes "i") 2 [] ∷ Output (codes "o") 2 [] (4 ∷ 3 ∷ []) ∷ [];
  flops = record { name = Bit 0 0; init = false; d = 5 } ∷ [];
  cells =
      Ram (record { object = 4; words = 2; width = 2; init = true ∷ false ∷ false ∷ true ∷ []; addr = 0 ∷ []; we = 1; d = 2 ∷ 0 ∷ [] })
      ∷ Zero
      ∷ Ram (record { object = 1; words = 3; width = 1; init = true ∷ true ∷ false ∷ []; addr = 3 ∷ 4 ∷ []; we = 5; d = 6 ∷ [] })
      ∷ Ram (record { object = 12; words = 2; width = 2; init = false ∷ true ∷ false ∷ true ∷ []; addr = 6 ∷ []; we = 5; d = 5 ∷ 5 ∷ [] })
      ∷ [];
}

remembering_library : ram_cell_lines remembering.cells
    ≡ codes "(cell HC_RAM_2_2 (cellType GENERIC) (view v (viewType NETLIST) (interface (port q0 (direction OUTPUT)) (port q1 (direction OUTPUT)) (port a0 (direction INPUT)) (port d0 (direction INPUT)) (port d1 (direction INPUT)) (port we (direction INPUT)) (port c (direction INPUT)))))\n"
    ++ codes "(cell HC_RAM_3_1 (cellType GENERIC) (view v (viewType NETLIST) (interface (port q0 (direction OUTPUT)) (port a0 (direction INPUT)) (port a1 (direction INPUT)) (port d0 (direction INPUT)) (port we (direction INPUT)) (port c (direction INPUT)))))\n"
unfolding ram_cell_line ram_cell ram_pin cell_port index_width digits
remembering_library = refl

remembering_instances : flat_map flop_line remembering.flops ++ each_cell cell_line (cell_base remembering) remembering.cells
    ≡ codes "(instance R0_0 (viewRef v (cellRef HC_DFF0)))\n"
    ++ codes "(instance M4 (viewRef v (cellRef HC_RAM_2_2)) (property INIT (string \"9\")))\n"
    ++ codes "(instance g5 (viewRef v (cellRef HC_GND)))\n"
    ++ codes "(instance M1 (viewRef v (cellRef HC_RAM_3_1)) (property INIT (string \"3\")))\n"
    ++ codes "(instance M12 (viewRef v (cellRef HC_RAM_2_2)) (property INIT (string \"a\")))\n"
unfolding flop_id gate_id ram_id ram_cell flop_line ram_line cell_line digits
remembering_instances = refl

remembering_nets : clock_net remembering ++ each_from (numbered_net (readers remembering)) 0 (drivers remembering)
    ≡ codes "(net nc (joined (portRef clk) (portRef c (instanceRef R0_0)) (portRef c (instanceRef M4)) (portRef c (instanceRef M1)) (portRef c (instanceRef M12))))\n"
    ++ codes "(net n0 (joined (portRef p0_0) (portRef a0 (instanceRef M4)) (portRef d1 (instanceRef M4))))\n"
    ++ codes "(net n1 (joined (portRef p0_1) (portRef we (instanceRef M4))))\n"
    ++ codes "(net n2 (joined (portRef q (instanceRef R0_0)) (portRef d0 (instanceRef M4))))\n"
    ++ codes "(net n3 (joined (portRef q0 (instanceRef M4)) (portRef a0 (instanceRef M1)) (portRef p1_1)))\n"
    ++ codes "(net n4 (joined (portRef q1 (instanceRef M4)) (portRef a1 (instanceRef M1)) (portRef p1_0)))\n"
    ++ codes "(net n5 (joined (portRef y (instanceRef g5)) (portRef d (instanceRef R0_0)) (portRef we (instanceRef M1)) (portRef d0 (instanceRef M12)) (portRef d1 (instanceRef M12)) (portRef we (instanceRef M12))))\n"
    ++ codes "(net n6 (joined (portRef q0 (instanceRef M1)) (portRef d0 (instanceRef M1)) (portRef a0 (instanceRef M12))))\n"
    ++ codes "(net n7 (joined (portRef q0 (instanceRef M12))))\n"
    ++ codes "(net n8 (joined (portRef q1 (instanceRef M12))))\n"
unfolding port_id flop_id gate_id ram_id ram_pin port_ref pin_ref digits
remembering_nets = refl

-- ten bits, of which two are left for the highest digit
remembering_digits : hex_text (true ∷ true ∷ true ∷ true ∷ false ∷ true ∷ false ∷ true ∷ false ∷ true ∷ []) ≡ codes "2af"
remembering_digits = refl
