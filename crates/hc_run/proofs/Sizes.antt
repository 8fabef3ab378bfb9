-- How many nets there are.
use Rattle.std.specs.Prelude.{◌≡◌, ◌+◌, ◌++◌, ◌∷◌, [], ℕ, suc, List, length, map, refl}
use Rattle.std.proofs.Common.{sym, ◌∙◌, ap, arith}
use Rattle.std.proofs.lemmas.List.{length-append, length-map}
use Rattle.std.proofs.lemmas.List.FromFn.{length-map-range_with_len}
use Rattle.hc_net.specs.declared.net.Port.{Port}
use Rattle.hc_net.specs.declared.net.Port.TheVariants.{Input, Output}
use Rattle.hc_net.specs.declared.net.Cell.{Cell}
use Rattle.hc_net.specs.declared.net.Cell.TheVariants.{Zero, One, Not, And, Or, Xor, Ram}
use Rattle.hc_net.specs.declared.net.RawNet.{RawNet}
use Rattle.hc_net.specs.Run.{input_bits_from, input_bits, cell_base, cell_nets, cell_width, net_count}
use Rattle.hc_run.specs.Edif.{each_from, each_cell, port_drivers, cell_drivers, flop_driver, drivers}
use Rattle.hc_run.specs.Pins.{input_total}

pub length-input_bits : (p : ℕ) (ports : List Port) → length (input_bits_from p ports) ≡ input_total ports
length-input_bits p [] = refl
length-input_bits p (Input name width pins ∷ ports) =
    length-append (map (λ i. (p, i)) _) (input_bits_from (p + 1) ports)
    ∙ ap (λ n. n + length (input_bits_from (p + 1) ports)) (length-map-range_with_len (λ i. (p, i)) 0 width) ∙ ap (λ n. width + n) (length-input_bits (p + 1) ports)
length-input_bits p (Output name width pins from ∷ ports) = length-input_bits p ports ∙ omega arith

length-port_drivers : (k : ℕ) (ports : List Port) → length (each_from port_drivers k ports) ≡ input_total ports
length-port_drivers k [] = refl
length-port_drivers k (Input name width pins ∷ ports) =
    length-append (port_drivers k (Input name width pins)) (each_from port_drivers (k + 1) ports)
    ∙ ap (λ n. n + length (each_from port_drivers (k + 1) ports)) (length-map-range_with_len _ 0 width) ∙ ap (λ n. width + n) (length-port_drivers (k + 1) ports)
length-port_drivers k (Output name width pins from ∷ ports) = length-port_drivers (k + 1) ports ∙ omega arith

length-each_driver : (n : ℕ) (c : Cell) → length (cell_drivers n c) ≡ cell_width c
length-each_driver n Zero = refl
length-each_driver n One = refl
length-each_driver n (Not a) = refl
length-each_driver n (And a b) = refl
length-each_driver n (Or a b) = refl
length-each_driver n (Xor a b) = refl
length-each_driver n (Ram r) = length-map-range_with_len _ 0 r.width

length-cell_drivers : (n : ℕ) (cells : List Cell) → length (each_cell cell_drivers n cells) ≡ cell_nets cells
length-cell_drivers n [] = refl
length-cell_drivers n (c ∷ cells) =
    let both = length-append (cell_drivers n c) (each_cell cell_drivers (n + cell_width c) cells) in
    let first = length-each_driver n c in
    let rest = length-cell_drivers (n + cell_width c) cells in
    omega arith

-- each net has a driver
pub length-drivers : (raw : RawNet) → length (drivers raw) ≡ net_count raw
length-drivers raw =
    let inputs : length (each_from port_drivers 0 raw.ports) ≡ length (input_bits raw.ports) = length-port_drivers 0 raw.ports ∙ sym (length-input_bits 0 raw.ports) in
    let flops : length (map flop_driver raw.flops) ≡ length raw.flops = length-map raw.flops flop_driver in
    let cells : length (each_cell cell_drivers (cell_base raw) raw.cells) ≡ cell_nets raw.cells = length-cell_drivers (cell_base raw) raw.cells in
    let outer = length-append (each_from port_drivers 0 raw.ports ++ map flop_driver raw.flops) (each_cell cell_drivers (cell_base raw) raw.cells) in
    let inner = length-append (each_from port_drivers 0 raw.ports) (map flop_driver raw.flops) in
    omega arith
