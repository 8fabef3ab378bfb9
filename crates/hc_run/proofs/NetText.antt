-- The line of a net in the definition's parts.
use Rattle.std.specs.Prelude.{◌≡◌, ◌+◌, ◌<◌, ◌++◌, ◌∷◌, [], ℕ, List, length, map, drop, codes, decimal, refl}
use Rattle.std.specs.List.{flat_map}
use Rattle.std.proofs.Common.{get_or, sym, ◌∙◌, ap, append_assoc}
use Rattle.hc_net.specs.declared.net.Cell.{Cell}
use Rattle.hc_net.specs.declared.net.Flop.{Flop}
use Rattle.hc_net.specs.declared.net.RawNet.{RawNet}
use Rattle.hc_run.specs.declared.edif.pins.Pin.{Pin}
use Rattle.hc_run.specs.declared.edif.pins.Reader.{Reader}
use Rattle.std.proofs.lemmas.List.{at_drop_more}
use Rattle.std.proofs.lemmas.Grind.{flat_map-append}
use Rattle.hc_net.specs.declared.ram.RamCell.{RamCell}
use Rattle.hc_net.specs.Run.{cell_base, rams_of}
use Rattle.hc_run.specs.Edif.{each_from, each_cell, port_ref, pin_ref, flop_id, ram_id, of_net, net_line, numbered_net, clock_net, head_lines, ram_cell_lines, main_lines, clock_line, port_lines, contents_lines, flop_line, cell_line, readers, drivers, tail_lines, edif}
use Rattle.hc_run.proofs.CellLists.{rams_of_more}
use Rattle.hc_run.specs.Pins.{ref_of, read_by, ref_part, net_head, net_end, clock_head, reader_part, clock_part, ram_clock_part, net_text, clock_text, IsOrdered, interface_text, instances_text, nets_text}

spaced_readers : (rs : List Reader) → flat_map (λ r. codes " " ++ r) (map (λ r. r.1) (map read_by rs)) ≡ flat_map reader_part rs
unfolding ref_part
spaced_readers [] = refl
spaced_readers (r ∷ rs) = ap (λ t. (codes " " ++ ref_of r.pin) ++ t) (spaced_readers rs)

spaced_clocks : (fs : List Flop) → flat_map (λ r. codes " " ++ r) (map (λ f. pin_ref (codes "c") (flop_id f.name)) fs) ≡ flat_map clock_part fs
unfolding ref_part ref_of
spaced_clocks [] = refl
spaced_clocks (f ∷ fs) = ap (λ t. (codes " " ++ pin_ref (codes "c") (flop_id f.name)) ++ t) (spaced_clocks fs)

-- the same pieces in other groups
regroup : (d a r f e : List ℕ) (x : ℕ) → (((d ++ (a ++ x ∷ [])) ++ r) ++ f) ++ e ≡ ((d ++ a) ++ (x ∷ (r ++ f))) ++ e
regroup d a r f e x = simp append_assoc

-- the line of net n, from its readers alone
pub net_text-is : (n : ℕ) (driver : Pin) (rs : List Reader) (whole : List (ℕ × List ℕ)) → map read_by rs ≡ of_net n whole
    → net_text n driver rs ≡ numbered_net whole n (ref_of driver)
unfolding net_head net_end
net_text-is n driver rs whole is =
    ap (λ t. net_head n driver ++ t ++ net_end) (sym (spaced_readers rs) ∙ ap (λ w. flat_map (λ r. codes " " ++ r) (map (λ r. r.1) w)) is)
    ∙ ap (λ t. codes "(net n" ++ t) (regroup (decimal n) (codes " (joined") (ref_of driver) (flat_map (λ r. codes " " ++ r) (map (λ r. r.1) (of_net n whole))) (codes "))\n") 32)

spaced_ram_clocks : (rs : List RamCell) → flat_map (λ r. codes " " ++ r) (map (λ r. pin_ref (codes "c") (ram_id r.object)) rs) ≡ flat_map ram_clock_part rs
unfolding ref_part ref_of
spaced_ram_clocks [] = refl
spaced_ram_clocks (r ∷ rs) = ap (λ t. (codes " " ++ pin_ref (codes "c") (ram_id r.object)) ++ t) (spaced_ram_clocks rs)

-- the clock pin of the RAM that a cell is, and those of the cells after it
pub ram_clocks_more : (cells : List Cell) (i : ℕ) (d c : Cell) → i < length cells → c ≡ get_or cells i d
    → flat_map ram_clock_part (rams_of (drop i cells)) ≡ flat_map ram_clock_part (rams_of (c ∷ [])) ++ flat_map ram_clock_part (rams_of (drop (i + 1) cells))
ram_clocks_more cells i d c h is =
    ap (flat_map ram_clock_part) (rams_of_more cells i d c h is)
    ∙ flat_map-append ram_clock_part (rams_of (c ∷ [])) (rams_of (drop (i + 1) cells))

-- those of flip-flops and of RAMs
abbrev clocks_of : RawNet → List (List ℕ)
clocks_of raw = map (λ f. pin_ref (codes "c") (flop_id f.name)) raw.flops ++ map (λ r. pin_ref (codes "c") (ram_id r.object)) (rams_of raw.cells)

spaced_all_clocks : (raw : RawNet) → flat_map (λ r. codes " " ++ r) (clocks_of raw) ≡ flat_map clock_part raw.flops ++ flat_map ram_clock_part (rams_of raw.cells)
spaced_all_clocks raw =
    flat_map-append (λ r. codes " " ++ r) (map (λ f. pin_ref (codes "c") (flop_id f.name)) raw.flops) (map (λ r. pin_ref (codes "c") (ram_id r.object)) (rams_of raw.cells))
    ∙ ap (λ t. t ++ flat_map (λ r. codes " " ++ r) (map (λ r. pin_ref (codes "c") (ram_id r.object)) (rams_of raw.cells))) (spaced_clocks raw.flops)
    ∙ ap (λ t. flat_map clock_part raw.flops ++ t) (spaced_ram_clocks (rams_of raw.cells))

-- the same pieces in other groups
regroup_clocks : (h a b e : List ℕ) → (h ++ a) ++ b ++ e ≡ h ++ (a ++ b) ++ e
regroup_clocks h a b e = simp append_assoc

pub clock_text-is : (raw : RawNet) → clock_text raw.flops (rams_of raw.cells) ≡ clock_net raw
unfolding clock_head net_end port_ref
clock_text-is raw =
    regroup_clocks clock_head (flat_map clock_part raw.flops) (flat_map ram_clock_part (rams_of raw.cells)) net_end
    ∙ ap (λ t. clock_head ++ t ++ net_end) (sym (spaced_all_clocks raw))

-- the same from lists that are those of the netlist
pub clock_of : (raw : RawNet) {flops : List Flop} {cells : List Cell} → flops ≡ raw.flops → cells ≡ raw.cells → clock_text flops (rams_of cells) ≡ clock_net raw
clock_of raw {cells = cells} same_flops same_cells =
    ap (λ fs. clock_text fs (rams_of cells)) same_flops ∙ ap (λ cs. clock_text raw.flops (rams_of cs)) same_cells ∙ clock_text-is raw

-- what is left of all nets begins with net n
pub net_more : (whole : List (ℕ × List ℕ)) (drivers : List Pin) (n : ℕ) (d : Pin) (here : List Reader) → n < length drivers → map read_by here ≡ of_net n whole
    → each_from (numbered_net whole) n (map ref_of (drop n drivers)) ≡ net_text n (get_or drivers n d) here ++ each_from (numbered_net whole) (n + 1) (map ref_of (drop (n + 1) drivers))
net_more whole drivers n d here within is =
    at_drop_more (λ xs. each_from (numbered_net whole) n (map ref_of xs)) drivers n d within
    ∙ ap (λ t. t ++ each_from (numbered_net whole) (n + 1) (map ref_of (drop (n + 1) drivers))) (sym (net_text-is n (get_or drivers n d) here whole is))

each_from_same : {X A : Type 0} (f g : ℕ → X → List A) → ((n : ℕ) (x : X) → f n x ≡ g n x) → (n : ℕ) (xs : List X) → each_from f n xs ≡ each_from g n xs
each_from_same f g same n [] = refl
each_from_same f g same n (x ∷ xs) = ap (λ t. t ++ each_from f (n + 1) xs) (same n x) ∙ ap (λ t. g n x ++ t) (each_from_same f g same (n + 1) xs)

-- the lines of the nets don't depend on the order of pins of different nets
pub numbered_nets-is : {old new : List (ℕ × List ℕ)} {ds es : List (List ℕ)} → IsOrdered old new → ds ≡ es
    → each_from (numbered_net new) 0 ds ≡ each_from (numbered_net old) 0 es
numbered_nets-is {old} {new} {ds} {es} ordered is =
    ap (each_from (numbered_net new) 0) is
    ∙ each_from_same (numbered_net new) (numbered_net old) (λ n d. ap (λ t. net_line (codes "n" ++ decimal n) (d ∷ map (λ r. r.1) t)) (ordered.same n)) 0 es

eleven : (a b c d e f g h i j k : List ℕ) → ((a ++ b ++ c) ++ d ++ e) ++ (f ++ g ++ h) ++ (i ++ j ++ k) ≡ a ++ b ++ c ++ d ++ e ++ f ++ g ++ h ++ i ++ j ++ k
eleven a b c d e f g h i j k = simp append_assoc

-- the three parts are the whole text
pub edif-is : (raw : RawNet) → interface_text raw ++ instances_text raw ++ nets_text raw ≡ edif raw
unfolding edif
edif-is raw =
    eleven head_lines (ram_cell_lines raw.cells) main_lines (clock_line raw.clock) (each_from port_lines 0 raw.ports)
    contents_lines (flat_map flop_line raw.flops) (each_cell cell_line (cell_base raw) raw.cells)
    (clock_net raw) (each_from (numbered_net (readers raw)) 0 (drivers raw)) tail_lines
