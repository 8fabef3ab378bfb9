-- The nodes and ports of objects, placed one after another.
use Rattle.std.proofs.Common.{◌≡◌, ◌<◌, ◌≤◌, ℕ, zero, suc, ◌+◌, ◌-◌, ◌*◌, ◌^◌, List, [], ◌∷◌, ◌++◌, length, map, take, get_or, ltb, Bool, true, false, Some, None, refl, sym, ap, ◌∙◌, subst, arith, append_assoc, length-append}
use Rattle.std.specs.Prelude.{All, slice_get, if◌then◌else◌, min, replicate}
use Rattle.std.specs.List.{range_with_len, sum_by, filter}
use Rattle.std.specs.Option.{option_map, unwrap_or}
use Rattle.std.proofs.Math.Seq.{take-length}
use Rattle.std.proofs.Math.Nat.{mul-le-mul_right}
use Rattle.std.proofs.lemmas.List.{append-nil, map_push, take_more, length-map, length-replicate, length-take-le}
use Rattle.std.proofs.lemmas.List.Elements.{All-head, All-tail}
use Rattle.std.proofs.lemmas.List.FromFn.{length-range_with_len, get_or-range_with_len, length-map-range_with_len}
use Rattle.std.proofs.lemmas.List.Sums.{sum_by-cons}
use Rattle.std.proofs.lemmas.Option.{slice_get-map, slice_get-get_or, slice_get_read, slice_get_past, unwrap_or-slice_get}
use Rattle.std.proofs.lemmas.Bool.Decides.{nat_tests}
use Rattle.hc_core.specs.Parts.{kind_parts}
use Rattle.hc_core.specs.Sound.{IsSound, HasLabelBytes, IsKind, is_port, port_names}
use Rattle.hc_core.specs.Typed.{kinds_of}
use Rattle.hc_core.specs.Weight.{kind_weight, weight_of}
use Rattle.hc_core.specs.declared.expr.Expr.{Expr}
use Rattle.hc_core.specs.declared.object.Kind.{Kind}
use Rattle.hc_core.specs.declared.object.Kind.TheVariants as kind
use Rattle.hc_core.specs.declared.object.Object.{Object}
use Rattle.hc_core.specs.declared.object.Core.{Core}
use Rattle.hc_num.specs.Number.{Number}
use Rattle.hc_meaning.specs.Value.{padded, bits_of, is_input}
use Rattle.hc_net.specs.Bits.{bit}
use Rattle.hc_net.specs.Circuit.{Circuit, with_output, input_count}
use Rattle.hc_net.specs.declared.net.FlopName.TheVariants.{Bit}
use Rattle.hc_net.specs.declared.net.Port.{Port}
use Rattle.hc_net.specs.declared.net.Port.TheVariants as port
use Rattle.hc_net.specs.declared.node.Node.{Node}
use Rattle.hc_net.specs.declared.node.Node.TheVariants.{Input, Flop}
use Rattle.hc_rules.specs.Weight.{most_weight}
use Rattle.hc_control.specs.Right.{net_count}
use Rattle.hc_build.specs.Objects.{output_wire, word_flops, words_flops, object_nodes, nodes_from, nets_from, ports_by, ports_from, AddsNodes, CanPlace, AddsObject}
use Rattle.hc_build.proofs.Adding.{adds_size, adds_append, adds_as}

-- ---- words

-- one word behind others
pub words_more : (k from w : ℕ) (done : List ℕ) (bits : ℕ) → words_flops k from w (done ++ bits ∷ []) ≡ words_flops k from w done ++ word_flops k (from + length done * w) w bits
words_more k from w [] bits =
    append-nil (word_flops k from w bits) ∙ ap (λ f. word_flops k f w bits) (let e : from ≡ from + 0 * w = omega arith in e)
words_more k from w (x ∷ done) bits =
    ap (λ l. word_flops k from w x ++ l) (words_more k (from + w) w done bits)
    ∙ sym (append_assoc (word_flops k from w x) (words_flops k (from + w) w done) (word_flops k (from + w + length done * w) w bits))
    ∙ ap (λ f. (word_flops k from w x ++ words_flops k (from + w) w done) ++ word_flops k f w bits) (let e : from + w + length done * w ≡ from + suc (length done) * w = omega arith in e)

pub length-words : (k from w : ℕ) (words : List ℕ) → length (words_flops k from w words) ≡ length words * w
length-words k from w [] = let e : 0 ≡ 0 * w = omega arith in e
length-words k from w (x ∷ words) =
    length-append (word_flops k from w x) (words_flops k (from + w) w words)
    ∙ ap (λ n. n + length (words_flops k (from + w) w words)) (length-map-range_with_len (λ i. Flop (Bit k (from + i)) (bit x i) None) 0 w)
    ∙ ap (λ n. w + n) (length-words k (from + w) w words)
    ∙ (let e : w + length words * w ≡ suc (length words) * w = omega arith in e)

-- a padded list has its length, and the numbers that were given
pub length-padded : (n : ℕ) (given : List ℕ) → length (padded n given) ≡ n
length-padded zero given = refl
length-padded (suc n) [] = ap (λ k. suc k) (length-padded n [])
length-padded (suc n) (x ∷ given) = ap (λ k. suc k) (length-padded n given)

pub padded_at : (n : ℕ) (given : List ℕ) (i : ℕ) → i < n → get_or (padded n given) i 0 ≡ get_or given i 0
padded_at zero given i inside = absurd (omega arith)
padded_at (suc n) [] zero inside = refl
padded_at (suc n) [] (suc i) inside = padded_at n [] i (omega arith)
padded_at (suc n) (x ∷ given) zero inside = refl
padded_at (suc n) (x ∷ given) (suc i) inside = padded_at n given i (omega arith)

-- the number at a place of an array, given or 0
pub word_at : (n i : ℕ) (init : List Number) → i < n → get_or (padded n (bits_of init)) i 0 ≡ unwrap_or (option_map (λ (x : Number). x.bits) (slice_get init i)) 0
word_at n i init inside =
    padded_at n (bits_of init) i inside ∙ sym (unwrap_or-slice_get (bits_of init) i 0) ∙ ap (λ o. unwrap_or o 0) (slice_get-map (λ (x : Number). x.bits) init i)

-- the number that the code takes: that of a number there, or 0
pub word_some : (n i bits : ℕ) (init : List Number) (x : Number) → i < n → true ≡ ltb i (length init) → x ≡ get_or init i x → bits ≡ x.bits → bits ≡ get_or (padded n (bits_of init)) i 0
word_some n i bits init x inside low at is =
    let there : slice_get init i ≡ Some x = slice_get_read init (length init) i x refl (grind (arith, nat_tests)) at in
    is ∙ ap (λ o. unwrap_or (option_map (λ (y : Number). y.bits) o) 0) (sym there) ∙ sym (word_at n i init inside)

pub word_none : (n i bits : ℕ) (init : List Number) → i < n → false ≡ ltb i (length init) → bits ≡ 0 → bits ≡ get_or (padded n (bits_of init)) i 0
word_none n i bits init inside high is =
    let gone : slice_get init i ≡ None = slice_get_past init i (grind (arith, nat_tests)) in
    is ∙ ap (λ o. unwrap_or (option_map (λ (y : Number). y.bits) o) 0) (sym gone) ∙ sym (word_at n i init inside)

-- the words so far, and one more
pub words_room : (k w n e : ℕ) (given : List ℕ) (old now : Circuit) (nets : List ℕ) → AddsNodes (words_flops k 0 w (take e (padded n given))) [] old now nets → e < n
    → length old.nodes + n * w < 2 ^ 32 → length now.nodes + w < 2 ^ 32
words_room k w n e given old now nets m inside room =
    let size = adds_size _ _ _ _ _ m in
    let count : length (take e (padded n given)) ≡ e = length-take-le e (padded n given) (let long = length-padded n given in omega arith) in
    let many : length (words_flops k 0 w (take e (padded n given))) ≡ e * w = length-words k 0 w (take e (padded n given)) ∙ ap (λ x. x * w) count in
    let next : suc e * w ≤ n * w = mul-le-mul_right w (omega arith) in
    let one : suc e * w ≡ e * w + w = omega arith in
    omega arith

pub words_step : (k w n e bits : ℕ) (given : List ℕ) (old now new : Circuit) (nets nets' : List ℕ) → AddsNodes (words_flops k 0 w (take e (padded n given))) [] old now nets → e < n
    → AddsNodes (word_flops k (e * w) w bits) nets now new nets' → bits ≡ get_or (padded n given) e 0 → AddsNodes (words_flops k 0 w (take (e + 1) (padded n given))) [] old new nets'
words_step k w n e bits given old now new nets nets' m inside a is =
    let words : List ℕ = padded n given in
    let long : length words ≡ n = length-padded n given in
    let count : length (take e words) ≡ e = length-take-le e words (omega arith) in
    let more : take (e + 1) words ≡ take e words ++ bits ∷ [] = take_more words e 0 (omega arith) ∙ ap (λ x. take e words ++ x ∷ []) (sym is) in
    let place : 0 + length (take e words) * w ≡ e * w = ap (λ x. 0 + x * w) count ∙ (let z : 0 + e * w ≡ e * w = omega arith in z) in
    adds_as
    (ap (λ f. words_flops k 0 w (take e words) ++ word_flops k f w bits) (sym place) ∙ sym (words_more k 0 w (take e words) bits) ∙ ap (words_flops k 0 w) (sym more))
    (adds_append _ _ _ _ _ _ _ _ m a)

-- ---- sizes

-- the number of nets of objects
abbrev pub total : List Kind → ℕ
total [] = 0
total (kind ∷ kinds) = net_count kind + total kinds

-- as many nodes as nets
pub length-object : (k inputs : ℕ) (kind : Kind) → length (object_nodes k inputs kind) ≡ net_count kind
length-object k inputs (kind.Reg w s init) = length-words k 0 w (init.bits ∷ []) ∙ (let e : 1 * w ≡ w = omega arith in e)
length-object k inputs (kind.Array w s n init) = length-words k 0 w (padded n (map (λ x. x.bits) init)) ∙ ap (λ m. m * w) (length-padded n (map (λ x. x.bits) init))
length-object k inputs (kind.Ram w s n init) = refl
length-object k inputs (kind.Rom w s n init) = refl
length-object k inputs (kind.Signal w s unset) = refl
length-object k inputs (kind.Chan w s queue) = refl
length-object k inputs (kind.Input w s pins) = length-map-range_with_len (λ i. Input inputs i) 0 w
length-object k inputs (kind.Output w s pins value) = length-replicate w output_wire

pub length-nodes : (k inputs : ℕ) (kinds : List Kind) → length (nodes_from k inputs kinds) ≡ total kinds
length-nodes k inputs [] = refl
length-nodes k inputs (kind ∷ kinds) =
    length-append (object_nodes k inputs kind) _ ∙ ap (λ n. n + length (nodes_from (k + 1) (inputs + (if is_input kind then 1 else 0)) kinds)) (length-object k inputs kind)
    ∙ ap (λ n. net_count kind + n) (length-nodes (k + 1) (inputs + (if is_input kind then 1 else 0)) kinds)

pub length-nets : (base : ℕ) (kinds : List Kind) → length (nets_from base kinds) ≡ length kinds
length-nets base [] = refl
length-nets base (kind ∷ kinds) = ap (λ n. suc n) (length-nets (base + net_count kind) kinds)

pub total_more : (done : List Kind) (kind : Kind) → total (done ++ kind ∷ []) ≡ total done + net_count kind
total_more [] kind = omega arith
total_more (x ∷ done) kind = let e = total_more done kind in omega arith

-- an object has no more nets than it weighs
count_weight : (kinds : List Kind) (kind : Kind) → net_count kind ≤ kind_weight kinds kind
count_weight kinds (kind.Reg w s init) = omega arith
count_weight kinds (kind.Array w s n init) = omega arith
count_weight kinds (kind.Ram w s n init) = omega arith
count_weight kinds (kind.Rom w s n init) = omega arith
count_weight kinds (kind.Signal w s unset) = omega arith
count_weight kinds (kind.Chan w s queue) = omega arith
count_weight kinds (kind.Input w s pins) = omega arith
count_weight kinds (kind.Output w s pins value) = omega arith

total_weight : (all kinds : List Kind) → total kinds ≤ sum_by (kind_weight all) kinds
total_weight all [] = omega arith
total_weight all (x ∷ kinds) =
    let own = count_weight all x in
    let rest = total_weight all kinds in
    let sum = sum_by-cons (kind_weight all) x kinds in
    omega arith

pub few_nets : (core : Core) → weight_of core ≤ most_weight → total (kinds_of core.objects) ≤ 2000000
few_nets core light = let least = total_weight (kinds_of core.objects) (kinds_of core.objects) in omega arith

-- each object is a part of a core
part_least : (kind : Kind) → 1 ≤ kind_parts kind
part_least (kind.Reg w s init) = omega arith
part_least (kind.Array w s n init) = omega arith
part_least (kind.Ram w s n init) = omega arith
part_least (kind.Rom w s n init) = omega arith
part_least (kind.Signal w s unset) = omega arith
part_least (kind.Chan w s queue) = omega arith
part_least (kind.Input w s pins) = omega arith
part_least (kind.Output w s pins value) = omega arith

parts_least : (kinds : List Kind) → length kinds ≤ sum_by kind_parts kinds
parts_least [] = omega arith
parts_least (x ∷ kinds) =
    let own = part_least x in
    let rest = parts_least kinds in
    let sum = sum_by-cons kind_parts x kinds in
    omega arith

pub few_objects : (core : Core) → IsSound core → length core.objects < 2 ^ 32
few_objects core sound =
    let least = parts_least (kinds_of core.objects) in
    let same : length (kinds_of core.objects) ≡ length core.objects = length-map core.objects (λ (o : Object). o.kind) in
    let few = sound.few in
    omega arith

-- ---- one object more

-- the number of inputs among objects
abbrev pub inputs_in : List Kind → ℕ
inputs_in [] = 0
inputs_in (kind ∷ kinds) = (if is_input kind then 1 else 0) + inputs_in kinds

-- the nodes, nets and ports of one object more
nodes_more : (k inputs : ℕ) (done : List Kind) (kind : Kind) → nodes_from k inputs (done ++ kind ∷ []) ≡ nodes_from k inputs done ++ object_nodes (k + length done) (inputs + inputs_in done) kind
nodes_more k inputs [] kind =
    append-nil (object_nodes k inputs kind)
    ∙ ap (λ n. object_nodes n inputs kind) (let e : k ≡ k + 0 = omega arith in e)
    ∙ ap (λ n. object_nodes (k + 0) n kind) (let e : inputs ≡ inputs + 0 = omega arith in e)
nodes_more k inputs (x ∷ done) kind =
    let one : ℕ = if is_input x then 1 else 0 in
    let front : List Node = object_nodes k inputs x in
    let middle : List Node = nodes_from (k + 1) (inputs + one) done in
    ap (λ l. front ++ l) (nodes_more (k + 1) (inputs + one) done kind)
    ∙ sym (append_assoc front middle (object_nodes (k + 1 + length done) (inputs + one + inputs_in done) kind))
    ∙ ap (λ n. (front ++ middle) ++ object_nodes n (inputs + one + inputs_in done) kind) (let e : k + 1 + length done ≡ k + suc (length done) = omega arith in e)
    ∙ ap (λ n. (front ++ middle) ++ object_nodes (k + suc (length done)) n kind) (let e : inputs + one + inputs_in done ≡ inputs + (one + inputs_in done) = omega arith in e)

nets_more : (base : ℕ) (done : List Kind) (kind : Kind) → nets_from base (done ++ kind ∷ []) ≡ nets_from base done ++ range_with_len (base + total done) (net_count kind) ∷ []
nets_more base [] kind = ap (λ n. range_with_len n (net_count kind) ∷ []) (let e : base ≡ base + 0 = omega arith in e)
nets_more base (x ∷ done) kind =
    ap (λ l. range_with_len base (net_count x) ∷ l)
    (nets_more (base + net_count x) done kind
    ∙ ap (λ n. nets_from (base + net_count x) done ++ range_with_len n (net_count kind) ∷ []) (let e : base + net_count x + total done ≡ base + (net_count x + total done) = omega arith in e))

ports_more : (base : ℕ) (done : List Object) (o : Object) → ports_from base (done ++ o ∷ []) ≡ ports_from base done ++ ports_by o.name (base + total (kinds_of done)) o.kind
ports_more base [] o = append-nil (ports_by o.name base o.kind) ∙ ap (λ n. ports_by o.name n o.kind) (let e : base ≡ base + 0 = omega arith in e)
ports_more base (x ∷ done) o =
    let front : List Port = ports_by x.name base x.kind in
    let middle : List Port = ports_from (base + net_count x.kind) done in
    ap (λ l. front ++ l) (ports_more (base + net_count x.kind) done o)
    ∙ sym (append_assoc front middle (ports_by o.name (base + net_count x.kind + total (kinds_of done)) o.kind))
    ∙ ap (λ n. (front ++ middle) ++ ports_by o.name n o.kind) (let e : base + net_count x.kind + total (kinds_of done) ≡ base + (net_count x.kind + total (kinds_of done)) = omega arith in e)

-- the ports of objects have as many inputs as the objects
input_count-by : (name : List ℕ) (base : ℕ) (kind : Kind) (rest : List Port) → input_count (ports_by name base kind ++ rest) ≡ (if is_input kind then 1 else 0) + input_count rest
input_count-by name base (kind.Reg w s init) rest = omega arith
input_count-by name base (kind.Array w s n init) rest = omega arith
input_count-by name base (kind.Ram w s n init) rest = omega arith
input_count-by name base (kind.Rom w s n init) rest = omega arith
input_count-by name base (kind.Signal w s unset) rest = omega arith
input_count-by name base (kind.Chan w s queue) rest = omega arith
input_count-by name base (kind.Input w s pins) rest = omega arith
input_count-by name base (kind.Output w s pins value) rest = omega arith

pub input_count-ports : (base : ℕ) (objects : List Object) → input_count (ports_from base objects) ≡ inputs_in (kinds_of objects)
input_count-ports base [] = refl
input_count-ports base (o ∷ rest) =
    input_count-by o.name base o.kind (ports_from (base + net_count o.kind) rest)
    ∙ ap (λ n. (if is_input o.kind then 1 else 0) + n) (input_count-ports (base + net_count o.kind) rest)

-- an object makes one port at most
port_most : (name : List ℕ) (base : ℕ) (kind : Kind) → length (ports_by name base kind) ≤ 1
port_most name base (kind.Reg w s init) = omega arith
port_most name base (kind.Array w s n init) = omega arith
port_most name base (kind.Ram w s n init) = omega arith
port_most name base (kind.Rom w s n init) = omega arith
port_most name base (kind.Signal w s unset) = omega arith
port_most name base (kind.Chan w s queue) = omega arith
port_most name base (kind.Input w s pins) = omega arith
port_most name base (kind.Output w s pins value) = omega arith

pub length-ports : (base : ℕ) (objects : List Object) → length (ports_from base objects) ≤ length objects
length-ports base [] = omega arith
length-ports base (o ∷ rest) =
    let own = port_most o.name base o.kind in
    let others = length-ports (base + net_count o.kind) rest in
    let both = length-append (ports_by o.name base o.kind) (ports_from (base + net_count o.kind) rest) in
    omega arith

-- ---- what a port takes

-- each object that is a port has its name among those of the ports
port_label : (P : List ℕ → Type 0) (objects : List Object) (k : ℕ) (o : Object) → All P (port_names objects) → k < length objects → is_port (get_or objects k o).kind ≡ true → P (get_or objects k o).name
port_label P [] k o all inside port = absurd (omega arith)
port_label P (x ∷ rest) zero o all inside port = first (is_port x.kind) port all
  where
    first : (b : Bool) → b ≡ true → All P (map (λ (p : Object). p.name) (if b then x ∷ filter (λ (p : Object). is_port p.kind) rest else filter (λ (p : Object). is_port p.kind) rest)) → P x.name
    first true is h = All-head P x.name (port_names rest) h
    first false is h = absurd cc
port_label P (x ∷ rest) (suc k) o all inside port = port_label P rest k o (others (is_port x.kind) all) (omega arith) port
  where
    others : (b : Bool) → All P (map (λ (p : Object). p.name) (if b then x ∷ filter (λ (p : Object). is_port p.kind) rest else filter (λ (p : Object). is_port p.kind) rest)) → All P (port_names rest)
    others true h = All-tail P x.name (port_names rest) h
    others false h = h

-- ---- one object

-- the nodes of an object that is no port
pub adds_object : (k : ℕ) (o : Object) (kind : Kind) (nodes : List Node) (old new : Circuit) (nets : List ℕ) → o.kind ≡ kind → AddsNodes nodes [] old new nets
    → nodes ≡ object_nodes k (input_count old.ports) kind → ports_by o.name (length old.nodes) kind ≡ [] → AddsObject k o old new nets
adds_object k o kind nodes old new nets is m same none =
    let count : length nodes ≡ net_count o.kind = ap length same ∙ length-object k (input_count old.ports) kind ∙ ap net_count (sym is) in
    record {
      clock = ap (λ (c : Circuit). c.clock) m.adds;
      ports = ap (λ (c : Circuit). c.ports) m.adds ∙ sym (append-nil old.ports) ∙ ap (λ l. old.ports ++ l) (sym none) ∙ ap (λ x. old.ports ++ ports_by o.name (length old.nodes) x) (sym is);
      nodes = ap (λ (c : Circuit). c.nodes) m.adds ∙ ap (λ l. old.nodes ++ l) same ∙ ap (λ x. old.nodes ++ object_nodes k (input_count old.ports) x) (sym is);
      nets_are = m.nets_are ∙ ap (range_with_len (length old.nodes)) count;
    }

pub adds_register : (k w bits : ℕ) (s : Bool) (init : Number) (o : Object) (before nets : List ℕ) (old new : Circuit) → o.kind ≡ kind.Reg w s init → before ≡ [] → bits ≡ init.bits
    → AddsNodes (word_flops k 0 w bits) before old new nets → AddsObject k o old new nets
adds_register k w bits s init o before nets old new is none bits_is m =
    adds_object k o (kind.Reg w s init) (word_flops k 0 w bits) old new nets is (subst (λ (l : List ℕ). AddsNodes (word_flops k 0 w bits) l old new nets) none m)
    (ap (word_flops k 0 w) bits_is ∙ sym (append-nil (word_flops k 0 w init.bits))) refl

pub adds_array : (k w n : ℕ) (s : Bool) (init given : List Number) (o : Object) (nets : List ℕ) (old new : Circuit) → o.kind ≡ kind.Array w s n init → given ≡ init
    → AddsNodes (words_flops k 0 w (padded n (bits_of given))) [] old new nets → AddsObject k o old new nets
adds_array k w n s init given o nets old new is same m =
    adds_object k o (kind.Array w s n init) (words_flops k 0 w (padded n (bits_of given))) old new nets is m (ap (λ l. words_flops k 0 w (padded n (bits_of l))) same) refl

pub adds_output : (k : ℕ) (o : Object) (w : ℕ) (s : Bool) (pins labels : List (List ℕ)) (value : Expr) (name : List ℕ) (old mid new : Circuit) (nets : List ℕ) → o.kind ≡ kind.Output w s pins value
    → name ≡ o.name → labels ≡ pins → w ≤ 128 → AddsNodes (replicate w output_wire) [] old mid nets → new ≡ with_output mid name labels nets → AddsObject k o old new nets
adds_output k o w s pins labels value name old mid new nets is named same narrow m adds =
    let size : length (replicate w output_wire) ≡ w = length-replicate w output_wire in
    let nets_are : nets ≡ range_with_len (length old.nodes) w = m.nets_are ∙ ap (range_with_len (length old.nodes)) size in
    let count : length nets ≡ w = ap length nets_are ∙ length-range_with_len (length old.nodes) w in
    let width : min (length nets) (2 ^ 32 - 1) ≡ w = omega arith in
    record {
      clock = ap (λ (c : Circuit). c.clock) adds ∙ ap (λ (c : Circuit). c.clock) m.adds;
      ports = ap (λ (c : Circuit). c.ports) adds ∙ ap (λ (c : Circuit). c.ports ++ port.Output name (min (length nets) (2 ^ 32 - 1)) labels nets ∷ []) m.adds
          ∙ ap (λ n. old.ports ++ port.Output n (min (length nets) (2 ^ 32 - 1)) labels nets ∷ []) named
          ∙ ap (λ n. old.ports ++ port.Output o.name n labels nets ∷ []) width
          ∙ ap (λ l. old.ports ++ port.Output o.name w l nets ∷ []) same
          ∙ ap (λ l. old.ports ++ port.Output o.name w pins l ∷ []) nets_are
          ∙ ap (λ x. old.ports ++ ports_by o.name (length old.nodes) x) (sym is);
      nodes = ap (λ (c : Circuit). c.nodes) adds ∙ ap (λ (c : Circuit). c.nodes) m.adds ∙ ap (λ x. old.nodes ++ object_nodes k (input_count old.ports) x) (sym is);
      nets_are = nets_are ∙ ap (λ x. range_with_len (length old.nodes) (net_count x)) (sym is);
    }

-- an output has 128 bits at most
pub output_narrow : (kinds : List Kind) (own : Kind) (w : ℕ) (s : Bool) (pins : List (List ℕ)) (value : Expr) → own ≡ kind.Output w s pins value → IsKind kinds own → w ≤ 128
output_narrow kinds own w s pins value is sound =
    let output : IsKind kinds (kind.Output w s pins value) = subst (λ (x : Kind). IsKind kinds x) is sound in
    output.port.width.most

-- nets in a row behind the first n are among those that follow
pub range_below : (base width n : ℕ) → base + width ≤ n → All (λ net. net < n) (range_with_len base width)
range_below base width n le = λ i d h.
    let inside : i < width = let m = length-range_with_len base width in omega arith in
    rw (get_or-range_with_len base width i d inside) (omega arith)

pub nets_there : (nodes : List Node) (old new : Circuit) (nets : List ℕ) → AddsNodes nodes [] old new nets → All (λ k. k < length new.nodes) nets
nets_there nodes old new nets m =
    let size = adds_size nodes [] nets old new m in
    subst (λ (l : List ℕ). All (λ k. k < length new.nodes) l) (sym m.nets_are) (range_below (length old.nodes) (length nodes) (length new.nodes) (omega arith))

-- ---- all objects

-- The objects of a list stand in a circuit, with these nets.
pub record Placed (done : List Object) (clock : List ℕ) (c : Circuit) (nets : List (List ℕ)) : Type 0 where
  pub clock_is : c.clock ≡ clock
  pub ports : c.ports ≡ ports_from 0 done
  pub nodes : c.nodes ≡ nodes_from 0 0 (kinds_of done)
  pub nets_are : nets ≡ nets_from 0 (kinds_of done)

-- one object more, behind others
placed_push : (done : List Object) (o : Object) (k : ℕ) (clock : List ℕ) (now new : Circuit) (nets nets' : List (List ℕ)) (own : List ℕ) → Placed done clock now nets
    → k ≡ length done → AddsObject k o now new own → nets' ≡ nets ++ own ∷ [] → Placed (done ++ o ∷ []) clock new nets'
placed_push done o k clock now new nets nets' own p at a pushed =
    let kinds : List Kind = kinds_of done in
    let more : kinds_of (done ++ o ∷ []) ≡ kinds ++ o.kind ∷ [] = map_push (λ (x : Object). x.kind) done o in
    let base : length now.nodes ≡ 0 + total kinds = ap length p.nodes ∙ length-nodes 0 0 kinds ∙ (let e : total kinds ≡ 0 + total kinds = omega arith in e) in
    let number : k ≡ 0 + length kinds = at ∙ sym (length-map done (λ (x : Object). x.kind)) ∙ (let e : length kinds ≡ 0 + length kinds = omega arith in e) in
    let inputs : input_count now.ports ≡ 0 + inputs_in kinds = ap input_count p.ports ∙ input_count-ports 0 done ∙ (let e : inputs_in kinds ≡ 0 + inputs_in kinds = omega arith in e) in
    record {
      clock_is = a.clock ∙ p.clock_is;
      ports = a.ports ∙ ap (λ l. l ++ ports_by o.name (length now.nodes) o.kind) p.ports ∙ ap (λ n. ports_from 0 done ++ ports_by o.name n o.kind) base ∙ sym (ports_more 0 done o);
      nodes = a.nodes ∙ ap (λ l. l ++ object_nodes k (input_count now.ports) o.kind) p.nodes
          ∙ ap (λ n. nodes_from 0 0 kinds ++ object_nodes n (input_count now.ports) o.kind) number
          ∙ ap (λ n. nodes_from 0 0 kinds ++ object_nodes (0 + length kinds) n o.kind) inputs
          ∙ sym (nodes_more 0 0 kinds o.kind) ∙ ap (nodes_from 0 0) (sym more);
      nets_are = pushed ∙ ap (λ l. l ++ own ∷ []) p.nets_are ∙ ap (λ x. nets_from 0 kinds ++ x ∷ []) (a.nets_are ∙ ap (λ n. range_with_len n (net_count o.kind)) base)
          ∙ sym (nets_more 0 kinds o.kind) ∙ ap (nets_from 0) (sym more);
    }

-- the next object of a list
pub placed_more : (objects : List Object) (o : Object) (k : ℕ) (clock : List ℕ) (now new : Circuit) (nets nets' : List (List ℕ)) (own : List ℕ) → Placed (take k objects) clock now nets
    → k < length objects → o ≡ get_or objects k o → AddsObject k o now new own → nets' ≡ nets ++ own ∷ [] → Placed (take (k + 1) objects) clock new nets'
placed_more objects o k clock now new nets nets' own p inside at a pushed =
    let more : take (k + 1) objects ≡ take k objects ++ o ∷ [] = take_more objects k o inside ∙ ap (λ x. take k objects ++ x ∷ []) (sym at) in
    let number : k ≡ length (take k objects) = sym (length-take-le k objects (omega arith)) in
    subst (λ (l : List Object). Placed l clock new nets') (sym more) (placed_push (take k objects) o k clock now new nets nets' own p number a pushed)

-- the nets of the first objects and of the next one are no more than those of all
total_take : (kinds : List Kind) (k : ℕ) (kind : Kind) → slice_get kinds k ≡ Some kind → total (take k kinds) + net_count kind ≤ total kinds
total_take [] k kind at = absurd cc
total_take (x ∷ kinds) zero kind at = let same : x ≡ kind = cc in let count = ap net_count same in omega arith
total_take (x ∷ kinds) (suc k) kind at = let rest = total_take kinds k kind at in omega arith

-- the kind of an object by its number
pub kind_at : (objects : List Object) (k : ℕ) (o : Object) → k < length objects → o ≡ get_or objects k o → slice_get (kinds_of objects) k ≡ Some o.kind
kind_at objects k o inside at = slice_get-map (λ (x : Object). x.kind) objects k ∙ ap (option_map (λ (x : Object). x.kind)) (slice_get-get_or objects k o inside ∙ ap Some (sym at))

take_kinds : (objects : List Object) (k : ℕ) → kinds_of (take k objects) ≡ take k (kinds_of objects)
take_kinds objects zero = refl
take_kinds [] (suc k) = refl
take_kinds (x ∷ objects) (suc k) = ap (λ l. x.kind ∷ l) (take_kinds objects k)

-- the next object can be placed
can_place_own : (core : Core) (o : Object) (k : ℕ) (c : Circuit) (nets : List (List ℕ)) → IsSound core → weight_of core ≤ most_weight → Placed (take k core.objects) core.clock c nets
    → k < length core.objects → o ≡ get_or core.objects k o → CanPlace (kinds_of core.objects) o c
can_place_own core o k c nets sound light p inside at =
    let there : slice_get (kinds_of core.objects) k ≡ Some o.kind = kind_at core.objects k o inside at in
    let size : length c.nodes ≡ total (take k (kinds_of core.objects)) = ap length p.nodes ∙ length-nodes 0 0 (kinds_of (take k core.objects)) ∙ ap total (take_kinds core.objects k) in
    let part = total_take (kinds_of core.objects) k o.kind there in
    let nets = few_nets core light in
    let ports = length-ports 0 (take k core.objects) in
    let number : length (take k core.objects) ≡ k = length-take-le k core.objects (omega arith) in
    let objects = few_objects core sound in
    let count : length c.ports ≡ length (ports_from 0 (take k core.objects)) = ap length p.ports in
    record {
      is = sound.kinds k o.kind there;
      label = λ port. subst (λ (x : Object). HasLabelBytes x.name) (sym at) (port_label HasLabelBytes core.objects k o sound.names inside (ap (λ (x : Object). is_port x.kind) (sym at) ∙ port));
      room = omega arith;
      few = omega arith;
    }

pub can_place : (core : Core) (objects : List Object) (o : Object) (k : ℕ) (c : Circuit) (nets : List (List ℕ)) → IsSound core → weight_of core ≤ most_weight → objects ≡ core.objects
    → Placed (take k objects) core.clock c nets → k < length objects → o ≡ get_or objects k o → CanPlace (kinds_of core.objects) o c
can_place core objects o k c nets sound light same p inside at =
    can_place_own core o k c nets sound light (subst (λ (l : List Object). Placed (take k l) core.clock c nets) same p) (let e = ap length same in omega arith) (at ∙ ap (λ l. get_or l k o) same)

-- there is room for the constants
pub placed_room : (core : Core) (objects : List Object) (k : ℕ) (c : Circuit) (nets : List (List ℕ)) → weight_of core ≤ most_weight → Placed (take k objects) core.clock c nets
    → k ≡ length objects → objects ≡ core.objects → length c.nodes ≤ 2000000
placed_room core objects k c nets light p all same =
    let whole : take k objects ≡ core.objects = ap (λ n. take n objects) all ∙ take-length objects ∙ same in
    let size : length c.nodes ≡ total (kinds_of core.objects) = ap length p.nodes ∙ length-nodes 0 0 (kinds_of (take k objects)) ∙ ap (λ l. total (kinds_of l)) whole in
    let few = few_nets core light in
    omega arith
