-- The ports of the objects: they have the shapes, names and sizes that the objects say.
use Rattle.std.proofs.Common.{◌≡◌, ◌≢◌, ◌<◌, ℕ, suc, ◌+◌, List, [], ◌∷◌, ◌++◌, length, map, get_or, Bool, true, false, cond, Some, refl, sym, ap, ◌∙◌, ⊎_elim, arith}
use Rattle.std.specs.Prelude.{slice_get, All, AllPairs}
use Rattle.std.specs.List.{filter}
use Rattle.std.proofs.lemmas.List.{map-append, get_or-map, length-map}
use Rattle.std.proofs.lemmas.List.Elements.{All-nil, All-cons, All-append}
use Rattle.std.proofs.lemmas.Option.{get_or_from_slice_get, slice_get_within}
use Rattle.hc_core.specs.Sound.{IsKind, IsPort, is_port, port_names}
use Rattle.hc_core.specs.Typed.{kinds_of}
use Rattle.hc_core.specs.declared.object.Kind.{Kind}
use Rattle.hc_core.specs.declared.object.Kind.TheVariants as kind
use Rattle.hc_core.specs.declared.object.Object.{Object}
use Rattle.hc_net.specs.Seal.{placed}
use Rattle.hc_net.specs.Valid.{HasSizes, PortHasSizes, port_name}
use Rattle.hc_net.specs.declared.net.Port.{Port}
use Rattle.hc_net.specs.declared.net.Port.TheVariants as port
use Rattle.hc_control.specs.Right.{net_count}
use Rattle.hc_build.specs.Implements.{Shape, shape_of, shapes_by, shapes_of}
use Rattle.hc_build.specs.Objects.{ports_by, ports_from}

-- ---- shapes

shapes_of_kind : (name : List ℕ) (base : ℕ) (x : Kind) → map shape_of (ports_by name base x) ≡ shapes_by name x
shapes_of_kind name base (kind.Reg w s init) = refl
shapes_of_kind name base (kind.Array w s n init) = refl
shapes_of_kind name base (kind.Ram w s n init) = refl
shapes_of_kind name base (kind.Rom w s n init) = refl
shapes_of_kind name base (kind.Signal w s unset) = refl
shapes_of_kind name base (kind.Chan w s queue) = refl
shapes_of_kind name base (kind.Input w s pins) = refl
shapes_of_kind name base (kind.Output w s pins value) = refl

pub shapes_are : (base : ℕ) (objects : List Object) → map shape_of (ports_from base objects) ≡ shapes_of objects
shapes_are base [] = refl
shapes_are base (o ∷ objects) =
    map-append shape_of (ports_by o.name base o.kind) (ports_from (base + net_count o.kind) objects)
    ∙ ap (λ l. l ++ map shape_of (ports_from (base + net_count o.kind) objects)) (shapes_of_kind o.name base o.kind)
    ∙ ap (λ l. shapes_by o.name o.kind ++ l) (shapes_are (base + net_count o.kind) objects)

-- other names of nets change no shape
shape_placed : (place : ℕ → ℕ) (p : Port) → shape_of (placed place p) ≡ shape_of p
shape_placed place (port.Input name width pins) = refl
shape_placed place (port.Output name width pins from) = refl

pub shapes_placed : (place : ℕ → ℕ) (ports : List Port) → map shape_of (map (placed place) ports) ≡ map shape_of ports
shapes_placed place [] = refl
shapes_placed place (p ∷ ports) =
    ap (λ (x : Shape). x ∷ map shape_of (map (placed place) ports)) (shape_placed place p)
    ∙ ap (λ l. shape_of p ∷ l) (shapes_placed place ports)

-- ---- names

names_of_kind : (name : List ℕ) (base : ℕ) (x : Kind) (rest : List (List ℕ)) → map port_name (ports_by name base x) ++ rest ≡ cond (is_port x) (name ∷ rest) rest
names_of_kind name base (kind.Reg w s init) rest = refl
names_of_kind name base (kind.Array w s n init) rest = refl
names_of_kind name base (kind.Ram w s n init) rest = refl
names_of_kind name base (kind.Rom w s n init) rest = refl
names_of_kind name base (kind.Signal w s unset) rest = refl
names_of_kind name base (kind.Chan w s queue) rest = refl
names_of_kind name base (kind.Input w s pins) rest = refl
names_of_kind name base (kind.Output w s pins value) rest = refl

names_with : (b : Bool) (o : Object) (objects : List Object) → map (λ (x : Object). x.name) (cond b (o ∷ objects) objects) ≡ cond b (o.name ∷ map (λ (x : Object). x.name) objects) (map (λ (x : Object). x.name) objects)
names_with true o objects = refl
names_with false o objects = refl

pub names_are : (base : ℕ) (objects : List Object) → map port_name (ports_from base objects) ≡ port_names objects
names_are base [] = refl
names_are base (o ∷ objects) =
    map-append port_name (ports_by o.name base o.kind) (ports_from (base + net_count o.kind) objects)
    ∙ names_of_kind o.name base o.kind (map port_name (ports_from (base + net_count o.kind) objects))
    ∙ ap (λ l. cond (is_port o.kind) (o.name ∷ l) l) (names_are (base + net_count o.kind) objects)
    ∙ sym (names_with (is_port o.kind) o (filter (λ (x : Object). is_port x.kind) objects))

pub names_differ : (ports : List Port) (names : List (List ℕ)) → map port_name ports ≡ names → AllPairs ◌≢◌ names
    → (i j : ℕ) (p q : Port) → i < j → slice_get ports i ≡ Some p → slice_get ports j ≡ Some q → port_name p ≢ port_name q
names_differ ports names are differ i j p q lower at_i at_j =
    let inside : j < length ports = slice_get_within ports j q at_j in
    let before : i < length ports = slice_get_within ports i p at_i in
    let size : length names ≡ length ports = ap length (sym are) ∙ length-map ports port_name in
    let first : get_or names i [] ≡ port_name p = ap (λ (l : List (List ℕ)). get_or l i []) (sym are) ∙ get_or-map port_name ports i p [] before ∙ ap port_name (get_or_from_slice_get ports i p p at_i) in
    let second : get_or names j [] ≡ port_name q = ap (λ (l : List (List ℕ)). get_or l j []) (sym are) ∙ get_or-map port_name ports j q [] inside ∙ ap port_name (get_or_from_slice_get ports j q q at_j) in
    λ same. differ i j [] lower (omega arith) (first ∙ same ∙ sym second)

-- ---- sizes

port_sizes : (w : ℕ) (pins : List (List ℕ)) → IsPort w pins → HasSizes w pins
port_sizes w pins is = record {
  least = is.width.least;
  most = is.width.most;
  pinned = λ some. ⊎_elim (λ none. absurd (some none)) (λ all. all) is.each_bit;
}

sizes_of_kind : (kinds : List Kind) (name : List ℕ) (base : ℕ) (x : Kind) → IsKind kinds x → All PortHasSizes (ports_by name base x)
sizes_of_kind kinds name base (kind.Reg w s init) is = All-nil PortHasSizes
sizes_of_kind kinds name base (kind.Array w s n init) is = All-nil PortHasSizes
sizes_of_kind kinds name base (kind.Ram w s n init) is = All-nil PortHasSizes
sizes_of_kind kinds name base (kind.Rom w s n init) is = All-nil PortHasSizes
sizes_of_kind kinds name base (kind.Signal w s unset) is = All-nil PortHasSizes
sizes_of_kind kinds name base (kind.Chan w s queue) is = All-nil PortHasSizes
sizes_of_kind kinds name base (kind.Input w s pins) is = All-cons PortHasSizes (port.Input name w pins) [] (port_sizes w pins is) (All-nil PortHasSizes)
sizes_of_kind kinds name base (kind.Output w s pins value) is = All-cons PortHasSizes _ [] (port_sizes w pins is.port) (All-nil PortHasSizes)

pub sizes_are : (kinds : List Kind) (base : ℕ) (objects : List Object) → ((k : ℕ) (x : Kind) → slice_get (kinds_of objects) k ≡ Some x → IsKind kinds x)
    → All PortHasSizes (ports_from base objects)
sizes_are kinds base [] are = All-nil PortHasSizes
sizes_are kinds base (o ∷ objects) are =
    All-append PortHasSizes (ports_by o.name base o.kind) (ports_from (base + net_count o.kind) objects)
    (sizes_of_kind kinds o.name base o.kind (are 0 o.kind refl))
    (sizes_are kinds (base + net_count o.kind) objects (λ k. are (suc k)))
