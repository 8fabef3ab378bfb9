-- What the objects read, object by object.
use Rattle.std.proofs.Common.{◌≡◌, ◌<◌, ◌≤◌, ℕ, zero, suc, ◌+◌, ◌*◌, ◌/◌, ◌^◌, List, [], ◌∷◌, ◌++◌, length, take, Bool, true, get_or, Some, refl, ap, sym, ◌∙◌, subst, inl, inr, arith, add-zero}
use Rattle.std.specs.Prelude.{All, slice_get, slice_index, slice_index_or}
use Rattle.std.specs.List.{sum_by}
use Rattle.std.specs.Option.{option_map}
use Rattle.std.proofs.lemmas.Bool.{cases_lt}
use Rattle.std.proofs.lemmas.List.{get_or_append_left, get_or_push, get_or_read, length-map, length_push, take_all}
use Rattle.std.proofs.lemmas.List.Elements.{All-weaker}
use Rattle.std.proofs.lemmas.List.Sums.{sum_by_more, sum_by_more_le}
use Rattle.std.proofs.lemmas.Nat.{div-mul-add}
use Rattle.std.proofs.lemmas.Option.{same_Some, get_or_from_slice_get, slice_get-get_or, slice_get-map, slice_get_within}
use Rattle.hc_core.specs.Read.{expression}
use Rattle.hc_core.specs.Sound.{IsArray, IsOutput}
use Rattle.hc_core.specs.Typed.{kinds_of, width_of}
use Rattle.hc_core.specs.Weigh.{AreSound}
use Rattle.hc_core.specs.Weight.{expression_weight}
use Rattle.hc_core.specs.declared.expr.Expr.{Expr}
use Rattle.hc_core.specs.declared.object.Kind.{Kind}
use Rattle.hc_core.specs.declared.object.Kind.TheVariants as kind
use Rattle.hc_core.specs.declared.object.Object.{Object}
use Rattle.hc_core.proofs.Types.{widths_are}
use Rattle.hc_num.specs.Index.{index_width}
use Rattle.hc_num.specs.Number.{Number}
use Rattle.hc_net.specs.Circuit.{Circuit}
use Rattle.hc_net.specs.Made.{Adds, Always, Makes}
use Rattle.hc_net.specs.MadeLemmas.{Adds-none, Adds-most, Adds-then, Adds-room, Adds-there, Adds-over, Adds-always}
use Rattle.hc_net.specs.declared.node.Node.{Node}
use Rattle.hc_store.specs.Takes.{Takes, AreValues, IsValue, hold_gates}
use Rattle.hc_store.specs.Arrays.{TakesEach, array_gates}
use Rattle.hc_value.specs.Objects.{nets_of, AreNets}
use Rattle.hc_value.specs.Reads.{Holds, MakesValue}
use Rattle.hc_value.specs.declared.objects.ObjectNets.{ObjectNets}
use Rattle.hc_control.specs.Built.{is_built_expression}
use Rattle.hc_control.specs.Uses.{AreThere}
use Rattle.hc_control.specs.Right.{HasPlaces}
use Rattle.hc_build.specs.Built.{is_built_kind}
use Rattle.hc_build.specs.Uses.{next_gates, all_next_gates}
use Rattle.hc_build.specs.Sources.{IsSource, MakesSource, MakesSources, output_gates}
use Rattle.hc_control.specs.declared.uses.ObjectUses.{ObjectUses}
use Rattle.hc_control.proofs.UsesIndex.{Ready}
use Rattle.hc_control.proofs.UsesNets.{has_nets}
use Rattle.hc_build.proofs.UsesGates.{AllThere, next_kept}

-- ---- one object

-- the nets of an object, as the code finds them
pub object_nets : (at : ObjectNets) (list : List (List ℕ)) (k : ℕ) (nets : List ℕ) → list ≡ at.objects → k < length list → nets ≡ get_or list k nets → nets ≡ nets_of at k
object_nets at list k nets same within is = get_or_read list k nets within is [] ∙ ap (λ l. slice_index_or l k []) same

-- the nets of uses as a store wants them
are_values : (n size : ℕ) (lists : List (List ℕ)) → All (AreNets n size) lists → AreValues n size lists
are_values n size lists all = All-weaker (AreNets n size) (IsValue n size) (λ nets are. record { width = are.count; there = are.there }) lists all

-- what the circuit of a register's next bits wants
pub record RegisterReady (c : Circuit) (q enables : List ℕ) (values : List (List ℕ)) : Type 0 where
  pub present : All (λ k. k < length c.nodes) q
  pub each_value : AreValues (length c.nodes) (length q) values
  pub writes : length values ≡ length enables
  pub room : length c.nodes + hold_gates (length q) (length enables) < 2 ^ 32

pub register_ready : (kinds : List Kind) (at : ObjectNets) (c : Circuit) (k w : ℕ) (s : Bool) (init : Number) (x : Kind) (u : ObjectUses) (q : List ℕ) (values : List (List ℕ)) → x ≡ kind.Reg w s init
    → q ≡ nets_of at k → values ≡ u.values → slice_get kinds k ≡ Some x → HasPlaces kinds c.nodes at → AreThere x c.nodes u
    → length c.nodes + (next_gates c.nodes x u + output_gates kinds x) < 2 ^ 32 → RegisterReady c q u.enables values
register_ready kinds at c k w s init x u q values is nets same at_k places there room =
    let own : AreThere (kind.Reg w s init) c.nodes u = subst (λ y. AreThere y c.nodes u) is there in
    let place : AreNets (length c.nodes) w (nets_of at k) = places.each k (kind.Reg w s init) (at_k ∙ ap Some is) in
    let size : length q ≡ w = ap length nets ∙ place.count in
    let free : length c.nodes + (hold_gates w (length u.enables) + 0) < 2 ^ 32 = subst (λ y. length c.nodes + (next_gates c.nodes y u + output_gates kinds y) < 2 ^ 32) is room in
    let gates : hold_gates (length q) (length u.enables) ≡ hold_gates w (length u.enables) = ap (λ n. hold_gates n (length u.enables)) size in
    record {
      present = subst (λ l. All (λ j. j < length c.nodes) l) (sym nets) place.there;
      each_value = subst (λ n. AreValues (length c.nodes) n values) (sym size) (subst (λ l. AreValues (length c.nodes) w l) (sym same) (are_values (length c.nodes) w u.values own.values));
      writes = ap length same ∙ own.value_count;
      room = omega (arith, free, gates);
    }

-- what a register reads
pub register_source : {args : List ℕ} (kinds : List Kind) (at : ObjectNets) (old new : Circuit) (k w : ℕ) (s : Bool) (init : Number) (x : Kind) (u : ObjectUses) (q z : List ℕ) (values : List (List ℕ)) → x ≡ kind.Reg w s init
    → q ≡ nets_of at k → values ≡ u.values → slice_get kinds k ≡ Some x → HasPlaces kinds old.nodes at → length z ≡ length q
    → Makes (hold_gates (length q) (length u.enables)) args old new z (λ v. Takes v (length u.enables) (λ i. v (slice_index u.enables i)) q values z) → MakesSource kinds at k u x old new z
register_source kinds at old new k w s init x u q z values is nets same at_k places width made =
    let place : AreNets (length old.nodes) w (nets_of at k) = places.each k (kind.Reg w s init) (at_k ∙ ap Some is) in
    let size : length q ≡ w = ap length nets ∙ place.count in
    let e : hold_gates (length q) (length u.enables) ≡ hold_gates w (length u.enables) = ap (λ n. hold_gates n (length u.enables)) size in
    let value = subst (λ l. Always new.nodes (λ v. Takes v (length u.enables) (λ i. v (slice_index u.enables i)) l u.values z)) nets
    (subst (λ l. Always new.nodes (λ v. Takes v (length u.enables) (λ i. v (slice_index u.enables i)) q l z)) same made.value) in
    subst (λ y. MakesSource kinds at k u y old new z) (sym is)
    (record { adds = Adds-most (omega (arith, e)) made.adds; is = (record { count = width ∙ size; there = made.there }, value) })

-- how many elements the nets of an array have
elements : (q : List ℕ) (n w : ℕ) → length q ≡ n * w → 1 ≤ w → length q / w ≡ n
elements q n w size some = ap (λ m. m / w) (size ∙ (let e : n * w ≡ n * w + 0 = omega arith in e)) ∙ div-mul-add n w 0 (omega arith)

-- what the circuit of an array's next bits wants
pub record ArrayReady (c : Circuit) (q enables : List ℕ) (w : ℕ) (indexes values : List (List ℕ)) : Type 0 where
  pub width : 1 ≤ w
  pub elements : 1 ≤ length q / w
  pub whole : length q ≡ length q / w * w
  pub present : All (λ k. k < length c.nodes) q
  pub each_index : AreValues (length c.nodes) (index_width (length q / w)) indexes
  pub each_value : AreValues (length c.nodes) w values
  pub index_writes : length indexes ≡ length enables
  pub value_writes : length values ≡ length enables
  pub room : length c.nodes + array_gates c.nodes (length q / w) w indexes < 2 ^ 32

pub array_ready : (kinds : List Kind) (at : ObjectNets) (c : Circuit) (k w n : ℕ) (s : Bool) (init : List Number) (x : Kind) (u : ObjectUses) (q : List ℕ) (indexes values : List (List ℕ)) → x ≡ kind.Array w s n init
    → q ≡ nets_of at k → indexes ≡ u.indexes → values ≡ u.values → slice_get kinds k ≡ Some x → AreSound kinds → HasPlaces kinds c.nodes at → AreThere x c.nodes u
    → length c.nodes + (next_gates c.nodes x u + output_gates kinds x) < 2 ^ 32 → ArrayReady c q u.enables w indexes values
array_ready kinds at c k w n s init x u q indexes values is nets index_is value_is at_k sound places there room =
    let own : AreThere (kind.Array w s n init) c.nodes u = subst (λ y. AreThere y c.nodes u) is there in
    let array : IsArray w s n init = sound k (kind.Array w s n init) (at_k ∙ ap Some is) in
    let least = array.width.least in
    let some = array.least in
    let place : AreNets (length c.nodes) (n * w) (nets_of at k) = places.each k (kind.Array w s n init) (at_k ∙ ap Some is) in
    let size : length q ≡ n * w = ap length nets ∙ place.count in
    let count : length q / w ≡ n = elements q n w size least in
    let free : length c.nodes + (array_gates c.nodes n w u.indexes + 0) < 2 ^ 32 = subst (λ y. length c.nodes + (next_gates c.nodes y u + output_gates kinds y) < 2 ^ 32) is room in
    let gates : array_gates c.nodes (length q / w) w indexes ≡ array_gates c.nodes n w u.indexes = ap (λ m. array_gates c.nodes m w indexes) count ∙ ap (λ l. array_gates c.nodes n w l) index_is in
    record {
      width = least;
      elements = subst (λ m. 1 ≤ m) (sym count) some;
      whole = size ∙ ap (λ m. m * w) (sym count);
      present = subst (λ l. All (λ j. j < length c.nodes) l) (sym nets) place.there;
      each_index = subst (λ m. AreValues (length c.nodes) (index_width m) indexes) (sym count) (subst (λ l. AreValues (length c.nodes) (index_width n) l) (sym index_is) (are_values (length c.nodes) (index_width n) u.indexes own.indexes));
      each_value = subst (λ l. AreValues (length c.nodes) w l) (sym value_is) (are_values (length c.nodes) w u.values own.values);
      index_writes = ap length index_is ∙ own.index_count;
      value_writes = ap length value_is ∙ own.value_count;
      room = subst (λ m. length c.nodes + m < 2 ^ 32) (sym gates) (let z : array_gates c.nodes n w u.indexes + 0 ≡ array_gates c.nodes n w u.indexes = add-zero _ in subst (λ m. length c.nodes + m < 2 ^ 32) z free);
    }

-- what an array reads
pub array_source : {args : List ℕ} (kinds : List Kind) (at : ObjectNets) (old new : Circuit) (k w n : ℕ) (s : Bool) (init : List Number) (x : Kind) (u : ObjectUses) (q z : List ℕ) (indexes values : List (List ℕ))
    → x ≡ kind.Array w s n init → q ≡ nets_of at k → indexes ≡ u.indexes → values ≡ u.values → slice_get kinds k ≡ Some x → AreSound kinds → HasPlaces kinds old.nodes at → length z ≡ length q
    → Makes (array_gates old.nodes (length q / w) w indexes) args old new z (λ v. TakesEach v (length q / w) w u.enables indexes q values z) → MakesSource kinds at k u x old new z
array_source kinds at old new k w n s init x u q z indexes values is nets index_is value_is at_k sound places width made =
    let array : IsArray w s n init = sound k (kind.Array w s n init) (at_k ∙ ap Some is) in
    let least = array.width.least in
    let place : AreNets (length old.nodes) (n * w) (nets_of at k) = places.each k (kind.Array w s n init) (at_k ∙ ap Some is) in
    let size : length q ≡ n * w = ap length nets ∙ place.count in
    let count : length q / w ≡ n = elements q n w size least in
    let gates : array_gates old.nodes (length q / w) w indexes ≡ array_gates old.nodes n w u.indexes + 0 =
    ap (λ m. array_gates old.nodes m w indexes) count ∙ ap (λ l. array_gates old.nodes n w l) index_is ∙ sym (add-zero _) in
    let value = subst (λ l. Always new.nodes (λ v. TakesEach v n w u.enables u.indexes l u.values z)) nets
    (subst (λ l. Always new.nodes (λ v. TakesEach v n w u.enables u.indexes q l z)) value_is
    (subst (λ l. Always new.nodes (λ v. TakesEach v n w u.enables l q values z)) index_is
    (subst (λ m. Always new.nodes (λ v. TakesEach v m w u.enables indexes q values z)) count made.value))) in
    subst (λ y. MakesSource kinds at k u y old new z) (sym is)
    (record { adds = subst (λ m. Adds m old new) gates made.adds; is = (record { count = width ∙ size; there = made.there }, value) })

-- what the circuit of an output's expression wants
pub output_ready : (kinds : List Kind) (at : ObjectNets) (c : Circuit) (k w : ℕ) (s : Bool) (pins : List (List ℕ)) (e : Expr) (x : Kind) (u : ObjectUses) → x ≡ kind.Output w s pins e → slice_get kinds k ≡ Some x
    → AreSound kinds → HasPlaces kinds c.nodes at → is_built_kind x ≡ true → length c.nodes + (next_gates c.nodes x u + output_gates kinds x) < 2 ^ 32 → Ready kinds at c (expression e)
output_ready kinds at c k w s pins e x u is at_k sound places built room =
    let output : IsOutput kinds w s pins (expression e) = sound k (kind.Output w s pins e) (at_k ∙ ap Some is) in
    let built_e : is_built_expression (expression e) ≡ true = sym (ap is_built_kind is) ∙ built in
    let free : length c.nodes + (0 + expression_weight kinds (expression e)) < 2 ^ 32 = subst (λ y. length c.nodes + (next_gates c.nodes y u + output_gates kinds y) < 2 ^ 32) is room in
    record {
      typed = (w, s, output.typed);
      nets = has_nets kinds c.nodes at places (expression e) w s output.typed built_e;
      room = omega (arith, free);
    }

-- what an output reads
pub output_source : (kinds : List Kind) (at : ObjectNets) (old new : Circuit) (k w : ℕ) (s : Bool) (pins : List (List ℕ)) (e : Expr) (x : Kind) (u : ObjectUses) (z : List ℕ) → x ≡ kind.Output w s pins e
    → slice_get kinds k ≡ Some x → AreSound kinds → length z ≡ width_of kinds (expression e) → MakesValue kinds at (expression e) old new z → MakesSource kinds at k u x old new z
output_source kinds at old new k w s pins e x u z is at_k sound width made =
    let output : IsOutput kinds w s pins (expression e) = sound k (kind.Output w s pins e) (at_k ∙ ap Some is) in
    subst (λ y. MakesSource kinds at k u y old new z) (sym is) (record {
      adds = Adds-most (omega arith) made.adds;
      is = (record { count = width ∙ widths_are kinds (expression e) w s output.typed; there = made.there }, (made.reach, made.value));
    })

-- an object that reads nothing
abbrev pub ReadsNothing : Kind → Type 0
ReadsNothing x = (kinds : List Kind) (at : ObjectNets) (c : Circuit) (k : ℕ) (u : ObjectUses) → MakesSource kinds at k u x c c []

pub no_source : (kinds : List Kind) (at : ObjectNets) (c : Circuit) (k : ℕ) (u : ObjectUses) (x y : Kind) (z : List ℕ) → x ≡ y → z ≡ [] → ReadsNothing y → MakesSource kinds at k u x c c z
no_source kinds at c k u x y z is none h = subst (λ v. MakesSource kinds at k u v c c z) (sym is) (subst (λ l. MakesSource kinds at k u y c c l) (sym none) (h kinds at c k u))

pub ram_reads : (w : ℕ) (s : Bool) (n : ℕ) (init : List Number) → ReadsNothing (kind.Ram w s n init)
ram_reads w s n init kinds at c k u = record { adds = Adds-most (omega arith) (Adds-none c); is = refl }

pub rom_reads : (w : ℕ) (s : Bool) (n : ℕ) (init : List Number) → ReadsNothing (kind.Rom w s n init)
rom_reads w s n init kinds at c k u = record { adds = Adds-most (omega arith) (Adds-none c); is = refl }

pub signal_reads : (w : ℕ) (s : Bool) (unset : Number) → ReadsNothing (kind.Signal w s unset)
signal_reads w s unset kinds at c k u = record { adds = Adds-most (omega arith) (Adds-none c); is = refl }

pub channel_reads : (w : ℕ) (s : Bool) (queue : ℕ) → ReadsNothing (kind.Chan w s queue)
channel_reads w s queue kinds at c k u = record { adds = Adds-most (omega arith) (Adds-none c); is = refl }

pub input_reads : (w : ℕ) (s : Bool) (pins : List (List ℕ)) → ReadsNothing (kind.Input w s pins)
input_reads w s pins kinds at c k u = record { adds = Adds-most (omega arith) (Adds-none c); is = refl }

-- ---- among more nodes

source_kept : {most : ℕ} {old new : Circuit} (kinds : List Kind) (at : ObjectNets) (k : ℕ) (u : ObjectUses) (nets : List ℕ) (x : Kind) → Adds most old new → IsSource kinds at old.nodes k u nets x
    → IsSource kinds at new.nodes k u nets x
source_kept kinds at k u nets (kind.Reg w s init) adds h = (
  record { count = h.0.count; there = Adds-there nets adds h.0.there },
  Adds-always (λ v. Takes v (length u.enables) (λ i. v (slice_index u.enables i)) (nets_of at k) u.values nets) adds h.1,
)
source_kept kinds at k u nets (kind.Array w s n init) adds h =
    (record { count = h.0.count; there = Adds-there nets adds h.0.there }, Adds-always (λ v. TakesEach v n w u.enables u.indexes (nets_of at k) u.values nets) adds h.1)
source_kept kinds at k u nets (kind.Ram w s n init) adds h = h
source_kept kinds at k u nets (kind.Rom w s n init) adds h = h
source_kept kinds at k u nets (kind.Signal w s unset) adds h = h
source_kept kinds at k u nets (kind.Chan w s queue) adds h = h
source_kept kinds at k u nets (kind.Input w s pins) adds h = h
source_kept kinds at k u nets (kind.Output w s pins value) adds h =
    (record { count = h.0.count; there = Adds-there nets adds h.0.there }, (Adds-over nets adds h.1.0, Adds-always (Holds kinds at (expression value) nets) adds h.1.1))

-- ---- the objects so far

pub record SomeSources (kinds : List Kind) (at : ObjectNets) (uses : List ObjectUses) (n : ℕ) (old now : Circuit) (sources : List (List ℕ)) : Type 0 where
  pub adds : Adds (all_next_gates old.nodes (take n kinds) (take n uses) + sum_by (output_gates kinds) (take n kinds)) old now
  pub count : length sources ≡ n
  pub each : (k : ℕ) (x : Kind) (u : ObjectUses) → k < n → slice_get kinds k ≡ Some x → slice_get uses k ≡ Some u → IsSource kinds at now.nodes k u (slice_index_or sources k []) x

-- the gates for the next bits of one object more
next_taken : (nodes : List Node) (kinds : List Kind) (uses : List ObjectUses) (n : ℕ) (x : Kind) (u : ObjectUses) → slice_get kinds n ≡ Some x → slice_get uses n ≡ Some u
    → all_next_gates nodes (take (suc n) kinds) (take (suc n) uses) ≡ all_next_gates nodes (take n kinds) (take n uses) + next_gates nodes x u
next_taken nodes [] uses n x u is at = absurd cc
next_taken nodes (y ∷ kinds) [] n x u is at = absurd cc
next_taken nodes (y ∷ kinds) (z ∷ uses) zero x u is at =
    let a : y ≡ x = cc in
    let b : z ≡ u = cc in
    let e : next_gates nodes y z ≡ next_gates nodes x u = ap (λ o. next_gates nodes o z) a ∙ ap (λ o. next_gates nodes x o) b in
    omega (arith, e)
next_taken nodes (y ∷ kinds) (z ∷ uses) (suc n) x u is at = let h = next_taken nodes kinds uses n x u is at in omega (arith, h)

next_within : (nodes : List Node) (kinds : List Kind) (uses : List ObjectUses) (n : ℕ) (x : Kind) (u : ObjectUses) → slice_get kinds n ≡ Some x → slice_get uses n ≡ Some u
    → all_next_gates nodes (take n kinds) (take n uses) + next_gates nodes x u ≤ all_next_gates nodes kinds uses
next_within nodes [] uses n x u is at = absurd cc
next_within nodes (y ∷ kinds) [] n x u is at = absurd cc
next_within nodes (y ∷ kinds) (z ∷ uses) zero x u is at =
    let a : y ≡ x = cc in
    let b : z ≡ u = cc in
    let e : next_gates nodes y z ≡ next_gates nodes x u = ap (λ o. next_gates nodes o z) a ∙ ap (λ o. next_gates nodes x o) b in
    omega (arith, e)
next_within nodes (y ∷ kinds) (z ∷ uses) (suc n) x u is at = let h = next_within nodes kinds uses n x u is at in omega (arith, h)

-- no object yet
pub sources_none : (kinds : List Kind) (at : ObjectNets) (uses : List ObjectUses) (c : Circuit) (sources : List (List ℕ)) → sources ≡ [] → SomeSources kinds at uses 0 c c sources
sources_none kinds at uses c sources is = record {
  adds = Adds-most (omega arith) (Adds-none c);
  count = ap length is;
  each = λ k x u low there found. absurd (omega (arith, low));
}

-- there is room for the next object
pub sources_room : (kinds : List Kind) (at : ObjectNets) (uses : List ObjectUses) (n : ℕ) (x : Kind) (u : ObjectUses) (old now : Circuit) (sources : List (List ℕ))
    → SomeSources kinds at uses n old now sources → AllThere kinds old.nodes uses → slice_get kinds n ≡ Some x → slice_get uses n ≡ Some u
    → length old.nodes + (all_next_gates old.nodes kinds uses + sum_by (output_gates kinds) kinds) < 2 ^ 32 → length now.nodes + (next_gates now.nodes x u + output_gates kinds x) < 2 ^ 32
sources_room kinds at uses n x u old now sources some all is found room =
    let within = slice_get_within kinds n x is in
    let gates = next_within old.nodes kinds uses n x u is found in
    let outputs = sum_by_more_le (output_gates kinds) kinds n x within in
    let own : output_gates kinds (slice_index_or kinds n x) ≡ output_gates kinds x = ap (output_gates kinds) (get_or_from_slice_get kinds n x x is) in
    let same : next_gates now.nodes x u ≡ next_gates old.nodes x u = next_kept x u some.adds (all n x u is found) in
    let grown = Adds-room some.adds in
    omega (arith, gates, outputs, own, same, grown)

-- One object more.
pub sources_more : (kinds : List Kind) (at : ObjectNets) (uses : List ObjectUses) (n : ℕ) (x : Kind) (u : ObjectUses) (old now new : Circuit) (sources more : List (List ℕ)) (nets : List ℕ)
    → SomeSources kinds at uses n old now sources → AllThere kinds old.nodes uses → slice_get kinds n ≡ Some x → slice_get uses n ≡ Some u
    → MakesSource kinds at n u x now new nets → more ≡ sources ++ nets ∷ [] → SomeSources kinds at uses (n + 1) old new more
sources_more kinds at uses n x u old now new sources more nets some all is found made pushed =
    let within = slice_get_within kinds n x is in
    let step : n + 1 ≡ suc n = omega arith in
    let gates : all_next_gates old.nodes (take (n + 1) kinds) (take (n + 1) uses) ≡ all_next_gates old.nodes (take n kinds) (take n uses) + next_gates old.nodes x u =
    ap (λ m. all_next_gates old.nodes (take m kinds) (take m uses)) step ∙ next_taken old.nodes kinds uses n x u is found in
    let outputs = sum_by_more (output_gates kinds) kinds n x within in
    let own : output_gates kinds (slice_index_or kinds n x) ≡ output_gates kinds x = ap (output_gates kinds) (get_or_from_slice_get kinds n x x is) in
    let same : next_gates now.nodes x u ≡ next_gates old.nodes x u = next_kept x u some.adds (all n x u is found) in
    let count = some.count in
    record {
      adds = Adds-most (omega (arith, gates, outputs, own, same)) (Adds-then some.adds made.adds);
      count = ap length pushed ∙ length_push sources nets ∙ ap (λ m. m + 1) some.count;
      each = λ k y v low there used. elim (cases_lt k n) [
        | inl before ↦
            let kept : slice_index_or more k [] ≡ slice_index_or sources k [] = ap (λ l. slice_index_or l k []) pushed ∙ get_or_append_left sources (nets ∷ []) [] k (omega (arith, before, count)) in
            subst (λ l. IsSource kinds at new.nodes k v l y) (sym kept) (source_kept kinds at k v (slice_index_or sources k []) y made.adds (some.each k y v before there used))
        | inr after ↦
            let last : n ≡ k = omega (arith, low, after) in
            let kind_same : x ≡ y = same_Some x y (sym is ∙ ap (slice_get kinds) last ∙ there) in
            let use_same : u ≡ v = same_Some u v (sym found ∙ ap (slice_get uses) last ∙ used) in
            let own_nets : slice_index_or more k [] ≡ nets = ap (λ l. slice_index_or l k []) pushed ∙ get_or_push sources nets [] k (some.count ∙ last) in
            subst (λ l. IsSource kinds at new.nodes k v l y) (sym own_nets)
            (subst (λ q. IsSource kinds at new.nodes k v nets q) kind_same
            (subst (λ q. IsSource kinds at new.nodes k q nets x) use_same
            (subst (λ m. IsSource kinds at new.nodes m u nets x) last made.is)))
      ];
    }

-- All objects.
pub sources_all : (kinds : List Kind) (at : ObjectNets) (uses : List ObjectUses) (n : ℕ) (old now : Circuit) (sources : List (List ℕ)) → n ≡ length kinds → length uses ≡ length kinds
    → SomeSources kinds at uses n old now sources → MakesSources kinds at uses old now sources
sources_all kinds at uses n old now sources all count some =
    let whole : take n kinds ≡ kinds = take_all n kinds (omega arith) in
    let used : take n uses ≡ uses = take_all n uses (omega arith) in
    let gates : all_next_gates old.nodes (take n kinds) (take n uses) ≡ all_next_gates old.nodes kinds uses = ap (λ l. all_next_gates old.nodes l (take n uses)) whole ∙ ap (λ l. all_next_gates old.nodes kinds l) used in
    let outputs : sum_by (output_gates kinds) (take n kinds) ≡ sum_by (output_gates kinds) kinds = ap (λ l. sum_by (output_gates kinds) l) whole in
    record {
      adds = Adds-most (omega (arith, gates, outputs)) some.adds;
      count = some.count ∙ all;
      each = λ k x u there found. some.each k x u (let h = slice_get_within kinds k x there in omega arith) there found;
    }

-- the kind and the uses of the next object
pub record NextObject (kinds : List Kind) (uses : List ObjectUses) (k : ℕ) (x : Kind) (u : ObjectUses) : Type 0 where
  pub is : slice_get kinds k ≡ Some x
  pub used : slice_get uses k ≡ Some u

pub next_object : (objects list : List Object) (uses : List ObjectUses) (k : ℕ) (o : Object) (u : ObjectUses) → list ≡ objects → length uses ≡ length (kinds_of objects) → k < length list
    → u ≡ get_or uses k u → NextObject (kinds_of objects) uses k (get_or list k o).kind u
next_object objects list uses k o u same count within at =
    let size = length-map objects (λ (y : Object). y.kind) in
    let inside : k < length uses = omega (arith, within, count, size, ap length same) in
    record {
      is =
          subst (λ l. slice_get (kinds_of l) k ≡ Some (get_or list k o).kind) same
          (slice_get-map (λ (y : Object). y.kind) list k ∙ ap (option_map (λ (y : Object). y.kind)) (slice_get-get_or list k o within));
      used = slice_get-get_or uses k u inside ∙ ap Some (sym at);
    }
