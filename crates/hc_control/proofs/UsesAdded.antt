-- The uses of all objects with the write of one action more.
use Rattle.std.proofs.Common.{◌≡◌, ◌<◌, ◌≤◌, ℕ, zero, suc, ◌+◌, List, [], ◌∷◌, ◌++◌, length, get_or, map, replicate, take, ◌^◌, Bool, Some, refl, ap, sym, ◌∙◌, subst, inl, inr, arith, append_assoc, ◌⊎◌}
use Rattle.std.specs.Prelude.{All, slice_get, slice_index, slice_index_or, slice_set, if◌then◌else◌}
use Rattle.std.specs.List.{sum_by}
use Rattle.std.proofs.lemmas.Bool.{cases_eq, eq-eqb, ne_eqb}
use Rattle.std.proofs.lemmas.List.{append-nil, get_or_append_left, get_or_push, map_push, get_or-map, get_or_read, length-map, length_push, length-set, length-replicate, length-take-le, take_all, take_more}
use Rattle.std.proofs.lemmas.List.Elements.{All-nil, All-push}
use Rattle.std.proofs.lemmas.List.Sums.{sum_by_push, sum_by_more_le}
use Rattle.std.proofs.lemmas.Option.{same_Some, slice_get-get_or, slice_get_within}
use Rattle.hc_num.specs.Number.{Number}
use Rattle.hc_core.specs.Program.{Expression, Constant, Target, ToRegister, ToElement, ToWord, ToSignal}
use Rattle.hc_core.specs.Sound.{IsTarget}
use Rattle.hc_core.specs.Typed.{kind_width, width_of}
use Rattle.hc_core.specs.Weight.{expression_weight}
use Rattle.hc_core.specs.declared.object.Kind.{Kind}
use Rattle.hc_core.specs.declared.object.Kind.TheVariants as kind
use Rattle.hc_core.proofs.Types.{widths_are}
use Rattle.hc_meaning.specs.Residual.{Action, Assign, Delay, Send, Receive}
use Rattle.hc_net.specs.Circuit.{Circuit}
use Rattle.hc_net.specs.Made.{Adds, Always}
use Rattle.hc_net.specs.MadeLemmas.{Adds-none, Adds-most, Adds-then, Adds-longer, Adds-room, Adds-there, Adds-always, all_there}
use Rattle.hc_net.specs.declared.node.Node.{Node}
use Rattle.hc_value.specs.Moves.{constant_nets}
use Rattle.hc_value.specs.Objects.{AreNets}
use Rattle.hc_value.specs.Reads.{Holds, MakesValue}
use Rattle.hc_value.specs.declared.objects.ObjectNets.{ObjectNets}
use Rattle.hc_control.specs.Right.{HasPlaces}
use Rattle.hc_control.specs.Uses.{Write, object_of, write_of, writes_from, IsBuiltAction, index_weight, action_gates, index_bits, HoldsIndex, AreUses, AreThere, MakesUses, no_use, with_use, MakesIndex, AddsUse, AddsUses}
use Rattle.hc_control.specs.declared.uses.ObjectUses.{ObjectUses}
use Rattle.hc_control.proofs.UsesNets.{places_kept}

-- ---- lists

-- a place in a list with one element more
snoc_cases : {A : Type 0} (xs : List A) (w : A) (i : ℕ) (y : A) → slice_get (xs ++ w ∷ []) i ≡ Some y → ((i < length xs) × (slice_get xs i ≡ Some y)) ⊎ ((i ≡ length xs) × (w ≡ y))
snoc_cases [] w zero y at = inr (refl, cc)
snoc_cases [] w (suc i) y at = absurd cc
snoc_cases (x ∷ xs) w zero y at = inl (omega arith, at)
snoc_cases (x ∷ xs) w (suc i) y at = elim (snoc_cases xs w i y at) [
  | inl h ↦ let low = h.0 in inl (omega arith, h.1)
  | inr h ↦ inr (ap (λ n. suc n) h.0, h.1)
]

-- what a place holds after one of a list was set
set_same : {A : Type 0} (xs : List A) (k : ℕ) (v u : A) → slice_get (slice_set xs k v) k ≡ Some u → v ≡ u
set_same [] k v u at = absurd cc
set_same (x ∷ xs) zero v u at = cc
set_same (x ∷ xs) (suc k) v u at = set_same xs k v u at

set_other : {A : Type 0} (xs : List A) (j k : ℕ) (v u : A) → (j ≡ k → ⊥) → slice_get (slice_set xs j v) k ≡ Some u → slice_get xs k ≡ Some u
set_other [] j k v u ne at = at
set_other (x ∷ xs) zero zero v u ne at = absurd (ne refl)
set_other (x ∷ xs) zero (suc k) v u ne at = at
set_other (x ∷ xs) (suc j) zero v u ne at = at
set_other (x ∷ xs) (suc j) (suc k) v u ne at = set_other xs j k v u (λ e. ne (ap (λ n. suc n) e)) at

-- each place of a list of one element many times
replicate_get : {A : Type 0} (n k : ℕ) (x y : A) → slice_get (replicate n x) k ≡ Some y → x ≡ y
replicate_get zero k x y at = absurd cc
replicate_get (suc n) zero x y at = cc
replicate_get (suc n) (suc k) x y at = replicate_get n k x y at

-- the writes of one action more
writes_more : (k n : ℕ) (xs : List Action) (a : Action) → writes_from k n (xs ++ a ∷ []) ≡ writes_from k n xs ++ write_of k (n + length xs) a
writes_more k n [] a = append-nil (write_of k n a) ∙ ap (λ m. write_of k m a) (let e : n ≡ n + 0 = omega arith in e)
writes_more k n (x ∷ xs) a =
    ap (λ l. write_of k n x ++ l) (writes_more k (n + 1) xs a)
    ∙ sym (append_assoc (write_of k n x) (writes_from k (n + 1) xs) (write_of k (n + 1 + length xs) a))
    ∙ ap (λ m. (write_of k n x ++ writes_from k (n + 1) xs) ++ write_of k m a) (let e : n + 1 + length xs ≡ n + suc (length xs) = omega arith in e)

-- an action that writes another object, and one that writes this one
written_other : (k n : ℕ) (t : Target) (e : Expression) → (object_of t ≡ k → ⊥) → write_of k n (Assign t e) ≡ []
written_other k n t e ne = ap (λ b. if b then record { action = n; target = t; value = e } ∷ [] else []) (ne_eqb (object_of t) k ne)

written_here : (n : ℕ) (t : Target) (e : Expression) (k : ℕ) → object_of t ≡ k → write_of k n (Assign t e) ≡ record { action = n; target = t; value = e } ∷ []
written_here n t e k is = ap (λ b. if b then record { action = n; target = t; value = e } ∷ [] else []) (eq-eqb (object_of t) k is)

-- ---- the uses of one object

there_none : (nodes : List Node) (x : Kind) → AreThere x nodes no_use
there_none nodes x = record {
  enables = All-nil (λ k. k < length nodes);
  index_count = refl;
  value_count = refl;
  indexes = All-nil (AreNets (length nodes) (index_bits x));
  writes = refl;
  values = All-nil (AreNets (length nodes) (kind_width (Some x)));
}

uses_none : (kinds : List Kind) (at : ObjectNets) (starts : List ℕ) (nodes : List Node) (x : Kind) → AreUses kinds at starts nodes x [] no_use
uses_none kinds at starts nodes x = record {
  enables = refl;
  there = there_none nodes x;
  index = λ i y is. absurd cc;
  constant = λ i y n k is fixed. absurd cc;
  value = λ i y is. absurd cc;
}

nets_kept : (m n size : ℕ) (lists : List (List ℕ)) → m ≤ n → All (AreNets m size) lists → All (AreNets n size) lists
nets_kept m n size lists le all i d within = let h = all i d within in record { count = h.count; there = all_there _ le h.there }

pub there_kept : {most : ℕ} {old new : Circuit} (x : Kind) (u : ObjectUses) → Adds most old new → AreThere x old.nodes u → AreThere x new.nodes u
there_kept {old = old} {new = new} x u adds h = record {
  enables = Adds-there u.enables adds h.enables;
  index_count = h.index_count;
  value_count = h.value_count;
  indexes = nets_kept (length old.nodes) (length new.nodes) (index_bits x) u.indexes (Adds-longer adds) h.indexes;
  writes = h.writes;
  values = nets_kept (length old.nodes) (length new.nodes) (kind_width (Some x)) u.values (Adds-longer adds) h.values;
}

index_kept : {most : ℕ} {old new : Circuit} (kinds : List Kind) (at : ObjectNets) (t : Target) (nets : List ℕ) → Adds most old new → HoldsIndex kinds at old.nodes t nets → HoldsIndex kinds at new.nodes t nets
index_kept kinds at (ToRegister k) nets adds h = tt
index_kept kinds at (ToElement k i) nets adds h = Adds-always (Holds kinds at i nets) adds h
index_kept kinds at (ToWord k i) nets adds h = Adds-always (Holds kinds at i nets) adds h
index_kept kinds at (ToSignal k) nets adds h = tt

uses_kept : {most : ℕ} {old new : Circuit} (kinds : List Kind) (at : ObjectNets) (starts : List ℕ) (x : Kind) (writes : List Write) (u : ObjectUses)
    → Adds most old new → AreUses kinds at starts old.nodes x writes u → AreUses kinds at starts new.nodes x writes u
uses_kept kinds at starts x writes u adds h = record {
  enables = h.enables;
  there = there_kept x u adds h.there;
  index = λ i y is. index_kept kinds at y.target (slice_index_or u.indexes i []) adds (h.index i y is);
  constant = h.constant;
  value = λ i y is. Adds-always (Holds kinds at y.value (slice_index_or u.values i [])) adds (h.value i y is);
}

-- the nets of one write more
record UseNets (kinds : List Kind) (at : ObjectNets) (starts : List ℕ) (nodes : List Node) (x : Kind) (w : Write) (start : ℕ) (index nets : List ℕ) : Type 0 where
  pub start_is : start ≡ slice_index starts w.action
  pub start_there : start < length nodes
  pub index_there : All (λ k. k < length nodes) index
  pub index_width : length index ≡ index_bits x
  pub index_holds : HoldsIndex kinds at nodes w.target index
  pub index_fixed : (n : Number) (k : ℕ) → w.target ≡ ToElement k (Constant n) → index ≡ constant_nets at.zero at.one n
  pub value_there : All (λ k. k < length nodes) nets
  pub value_width : length nets ≡ kind_width (Some x)
  pub value_holds : Always nodes (Holds kinds at w.value nets)

there_put : (nodes : List Node) (x : Kind) (u : ObjectUses) (start : ℕ) (index nets : List ℕ) → start < length nodes → AreNets (length nodes) (index_bits x) index → AreNets (length nodes) (kind_width (Some x)) nets
    → AreThere x nodes u → AreThere x nodes (with_use start index nets u)
there_put nodes x u start index nets within first second h =
    let a = length_push u.enables start in
    let b = length_push u.indexes index in
    let c = length_push u.values nets in
    record {
      enables = All-push (λ k. k < length nodes) u.enables start h.enables within;
      index_count = b ∙ ap (λ n. n + 1) h.index_count ∙ sym a;
      value_count = c ∙ ap (λ n. n + 1) h.value_count ∙ sym a;
      indexes = All-push (AreNets (length nodes) (index_bits x)) u.indexes index h.indexes first;
      writes = h.writes;
      values = All-push (AreNets (length nodes) (kind_width (Some x))) u.values nets h.values second;
    }

uses_put : (kinds : List Kind) (at : ObjectNets) (starts : List ℕ) (nodes : List Node) (x : Kind) (writes : List Write) (u : ObjectUses) (w : Write) (start : ℕ) (index nets : List ℕ)
    → UseNets kinds at starts nodes x w start index nets → AreUses kinds at starts nodes x writes u → AreUses kinds at starts nodes x (writes ++ w ∷ []) (with_use start index nets u)
uses_put kinds at starts nodes x writes u w start index nets new h =
    let count : length u.enables ≡ length writes = ap length h.enables ∙ length-map writes (λ y. slice_index starts y.action) in
    let indexes : length u.indexes ≡ length writes = h.there.index_count ∙ count in
    let values : length u.values ≡ length writes = h.there.value_count ∙ count in
    record {
      enables =
          ap (λ l. l ++ start ∷ []) h.enables ∙ ap (λ n. map (λ y. slice_index starts y.action) writes ++ n ∷ []) new.start_is
          ∙ sym (map_push (λ (y : Write). slice_index starts y.action) writes w);
      there = there_put nodes x u start index nets new.start_there (record { count = new.index_width; there = new.index_there }) (record { count = new.value_width; there = new.value_there }) h.there;
      index = λ i y is. elim (snoc_cases writes w i y is) [
        | inl low ↦
            let same : slice_index_or (u.indexes ++ index ∷ []) i [] ≡ slice_index_or u.indexes i [] = get_or_append_left u.indexes (index ∷ []) [] i (omega (arith, low.0, indexes)) in
            subst (λ l. HoldsIndex kinds at nodes y.target l) (sym same) (h.index i y low.1)
        | inr last ↦
            let same : slice_index_or (u.indexes ++ index ∷ []) i [] ≡ index = get_or_push u.indexes index [] i (indexes ∙ sym last.0) in
            subst (λ l. HoldsIndex kinds at nodes y.target l) (sym same) (subst (λ (z : Write). HoldsIndex kinds at nodes z.target index) last.1 new.index_holds)
      ];
      constant = λ i y n k is fixed. elim (snoc_cases writes w i y is) [
        | inl low ↦ get_or_append_left u.indexes (index ∷ []) [] i (omega (arith, low.0, indexes)) ∙ h.constant i y n k low.1 fixed
        | inr last ↦ get_or_push u.indexes index [] i (indexes ∙ sym last.0) ∙ new.index_fixed n k (ap (λ (z : Write). z.target) last.1 ∙ fixed)
      ];
      value = λ i y is. elim (snoc_cases writes w i y is) [
        | inl low ↦
            let same : slice_index_or (u.values ++ nets ∷ []) i [] ≡ slice_index_or u.values i [] = get_or_append_left u.values (nets ∷ []) [] i (omega (arith, low.0, values)) in
            subst (λ l. Always nodes (Holds kinds at y.value l)) (sym same) (h.value i y low.1)
        | inr last ↦
            let same : slice_index_or (u.values ++ nets ∷ []) i [] ≡ nets = get_or_push u.values nets [] i (values ∙ sym last.0) in
            subst (λ l. Always nodes (Holds kinds at y.value l)) (sym same) (subst (λ (z : Write). Always nodes (Holds kinds at z.value nets)) last.1 new.value_holds)
      ];
    }

-- ---- all uses

-- before the first action
pub no_uses_made : (kinds : List Kind) (at : ObjectNets) (starts : List ℕ) (c : Circuit) (count : ℕ) (uses : List ObjectUses) → count ≡ length kinds → uses ≡ replicate count no_use → MakesUses kinds at starts [] c c uses
no_uses_made kinds at starts c count uses size is =
    let all : uses ≡ replicate (length kinds) no_use = is ∙ ap (λ n. replicate n no_use) size in
    rw all (record {
      adds = Adds-none c;
      count = length-replicate (length kinds) no_use;
      each = λ k x u there found. subst (λ v. AreUses kinds at starts c.nodes x [] v) (replicate_get (length kinds) k no_use u found) (uses_none kinds at starts c.nodes x);
    })

-- an action that writes nothing
pub delay_made : (kinds : List Kind) (at : ObjectNets) (starts : List ℕ) (actions : List Action) (old new : Circuit) (uses : List ObjectUses)
    → MakesUses kinds at starts actions old new uses → MakesUses kinds at starts (actions ++ Delay ∷ []) old new uses
delay_made kinds at starts actions old new uses made =
    let gates = sum_by_push (action_gates kinds) actions Delay in
    record {
      adds = Adds-most (omega (arith, gates)) made.adds;
      count = made.count;
      each = λ k x u there found.
          subst (λ l. AreUses kinds at starts new.nodes x l u) (sym (writes_more k 0 actions Delay ∙ append-nil (writes_from k 0 actions))) (made.each k x u there found);
    }

-- what a target says of its object
record TargetFacts (kinds : List Kind) (t : Target) (w : ℕ) : Type 0 where
  pub kind : Kind
  pub is : slice_get kinds (object_of t) ≡ Some kind
  pub width : kind_width (Some kind) ≡ w

target_facts : (kinds : List Kind) (t : Target) (w : ℕ) (s : Bool) → IsTarget kinds t w s → TargetFacts kinds t w
target_facts kinds (ToRegister k) w s h = record { kind = kind.Reg w s h.0; is = h.1; width = refl }
target_facts kinds (ToElement k i) w s h = record { kind = kind.Array w s h.0 h.1; is = h.2; width = refl }
target_facts kinds (ToWord k i) w s h = record { kind = kind.Ram w s h.0 h.1; is = h.2; width = refl }
target_facts kinds (ToSignal k) w s h = record { kind = kind.Signal w s h.0; is = h.1; width = refl }

-- the writes of an object with those of an assignment to it
writes_here : (k : ℕ) (actions : List Action) (t : Target) (e : Expression) → object_of t ≡ k
    → writes_from k 0 (actions ++ Assign t e ∷ []) ≡ writes_from k 0 actions ++ record { action = 0 + length actions; target = t; value = e } ∷ []
writes_here k actions t e is = writes_more k 0 actions (Assign t e) ∙ ap (λ l. writes_from k 0 actions ++ l) (written_here (0 + length actions) t e k is)

writes_other : (k : ℕ) (actions : List Action) (t : Target) (e : Expression) → (object_of t ≡ k → ⊥) → writes_from k 0 (actions ++ Assign t e ∷ []) ≡ writes_from k 0 actions
writes_other k actions t e ne =
    writes_more k 0 actions (Assign t e) ∙ ap (λ l. writes_from k 0 actions ++ l) (written_other k (0 + length actions) t e ne) ∙ append-nil (writes_from k 0 actions)

-- An assignment.
pub assign_made : (kinds : List Kind) (at : ObjectNets) (starts : List ℕ) (actions : List Action) (start : ℕ) (t : Target) (e : Expression) (old mid new : Circuit) (uses more : List ObjectUses)
    → HasPlaces kinds mid.nodes at → IsBuiltAction kinds (Assign t e) → start ≡ slice_index starts (length actions) → start < length mid.nodes
    → MakesUses kinds at starts actions old mid uses → AddsUse kinds at start t e mid new uses more → MakesUses kinds at starts (actions ++ Assign t e ∷ []) old new more
assign_made kinds at starts actions start t e old mid new uses more places built start_is start_there made put =
    let fits = built.0 in
    let facts = target_facts kinds t fits.width fits.signed fits.target in
    let o = object_of t in
    let x = facts.kind in
    let u = slice_index_or uses o no_use in
    let v = with_use start put.index put.nets u in
    let inside = slice_get_within kinds o x facts.is in
    let count = made.count in
    let within : o < length uses = omega arith in
    let found : slice_get uses o ≡ Some u = slice_get-get_or uses o no_use within in
    let first = put.makes_index.adds in
    let second = put.makes_value.adds in
    let adds : Adds (index_weight kinds t + expression_weight kinds e) mid new = Adds-then first second in
    let w : Write = record { action = 0 + length actions; target = t; value = e } in
    let nets : UseNets kinds at starts new.nodes x w start put.index put.nets = record {
      start_is = start_is ∙ ap (λ n. slice_index starts n) (let z : length actions ≡ 0 + length actions = omega arith in z);
      start_there = let longer = Adds-longer adds in omega arith;
      index_there = Adds-there put.index second put.makes_index.there;
      index_width = put.makes_index.width x facts.is;
      index_holds = index_kept kinds at t put.index second put.makes_index.holds;
      index_fixed = put.makes_index.constant;
      value_there = put.makes_value.there;
      value_width = put.width ∙ widths_are kinds e fits.width fits.signed fits.value ∙ sym facts.width;
      value_holds = put.makes_value.value;
    } in
    let gates = sum_by_push (action_gates kinds) actions (Assign t e) in
    record {
      adds = Adds-most (omega (arith, gates)) (Adds-then made.adds adds);
      count = ap length put.put ∙ length-set uses o v ∙ made.count;
      each = λ k y z there after. elim (cases_eq o k) [
        | inl same ↦
            let kinds_same : x ≡ y = same_Some x y (sym facts.is ∙ ap (slice_get kinds) same ∙ there) in
            let uses_same : v ≡ z = set_same uses o v z (ap (λ l. slice_get l o) (sym put.put) ∙ ap (slice_get more) same ∙ after) in
            let before = made.each k x u (ap (slice_get kinds) (sym same) ∙ facts.is) (ap (slice_get uses) (sym same) ∙ found) in
            let base = uses_put kinds at starts new.nodes x (writes_from k 0 actions) u w start put.index put.nets nets (uses_kept kinds at starts x (writes_from k 0 actions) u adds before) in
            subst (λ q. AreUses kinds at starts new.nodes y (writes_from k 0 (actions ++ Assign t e ∷ [])) q) uses_same
            (subst (λ q. AreUses kinds at starts new.nodes q (writes_from k 0 (actions ++ Assign t e ∷ [])) v) kinds_same
            (subst (λ l. AreUses kinds at starts new.nodes x l v) (sym (writes_here k actions t e same)) base))
        | inr other ↦
            let before = made.each k y z there (set_other uses o k v z other (ap (λ l. slice_get l k) (sym put.put) ∙ after)) in
            subst (λ l. AreUses kinds at starts new.nodes y l z) (sym (writes_other k actions t e other)) (uses_kept kinds at starts y (writes_from k 0 actions) z adds before)
      ];
    }

-- One action more.
pub uses_more : (kinds : List Kind) (at : ObjectNets) (starts : List ℕ) (actions : List Action) (start : ℕ) (a : Action) (old mid new : Circuit) (uses more : List ObjectUses)
    → HasPlaces kinds mid.nodes at → IsBuiltAction kinds a → start ≡ slice_index starts (length actions) → start < length mid.nodes
    → MakesUses kinds at starts actions old mid uses → AddsUses kinds at start a mid new uses more → MakesUses kinds at starts (actions ++ a ∷ []) old new more
uses_more kinds at starts actions start (Assign t e) old mid new uses more places built start_is start_there made put =
    assign_made kinds at starts actions start t e old mid new uses more places built start_is start_there made put
uses_more kinds at starts actions start Delay old mid new uses more places built start_is start_there made put =
    subst (λ (c : Circuit). MakesUses kinds at starts (actions ++ Delay ∷ []) old c more) (sym put.0)
    (subst (λ l. MakesUses kinds at starts (actions ++ Delay ∷ []) old mid l) (sym put.1) (delay_made kinds at starts actions old mid uses made))
uses_more kinds at starts actions start (Send chan e) old mid new uses more places built start_is start_there made put = absurd put
uses_more kinds at starts actions start (Receive chan t) old mid new uses more places built start_is start_there made put = absurd put

-- ---- along a list of actions

-- an element of a list that another list is made of
pub part_at : {X Y : Type 0} (f : X → Y) (xs : List X) (i : ℕ) (x : X) → i < length xs → x ≡ get_or xs i x → f x ≡ get_or (map f xs) i (f x)
part_at f xs i x within is = ap f is ∙ sym (get_or-map f xs i x (f x) within)

pub holds_at : {Y : Type 0} (P : Y → Type 0) (ys : List Y) (i : ℕ) (y : Y) → All P ys → i < length ys → y ≡ get_or ys i y → P y
holds_at P ys i y all within is = subst P (sym is) (all i y within)

-- The uses of the first i + 1 actions from those of the first i.
pub uses_step : (kinds : List Kind) (at : ObjectNets) (starts : List ℕ) (all : List Action) (i start : ℕ) (a : Action) (old mid new : Circuit) (uses more : List ObjectUses)
    → HasPlaces kinds old.nodes at → All (λ k. k < length old.nodes) starts → length starts ≡ length all → All (IsBuiltAction kinds) all
    → i < length all → a ≡ get_or all i a → start ≡ slice_index starts i
    → MakesUses kinds at starts (take i all) old mid uses → AddsUses kinds at start a mid new uses more → MakesUses kinds at starts (take (i + 1) all) old new more
uses_step kinds at starts all i start a old mid new uses more places there count built within is start_is made put =
    let size : length (take i all) ≡ i = length-take-le i all (omega arith) in
    let inside : i < length starts = omega arith in
    let named : start ≡ slice_index starts (length (take i all)) = start_is ∙ ap (λ n. slice_index starts n) (sym size) in
    let low : start < length old.nodes = subst (λ k. k < length old.nodes) (sym start_is) (there i 0 inside) in
    let longer = Adds-longer made.adds in
    let next : take (i + 1) all ≡ take i all ++ a ∷ [] = take_more all i a within ∙ ap (λ y. take i all ++ y ∷ []) (sym is) in
    subst (λ l. MakesUses kinds at starts l old new more) (sym next)
    (uses_more kinds at starts (take i all) start a old mid new uses more (places_kept kinds at made.adds places) (holds_at (IsBuiltAction kinds) all i a built within is) named (omega arith) made put)

-- there is room for the gates of the next action
pub uses_room : (kinds : List Kind) (at : ObjectNets) (starts : List ℕ) (all : List Action) (i : ℕ) (a : Action) (old mid : Circuit) (uses : List ObjectUses) → i < length all → a ≡ get_or all i a
    → length old.nodes + sum_by (action_gates kinds) all < 2 ^ 32 → MakesUses kinds at starts (take i all) old mid uses → length mid.nodes + action_gates kinds a < 2 ^ 32
uses_room kinds at starts all i a old mid uses within is room made =
    let grown = Adds-room made.adds in
    let more = sum_by_more_le (action_gates kinds) all i a within in
    let own : action_gates kinds a ≡ action_gates kinds (get_or all i a) = ap (action_gates kinds) is in
    omega (arith, grown, more, own, room)

-- all actions
pub uses_all : (kinds : List Kind) (at : ObjectNets) (starts : List ℕ) (all : List Action) (i : ℕ) (old mid : Circuit) (uses : List ObjectUses) → length all ≤ i → MakesUses kinds at starts (take i all) old mid uses
    → MakesUses kinds at starts all old mid uses
uses_all kinds at starts all i old mid uses far made = subst (λ l. MakesUses kinds at starts l old mid uses) (take_all i all far) made

-- ---- the uses of one object in the code

pub use_put : (kinds : List Kind) (at : ObjectNets) (start : ℕ) (t : Target) (e : Expression) (old mid new : Circuit) (uses : List ObjectUses) (k : ℕ) (u : ObjectUses) (index nets enables : List ℕ) (indexes values : List (List ℕ))
    → MakesIndex kinds at t old mid index → length nets ≡ width_of kinds e → MakesValue kinds at e mid new nets → k ≡ object_of t → k < length uses → u ≡ get_or uses k u
    → enables ≡ u.enables ++ start ∷ [] → indexes ≡ u.indexes ++ index ∷ [] → values ≡ u.values ++ nets ∷ []
    → AddsUse kinds at start t e old new uses (slice_set uses k (record { enables = enables; indexes = indexes; writes = u.writes; values = values }))
use_put kinds at start t e old mid new uses k u index nets enables indexes values makes width made object within is first second third =
    let found : u ≡ slice_index_or uses k no_use = get_or_read uses k u within is no_use in
    let all : record { enables = enables; indexes = indexes; writes = u.writes; values = values } ≡ with_use start index nets u =
    (λ j. record { enables = first j; indexes = second j; writes = u.writes; values = third j }) in
    record {
      index = index;
      nets = nets;
      middle = mid;
      makes_index = makes;
      makes_value = made;
      width = width;
      put =
          ap (λ v. slice_set uses k v) (all ∙ ap (λ v. with_use start index nets v) found)
          ∙ ap (λ n. slice_set uses n (with_use start index nets (slice_index_or uses n no_use))) object;
    }
