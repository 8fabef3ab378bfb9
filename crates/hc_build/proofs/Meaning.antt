-- What stands between the stages does what the core does: at every edge the nets of registers and arrays hold what these hold
-- in the run, and in every clock those of outputs hold their numbers.
use Rattle.std.proofs.Common.{◌≡◌, ◌≢◌, ◌<◌, ◌≤◌, ℕ, zero, suc, ◌+◌, List, [], length, map, get_or, Bool, Option, Some, None, flat_map, refl, ap, sym, ◌∙◌, subst, inl, inr, arith}
use Rattle.std.specs.Prelude.{◌⊎◌, slice_get, slice_index, slice_index_or, All, AllPairs}
use Rattle.std.proofs.lemmas.Bool.{cases_lt}
use Rattle.std.proofs.lemmas.List.{get_or-map, length-map}
use Rattle.std.proofs.lemmas.Option.{slice_get_within, slice_get-get_or, get_or_from_slice_get}
use Rattle.hc_num.specs.Number.{Number}
use Rattle.hc_core.specs.Program.{Expression, ToElement}
use Rattle.hc_core.specs.Read.{expression, statement}
use Rattle.hc_core.specs.Typed.{kinds_of, kind_width}
use Rattle.hc_core.specs.declared.expr.Expr.{Expr}
use Rattle.hc_core.specs.declared.object.Kind.{Kind}
use Rattle.hc_core.specs.declared.object.Kind.TheVariants as kind
use Rattle.hc_core.specs.declared.object.Core.{Core}
use Rattle.hc_meaning.specs.Residual.{Action}
use Rattle.hc_meaning.specs.Value.{Store, World, words, number_of, bits_of, initial, inputs_before}
use Rattle.hc_meaning.specs.Control.{Leaf, resolved, front, evaluated}
use Rattle.hc_meaning.specs.Clock.{Write as Change, register_cells, writes, all_writes, after, cells_written, IsClean}
use Rattle.hc_meaning.specs.Run.{Run, State, first_state, world_of}
use Rattle.hc_meaning.proofs.Twice.{clean_of}
use Rattle.hc_net.specs.Bits.{number}
use Rattle.hc_net.specs.Circuit.{Circuit, History, Explains}
use Rattle.hc_net.specs.MadeLemmas.{Adds-extends}
use Rattle.hc_net.specs.Run.{Trace}
use Rattle.hc_bits.specs.Elements.{element_nets}
use Rattle.hc_value.specs.Objects.{nets_of}
use Rattle.hc_value.specs.Reads.{Holds}
use Rattle.hc_value.specs.declared.objects.ObjectNets.{ObjectNets}
use Rattle.hc_control.specs.Controlled.{AreRight}
use Rattle.hc_control.specs.Listing.{actions_in, leaf_action}
use Rattle.hc_control.specs.Right.{net_count, IsRight}
use Rattle.hc_control.specs.Starts.{leaves}
use Rattle.hc_control.specs.Uses.{Write, writes_from, IsBuiltAction, HoldsIndex, AreUses, no_use}
use Rattle.hc_control.specs.declared.uses.ObjectUses.{ObjectUses}
use Rattle.hc_control.proofs.ReadsNets.{element_whole, number_held}
use Rattle.hc_build.specs.Runs.{ObjectsRun}
use Rattle.hc_build.proofs.Stages.{Stages}
use Rattle.hc_build.proofs.Program.{core_main, core_actions, core_kinds}
use Rattle.hc_build.proofs.Placing.{length-padded}
use Rattle.hc_build.proofs.StructureBits.{number-bits}
use Rattle.hc_build.proofs.MeaningLists.{element_same, nets_count}
use Rattle.hc_build.proofs.MeaningStores.{SameShape, shape_self, shape_then, shape_after, initial_words, initial_size}
use Rattle.hc_build.proofs.MeaningFront.{IsAct, all_act, wrote_from, selected_writes}
use Rattle.hc_build.proofs.MeaningWrites.{Outcome, built_writes, outcome}
use Rattle.hc_build.proofs.MeaningEdge.{IsNow, AreUsed, register_next, element_next}

-- At an edge the nets of registers and arrays hold what these hold.
pub record HoldStore (kinds : List Kind) (at : ObjectNets) (store : Store) (v : ℕ → Bool) : Type 0 where
  pub shape : SameShape store (initial kinds)
  pub words_are : (k e : ℕ) → e < register_cells (slice_get kinds k)
      → number (map v (element_nets (kind_width (slice_get kinds k)) (nets_of at k) e)) ≡ slice_index_or (words store k) e 0

-- an element that may be written is that of a register or of an array
abbrev pub IsRegister : Option Kind → ℕ → Type 0
IsRegister o e = (m : ℕ) × (s : Bool) × (init : Number) × (o ≡ Some (kind.Reg m s init)) × (e ≡ 0)

abbrev pub IsElement : Option Kind → ℕ → Type 0
IsElement o e = (m : ℕ) × (s : Bool) × (n : ℕ) × (init : List Number) × (o ≡ Some (kind.Array m s n init)) × (e < n)

own_element : (o : Option Kind) (e : ℕ) → e < register_cells o → IsRegister o e ⊎ IsElement o e
own_element (Some (kind.Reg m s init)) e low = inl (m, s, init, refl, omega (arith, low))
own_element (Some (kind.Array m s n init)) e low = inr (m, s, n, init, refl, low)
own_element (Some (kind.Ram m s n init)) e low = absurd (omega (arith, low))
own_element (Some (kind.Rom m s n init)) e low = absurd (omega (arith, low))
own_element (Some (kind.Signal m s unset)) e low = absurd (omega (arith, low))
own_element (Some (kind.Chan m s queue)) e low = absurd (omega (arith, low))
own_element (Some (kind.Input m s pins)) e low = absurd (omega (arith, low))
own_element (Some (kind.Output m s pins value)) e low = absurd (omega (arith, low))
own_element None e low = absurd (omega (arith, low))

-- lists of one length have an item in each place
beside : (kinds : List Kind) (uses : List ObjectUses) (k : ℕ) (kind : Kind) → length uses ≡ length kinds → slice_get kinds k ≡ Some kind → (u : ObjectUses) × (slice_get uses k ≡ Some u)
beside kinds uses k kind count is =
    (get_or uses k no_use, slice_get-get_or uses k no_use (let low = slice_get_within kinds k kind is in omega (arith, low, count)))

index_held : (kinds : List Kind) (at : ObjectNets) (nodes : List _) (trace : Trace) (h : History) (t k : ℕ) (j : Expression) (target : _) (nets : List ℕ) → Explains nodes trace h
    → target ≡ ToElement k j → HoldsIndex kinds at nodes target nets → Holds kinds at j nets (h t)
index_held kinds at nodes trace h t k j target nets explains is holds = subst (λ x. HoldsIndex kinds at nodes x nets) is holds trace h explains t

-- ---- a history of what stands

module _ (core : Core) (at : ObjectNets) (uses : List ObjectUses) (sources : List (List ℕ)) (placed used read last : Circuit) (stages : Stages core at uses sources placed used read last)
    (trace : Trace) (h : History) (explains : Explains last.nodes trace h) (objects : ObjectsRun (kinds_of core.objects) at sources trace h) where
  abbrev kinds : List Kind
  kinds = kinds_of core.objects

  abbrev list : List Action
  list = actions_in (statement core.main)

  abbrev starts : List ℕ
  starts = stages.controlled.starts

  explains_read : Explains read.nodes trace h
  explains_read = stages.connects.keeps.earlier trace h explains

  explains_used : Explains used.nodes trace h
  explains_used = Adds-extends stages.makes_sources.adds trace h explains_read

  net_counts : (k : ℕ) (kind : Kind) → slice_get kinds k ≡ Some kind → length (nets_of at k) ≡ net_count kind
  net_counts k kind is = ap (λ (l : List (List ℕ)). length (get_or l k [])) stages.places.objects ∙ nets_count 0 k kinds kind is

  built : All (IsBuiltAction kinds) list
  built = core_actions core stages.buildable

  -- whether the start of an action holds, by the number of the action
  abbrev starts_in : ℕ → ℕ → Bool
  starts_in t m = h t (slice_index starts m)

  -- ---- one run

  module _ (n : ℕ) (run : Run core trace n) where
    abbrev world : (t : ℕ) → t < n → World
    world t inside = world_of kinds (trace t) (run.state t) (run.clock t inside).settled.instant

    abbrev holds_at : ℕ → Type 0
    holds_at t = HoldStore kinds at (run.state t).store (h t)

    -- ---- one clock

    module _ (t : ℕ) (inside : t < n) (held : holds_at t) where
      right : IsRight kinds at (world t inside) (h t)
      right = record {
        kinds_are = refl;
        zero = objects.zero_is t;
        one = objects.one_is t;
        read = record {
          count = net_counts;
          words_are = held.words_are;
          size = λ k m l s init is. held.shape.each k ∙ ap length (initial_words kinds k (kind.Array m s l init) is) ∙ length-padded l (bits_of init);
          inputs_are = λ k m s pins is. ap number (objects.input k m t s pins is) ∙ number-bits (slice_index (trace t) (inputs_before kinds k)) m (run.inputs t inside k m s pins is);
        };
      }

      now : IsNow (world t inside) at (h t)
      now = record {
        right = right;
        objects = held.shape.size ∙ initial_size kinds;
        register = λ k m s init is. held.shape.each k ∙ ap length (initial_words kinds k (kind.Reg m s init) is);
      }

      -- the number of an output in the clock
      output_shows : (k m : ℕ) (s : Bool) (pins : List (List ℕ)) (value : Expr) → slice_get kinds k ≡ Some (kind.Output m s pins value)
          → number (map (h t) (nets_of at k)) ≡ (number_of (world t inside) (expression value)).bits
      output_shows k m s pins value is =
          let u = beside kinds uses k (kind.Output m s pins value) stages.controlled.count is in
          let source = stages.makes_sources.each k (kind.Output m s pins value) u.0 is u.1 in
          let typed = stages.buildable.sound.kinds k (kind.Output m s pins value) is in
          ap number (objects.output k m t s pins value is)
          ∙ number_held (world t inside) at (h t) right.read right.zero right.one (expression value) m s typed.typed (core_kinds core stages.buildable k (kind.Output m s pins value) is)
          (slice_index_or sources k []) (source.1.1 trace h explains_read t)

      used_now : (k : ℕ) (x : Kind) (u : ObjectUses) → AreUses kinds at starts used.nodes x (writes_from k 0 list) u → AreUsed (world t inside) at (h t) (starts_in t) (writes_from k 0 list) u
      used_now k x u are = record {
        count = ap length are.enables ∙ length-map (writes_from k 0 list) (λ (y : Write). slice_index starts y.action);
        enables = λ i y there.
            let low = slice_get_within (writes_from k 0 list) i y there in
            ap (λ l. h t (slice_index l i)) are.enables
            ∙ ap (h t) (get_or-map (λ (z : Write). slice_index starts z.action) (writes_from k 0 list) i y 0 low)
            ∙ ap (λ (z : Write). h t (slice_index starts z.action)) (get_or_from_slice_get (writes_from k 0 list) i y y there);
        value = λ i y there. are.value i y there trace h explains_used t;
        index = λ i l y j there is. index_held kinds at used.nodes trace h t l j y.target (slice_index_or u.indexes i []) explains_used is (are.index i y there);
      }

      -- ---- the edge behind it

      module _ (all : AreRight core at trace n run h t) where
        abbrev leaves_now : List Leaf
        leaves_now = front (resolved (world t inside) (run.state t).rest)

        abbrev changes : List Change
        changes = wrote_from (world t inside) (starts_in t) 0 list

        -- what the front writes is what the actions write whose starts hold
        changes_are : all_writes (world t inside) leaves_now ≡ changes
        changes_are =
            let all_leaves : List Leaf = leaves (first_state core).rest in
            let listed = stages.controlled.listed in
            let count : length starts ≡ length all_leaves = stages.controlled.actions ∙ sym (ap length listed) ∙ length-map all_leaves leaf_action in
            let act : All IsAct all_leaves = all_act (statement core.main) 0 (core_main core stages.buildable) in
            let built_leaves : All (IsBuiltAction kinds) (map leaf_action all_leaves) = subst (All (IsBuiltAction kinds)) (sym listed) built in
            ap (flat_map (writes (world t inside) leaves_now)) (sym (stages.controlled.front_is trace h explains_used n run t inside all))
            ∙ selected_writes kinds (world t inside) leaves_now (h t) (starts_in t) 0 starts all_leaves (λ i low. ap (starts_in t) (let e : i ≡ 0 + i = omega arith in e)) count act built_leaves
            ∙ ap (wrote_from (world t inside) (starts_in t) 0) listed

        store_is : (run.state (suc t)).store ≡ after changes (run.state t).store
        store_is = ap (λ (s : State). s.store) (run.clock t inside).next ∙ ap (λ l. after l (run.state t).store) changes_are

        clean : IsClean (world t inside) leaves_now (evaluated (world t inside) (run.state t).rest)
        clean = clean_of (world t inside) leaves_now (evaluated (world t inside) (run.state t).rest) (run.clock t inside).clean

        outcome_now : (k e : ℕ) → e < register_cells (slice_get kinds k) → Outcome (world t inside) (starts_in t) k e changes (writes_from k 0 list)
        outcome_now k e low =
            outcome (world t inside) (starts_in t) k e low 0 list (subst (λ l. AllPairs ◌≢◌ (cells_written kinds l)) changes_are clean.written)

        -- the source of an object whose nets are read before the edge
        moved : (k e : ℕ) → e < register_cells (slice_get kinds k)
            → number (map (h (suc t)) (element_nets (kind_width (slice_get kinds k)) (nets_of at k) e)) ≡ number (map (h t) (element_nets (kind_width (slice_get kinds k)) (slice_index_or sources k []) e))
        moved k e low = ap number (element_same (h (suc t)) (h t) (kind_width (slice_get kinds k)) (nets_of at k) (slice_index_or sources k []) e (objects.next k t (omega (arith, low))))

        register_moves : (k e m : ℕ) (s : Bool) (init : Number) → e < register_cells (slice_get kinds k) → slice_get kinds k ≡ Some (kind.Reg m s init) → e ≡ 0
            → number (map (h t) (element_nets (kind_width (slice_get kinds k)) (slice_index_or sources k []) e)) ≡ slice_index_or (words (after changes (run.state t).store) k) e 0
        register_moves k e m s init low is first =
            let u = beside kinds uses k (kind.Reg m s init) stages.controlled.count is in
            let source = stages.makes_sources.each k (kind.Reg m s init) u.0 is u.1 in
            let nets : List ℕ = slice_index_or sources k [] in
            let width : length nets ≡ kind_width (slice_get kinds k) = source.0.count ∙ sym (ap kind_width is) in
            let so = subst (λ j. Outcome (world t inside) (starts_in t) k j changes (writes_from k 0 list)) first (outcome_now k e low) in
            ap (λ j. number (map (h t) (element_nets (kind_width (slice_get kinds k)) nets j))) first
            ∙ ap (λ l. number (map (h t) l)) (element_whole (kind_width (slice_get kinds k)) nets width)
            ∙ register_next (world t inside) at k m s init u.0 nets (h t) (starts_in t) changes (writes_from k 0 list) is now
            (used_now k (kind.Reg m s init) u.0 (stages.controlled.each k (kind.Reg m s init) u.0 is u.1)) (built_writes kinds k 0 list built) (source.1 trace h explains_read t) so
            ∙ ap (λ j. slice_index_or (words (after changes (run.state t).store) k) j 0) (sym first)

        element_moves : (k e m l : ℕ) (s : Bool) (init : List Number) → e < register_cells (slice_get kinds k) → slice_get kinds k ≡ Some (kind.Array m s l init) → e < l
            → number (map (h t) (element_nets (kind_width (slice_get kinds k)) (slice_index_or sources k []) e)) ≡ slice_index_or (words (after changes (run.state t).store) k) e 0
        element_moves k e m l s init low is below =
            let u = beside kinds uses k (kind.Array m s l init) stages.controlled.count is in
            let source = stages.makes_sources.each k (kind.Array m s l init) u.0 is u.1 in
            let nets : List ℕ = slice_index_or sources k [] in
            ap (λ w. number (map (h t) (element_nets w nets e))) (ap kind_width is)
            ∙ element_next (world t inside) at k m l s init u.0 nets (h t) (starts_in t) changes (writes_from k 0 list) is now
            (used_now k (kind.Array m s l init) u.0 (stages.controlled.each k (kind.Array m s l init) u.0 is u.1)) (built_writes kinds k 0 list built) (source.1 trace h explains_read t) e below
            (outcome_now k e low)

        word_moves : (k e : ℕ) → e < register_cells (slice_get kinds k)
            → number (map (h (suc t)) (element_nets (kind_width (slice_get kinds k)) (nets_of at k) e)) ≡ slice_index_or (words (after changes (run.state t).store) k) e 0
        word_moves k e low = moved k e low ∙ elim (own_element (slice_get kinds k) e low) [
          | inl one ↦ register_moves k e one.0 one.1 one.2 low one.3 one.4
          | inr one ↦ element_moves k e one.0 one.2 one.1 one.3 low one.4 one.5
        ]

        held_next : holds_at (suc t)
        held_next = record {
          shape = subst (λ s. SameShape s (initial kinds)) (sym store_is)
              (shape_then (after changes (run.state t).store) (run.state t).store (initial kinds) (shape_after changes (run.state t).store) held.shape);
          words_are = λ k e low. word_moves k e low ∙ ap (λ s. slice_index_or (words s k) e 0) (sym store_is);
        }

    -- ---- every edge

    -- at each edge up to this one
    all_held : (t : ℕ) → t ≤ n → (i : ℕ) → i ≤ t → holds_at i
    all_held zero within i below = subst (λ j. HoldStore kinds at (run.state j).store (h j)) (let e : 0 ≡ i = omega (arith, below) in e)
        (subst (λ s. HoldStore kinds at s (h 0)) (sym (ap (λ s. s.store) run.first)) (record {
          shape = shape_self (initial kinds);
          words_are = λ k e low. objects.first k e low;
        }))
    all_held (suc t) within i below = elim (cases_lt i (suc t)) [
      | inl before ↦ all_held t (omega (arith, within)) i (omega (arith, before))
      | inr last_one ↦
          let inside : t < n = omega (arith, within) in
          let held = all_held t (omega (arith, within)) in
          subst (λ j. HoldStore kinds at (run.state j).store (h j)) (let e : suc t ≡ i = omega (arith, below, last_one) in e)
          (held_next t inside (held t (omega arith)) (λ j low until. right j low (held j until)))
    ]

    held_at : (t : ℕ) → t ≤ n → holds_at t
    held_at t within = all_held t within t (omega arith)

  -- at every edge the nets hold what the registers and arrays hold
  pub holds : (n : ℕ) (run : Run core trace n) (t : ℕ) → t ≤ n → (k e : ℕ) → e < register_cells (slice_get (kinds_of core.objects) k)
      → number (map (h t) (element_nets (kind_width (slice_get (kinds_of core.objects) k)) (nets_of at k) e)) ≡ slice_index_or (words (run.state t).store k) e 0
  holds n run t within k e low = (held_at n run t within).words_are k e low

  -- in every clock the nets of an output hold its number
  pub shows : (n : ℕ) (run : Run core trace n) (t : ℕ) (within : t < n) (k m : ℕ) (s : Bool) (pins : List (List ℕ)) (value : Expr)
      → slice_get (kinds_of core.objects) k ≡ Some (kind.Output m s pins value)
      → number (map (h t) (nets_of at k)) ≡ (number_of (world_of (kinds_of core.objects) (trace t) (run.state t) (run.clock t within).settled.instant) (expression value)).bits
  shows n run t within k m s pins value is = output_shows n run t within (held_at n run t (omega (arith, within))) k m s pins value is
